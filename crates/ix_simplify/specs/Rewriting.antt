-- The laws that rewrite an expression, and what it becomes by them.
use Rattle.std.specs.Prelude.{◌≡◌, ℕ, List, false}
use Rattle.ix_expr.specs.Form.{Form, atom, opt, seq, star, par, par_star, or, and, couple, any}
use Rattle.ix_expr.specs.Form.{every, sync, all, times}
use Rattle.ix_expr.specs.Mentions.{some_names}

-- a law takes its left side, x, to its right side, z
pub data Law (x z : Form) : Type 0 where
  opt_opt : (y : Form) → x ≡ opt (opt y) → z ≡ opt y → Law x z
  opt_star : (y : Form) → x ≡ opt (star y) → z ≡ star y → Law x z
  opt_par_star : (y : Form) → x ≡ opt (par_star y) → z ≡ par_star y → Law x z
  star_star : (y : Form) → x ≡ star (star y) → z ≡ star y → Law x z
  star_opt : (y : Form) → x ≡ star (opt y) → z ≡ star y → Law x z
  star_par_star : (y : Form) → x ≡ star (par_star y) → z ≡ par_star y → Law x z
  par_star_par_star : (y : Form) → x ≡ par_star (par_star y) → z ≡ par_star y → Law x z
  par_star_star : (y : Form) → x ≡ par_star (star y) → z ≡ par_star y → Law x z
  par_star_opt : (y : Form) → x ≡ par_star (opt y) → z ≡ par_star y → Law x z
  or_same : (y : Form) → x ≡ or y y → z ≡ y → Law x z
  and_same : (y : Form) → x ≡ and y y → z ≡ y → Law x z
  couple_same : (y : Form) → x ≡ couple y y → z ≡ y → Law x z
  any_unnamed : (p : List ℕ) (y : Form) → x ≡ any p y → some_names p y ≡ false → z ≡ y → Law x z
  every_unnamed : (p : List ℕ) (y : Form) → x ≡ every p y → some_names p y ≡ false → z ≡ y → Law x z
  sync_unnamed : (p : List ℕ) (y : Form) → x ≡ sync p y → some_names p y ≡ false → z ≡ y → Law x z

-- no law has the expression as its left side
abbrev pub IsNoLeftSide : Form → Type 0
IsNoLeftSide x = (z : Form) → ¬ Law x z

-- the laws are used on the whole expression, and again on what results, until none applies
pub data AtRoot : Form → Form → Type 0 where
  rests : {x : Form} → IsNoLeftSide x → AtRoot x x
  goes_on : {x y z : Form} → Law x y → AtRoot y z → AtRoot x z

-- what an expression becomes: first its operands, then the whole
abbrev pub Becomes : Form → Form → Type 0
Becomes (atom x) s = s ≡ atom x
Becomes (opt y) s = (u : Form) × Becomes y u × AtRoot (opt u) s
Becomes (seq y z) s = (u : Form) × (v : Form) × Becomes y u × Becomes z v × AtRoot (seq u v) s
Becomes (star y) s = (u : Form) × Becomes y u × AtRoot (star u) s
Becomes (par y z) s = (u : Form) × (v : Form) × Becomes y u × Becomes z v × AtRoot (par u v) s
Becomes (par_star y) s = (u : Form) × Becomes y u × AtRoot (par_star u) s
Becomes (or y z) s = (u : Form) × (v : Form) × Becomes y u × Becomes z v × AtRoot (or u v) s
Becomes (and y z) s = (u : Form) × (v : Form) × Becomes y u × Becomes z v × AtRoot (and u v) s
Becomes (couple y z) s = (u : Form) × (v : Form) × Becomes y u × Becomes z v
    × AtRoot (couple u v) s
Becomes (any p y) s = (u : Form) × Becomes y u × AtRoot (any p u) s
Becomes (every p y) s = (u : Form) × Becomes y u × AtRoot (every p u) s
Becomes (sync p y) s = (u : Form) × Becomes y u × AtRoot (sync p u) s
Becomes (all p y) s = (u : Form) × Becomes y u × AtRoot (all p u) s
Becomes (times n y) s = (u : Form) × Becomes y u × AtRoot (times n u) s

-- neither the expression nor a part of it is the left side of a law
abbrev pub HasNoLeftSide : Form → Type 0
HasNoLeftSide (atom x) = IsNoLeftSide (atom x)
HasNoLeftSide (opt y) = IsNoLeftSide (opt y) × HasNoLeftSide y
HasNoLeftSide (seq y z) = IsNoLeftSide (seq y z) × HasNoLeftSide y × HasNoLeftSide z
HasNoLeftSide (star y) = IsNoLeftSide (star y) × HasNoLeftSide y
HasNoLeftSide (par y z) = IsNoLeftSide (par y z) × HasNoLeftSide y × HasNoLeftSide z
HasNoLeftSide (par_star y) = IsNoLeftSide (par_star y) × HasNoLeftSide y
HasNoLeftSide (or y z) = IsNoLeftSide (or y z) × HasNoLeftSide y × HasNoLeftSide z
HasNoLeftSide (and y z) = IsNoLeftSide (and y z) × HasNoLeftSide y × HasNoLeftSide z
HasNoLeftSide (couple y z) = IsNoLeftSide (couple y z) × HasNoLeftSide y × HasNoLeftSide z
HasNoLeftSide (any p y) = IsNoLeftSide (any p y) × HasNoLeftSide y
HasNoLeftSide (every p y) = IsNoLeftSide (every p y) × HasNoLeftSide y
HasNoLeftSide (sync p y) = IsNoLeftSide (sync p y) × HasNoLeftSide y
HasNoLeftSide (all p y) = IsNoLeftSide (all p y) × HasNoLeftSide y
HasNoLeftSide (times n y) = IsNoLeftSide (times n y) × HasNoLeftSide y
