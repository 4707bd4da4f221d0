-- The computed expression is what the expression becomes.
use Rattle.std.proofs.Common.{◌≡◌, Bool, true, false, cond, not, ℕ, List, refl, sym, ap}
use Rattle.ix_expr.specs.Form.{Form, atom, opt, seq, star, par, par_star, or, and, couple, any, every, sync, all, times}
use Rattle.ix_expr.specs.Mentions.{some_names}
use Rattle.ix_simplify.specs.Rewriting.{opt_opt, opt_star, opt_par_star, star_star, star_opt, star_par_star, par_star_par_star, par_star_star}
use Rattle.ix_simplify.specs.Rewriting.{par_star_opt, or_same, and_same, couple_same, any_unnamed, every_unnamed, sync_unnamed, IsNoLeftSide, AtRoot}
use Rattle.ix_simplify.specs.Rewriting.{rests, goes_on, Becomes, HasNoLeftSide}
use Rattle.ix_simplify.specs.inside.Alike.{same_form}
use Rattle.ix_simplify.specs.inside.Simplest.{optional, repeated, side_by_side, one_of, both_of, coupled, for_any, for_every, in_sync, simplest}
use Rattle.ix_simplify.proofs.Decided.{same-told}
use Rattle.ix_simplify.proofs.Uses.{is_prefix, no-law, root-settled-self, becomes-settled}

no-prefix-opt : (y : Form) → IsNoLeftSide (opt y) → is_prefix y ≡ false
no-prefix-opt (opt y) n = absurd (n (opt y) (opt_opt y refl refl))
no-prefix-opt (star y) n = absurd (n (star y) (opt_star y refl refl))
no-prefix-opt (par_star y) n = absurd (n (par_star y) (opt_par_star y refl refl))
no-prefix-opt _ n = refl

no-prefix-star : (y : Form) → IsNoLeftSide (star y) → is_prefix y ≡ false
no-prefix-star (opt y) n = absurd (n (star y) (star_opt y refl refl))
no-prefix-star (star y) n = absurd (n (star y) (star_star y refl refl))
no-prefix-star (par_star y) n = absurd (n (par_star y) (star_par_star y refl refl))
no-prefix-star _ n = refl

-- a prefix over an operand in which no left side stands: one law, or none

opt-root : (y : Form) → HasNoLeftSide y → AtRoot (opt y) (optional y)
opt-root (opt y) h = goes_on (opt_opt y refl refl) (rests h.0)
opt-root (star y) h = goes_on (opt_star y refl refl) (rests h.0)
opt-root (par_star y) h = goes_on (opt_par_star y refl refl) (rests h.0)
opt-root (atom x) h = rests (no-law (opt (atom x)) refl)
opt-root (seq y z) h = rests (no-law (opt (seq y z)) refl)
opt-root (par y z) h = rests (no-law (opt (par y z)) refl)
opt-root (or y z) h = rests (no-law (opt (or y z)) refl)
opt-root (and y z) h = rests (no-law (opt (and y z)) refl)
opt-root (couple y z) h = rests (no-law (opt (couple y z)) refl)
opt-root (any p y) h = rests (no-law (opt (any p y)) refl)
opt-root (every p y) h = rests (no-law (opt (every p y)) refl)
opt-root (sync p y) h = rests (no-law (opt (sync p y)) refl)
opt-root (all p y) h = rests (no-law (opt (all p y)) refl)
opt-root (times n y) h = rests (no-law (opt (times n y)) refl)

star-root : (y : Form) → HasNoLeftSide y → AtRoot (star y) (repeated y)
star-root (opt y) h = goes_on (star_opt y refl refl) (rests (no-law (star y) (no-prefix-opt y h.0)))
star-root (star y) h = goes_on (star_star y refl refl) (rests h.0)
star-root (par_star y) h = goes_on (star_par_star y refl refl) (rests h.0)
star-root (atom x) h = rests (no-law (star (atom x)) refl)
star-root (seq y z) h = rests (no-law (star (seq y z)) refl)
star-root (par y z) h = rests (no-law (star (par y z)) refl)
star-root (or y z) h = rests (no-law (star (or y z)) refl)
star-root (and y z) h = rests (no-law (star (and y z)) refl)
star-root (couple y z) h = rests (no-law (star (couple y z)) refl)
star-root (any p y) h = rests (no-law (star (any p y)) refl)
star-root (every p y) h = rests (no-law (star (every p y)) refl)
star-root (sync p y) h = rests (no-law (star (sync p y)) refl)
star-root (all p y) h = rests (no-law (star (all p y)) refl)
star-root (times n y) h = rests (no-law (star (times n y)) refl)

par_star-root : (y : Form) → HasNoLeftSide y → AtRoot (par_star y) (side_by_side y)
par_star-root (opt y) h = goes_on (par_star_opt y refl refl) (rests (no-law (par_star y) (no-prefix-opt y h.0)))
par_star-root (star y) h = goes_on (par_star_star y refl refl) (rests (no-law (par_star y) (no-prefix-star y h.0)))
par_star-root (par_star y) h = goes_on (par_star_par_star y refl refl) (rests h.0)
par_star-root (atom x) h = rests (no-law (par_star (atom x)) refl)
par_star-root (seq y z) h = rests (no-law (par_star (seq y z)) refl)
par_star-root (par y z) h = rests (no-law (par_star (par y z)) refl)
par_star-root (or y z) h = rests (no-law (par_star (or y z)) refl)
par_star-root (and y z) h = rests (no-law (par_star (and y z)) refl)
par_star-root (couple y z) h = rests (no-law (par_star (couple y z)) refl)
par_star-root (any p y) h = rests (no-law (par_star (any p y)) refl)
par_star-root (every p y) h = rests (no-law (par_star (every p y)) refl)
par_star-root (sync p y) h = rests (no-law (par_star (sync p y)) refl)
par_star-root (all p y) h = rests (no-law (par_star (all p y)) refl)
par_star-root (times n y) h = rests (no-law (par_star (times n y)) refl)

-- an operator between two operands, which are one or not

or-root : (y z : Form) → HasNoLeftSide y → AtRoot (or y z) (one_of y z)
or-root y z h = chosen (same_form y z) refl
  where
    chosen : (b : Bool) → same_form y z ≡ b → AtRoot (or y z) (cond b y (or y z))
    chosen true t = goes_on (or_same y (ap (or y) (sym (same-told y z t))) refl) (rests (root-settled-self y h))
    chosen false t = rests (no-law (or y z) t)

and-root : (y z : Form) → HasNoLeftSide y → AtRoot (and y z) (both_of y z)
and-root y z h = chosen (same_form y z) refl
  where
    chosen : (b : Bool) → same_form y z ≡ b → AtRoot (and y z) (cond b y (and y z))
    chosen true t = goes_on (and_same y (ap (and y) (sym (same-told y z t))) refl) (rests (root-settled-self y h))
    chosen false t = rests (no-law (and y z) t)

couple-root : (y z : Form) → HasNoLeftSide y → AtRoot (couple y z) (coupled y z)
couple-root y z h = chosen (same_form y z) refl
  where
    chosen : (b : Bool) → same_form y z ≡ b → AtRoot (couple y z) (cond b y (couple y z))
    chosen true t = goes_on (couple_same y (ap (couple y) (sym (same-told y z t))) refl) (rests (root-settled-self y h))
    chosen false t = rests (no-law (couple y z) t)

-- a quantifier whose parameter the body names or not

any-root : (p : List ℕ) (y : Form) → HasNoLeftSide y → AtRoot (any p y) (for_any p y)
any-root p y h = chosen (some_names p y) refl
  where
    chosen : (b : Bool) → some_names p y ≡ b → AtRoot (any p y) (cond b (any p y) y)
    chosen true t = rests (no-law (any p y) (ap not t))
    chosen false t = goes_on (any_unnamed p y refl t refl) (rests (root-settled-self y h))

every-root : (p : List ℕ) (y : Form) → HasNoLeftSide y → AtRoot (every p y) (for_every p y)
every-root p y h = chosen (some_names p y) refl
  where
    chosen : (b : Bool) → some_names p y ≡ b → AtRoot (every p y) (cond b (every p y) y)
    chosen true t = rests (no-law (every p y) (ap not t))
    chosen false t = goes_on (every_unnamed p y refl t refl) (rests (root-settled-self y h))

sync-root : (p : List ℕ) (y : Form) → HasNoLeftSide y → AtRoot (sync p y) (in_sync p y)
sync-root p y h = chosen (some_names p y) refl
  where
    chosen : (b : Bool) → some_names p y ≡ b → AtRoot (sync p y) (cond b (sync p y) y)
    chosen true t = rests (no-law (sync p y) (ap not t))
    chosen false t = goes_on (sync_unnamed p y refl t refl) (rests (root-settled-self y h))

settled : (x : Form) → Becomes x (simplest x) → HasNoLeftSide (simplest x)
settled x h = becomes-settled x (simplest x) h

-- an expression becomes the computed one
pub simplest-becomes : (x : Form) → Becomes x (simplest x)
simplest-becomes (atom x) = refl
simplest-becomes (opt y) = let u = simplest-becomes y in (simplest y, u, opt-root (simplest y) (settled y u))
simplest-becomes (seq y z) = (simplest y, simplest z, simplest-becomes y, simplest-becomes z, rests (no-law (seq (simplest y) (simplest z)) refl))
simplest-becomes (star y) = let u = simplest-becomes y in (simplest y, u, star-root (simplest y) (settled y u))
simplest-becomes (par y z) = (simplest y, simplest z, simplest-becomes y, simplest-becomes z, rests (no-law (par (simplest y) (simplest z)) refl))
simplest-becomes (par_star y) = let u = simplest-becomes y in (simplest y, u, par_star-root (simplest y) (settled y u))
simplest-becomes (or y z) =
    let u = simplest-becomes y in (simplest y, simplest z, u, simplest-becomes z, or-root (simplest y) (simplest z) (settled y u))
simplest-becomes (and y z) =
    let u = simplest-becomes y in (simplest y, simplest z, u, simplest-becomes z, and-root (simplest y) (simplest z) (settled y u))
simplest-becomes (couple y z) =
    let u = simplest-becomes y in (simplest y, simplest z, u, simplest-becomes z, couple-root (simplest y) (simplest z) (settled y u))
simplest-becomes (any p y) = let u = simplest-becomes y in (simplest y, u, any-root p (simplest y) (settled y u))
simplest-becomes (every p y) = let u = simplest-becomes y in (simplest y, u, every-root p (simplest y) (settled y u))
simplest-becomes (sync p y) = let u = simplest-becomes y in (simplest y, u, sync-root p (simplest y) (settled y u))
simplest-becomes (all p y) = (simplest y, simplest-becomes y, rests (no-law (all p (simplest y)) refl))
simplest-becomes (times n y) = (simplest y, simplest-becomes y, rests (no-law (times n (simplest y)) refl))
