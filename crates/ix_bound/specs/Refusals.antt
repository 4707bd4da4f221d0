-- The nodes for which no bound is given, in pre-order.
use Rattle.std.specs.Prelude.{ℕ, suc, List, [], ◌∷◌, ◌++◌, Option, Some, None, if◌then◌else◌}
use Rattle.ix_expr.specs.Form.{Form, atom, opt, seq, star, par, par_star, or, and, couple}
use Rattle.ix_expr.specs.Form.{any, every, sync, all, times}
use Rattle.ix_bound.specs.Names.{share_a_name}
use Rattle.ix_bound.specs.Heads.{is_headed}
use Rattle.ix_bound.specs.Keys.{is_keyed}
use Rattle.ix_bound.specs.declared.refused.RefusedNode.{RefusedNode}

-- why the node itself is refused: 51, its operands share a name; 52, its operand isn't headed; 53,
-- it isn't keyed; 54, it is a `#` or a `times`
abbrev pub refusal_code : Form → Option ℕ
refusal_code (seq y z) = if share_a_name y z then Some 51 else None
refusal_code (par y z) = if share_a_name y z then Some 51 else None
refusal_code (star y) = if is_headed y then None else Some 52
refusal_code (all p y) = if is_keyed p y then None else Some 53
refusal_code (par_star y) = Some 54
refusal_code (times n y) = Some 54
refusal_code x = None

-- the codes of all nodes: of a node, then of its left operand's, then of its right's
abbrev pub codes_of : Form → List (Option ℕ)
codes_of (atom x) = refusal_code (atom x) ∷ []
codes_of (opt y) = refusal_code (opt y) ∷ codes_of y
codes_of (seq y z) = refusal_code (seq y z) ∷ (codes_of y ++ codes_of z)
codes_of (star y) = refusal_code (star y) ∷ codes_of y
codes_of (par y z) = refusal_code (par y z) ∷ (codes_of y ++ codes_of z)
codes_of (par_star y) = refusal_code (par_star y) ∷ codes_of y
codes_of (or y z) = refusal_code (or y z) ∷ (codes_of y ++ codes_of z)
codes_of (and y z) = refusal_code (and y z) ∷ (codes_of y ++ codes_of z)
codes_of (couple y z) = refusal_code (couple y z) ∷ (codes_of y ++ codes_of z)
codes_of (any p y) = refusal_code (any p y) ∷ codes_of y
codes_of (every p y) = refusal_code (every p y) ∷ codes_of y
codes_of (sync p y) = refusal_code (sync p y) ∷ codes_of y
codes_of (all p y) = refusal_code (all p y) ∷ codes_of y
codes_of (times n y) = refusal_code (times n y) ∷ codes_of y

-- the first code, and the number of its node, where the nodes are numbered from n
abbrev pub first_refused : ℕ → List (Option ℕ) → Option (ℕ × ℕ)
first_refused n [] = None
first_refused n (None ∷ codes) = first_refused (suc n) codes
first_refused n (Some code ∷ codes) = Some (code, n)

-- all refused nodes, each with its code, where the nodes are numbered from n
abbrev pub refused_among : ℕ → List (Option ℕ) → List RefusedNode
refused_among n [] = []
refused_among n (None ∷ codes) = refused_among (suc n) codes
refused_among n (Some code ∷ codes) =
    record { code = code; node = n } ∷ refused_among (suc n) codes

-- those of an expression
abbrev pub refused_nodes : Form → List RefusedNode
refused_nodes x = refused_among 0 (codes_of x)
