-- By which code a proof tells forms apart: that of an expression in memory with empty places.
use Rattle.std.specs.Prelude.{◌≡◌}
use Rattle.std.specs.Coded.{Coded, code_by}
use Rattle.std.proofs.Common.{ap, refl}
use Rattle.std.specs.Ptr.{null_ptr}
use Rattle.std.specs.Global.{Box}
use Rattle.ix_expr.specs.Form.{Form, atom, opt, seq, star, par, par_star, or, and, couple, any}
use Rattle.ix_expr.specs.Form.{every, sync, all, times}
use Rattle.ix_expr.specs.inside.FormOf.{form_of}
use Rattle.ix_expr.specs.declared.expr.Expr.{Expr, Atom, Opt', Seq', Star', Par', ParStar', Or'}
use Rattle.ix_expr.specs.declared.expr.Expr.{And', Couple', Any', Every', Sync', All', Times'}
use Rattle.ix_expr.specs.contracts.expr.Expr.{the_row}

-- a place with nothing behind it
abbrev pub empty : Box (Unit {0})
empty = record { ptr = null_ptr; alloc = record { memory = record { seal = tt } }; value = tt }

-- the expression of a form, with empty places
abbrev pub placed : Form → Expr
placed (atom x) = Atom x
placed (opt y) = Opt' empty (placed y)
placed (seq y z) = Seq' empty (placed y) empty (placed z)
placed (star y) = Star' empty (placed y)
placed (par y z) = Par' empty (placed y) empty (placed z)
placed (par_star y) = ParStar' empty (placed y)
placed (or y z) = Or' empty (placed y) empty (placed z)
placed (and y z) = And' empty (placed y) empty (placed z)
placed (couple y z) = Couple' empty (placed y) empty (placed z)
placed (any p y) = Any' p empty (placed y)
placed (every p y) = Every' p empty (placed y)
placed (sync p y) = Sync' p empty (placed y)
placed (all p y) = All' p empty (placed y)
placed (times n y) = Times' n empty (placed y)

-- the form of it is the form
pub form_of-placed : (x : Form) → form_of (placed x) ≡ x
form_of-placed (atom x) = refl
form_of-placed (opt y) = ap opt (form_of-placed y)
form_of-placed (seq y z) = λ i. seq (form_of-placed y i) (form_of-placed z i)
form_of-placed (star y) = ap star (form_of-placed y)
form_of-placed (par y z) = λ i. par (form_of-placed y i) (form_of-placed z i)
form_of-placed (par_star y) = ap par_star (form_of-placed y)
form_of-placed (or y z) = λ i. or (form_of-placed y i) (form_of-placed z i)
form_of-placed (and y z) = λ i. and (form_of-placed y i) (form_of-placed z i)
form_of-placed (couple y z) = λ i. couple (form_of-placed y i) (form_of-placed z i)
form_of-placed (any p y) = ap (any p) (form_of-placed y)
form_of-placed (every p y) = ap (every p) (form_of-placed y)
form_of-placed (sync p y) = ap (sync p) (form_of-placed y)
form_of-placed (all p y) = ap (all p) (form_of-placed y)
form_of-placed (times n y) = ap (times n) (form_of-placed y)

-- a form is stored as its expression
abbrev pub form_code : Coded Form
form_code = code_by Expr the_row.coded placed form_of form_of-placed
