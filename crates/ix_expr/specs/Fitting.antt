-- What an expression that fits an environment says of its operands, as statements over the
-- definitions alone.
use Rattle.std.specs.Prelude.{◌≡◌, ℕ, ◌<◌, false, List, [], Option, length}
use Rattle.ix_expr.specs.Form.{Form, atom, opt, seq, star, par, par_star, or, and, couple, any}
use Rattle.ix_expr.specs.Form.{every, sync, all, times}
use Rattle.ix_expr.specs.Environment.{Environment, bind}
use Rattle.ix_expr.specs.FormFaults.{IsWellFormed, Fits, is_bound, binders_of}

-- the environment has room for the parameter p, hasn't p, and the body fits it with p given any
-- value or outside
pub record FitsInside (p : List ℕ) (y : Form) (e : Environment) : Type 0 where
  pub room : length e < 8
  pub free : is_bound (binders_of e) p ≡ false
  pub body : (v : Option (List ℕ)) → Fits y (bind p v e)

-- each operand fits: the body of a quantifier inside it, the others in the same environment
abbrev pub OperandsFit : Form → Environment → Type 0
OperandsFit (atom x) e = Unit {0}
OperandsFit (opt y) e = Fits y e
OperandsFit (seq y z) e = Fits y e × Fits z e
OperandsFit (star y) e = Fits y e
OperandsFit (par y z) e = Fits y e × Fits z e
OperandsFit (par_star y) e = Fits y e
OperandsFit (or y z) e = Fits y e × Fits z e
OperandsFit (and y z) e = Fits y e × Fits z e
OperandsFit (couple y z) e = Fits y e × Fits z e
OperandsFit (any p y) e = FitsInside p y e
OperandsFit (every p y) e = FitsInside p y e
OperandsFit (sync p y) e = FitsInside p y e
OperandsFit (all p y) e = FitsInside p y e
OperandsFit (times n y) e = Fits y e

-- the operands of an expression that fits an environment fit
abbrev pub OperandsOfFittingFit : Type 0
OperandsOfFittingFit = (x : Form) (e : Environment) → Fits x e → OperandsFit x e

-- a well-formed expression fits the environment with no parameter in it
abbrev pub WellFormedFits : Type 0
WellFormedFits = (x : Form) → IsWellFormed x → Fits x []
