-- In an expression that fits, every atom in an `all` names its parameter.
use Rattle.std.proofs.Common.{None}
use Rattle.ix_expr.specs.Form.{Form, atom, opt, seq, star, par, par_star, or, and, couple, any, every, sync, all, times}
use Rattle.ix_expr.specs.Environment.{Environment, bind}
use Rattle.ix_expr.specs.FormFaults.{Fits}
use Rattle.ix_expr.proofs.Parts.{fits-operands}
use Rattle.ix_expr.proofs.LawsOfNames.{fits-names}
use Rattle.ix_can.specs.Laws.{EachAllNames}

-- in every `all` of an expression that fits, each atom names the parameter
pub fits_name : (x : Form) (e : Environment) → Fits x e → EachAllNames x
fits_name (atom x) e h = tt
fits_name (opt y) e h = fits_name y e (fits-operands (opt y) e h)
fits_name (seq y z) e h = let k = fits-operands (seq y z) e h in (fits_name y e k.0, fits_name z e k.1)
fits_name (star y) e h = fits_name y e (fits-operands (star y) e h)
fits_name (par y z) e h = let k = fits-operands (par y z) e h in (fits_name y e k.0, fits_name z e k.1)
fits_name (par_star y) e h = fits_name y e (fits-operands (par_star y) e h)
fits_name (or y z) e h = let k = fits-operands (or y z) e h in (fits_name y e k.0, fits_name z e k.1)
fits_name (and y z) e h = let k = fits-operands (and y z) e h in (fits_name y e k.0, fits_name z e k.1)
fits_name (couple y z) e h = let k = fits-operands (couple y z) e h in (fits_name y e k.0, fits_name z e k.1)
fits_name (any p y) e h = fits_name y (bind p None e) ((fits-operands (any p y) e h).body None)
fits_name (every p y) e h = fits_name y (bind p None e) ((fits-operands (every p y) e h).body None)
fits_name (sync p y) e h = fits_name y (bind p None e) ((fits-operands (sync p y) e h).body None)
fits_name (all p y) e h = (fits-names p y e h, fits_name y (bind p None e) ((fits-operands (all p y) e h).body None))
fits_name (times n y) e h = fits_name y e (fits-operands (times n y) e h)
