-- The plain data that an expression in memory stands for.
use Rattle.ix_expr.specs.Form.{Form, atom, opt, seq, star, par, par_star, or, and, couple, any}
use Rattle.ix_expr.specs.Form.{every, sync, all, times}
use Rattle.ix_expr.specs.declared.expr.Expr.{Expr, Atom, Opt', Seq', Star', Par', ParStar', Or'}
use Rattle.ix_expr.specs.declared.expr.Expr.{And', Couple', Any', Every', Sync', All', Times'}

-- the form of an expression
abbrev pub form_of : Expr → Form
form_of (Atom x) = atom x
form_of (Opt' place y) = opt (form_of y)
form_of (Seq' left y right z) = seq (form_of y) (form_of z)
form_of (Star' place y) = star (form_of y)
form_of (Par' left y right z) = par (form_of y) (form_of z)
form_of (ParStar' place y) = par_star (form_of y)
form_of (Or' left y right z) = or (form_of y) (form_of z)
form_of (And' left y right z) = and (form_of y) (form_of z)
form_of (Couple' left y right z) = couple (form_of y) (form_of z)
form_of (Any' p place y) = any p (form_of y)
form_of (Every' p place y) = every p (form_of y)
form_of (Sync' p place y) = sync p (form_of y)
form_of (All' p place y) = all p (form_of y)
form_of (Times' n place y) = times n (form_of y)
