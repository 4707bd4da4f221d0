-- The tree of a word tells whether the word is partial and whether it is complete.
use Rattle.ix_values.specs.PlainAction.{Word}
use Rattle.ix_expr.specs.Form.{Form, atom, opt, seq, star, par, par_star, or, and, couple, any, every, sync, all, times}
use Rattle.ix_expr.specs.Environment.{Environment, bind}
use Rattle.ix_can.specs.Laws.{EachAllNames, TreeTells}
use Rattle.ix_can.proofs.OperatorsTell.{Tells, atom_told, opt_told, seq_told, par_told, or_told, and_told, couple_told, star_told, par_star_told}
use Rattle.ix_can.proofs.TimesTell.{times_told}
use Rattle.ix_can.proofs.QuantifiersTell.{any_told, every_told, sync_told, all_told}

-- where every `all` has its parameter in each atom, the trees of all words tell
pub told : (x : Form) → EachAllNames x → (e : Environment) → Tells x e
told (atom x) n e = atom_told x e
told (opt y) n e = opt_told y e (told y n e)
told (seq y z) n e = seq_told y z e (told y n.0 e) (told z n.1 e)
told (star y) n e = star_told y e (told y n e)
told (par y z) n e = par_told y z e (told y n.0 e) (told z n.1 e)
told (par_star y) n e = par_star_told y e (told y n e)
told (or y z) n e = or_told y z e (told y n.0 e) (told z n.1 e)
told (and y z) n e = and_told y z e (told y n.0 e) (told z n.1 e)
told (couple y z) n e = couple_told y z e (told y n.0 e) (told z n.1 e)
told (any p y) n e = any_told p y e (λ v. told y n (bind p v e))
told (every p y) n e = every_told p y e (λ v. told y n (bind p v e))
told (sync p y) n e = sync_told p y e (λ v. told y n (bind p v e))
told (all p y) n e = all_told p y e n.0 (λ v. told y n.1 (bind p v e)) (told y n.1 e)
told (times n y) k e = times_told y e n (told y k e)

-- where every `all` has its parameter in each atom, the tree of every word tells
pub tree_tells : (x : Form) → EachAllNames x → (e : Environment) (w : Word) → TreeTells x e w
tree_tells x n e w = let k = told x n e w in record { partial = k.partial; complete = k.complete }
