-- One more action, assembled form by form: whether it may come next, and the tree that it leads to.
use Rattle.std.proofs.Common.{ℕ, Option, List, []}
use Rattle.ix_values.specs.PlainAction.{PlainAction}
use Rattle.ix_expr.specs.Form.{PlainAtom, Form, atom, opt, seq, star, par, par_star, or, and, couple, any, every, sync, all, times}
use Rattle.ix_expr.specs.Environment.{Environment, bind}
use Rattle.ix_expr.specs.FormFaults.{Fits}
use Rattle.ix_expr.proofs.LawsOfMeaning.{empty-partial}
use Rattle.ix_expr.specs.Laws.{EachAtomNames}
use Rattle.ix_can.specs.May.{may_first}
use Rattle.ix_can.specs.inside.Moved.{Moves}
use Rattle.ix_can.specs.Laws.{EachAllNames}
use Rattle.ix_words.proofs.Deciding.{when_either, when_both}
use Rattle.ix_can.proofs.Naming.{fits_name}
use Rattle.ix_can.proofs.OperatorsTell.{Tells, atom_told, opt_told, seq_told, par_told, or_told, and_told, couple_told, star_told, par_star_told}
use Rattle.ix_can.proofs.MayTell.{Begins, MayTells, first_atom, first_seq, first_star, first_par, first_par_star, couple_end, atom_may, opt_may, seq_may, par_may, or_may, and_may, couple_may, star_may, par_star_may}
use Rattle.ix_can.proofs.QuantifiersTell.{any_told, every_told, sync_told, all_told}
use Rattle.ix_can.proofs.MayQuantifiers.{first_any, first_every, first_sync, any_may, every_may, sync_may}
use Rattle.ix_can.proofs.MayAll.{first_all, all_may}
use Rattle.ix_can.proofs.MovesQuantifiers.{any_moves, every_moves, sync_moves}
use Rattle.ix_can.proofs.MovesAll.{all_moves}
use Rattle.ix_can.proofs.MovesParallel.{par_moves, par_star_moves}
use Rattle.ix_can.proofs.TimesTell.{times_told}
use Rattle.ix_can.proofs.TimesMay.{first_times, times_may}
use Rattle.ix_can.proofs.MovesTimes.{times_moves}
use Rattle.ix_can.proofs.MovesOperators.{atom_moves, opt_moves, seq_moves, star_moves, or_moves, and_moves, couple_moves}

module _ (a : PlainAction) where
  -- all that the trees of the words of an expression tell of one more action
  pub record Steps (y : Form) (e : Environment) : Type 0 where
    pub trees : Tells y e
    pub first : Begins a y e
    pub next : MayTells a y e
    pub moves : Moves y e a

  atom_steps : (x : PlainAtom) (e : Environment) → Steps (atom x) e
  atom_steps x e = record { trees = atom_told x e; first = first_atom a x e; next = atom_may a x e; moves = atom_moves a x e }

  opt_steps : (y : Form) (e : Environment) → Steps y e → Steps (opt y) e
  opt_steps y e k = record {
    trees = opt_told y e k.trees;
    first = k.first;
    next = opt_may a y e k.trees k.next;
    moves = opt_moves a y e k.trees k.next k.moves;
  }

  star_steps : (y : Form) (e : Environment) → Steps y e → Steps (star y) e
  star_steps y e k = record {
    trees = star_told y e k.trees;
    first = first_star a y e k.first;
    next = star_may a y e k.trees k.first k.next;
    moves = star_moves a y e k.trees k.first k.next k.moves;
  }

  par_star_steps : (y : Form) (e : Environment) → Steps y e → Steps (par_star y) e
  par_star_steps y e k = record {
    trees = par_star_told y e k.trees;
    first = first_par_star a y e k.first;
    next = par_star_may a y e k.trees k.first k.next;
    moves = par_star_moves y e a k.trees k.first k.next k.moves;
  }

  times_steps : (n : ℕ) (y : Form) (e : Environment) → Steps y e → Steps (times n y) e
  times_steps n y e k = record {
    trees = times_told y e n k.trees;
    first = first_times a n y e k.first;
    next = times_may a y e n k.trees k.first k.next;
    moves = times_moves y e n a k.trees k.first k.next k.moves;
  }

  module _ (y z : Form) (e : Environment) where
    seq_steps : Steps y e → Steps z e → Steps (seq y z) e
    seq_steps k l = record {
      trees = seq_told y z e k.trees l.trees;
      first = first_seq a y z e k.first l.first;
      next = seq_may a y z e k.trees l.trees k.next l.next;
      moves = seq_moves a y z e k.trees l.trees k.next l.next k.moves l.moves;
    }

    par_steps : Steps y e → Steps z e → Steps (par y z) e
    par_steps k l = record {
      trees = par_told y z e k.trees l.trees;
      first = first_par a y z e k.first l.first;
      next = par_may a y z e k.trees l.trees k.next l.next;
      moves = par_moves y z e a k.trees l.trees k.next l.next k.moves l.moves;
    }

    or_steps : Steps y e → Steps z e → Steps (or y z) e
    or_steps k l = record {
      trees = or_told y z e k.trees l.trees;
      first = when_either (may_first y e a) (may_first z e a) k.first l.first;
      next = or_may a y z e k.trees l.trees k.next l.next;
      moves = or_moves a y z e k.trees l.trees k.next l.next k.moves l.moves;
    }

    and_steps : Steps y e → Steps z e → Steps (and y z) e
    and_steps k l = record {
      trees = and_told y z e k.trees l.trees;
      first = when_both (may_first y e a) (may_first z e a) k.first l.first;
      next = and_may a y z e k.trees l.trees k.next l.next;
      moves = and_moves a y z e k.trees l.trees k.next l.next k.moves l.moves;
    }

    couple_steps : Steps y e → Steps z e → Steps (couple y z) e
    couple_steps k l = record {
      trees = couple_told y z e k.trees l.trees;
      first = couple_end a y z e [] (empty-partial (couple y z) e) k.first l.first;
      next = couple_may a y z e k.trees l.trees k.next l.next;
      moves = couple_moves a y z e k.trees l.trees k.next l.next k.moves l.moves;
    }

  module _ (p : List ℕ) (y : Form) (e : Environment) (k : (f : Environment) → Steps y f) where
    any_steps : Steps (any p y) e
    any_steps =
        let trees : (v : Option (List ℕ)) → Tells y (bind p v e) = λ v. (k (bind p v e)).trees in
        let next : (v : Option (List ℕ)) → MayTells a y (bind p v e) = λ v. (k (bind p v e)).next in
        record {
          trees = any_told p y e trees;
          first = first_any p y e a (λ v. (k (bind p v e)).first);
          next = any_may p y e a trees next;
          moves = any_moves p y e a trees next (λ v. (k (bind p v e)).moves);
        }

    every_steps : Steps (every p y) e
    every_steps =
        let trees : (v : Option (List ℕ)) → Tells y (bind p v e) = λ v. (k (bind p v e)).trees in
        let next : (v : Option (List ℕ)) → MayTells a y (bind p v e) = λ v. (k (bind p v e)).next in
        record {
          trees = every_told p y e trees;
          first = first_every p y e a (λ v. (k (bind p v e)).first);
          next = every_may p y e a trees next;
          moves = every_moves p y e a trees next (λ v. (k (bind p v e)).moves);
        }

    sync_steps : Steps (sync p y) e
    sync_steps =
        let trees : (v : Option (List ℕ)) → Tells y (bind p v e) = λ v. (k (bind p v e)).trees in
        let next : (v : Option (List ℕ)) → MayTells a y (bind p v e) = λ v. (k (bind p v e)).next in
        record {
          trees = sync_told p y e trees;
          first = first_sync p y e a (λ v. (k (bind p v e)).first);
          next = sync_may p y e a trees next;
          moves = sync_moves p y e a trees next (λ v. (k (bind p v e)).moves);
        }

    all_steps : EachAtomNames p y → Steps (all p y) e
    all_steps n =
        let trees : (f : Environment) → Tells y f = λ f. (k f).trees in
        let first : (f : Environment) → Begins a y f = λ f. (k f).first in
        let next : (f : Environment) → MayTells a y f = λ f. (k f).next in
        record {
          trees = all_told p y e n (λ v. trees (bind p v e)) (trees e);
          first = first_all p y e a n first;
          next = all_may p y e a trees first next n;
          moves = all_moves p y e a trees (λ f. (k f).moves) n first next;
        }

  -- where every `all` has its parameter in each atom, the trees of all words tell all of it
  pub steps : (x : Form) → EachAllNames x → (e : Environment) → Steps x e
  steps (atom x) n e = atom_steps x e
  steps (opt y) n e = opt_steps y e (steps y n e)
  steps (seq y z) n e = seq_steps y z e (steps y n.0 e) (steps z n.1 e)
  steps (star y) n e = star_steps y e (steps y n e)
  steps (par y z) n e = par_steps y z e (steps y n.0 e) (steps z n.1 e)
  steps (par_star y) n e = par_star_steps y e (steps y n e)
  steps (or y z) n e = or_steps y z e (steps y n.0 e) (steps z n.1 e)
  steps (and y z) n e = and_steps y z e (steps y n.0 e) (steps z n.1 e)
  steps (couple y z) n e = couple_steps y z e (steps y n.0 e) (steps z n.1 e)
  steps (any p y) n e = any_steps p y e (steps y n)
  steps (every p y) n e = every_steps p y e (steps y n)
  steps (sync p y) n e = sync_steps p y e (steps y n)
  steps (all p y) n e = all_steps p y e (steps y n.1) n.0
  steps (times m y) n e = times_steps m y e (steps y n e)

-- all that the trees of the words of an expression that fits tell of one more action
pub each_step : (x : Form) (e : Environment) (a : PlainAction) → Fits x e → Steps a x e
each_step x e a h = steps a x (fits_name x e h) e
