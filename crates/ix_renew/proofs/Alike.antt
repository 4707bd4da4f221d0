-- Words with one tree are answered alike, and so are they behind any later word.
use Rattle.std.proofs.Common.{◌≡◌, ℕ, ◌<◌, ◌≤◌, [], ◌∷◌, ◌++◌, length, sym, ap, ◌∙◌, subst, append_assoc, arith}
use Rattle.std.proofs.lemmas.List.{append-nil, length-append}
use Rattle.ix_values.specs.PlainAction.{PlainAction, Word}
use Rattle.ix_expr.specs.Form.{Form}
use Rattle.ix_expr.specs.FormFaults.{Fits, IsWellFormed}
use Rattle.ix_expr.specs.Meaning.{IsComplete, IsPartial}
use Rattle.ix_tree.specs.Size.{size_of}
use Rattle.ix_tree.specs.Plain.{Plain, is_dead}
use Rattle.ix_can.specs.TreeOf.{tree_of, is_final}
use Rattle.ix_can.specs.inside.Moved.{moved}
use Rattle.ix_can.proofs.MovesTell.{each_step}
use Rattle.ix_can.proofs.Naming.{fits_name}
use Rattle.ix_can.proofs.TreesTell.{tree_tells}
use Rattle.ix_engine.specs.Allowed.{IsAllowed}
use Rattle.ix_renew.specs.Carried.{IsCarriedFor}
use Rattle.ix_renew.specs.Laws.{AreAlike}

pub fits_of : (x : Form) → IsWellFormed x → Fits x []
fits_of x f = record { faultless = f.faultless; numbers = f.numbers }

module _ (x : Form) (fits : Fits x []) where
  -- one more action behind both
  next_same : (u w : Word) (a : PlainAction) → tree_of x [] u ≡ tree_of x [] w
      → tree_of x [] (u ++ a ∷ []) ≡ tree_of x [] (w ++ a ∷ [])
  next_same u w a e =
      sym ((each_step x [] a fits).moves u) ∙ ap (λ (t : Plain). moved x [] t a) e ∙ (each_step x [] a fits).moves w

  -- a later word behind both
  pub later_same : (u w later : Word) → tree_of x [] u ≡ tree_of x [] w
      → tree_of x [] (u ++ later) ≡ tree_of x [] (w ++ later)
  later_same u w [] e = ap (tree_of x []) (append-nil u) ∙ e ∙ ap (tree_of x []) (sym (append-nil w))
  later_same u w (a ∷ later) e =
      sym (ap (tree_of x []) (append_assoc u (a ∷ []) later))
      ∙ later_same (u ++ a ∷ []) (w ++ a ∷ []) later (next_same u w a e)
      ∙ ap (tree_of x []) (append_assoc w (a ∷ []) later)

  pub partial_same : (u w : Word) → tree_of x [] u ≡ tree_of x [] w → IsPartial x [] u → IsPartial x [] w
  partial_same u w e p =
      (tree_tells x (fits_name x [] fits) [] w).partial.0
      (ap is_dead (sym e) ∙ (tree_tells x (fits_name x [] fits) [] u).partial.1 p)

  pub complete_same : (u w : Word) → tree_of x [] u ≡ tree_of x [] w → IsComplete x [] u → IsComplete x [] w
  complete_same u w e c =
      (tree_tells x (fits_name x [] fits) [] w).complete.0
      (ap (is_final x) (sym e) ∙ (tree_tells x (fits_name x [] fits) [] u).complete.1 c)

  pub allowed_same : (limit : ℕ) (u w : Word) (a : PlainAction) → tree_of x [] u ≡ tree_of x [] w → length w < 1000000
      → IsAllowed x limit u a → IsAllowed x limit w a
  allowed_same limit u w a e room k = record {
    permitted = partial_same (u ++ a ∷ []) (w ++ a ∷ []) (next_same u w a e) k.permitted;
    room = room;
    within = subst (λ (t : Plain). size_of t ≤ limit) (next_same u w a e) k.within;
  }

  -- behind a history and a word that is carried for it
  pub alike : (limit : ℕ) (history word later : Word) → IsCarriedFor x limit history word
      → AreAlike x limit (history ++ later) (word ++ later)
  alike limit history word later k =
      let e : tree_of x [] (history ++ later) ≡ tree_of x [] (word ++ later) = later_same history word later (sym k.tree) in
      let few = k.few in
      record {
        partial = (partial_same (history ++ later) (word ++ later) e, partial_same (word ++ later) (history ++ later) (sym e));
        complete = (complete_same (history ++ later) (word ++ later) e, complete_same (word ++ later) (history ++ later) (sym e));
        tree = e;
        allowed = λ a room. (
          allowed_same limit (history ++ later) (word ++ later) a e (omega (arith, room, few, length-append history later, length-append word later)),
          allowed_same limit (word ++ later) (history ++ later) a (sym e) room,
        );
      }
