-- Names that no atom of an expression has.
use Rattle.std.proofs.Common.{◌≡◌, ◌↔◌, inl, inr, [], ◌∷◌, ◌++◌, Some}
use Rattle.std.proofs.Common.{append-nil, refl, sym, ap, ◌∙◌, subst}
use Rattle.ix_words.specs.Parts.{Projection, ended, kept, left_out}
use Rattle.ix_words.proofs.Each.{Each-head, Each-right}
use Rattle.ix_words.proofs.Parts.{Projection-append, projection_cut}
use Rattle.ix_values.specs.PlainAction.{PlainAction, Word}
use Rattle.ix_expr.specs.Form.{Form, atom, opt, seq, star, par, par_star, or, and, couple}
use Rattle.ix_expr.specs.Form.{any, every, sync, all, times}
use Rattle.ix_expr.specs.Environment.{Environment, bind}
use Rattle.ix_expr.specs.Meaning.{InAlphabet}
use Rattle.ix_expr.specs.Mentions.{Mentions}
use Rattle.ix_expr.specs.Laws.{DoesNotMatter}
use Rattle.ix_expr.proofs.LawsOfMeaning.{partial-alphabet}

-- some atom has the name of each action of the alphabet
pub in-mentions : (x : Form) (e : Environment) (a : PlainAction)
    → InAlphabet x e a → Mentions x a.name
in-mentions (atom x) e a i = i.0
in-mentions (opt y) e a i = in-mentions y e a i
in-mentions (seq y z) e a i =
    elim i [ inl k ↦ inl (in-mentions y e a k) | inr k ↦ inr (in-mentions z e a k) ]
in-mentions (star y) e a i = in-mentions y e a i
in-mentions (par y z) e a i =
    elim i [ inl k ↦ inl (in-mentions y e a k) | inr k ↦ inr (in-mentions z e a k) ]
in-mentions (par_star y) e a i = in-mentions y e a i
in-mentions (or y z) e a i =
    elim i [ inl k ↦ inl (in-mentions y e a k) | inr k ↦ inr (in-mentions z e a k) ]
in-mentions (and y z) e a i =
    elim i [ inl k ↦ inl (in-mentions y e a k) | inr k ↦ inr (in-mentions z e a k) ]
in-mentions (couple y z) e a i =
    elim i [ inl k ↦ inl (in-mentions y e a k) | inr k ↦ inr (in-mentions z e a k) ]
in-mentions (any p y) e a i = in-mentions y (bind p (Some i.0) e) a i.1
in-mentions (every p y) e a i = in-mentions y (bind p (Some i.0) e) a i.1
in-mentions (sync p y) e a i = in-mentions y (bind p (Some i.0) e) a i.1
in-mentions (all p y) e a i = in-mentions y (bind p (Some i.0) e) a i.1
in-mentions (times n y) e a i = in-mentions y e a i

module _ {In : PlainAction → Type 0} where
  nothing : {a : PlainAction} {u : Word} → ¬ In a → Projection In (a ∷ []) u → u ≡ []
  nothing out (kept i p) = absurd (out i)
  nothing out (left_out o ended) = refl

  -- what isn't in adds nothing to a projection
  pub adds-nothing : (a : PlainAction) (w u : Word)
      → ¬ In a → Projection In (w ++ a ∷ []) u ↔ Projection In w u
  adds-nothing a w u out = (
    λ p.
        let c = projection_cut w (a ∷ []) p in
        let is : u ≡ c.first = c.whole ∙ ap (λ s. c.first ++ s) (nothing out c.second_is) ∙ append-nil c.first in
        subst (Projection In w) (sym is) c.first_is,
    λ p. subst (Projection In (w ++ a ∷ [])) (append-nil u) (Projection-append p (left_out out ended)),
  )

-- an action whose name no atom has doesn't matter
pub does-not-matter : (x : Form) (e : Environment) (a : PlainAction)
    → ¬ Mentions x a.name → DoesNotMatter x e a
does-not-matter x e a none =
    let out : ¬ InAlphabet x e a = λ i. none (in-mentions x e a i) in
    record {
      alphabet = out;
      partial = λ w h. out (Each-head (Each-right w (a ∷ []) (partial-alphabet x e (w ++ a ∷ []) h)));
      projection = λ w u. adds-nothing a w u out;
    }
