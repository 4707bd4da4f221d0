-- The text of the terms behind the first.
use Rattle.std.proofs.lemmas.List.{take_all}
use Rattle.std.proofs.Common.{◌≡◌, ℕ, ◌≤◌, length, take, List, [], ◌∷◌, ◌++◌, map, refl, ap, ◌∙◌, sym, append_assoc}
use Rattle.std.specs.List.{flat_map}
use Rattle.ix_values.specs.PlainAction.{text_of_rest}
use Rattle.ix_next.specs.declared.term.Term.{Term}
use Rattle.ix_next.specs.Candidates.{term_text}

-- the terms, each behind a comma
abbrev pub behind_commas : List Term → List ℕ
behind_commas = flat_map (λ t. 44 ∷ term_text t)

pub rest_text : (terms : List Term) → text_of_rest (map term_text terms) ≡ behind_commas terms ++ 41 ∷ []
rest_text [] = refl
rest_text (t ∷ terms) =
    ap (λ rest. 44 ∷ term_text t ++ rest) (rest_text terms)
    ∙ sym (append_assoc (44 ∷ term_text t) (behind_commas terms) (41 ∷ []))

-- what is written when every term is, and the parenthesis behind them
pub rest_written : (before items after : List ℕ) (terms : List Term) (k : ℕ) → length terms ≤ k → items ≡ before ++ behind_commas (take k terms) → after ≡ items ++ 41 ∷ [] → after ≡ before ++ text_of_rest (map term_text terms)
rest_written before items after terms k all written closed =
    closed
    ∙ ap (λ x. x ++ 41 ∷ []) (written ∙ ap (λ ts. before ++ behind_commas ts) (take_all k terms all))
    ∙ append_assoc before (behind_commas terms) (41 ∷ [])
    ∙ ap (λ rest. before ++ rest) (sym (rest_text terms))
