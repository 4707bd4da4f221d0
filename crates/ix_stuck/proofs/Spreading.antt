-- Marks that spread.
use Rattle.std.proofs.Common.{◌≡◌, inl, inr, Bool, true, false, List, [], ◌∷◌, map, set, sym, ap, ◌∙◌, subst}
use Rattle.std.proofs.lemmas.Bool.{cases_eq}
use Rattle.std.proofs.lemmas.List.{get_or-set_other, get_or-map}
use Rattle.ix_words.specs.Each.{Each, item}
use Rattle.ix_values.specs.PlainAction.{Word}
use Rattle.ix_expr.specs.Form.{Form}
use Rattle.ix_can.specs.TreeOf.{is_final}
use Rattle.ix_stuck.specs.declared.graph.State.{State}
use Rattle.ix_stuck.specs.declared.graph.Edge.{Edge}
use Rattle.ix_stuck.specs.inside.Graphs.{At, IsEdge, CanEnd, run_of}
use Rattle.ix_stuck.specs.inside.Marks.{mark_at, AreMarked}
use Rattle.ix_stuck.proofs.Places.{at_same, among}

module _ (x : Form) (moves : Word) (states : List State) where
  -- the final states are marked
  pub finals_sound : (marks : List Bool) → marks ≡ map (λ (state : State). is_final x state.tree) states → AreMarked x moves states marks
  finals_sound marks are i s at m = record {
    word = [];
    over = Each.no_item;
    final = sym (ap (λ w. mark_at w i) are ∙ get_or-map (λ (state : State). is_final x state.tree) states i s false at.within ∙ ap (λ (state : State). is_final x state.tree) (sym at.is)) ∙ m;
  }

  -- a state from which a move leads to a marked one
  pub one_more : (edge : Edge) (marks : List Bool) → IsEdge x moves states edge → AreMarked x moves states marks → mark_at marks edge.to ≡ true → AreMarked x moves states (set marks edge.from true)
  one_more edge marks is sound m i s at e = elim (cases_eq i edge.from) [
    | inl same ↦
        let source : s ≡ is.source = at_same (subst (λ j. At states j s) same at) is.at_source in
        let end = sound edge.to is.target is.at_target m in
        subst (λ (r : State). CanEnd x moves r.tree) (sym source) (record {
          word = is.action ∷ end.word;
          over = item (among moves edge.by is.action is.by_action) end.over;
          final = ap (λ t. is_final x (run_of x t end.word)) (sym is.tree) ∙ end.final;
        })
    | inr differ ↦ sound i s at (sym (get_or-set_other marks edge.from i true false differ) ∙ e)
  ]
