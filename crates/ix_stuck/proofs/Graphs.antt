-- What a whole graph tells of words.
use Rattle.std.proofs.Common.{◌≡◌, inl, inr, ℕ, ◌+◌, ◌≤◌, Bool, true, false, List, [], ◌∷◌, length, refl, sym, ap, ◌∙◌, subst, true≢false, arith}
use Rattle.ix_words.specs.Each.{item, Member}
use Rattle.ix_words.proofs.Each.{Each-member}
use Rattle.ix_values.specs.PlainAction.{PlainAction, Word}
use Rattle.ix_expr.specs.Form.{Form}
use Rattle.ix_tree.specs.Plain.{Plain, is_dead}
use Rattle.ix_can.specs.inside.Moved.{moved}
use Rattle.ix_stuck.specs.Finishing.{IsOfMoves}
use Rattle.ix_stuck.specs.declared.graph.State.{State}
use Rattle.ix_stuck.specs.declared.graph.Edge.{Edge}
use Rattle.ix_stuck.specs.inside.Graphs.{run_of, At, IsEdge, HasEdge, IsWhole}
use Rattle.ix_stuck.specs.inside.Marks.{mark_at, EdgesSettled}
use Rattle.ix_stuck.proofs.Runs.{live_on_the_way}
use Rattle.ix_stuck.proofs.Places.{at_same, placed}

-- the moves are settled: an unmarked state stays unmarked
not_marked : (a b : Bool) → (b ≡ true → a ≡ true) → a ≡ false → b ≡ false
not_marked a true h e = absurd (true≢false (sym (h refl) ∙ e))
not_marked a false h e = refl

module _ (x : Form) (moves : Word) (limit : ℕ) (root : Plain) (states : List State) (edges : List Edge) (g : IsWhole x moves limit root states edges) where
  -- an edge of the graph for a live move from a state
  pub record Step (i : ℕ) (s : State) (a : PlainAction) : Type 0 where
    pub edge : Edge
    pub among : Member edge edges
    pub from : edge.from ≡ i
    pub target : State
    pub at : At states edge.to target
    pub tree : target.tree ≡ moved x [] s.tree a
    pub near : target.depth ≤ s.depth + 1
    pub number : At moves edge.by a

  step_by : (i : ℕ) (s : State) (a : PlainAction) (k : ℕ) → At states i s → At moves k a → (h : HasEdge edges i k) → IsEdge x moves states h.edge → Step i s a
  step_by i s a k at number h is =
      let source : is.source ≡ s = at_same (subst (λ j. At states j is.source) h.source is.at_source) at in
      let action : is.action ≡ a = at_same (subst (λ j. At moves j is.action) h.by is.by_action) number in
      record {
        edge = h.edge;
        among = h.among;
        from = h.source;
        target = is.target;
        at = is.at_target;
        tree = is.tree ∙ ap (λ (r : State). moved x [] r.tree is.action) source ∙ ap (moved x [] s.tree) action;
        near = subst (λ (r : State). is.target.depth ≤ r.depth + 1) source is.near;
        number = subst (λ b. At moves h.edge.by b) action is.by_action;
      }

  pub step : (i : ℕ) (s : State) (a : PlainAction) → At states i s → Member a moves → is_dead (moved x [] s.tree a) ≡ false → Step i s a
  step i s a at m live = let p = placed m in elim (g.closed i p.place s a (inl at.within) at p.at) [
    | inl gone ↦ absurd (true≢false (sym gone ∙ live))
    | inr h ↦ step_by i s a p.place at p.at h (Each-member g.moves_are h.among)
  ]

  module _ (marks : List Bool) where
    -- the state that a word leads to from a state; it is unmarked if that one is and the marks are settled
    pub record Reaches (i : ℕ) (s : State) (v : Word) : Type 0 where
      pub place : ℕ
      pub state : State
      pub at : At states place state
      pub tree : state.tree ≡ run_of x s.tree v
      pub depth : state.depth ≤ s.depth + length v
      pub unmarked : EdgesSettled edges marks → mark_at marks i ≡ false → mark_at marks place ≡ false

    pub reaches : (v : Word) (i : ℕ) (s : State) → At states i s → IsOfMoves moves v → is_dead (run_of x s.tree v) ≡ false → Reaches i s v
    reaches [] i s at over live = record { place = i; state = s; at = at; tree = refl; depth = omega arith; unmarked = λ e u. u }
    reaches (a ∷ v) i s at (item m over) live =
        let one = step i s a at m (live_on_the_way x (moved x [] s.tree a) v live) in
        let rest = reaches v one.edge.to one.target one.at over (subst (λ t. is_dead (run_of x t v) ≡ false) (sym one.tree) live) in
        let near = one.near in
        let far = rest.depth in
        let p = placed one.among in
        record {
          place = rest.place;
          state = rest.state;
          at = rest.at;
          tree = rest.tree ∙ ap (λ t. run_of x t v) one.tree;
          depth = omega (arith, near, far);
          unmarked = λ settled u. rest.unmarked settled
              (not_marked (mark_at marks i) (mark_at marks one.edge.to) (λ e. subst (λ j. mark_at marks j ≡ true) one.from (settled p.place one.edge p.at e)) u);
        }
