-- Which atoms are gone behind a word.
use Rattle.std.proofs.Common.{◌≡◌, ℕ, Bool, true, false, not, cond, List, [], ◌∷◌, ◌++◌, filter, refl, sym, ap, ◌∙◌, subst, true≢false}
use Rattle.std.specs.List.{list_any}
use Rattle.ix_words.specs.Each.{no_item, item}
use Rattle.ix_words.specs.Parts.{Projection, ended, kept, left_out}
use Rattle.ix_words.proofs.Each.{Each-append, Each-left, Each-right, Each-head, Each-member}
use Rattle.ix_values.specs.PlainAction.{PlainAction, Word}
use Rattle.ix_expr.specs.Form.{PlainAtom, Form}
use Rattle.ix_expr.specs.FormFaults.{Fits}
use Rattle.ix_tree.specs.Plain.{Plain, is_dead}
use Rattle.ix_can.specs.TreeOf.{tree_of}
use Rattle.ix_can.specs.inside.Moved.{moved}
use Rattle.ix_words.proofs.Deciding.{any_says, any_from}
use Rattle.ix_stuck.specs.Gone.{numbered_atoms, ComesAgain, AreGone}
use Rattle.ix_stuck.specs.declared.graph.State.{State}
use Rattle.ix_stuck.specs.declared.graph.Edge.{Edge}
use Rattle.ix_stuck.specs.inside.Coming.{HasEdgeBy, AreComing}
use Rattle.ix_stuck.specs.inside.Graphs.{run_of, At, IsWhole}
use Rattle.ix_stuck.specs.inside.Matching.{can_match, matches_none, gone_of}
use Rattle.ix_stuck.proofs.Runs.{run_append, live_on_the_way, run_word, live_says}
use Rattle.ix_stuck.proofs.Places.{among, at_same, each_at}
use Rattle.ix_stuck.proofs.Graphs.{step, reaches}
use Rattle.ix_stuck.proofs.Matched.{can_match_says}

-- what passes a test that decides is the projection
projects : {A : Type 0} (In : A → Type 0) (test : A → Bool) → ((a : A) → (test a ≡ true → In a) × (test a ≡ false → ¬ In a)) → (w : List A) → Projection In w (filter test w)
projects In test says [] = ended
projects In test says (a ∷ w) = one (test a) refl (projects In test says w)
  where
    one : (b : Bool) → test a ≡ b → Projection In w (filter test w) → Projection In (a ∷ w) (cond b (a ∷ filter test w) (filter test w))
    one true e p = kept ((says a).0 e) p
    one false e p = left_out ((says a).1 e) p

opposite : (b : Bool) → not b ≡ true → b ≡ false
opposite true e = absurd (true≢false (sym e))
opposite false e = refl

opposite_false : (b : Bool) → not b ≡ false → b ≡ true
opposite_false true e = refl
opposite_false false e = absurd (true≢false e)

module _ (x : Form) (fits : Fits x []) (moves : Word) (limit : ℕ) (root : Plain) (states : List State) (edges : List Edge) (g : IsWhole x moves limit root states edges) (w : Word) (begun : root ≡ tree_of x [] w) (coming : Word) (c : AreComing moves edges coming) where
  run_behind : (u : Word) → run_of x root u ≡ tree_of x [] (w ++ u)
  run_behind u = ap (λ t. run_of x t u) begun ∙ run_word x fits w u

  taken : (s : PlainAtom) (a : PlainAction) → can_match s a ≡ true → HasEdgeBy moves edges a → ComesAgain x moves w s
  taken s a passes t =
      let is = Each-member g.moves_are t.used.among in
      let action : is.action ≡ a = at_same (subst (λ k. At moves k is.action) t.used.by is.by_action) t.at in
      let source = each_at g.led is.at_source in
      let target = each_at g.led is.at_target in
      let tree : is.target.tree ≡ run_of x root (source.word ++ a ∷ []) =
      is.tree ∙ ap (λ t. moved x [] t is.action) source.tree ∙ ap (moved x [] (run_of x root source.word)) action ∙ sym (run_append x root source.word (a ∷ [])) in
      let m = (can_match_says s a).0 passes in
      record {
        between = source.word;
        action = a;
        over = Each-append source.over (item (among moves t.number a t.at) no_item);
        partial = (live_says x fits (w ++ (source.word ++ a ∷ []))).0 (ap is_dead (sym (tree ∙ run_behind (source.word ++ a ∷ []))) ∙ target.live);
        environment = m.0;
        matches = m.1;
      }

  comes_to : (s : PlainAtom) → list_any (can_match s) coming ≡ true → ComesAgain x moves w s
  comes_to s e = let p = (any_says (can_match s) coming).0 e in taken s p.which p.passes (Each-member c.only p.among)

  comes_from : (s : PlainAtom) → ComesAgain x moves w s → list_any (can_match s) coming ≡ true
  comes_from s h =
      let u = h.between ++ h.action ∷ [] in
      let live : is_dead (run_of x root u) ≡ false = ap is_dead (run_behind u) ∙ (live_says x fits (w ++ u)).1 h.partial in
      let apart = run_append x root h.between (h.action ∷ []) in
      let move : is_dead (moved x [] (run_of x root h.between) h.action) ≡ false = ap is_dead (sym apart) ∙ live in
      let b = g.begun in
      let first : is_dead (run_of x b.state.tree h.between) ≡ false = ap (λ t. is_dead (run_of x t h.between)) b.tree ∙ live_on_the_way x (run_of x root h.between) (h.action ∷ []) move in
      let r = reaches x moves limit root states edges g [] h.between 0 b.state b.at (Each-left h.between (h.action ∷ []) h.over) first in
      let tree : r.state.tree ≡ run_of x root h.between = r.tree ∙ ap (λ t. run_of x t h.between) b.tree in
      let one = step x moves limit root states edges g r.place r.state h.action r.at (Each-head (Each-right h.between (h.action ∷ []) h.over)) (ap (λ t. is_dead (moved x [] t h.action)) tree ∙ move) in
      any_from (can_match s) coming (c.all one.edge.by h.action one.number (record { edge = one.edge; among = one.among; by = refl {a = one.edge.by} })) ((can_match_says s h.action).1 (h.environment, h.matches))

  pub gone_are : AreGone x moves w (gone_of coming (numbered_atoms 0 x))
  gone_are = record {
    gone = filter (matches_none coming) (numbered_atoms 0 x);
    kept = projects (λ place. ¬ ComesAgain x moves w place.1) (matches_none coming) (λ place. (
      λ e h. true≢false (sym (comes_from place.1 h) ∙ opposite (list_any (can_match place.1) coming) e),
      λ e n. n (comes_to place.1 (opposite_false (list_any (can_match place.1) coming) e)),
    )) (numbered_atoms 0 x);
    numbers = refl;
  }
