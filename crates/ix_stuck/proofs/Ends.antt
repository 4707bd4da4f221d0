-- Never stuck, and first stuck.
use Rattle.std.proofs.Common.{◌≡◌, ℕ, ◌<◌, ◌≤◌, Bool, true, false, List, [], ◌++◌, length, refl, sym, ap, ◌∙◌, subst, true≢false, arith}
use Rattle.ix_words.specs.Each.{no_item}
use Rattle.ix_values.specs.PlainAction.{Word}
use Rattle.ix_expr.specs.Form.{Form}
use Rattle.ix_expr.specs.FormFaults.{Fits}
use Rattle.ix_expr.proofs.LawsOfMeaning.{complete-partial, empty-partial}
use Rattle.ix_tree.specs.Plain.{Plain, dead, is_dead}
use Rattle.ix_tree.specs.Size.{size_of}
use Rattle.ix_can.specs.TreeOf.{tree_of, is_final}
use Rattle.ix_stuck.specs.Answers.{HasLargeTree}
use Rattle.ix_stuck.specs.Finishing.{IsLedTo, CanFinish, IsFirstStuck, IsNeverStuck}
use Rattle.ix_stuck.specs.declared.graph.Halt.{Halt}
use Rattle.ix_stuck.specs.declared.graph.Halt.TheVariants.{Memory, Large, Many, Unconfirmed}
use Rattle.ix_stuck.specs.declared.graph.State.{State}
use Rattle.ix_stuck.specs.declared.graph.Edge.{Edge}
use Rattle.ix_stuck.specs.inside.Graphs.{run_of, At, IsWhole, CanEnd, Halts}
use Rattle.ix_stuck.specs.inside.Marks.{mark_at, AreMarked, EdgesSettled, FinalsMarked, NoneNearer, LeadsTo}
use Rattle.ix_stuck.specs.inside.Ruled.{EndTells}
use Rattle.ix_stuck.proofs.Runs.{run_word, live_says, final_says}
use Rattle.ix_stuck.proofs.Graphs.{reaches}

-- a tree above a limit isn't dead
pub not_dead : (t : Plain) → 1 < size_of t → is_dead t ≡ false
not_dead dead h = absurd (omega arith)
not_dead _ h = refl

-- a mark is true or false
data Either (b : Bool) : Type 0 where
  yes : b ≡ true → Either b
  no : b ≡ false → Either b

either : (b : Bool) → Either b
either true = yes refl
either false = no refl

module _ (x : Form) (fits : Fits x []) (moves : Word) (limit : ℕ) (root : Plain) (states : List State) (edges : List Edge) (g : IsWhole x moves limit root states edges) (begun : root ≡ tree_of x [] []) (marks : List Bool) (sound : AreMarked x moves states marks) where
  pub run_start : (w : Word) → run_of x root w ≡ tree_of x [] w
  run_start w = ap (λ t. run_of x t w) begun ∙ run_word x fits [] w

  -- the state of a word that the moves lead to
  pub record Found (w : Word) : Type 0 where
    pub place : ℕ
    pub state : State
    pub at : At states place state
    pub tree : state.tree ≡ tree_of x [] w
    pub depth : state.depth ≤ length w

  pub found : (w : Word) → IsLedTo x moves w → Found w
  found w r =
      let b = g.begun in
      let from : run_of x b.state.tree w ≡ tree_of x [] w = ap (λ t. run_of x t w) b.tree ∙ run_start w in
      let live : is_dead (run_of x b.state.tree w) ≡ false = ap is_dead from ∙ (live_says x fits w).1 r.partial in
      let s = reaches x moves limit root states edges g marks w 0 b.state b.at r.over live in
      let far = s.depth in
      let near = b.depth in
      record { place = s.place; state = s.state; at = s.at; tree = s.tree ∙ from; depth = omega (arith, far, near) }

  -- what can end can be finished
  pub finished : (w : Word) (t : Plain) → t ≡ tree_of x [] w → CanEnd x moves t → CanFinish x moves w
  finished w t is c = record {
    behind = c.word;
    over = c.over;
    complete = (final_says x fits (w ++ c.word)).0 (ap (is_final x) (sym (ap (λ u. run_of x u c.word) is ∙ run_word x fits w c.word)) ∙ c.final);
  }

  pub never : ((i : ℕ) (s : State) → At states i s → mark_at marks i ≡ true) → IsNeverStuck x moves
  never all w r = let f = found w r in finished w f.state.tree f.tree (sound f.place f.state f.at (all f.place f.state f.at))

  module _ (settled : EdgesSettled edges marks) (finals : FinalsMarked x states marks) where
    -- the word of an unmarked state can't be finished
    pub unfinished : (w : Word) (i : ℕ) (s : State) → At states i s → mark_at marks i ≡ false → s.tree ≡ tree_of x [] w → ¬ CanFinish x moves w
    unfinished w i s at unmarked is c =
        let whole : run_of x s.tree c.behind ≡ tree_of x [] (w ++ c.behind) = ap (λ u. run_of x u c.behind) is ∙ run_word x fits w c.behind in
        let partial = complete-partial x [] (w ++ c.behind) c.complete in
        let r = reaches x moves limit root states edges g marks c.behind i s at c.over (ap is_dead whole ∙ (live_says x fits (w ++ c.behind)).1 partial) in
        let final : is_final x r.state.tree ≡ true = ap (is_final x) (r.tree ∙ whole) ∙ (final_says x fits (w ++ c.behind)).1 c.complete in
        true≢false (sym (finals r.place r.state r.at final) ∙ r.unmarked settled unmarked)

    pub first_stuck : (w : Word) (i : ℕ) (s : State) → At states i s → mark_at marks i ≡ false → is_dead s.tree ≡ false → LeadsTo x moves root w s.tree → NoneNearer states marks (length w) → IsFirstStuck x moves w
    first_stuck w i s at unmarked live leads nearest =
        let is : s.tree ≡ tree_of x [] w = leads.tree ∙ run_start w in
        record {
          stuck = record {
            reached = record { over = leads.over; partial = (live_says x fits w).0 (ap is_dead (sym is) ∙ live) };
            unfinished = unfinished w i s at unmarked is;
          };
          shortest = λ u stuck. let f = found u stuck.reached in
              let far = f.depth in
              elim (either (mark_at marks f.place)) [
                | yes e ↦ absurd (stuck.unfinished (finished u f.state.tree f.tree (sound f.place f.state f.at e)))
                | no e ↦ let near = nearest f.place f.state f.at e in omega (arith, far, near)
              ];
        }

-- what the end of a search from the tree of the empty word tells
pub tells_of : (x : Form) (moves : Word) (limit : ℕ) (root : Plain) → Fits x [] → 1 ≤ limit → root ≡ tree_of x [] [] → (halt : Halt) → Halts x moves limit root halt → EndTells x moves limit halt
tells_of x moves limit root fits least begun Memory h = tt
tells_of x moves limit root fits least begun Large h =
    let is : run_of x root h.word ≡ tree_of x [] h.word = ap (λ t. run_of x t h.word) begun ∙ run_word x fits [] h.word in
    let large : limit < size_of (tree_of x [] h.word) = subst (λ t. limit < size_of t) is h.large in
    record {
      word = h.word;
      reached = record { over = h.over; partial = (live_says x fits h.word).0 (not_dead (tree_of x [] h.word) (omega (arith, least, large))) };
      large = large;
    }
tells_of x moves limit root fits least begun Many h = tt
tells_of x moves limit root fits least begun Unconfirmed h = tt

-- the tree of the empty word is above the limit
pub large_root : (x : Form) (moves : Word) (limit : ℕ) → limit < size_of (tree_of x [] []) → HasLargeTree x moves limit
large_root x moves limit large = record { word = []; reached = record { over = no_item; partial = empty-partial x [] }; large = large }

pub empty_live : (x : Form) → Fits x [] → is_dead (tree_of x [] []) ≡ false
empty_live x fits = (live_says x fits []).1 (empty-partial x [])
