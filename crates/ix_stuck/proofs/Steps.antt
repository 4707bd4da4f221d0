-- How a graph grows.
use Rattle.std.proofs.Common.{◌≡◌, ◌⊎◌, inl, inr, ℕ, ◌+◌, ◌<◌, ◌≤◌, true, false, List, [], ◌∷◌, ◌++◌, length, Err, refl, sym, ap, ◌∙◌, subst, arith}
use Rattle.std.proofs.lemmas.List.{length-append}
use Rattle.std.proofs.lemmas.Bool.{cases_eq}
use Rattle.ix_words.specs.Each.{Each, no_item, item, Member}
use Rattle.ix_words.proofs.Each.{Each-append, Each-weaker, Member-left, Member-right}
use Rattle.ix_words.specs.Each.{here}
use Rattle.ix_values.specs.PlainAction.{PlainAction, Word}
use Rattle.ix_expr.specs.Form.{Form}
use Rattle.ix_expr.specs.FormFaults.{Fits, IsWellFormed}
use Rattle.ix_tree.specs.Plain.{Plain, is_dead}
use Rattle.ix_tree.specs.Size.{size_of}
use Rattle.ix_can.specs.Laws.{IsProper}
use Rattle.ix_can.specs.inside.Moved.{moved}
use Rattle.ix_can.proofs.Proper.{proper}
use Rattle.ix_stuck.specs.declared.rules.Rules.{Rules}
use Rattle.ix_stuck.specs.declared.graph.Halt.{Halt}
use Rattle.ix_stuck.specs.declared.graph.Halt.TheVariants.{Memory, Large, Many, Unconfirmed}
use Rattle.ix_stuck.specs.declared.graph.State.{State}
use Rattle.ix_stuck.specs.declared.graph.Edge.{Edge}
use Rattle.ix_stuck.specs.inside.Graphs.{run_of, At, IsTree, IsLed, IsEdge, HasEdge, IsBefore, IsGraph, IsWhole, HasLarge}
use Rattle.ix_stuck.specs.inside.Marks.{LeadsTo}
use Rattle.ix_stuck.specs.inside.Ruled.{form, Led, IsNextTree, Stops, Grows}
use Rattle.ix_stuck.proofs.Runs.{run_append, run_word}
use Rattle.ix_stuck.proofs.Places.{at_same, at_left, at_front}

pub fits_of : (x : Form) → IsWellFormed x → Fits x []
fits_of x f = record { faultless = f.faultless; numbers = f.numbers }

module _ (x : Form) (moves : Word) (limit : ℕ) (root : Plain) where
  pub led_root : is_dead root ≡ false → size_of root ≤ limit → IsLed x moves limit root root
  led_root live small = record { word = []; over = no_item; tree = refl; live = live; small = small }

  pub led_next : (t : Plain) (a : PlainAction) (next : Plain) → IsLed x moves limit root t → Member a moves → next ≡ moved x [] t a → is_dead next ≡ false → size_of next ≤ limit → IsLed x moves limit root next
  led_next t a next led m is live small = record {
    word = led.word ++ a ∷ [];
    over = Each-append led.over (item m no_item);
    tree = is ∙ ap (λ u. moved x [] u a) led.tree ∙ sym (run_append x root led.word (a ∷ []));
    live = live;
    small = small;
  }

  pub leads_root : (w : Word) (t : Plain) → w ≡ [] → t ≡ root → LeadsTo x moves root w t
  leads_root w t none is = record {
    over = subst (Each (λ a. Member a moves)) (sym none) no_item;
    tree = is ∙ ap (run_of x root) (sym none);
  }

  pub leads_next : (w : Word) (t : Plain) (a : PlainAction) (next : Plain) → LeadsTo x moves root w t → Member a moves → next ≡ moved x [] t a → LeadsTo x moves root (w ++ a ∷ []) next
  leads_next w t a next l m is = record {
    over = Each-append l.over (item m no_item);
    tree = is ∙ ap (λ u. moved x [] u a) l.tree ∙ sym (run_append x root w (a ∷ []));
  }

  pub large_next : (t : Plain) (a : PlainAction) → IsLed x moves limit root t → Member a moves → limit < size_of (moved x [] t a) → HasLarge x moves limit root
  large_next t a led m large = record {
    word = led.word ++ a ∷ [];
    over = Each-append led.over (item m no_item);
    large = subst (λ u. limit < size_of u) (ap (λ u. moved x [] u a) led.tree ∙ sym (run_append x root led.word (a ∷ []))) large;
  }

  -- what is led to from the tree of a word is the tree of a word
  pub led_tree : Fits x [] → IsTree x root → (t : Plain) → IsLed x moves limit root t → IsTree x t
  led_tree fits r t led = (r.0 ++ led.word, led.tree ∙ ap (λ u. run_of x u led.word) r.1 ∙ run_word x fits r.0 led.word)

  pub led_proper : Fits x [] → IsTree x root → (t : Plain) → IsLed x moves limit root t → IsProper x t
  led_proper fits r t led = let k = led_tree fits r t led in subst (IsProper x) (sym k.1) (proper x [] k.0)

  -- the graph of the root alone
  pub begun_graph : (s : State) → s.tree ≡ root → s.depth ≡ 0 → is_dead root ≡ false → size_of root ≤ limit → IsGraph x moves limit root (s ∷ []) [] 0 0
  begun_graph s tree depth live small = record {
    begun = record { state = s; at = record { within = omega arith; is = refl }; tree = tree; depth = depth };
    led = item (subst (IsLed x moves limit root) (sym tree) (led_root live small)) no_item;
    moves_are = no_item;
    closed = λ i k t a before at number. elim before [
      | inl h ↦ absurd (omega arith)
      | inr h ↦ let e = h.1 in absurd (omega arith)
    ];
  }

  edge_stays : (states : List State) (s : State) (e : Edge) → IsEdge x moves states e → IsEdge x moves (states ++ s ∷ []) e
  edge_stays states s e is = record {
    source = is.source;
    action = is.action;
    target = is.target;
    at_source = at_left (s ∷ []) is.at_source;
    by_action = is.by_action;
    at_target = at_left (s ∷ []) is.at_target;
    tree = is.tree;
    near = is.near;
  }

  module _ (states : List State) (edges : List Edge) (n m : ℕ) (g : IsGraph x moves limit root states edges n m) where
    pub more_state : (s : State) → n < length states → IsLed x moves limit root s.tree → IsGraph x moves limit root (states ++ s ∷ []) edges n m
    more_state s within led = record {
      begun = let b = g.begun in record { state = b.state; at = at_left (s ∷ []) b.at; tree = b.tree; depth = b.depth };
      led = Each-append g.led (item led no_item);
      moves_are = Each-weaker (edge_stays states s) g.moves_are;
      closed = λ i k t a before at number.
          let here : i < length states = elim before [ inl h ↦ omega arith | inr h ↦ let e = h.0 in omega arith ] in
          g.closed i k t a before (at_front (s ∷ []) here at) number;
    }

    pub more_edge : (e : Edge) → IsEdge x moves states e → e.from ≡ n → e.by ≡ m → IsGraph x moves limit root states (edges ++ e ∷ []) n (m + 1)
    more_edge e is from by = record {
      begun = g.begun;
      led = g.led;
      moves_are = Each-append g.moves_are (item is no_item);
      closed = λ i k t a before at number. one i k t a before at number;
    }
      where
        kept : (i k : ℕ) → HasEdge edges i k → HasEdge (edges ++ e ∷ []) i k
        kept i k h = record { edge = h.edge; among = Member-left h.among (e ∷ []); source = h.source; by = h.by }

        old : (i k : ℕ) (t : State) (a : PlainAction) → IsBefore i k n m → At states i t → At moves k a → (is_dead (moved x [] t.tree a) ≡ true) ⊎ HasEdge (edges ++ e ∷ []) i k
        old i k t a before at number = elim (g.closed i k t a before at number) [ inl d ↦ inl d | inr h ↦ inr (kept i k h) ]

        one : (i k : ℕ) (t : State) (a : PlainAction) → IsBefore i k n (m + 1) → At states i t → At moves k a → (is_dead (moved x [] t.tree a) ≡ true) ⊎ HasEdge (edges ++ e ∷ []) i k
        one i k t a (inl h) at number = old i k t a (inl h) at number
        one i k t a (inr h) at number = elim (cases_eq k m) [
          | inl same ↦ inr (record { edge = e; among = Member-right edges here; source = from ∙ sym h.0; by = by ∙ sym same })
          | inr differ ↦ old i k t a (inr (h.0, let b = h.1 in omega (arith, b, differ))) at number
        ]

    pub dead_move : (s : State) (b : PlainAction) → At states n s → At moves m b → is_dead (moved x [] s.tree b) ≡ true → IsGraph x moves limit root states edges n (m + 1)
    dead_move s b there by dead = record {
      begun = g.begun;
      led = g.led;
      moves_are = g.moves_are;
      closed = one;
    }
      where
        one : (i k : ℕ) (t : State) (a : PlainAction) → IsBefore i k n (m + 1) → At states i t → At moves k a → (is_dead (moved x [] t.tree a) ≡ true) ⊎ HasEdge edges i k
        one i k t a (inl h) at number = g.closed i k t a (inl h) at number
        one i k t a (inr h) at number = elim (cases_eq k m) [
          | inl same ↦
              let state = at_same (subst (λ j. At states j t) h.0 at) there in
              let action = at_same (subst (λ j. At moves j a) same number) by in
              inl (ap (λ (r : State). is_dead (moved x [] r.tree a)) state ∙ ap (λ d. is_dead (moved x [] s.tree d)) action ∙ dead)
          | inr differ ↦ g.closed i k t a (inr (h.0, let b = h.1 in omega (arith, b, differ))) at number
        ]

    -- all moves from the state at the place n are done
    pub row_done : length moves ≤ m → IsGraph x moves limit root states edges (n + 1) 0
    row_done all = record {
      begun = g.begun;
      led = g.led;
      moves_are = g.moves_are;
      closed = one;
    }
      where
        one : (i k : ℕ) (t : State) (a : PlainAction) → IsBefore i k (n + 1) 0 → At states i t → At moves k a → (is_dead (moved x [] t.tree a) ≡ true) ⊎ HasEdge edges i k
        one i k t a (inr h) at number = let e = h.1 in absurd (omega arith)
        one i k t a (inl h) at number = elim (cases_eq i n) [
          | inl same ↦ g.closed i k t a (inr (same, let w = number.within in omega (arith, w, all))) at number
          | inr differ ↦ g.closed i k t a (inl (omega (arith, h, differ))) at number
        ]

    -- all states are done
    pub all_done : m ≡ 0 → length states ≤ n → IsWhole x moves limit root states edges
    all_done none all = record {
      begun = g.begun;
      led = g.led;
      moves_are = g.moves_are;
      closed = one;
    }
      where
        one : (i k : ℕ) (t : State) (a : PlainAction) → IsBefore i k (length states) 0 → At states i t → At moves k a → (is_dead (moved x [] t.tree a) ≡ true) ⊎ HasEdge edges i k
        one i k t a (inr h) at number = let e = h.1 in absurd (omega arith)
        one i k t a (inl h) at number = g.closed i k t a (inl (omega (arith, h, all))) at number

-- more states are more
pub still_within : {old new : List State} (i : ℕ) → i < length old → Grows old new → i < length new
still_within {old = old} i within g = let long = ap length g.is ∙ length-append old g.more in omega (arith, within, long)

-- why a search ends at a step
pub stops_at : (r : Rules) (t : Plain) (a : PlainAction) (halt : Halt) → Led r t → Member a r.moves.now → IsNextTree r t a (Err halt) → Stops r halt
stops_at r t a Memory led m h = tt
stops_at r t a Large led m h = large_next (form r) r.moves.now r.limits.nodes r.start.now t a led m h
stops_at r t a Many led m h = tt
stops_at r t a Unconfirmed led m h = tt
