-- Runs from a journal and from the one that a renewal made of it are answered alike.
use Rattle.std.proofs.Common.{◌≡◌, ◌≢◌, ◌⊎◌, inl, inr, ℕ, zero, suc, ◌+◌, ◌-◌, ◌<◌, ◌≤◌, List, [], ◌∷◌, ◌++◌, length, Some, None, append_assoc, refl, sym, ◌∙◌, ap, subst, arith}
use Rattle.std.proofs.lemmas.Bool.{cases_eq, cases_lt}
use Rattle.std.proofs.lemmas.List.{length-append, length-map, map-append}
use Rattle.ix_words.specs.Each.{Each, no_item, item}
use Rattle.ix_words.proofs.Each.{Each-append, Each-head, Each-right, Each-same, Each-weaker}
use Rattle.ix_values.specs.PlainAction.{PlainAction, Word}
use Rattle.ix_values.specs.declared.tickets.Ticket.{Ticket}
use Rattle.ix_journal.specs.Entries.{renewed_of}
use Rattle.ix_journal.specs.History.{PlainHistory, Spent, actions_of}
use Rattle.ix_journal.specs.declared.entries.Renewed.{Renewed}
use Rattle.ix_expr.specs.Form.{Form}
use Rattle.ix_expr.specs.FormFaults.{IsWellFormed}
use Rattle.ix_tree.specs.Size.{size_of}
use Rattle.ix_can.specs.TreeOf.{tree_of}
use Rattle.ix_outside.specs.Contents.{GivenEvent}
use Rattle.ix_proto.specs.Requests as request
use Rattle.ix_proto.specs.Requests.{PlainRequest}
use Rattle.ix_proto.specs.declared.reply.Outcome.TheVariants as became
use Rattle.ix_proto.specs.declared.reply.Reply.{Reply}
use Rattle.ix_proto.specs.declared.reply.Reply.TheVariants as reply
use Rattle.ix_journal.proofs.OutcomeLaws.{one_history, one_number}
use Rattle.ix_manager.specs.Machine as machine
use Rattle.ix_manager.specs.Machine.{IsAbsent, IsOpenWith, IsUngranted, MachineState, Step, ahead_of, count, count_of, word_of}
use Rattle.ix_manager.specs.Refusals as refused
use Rattle.ix_manager.specs.Runs.{Ending, Opening, Run, opening_of}
use Rattle.ix_manager.proofs.AnsweredLemmas.{run_renewed}
use Rattle.ix_manager.proofs.TicketLemmas.{held_with}
use Rattle.ix_renew.specs.Carried.{IsCarriedFor}
use Rattle.ix_engine.specs.Limits.{most_actions}
use Rattle.ix_renew.specs.LaterRenewals.{without_tickets}
use Rattle.ix_renew.specs.RunsAlike as alikes
use Rattle.ix_renew.specs.RunsAlike.{AnswerAlike, AnswerEventsAlike, AnswerItemsAlike, OnlyOldTells, NewRunsAreMet, OldRunsAreMet, RenewedRunsAnswerAlike, StartBeside}
use Rattle.ix_renew.proofs.Alike.{allowed_same, complete_same, fits_of, later_same, partial_same}
use Rattle.ix_renew.proofs.Beside.{ActAlike, IsSince, Moves, RunMoves, Sides, here, placed, run_moves, stays, step_moves, swapped}
use Rattle.ix_renew.proofs.OldTickets.{IsOfBoots, IsSound, WasOfBoots, start_sound}
use Rattle.ix_renew.proofs.RenewedStarts.{file_holds, file_recovers, image_holds, image_recovers}

-- the carried actions are the actions of their history
same_actions : (carried : Word) → actions_of (without_tickets carried) ≡ carried
same_actions [] = refl
same_actions (a ∷ carried) = ap (λ (w : Word). a ∷ w) (same_actions carried)

-- no carried action has a ticket
carries_none : (ticket : Ticket) (carried : Word) → IsAbsent ticket (without_tickets carried)
carries_none ticket [] = no_item
carries_none ticket (a ∷ carried) = item (λ is. let no : None ≡ Some ticket = is in cc) (carries_none ticket carried)

-- a list whose parts are cut in two ways: the item is in the front, or behind it
abbrev InFront : {X : Type 0} → List X → List X → X → Type 0
InFront {X = X} front before z = (rest : List X) × (front ≡ before ++ z ∷ rest)

abbrev IsBehind : {X : Type 0} → List X → List X → List X → X → List X → Type 0
IsBehind {X = X} front back before z behind = (more : List X) × (before ≡ front ++ more) × (back ≡ more ++ z ∷ behind)

parts : {X : Type 0} (front back before : List X) (z : X) (behind : List X) → front ++ back ≡ before ++ z ∷ behind
    → InFront front before z ⊎ IsBehind front back before z behind
parts [] back before z behind is = inr (before, refl, is)
parts (y ∷ front) back [] z behind is = inl (front, let first : y ≡ z = cc in ap (λ w. w ∷ front) first)
parts (y ∷ front) back (b ∷ before) z behind is =
    let first : y ≡ b = cc in
    let others : front ++ back ≡ before ++ z ∷ behind = cc in
    elim (parts front back before z behind others) [
      | inl it ↦ inl (it.0, λ i. first i ∷ it.1 i)
      | inr it ↦ inr (it.0, λ i. sym first i ∷ it.1 i, it.2)
    ]

-- the item of a place
record IsAt (w : Word) (place : ℕ) : Type 0 where
  pub before : Word
  pub action : PlainAction
  pub behind : Word
  pub split : w ≡ before ++ action ∷ behind
  pub long : length before ≡ place

at_place : (w : Word) (place : ℕ) → place < length w → IsAt w place
at_place [] place below = absurd (omega arith)
at_place (a ∷ w) zero below = record { before = []; action = a; behind = w; split = refl; long = refl }
at_place (a ∷ w) (suc place) below =
    let it = at_place w place (omega arith) in record {
      before = a ∷ it.before;
      action = it.action;
      behind = it.behind;
      split = ap (λ (v : Word). a ∷ v) it.split;
      long = ap suc it.long;
    }

-- the pair of a ticket
record IsKept (history : PlainHistory) (ticket : Ticket) : Type 0 where
  pub before : PlainHistory
  pub action : PlainAction
  pub behind : PlainHistory
  pub split : history ≡ before ++ (Some ticket, action) ∷ behind

no_ticket : (ticket : Ticket) → None ≢ Some ticket
no_ticket ticket is = cc

same_ticket : (t u : Ticket) → (t ≡ u) ⊎ (t ≢ u)
same_ticket t u = elim (cases_eq t.boot u.boot) [
  | inl boot ↦ elim (cases_eq t.seq u.seq) [
    | inl seq ↦ inl (λ i. record { boot = boot i; seq = seq i })
    | inr differ ↦ inr (λ is. differ (ap (λ (v : Ticket). v.seq) is))
  ]
  | inr differ ↦ inr (λ is. differ (ap (λ (v : Ticket). v.boot) is))
]

some_differ : (t u : Ticket) → t ≢ u → Some t ≢ Some u
some_differ t u differ is = differ (let same : t ≡ u = cc in same)

kept_or_absent : (ticket : Ticket) (history : PlainHistory) → IsKept history ticket ⊎ IsAbsent ticket history
kept_or_absent ticket [] = inr no_item
kept_or_absent ticket ((None, a) ∷ history) = elim (kept_or_absent ticket history) [
  | inl it ↦ inl (record {
    before = (None, a) ∷ it.before;
    action = it.action;
    behind = it.behind;
    split = ap (λ (h : PlainHistory). (None, a) ∷ h) it.split;
  })
  | inr absent ↦ inr (item (no_ticket ticket) absent)
]
kept_or_absent ticket ((Some own, a) ∷ history) = elim (same_ticket own ticket) [
  | inl same ↦ inl (record { before = []; action = a; behind = history; split = λ i. (Some (same i), a) ∷ history })
  | inr differ ↦ elim (kept_or_absent ticket history) [
    | inl it ↦ inl (record {
      before = (Some own, a) ∷ it.before;
      action = it.action;
      behind = it.behind;
      split = ap (λ (h : PlainHistory). (Some own, a) ∷ h) it.split;
    })
    | inr absent ↦ inr (item (some_differ own ticket differ) absent)
  ]
]

-- what holds of each pair holds of the ticket's
pair_of : (G : Spent → Type 0) (history before behind : PlainHistory) (spent : Spent) → history ≡ before ++ spent ∷ behind
    → Each G history → G spent
pair_of G history before behind spent split each = Each-head (Each-right before (spent ∷ behind) (Each-same split each))

-- what a renewal made of a history
record Renewal (x : Form) (limit : ℕ) (h : PlainHistory) (r : Renewed) (carried : Word) (n : Renewed) : Type 0 where
  pub formed : IsWellFormed x
  pub carries : IsCarriedFor x limit (actions_of h) carried
  pub counted : n.actions ≡ count_of r h
  pub carried_are : n.carried ≡ length carried
  pub sound : IsSound h r n.boots

module _ (x : Form) (limit : ℕ) (h : PlainHistory) (r : Renewed) (carried : Word) (n : Renewed)
    (f : Renewal x limit h r carried n) where
  -- both starts, from either side
  abbrev old_new : Sides
  old_new = record {
    form = x;
    limit = limit;
    one = h;
    one_stands = r;
    two = without_tickets carried;
    two_stands = n;
  }

  abbrev new_old : Sides
  new_old = record {
    form = x;
    limit = limit;
    one = without_tickets carried;
    one_stands = n;
    two = h;
    two_stands = r;
  }

  carried_long : length (without_tickets carried) ≡ length carried
  carried_long = length-map carried (λ (a : PlainAction). (None, a))

  -- no more are carried than there were, and so many are counted
  few : length carried ≤ length h
  few = let least = f.carries.few in let long = length-map h (λ (spent : Spent). spent.1) in omega (arith, least, long)

  ahead : ahead_of n + length carried ≡ ahead_of r + length h
  ahead = let least = few in let counted = f.counted in let are = f.carried_are in omega (arith, least, counted, are)

  -- what was left out before is left out
  earlier : r.actions ≤ n.actions
  earlier = let carried_there = f.sound.carried in let counted = f.counted in omega (arith, carried_there, counted)

  module _ (m : MachineState) where
    abbrev old : MachineState
    old = placed h r m

    abbrev new : MachineState
    new = placed (without_tickets carried) n m

    old_word : word_of old ≡ actions_of h ++ actions_of m.history
    old_word = map-append (λ (spent : Spent). spent.1) h m.history

    new_word : word_of new ≡ carried ++ actions_of m.history
    new_word =
        map-append (λ (spent : Spent). spent.1) (without_tickets carried) m.history
        ∙ ap (λ (w : Word). w ++ actions_of m.history) (same_actions carried)

    trees : tree_of x [] (word_of old) ≡ tree_of x [] (word_of new)
    trees =
        ap (tree_of x []) old_word
        ∙ later_same x (fits_of x f.formed) (actions_of h) carried (actions_of m.history) (sym f.carries.tree)
        ∙ ap (tree_of x []) (sym new_word)

    counts : count old ≡ count new
    counts =
        let both = ahead in
        let long = length-append h m.history in
        let other_long = length-append (without_tickets carried) m.history in
        let carried_there = carried_long in
        omega (arith, both, long, other_long, carried_there)

    act_alike : length old.history < 1000000 → ActAlike x limit old new
    act_alike room =
        let fits = fits_of x f.formed in
        let both = trees in
        let least = few in
        let long = length-append h m.history in
        let other_long = length-append (without_tickets carried) m.history in
        let carried_there = carried_long in
        let old_words = length-map old.history (λ (spent : Spent). spent.1) in
        let new_words = length-map new.history (λ (spent : Spent). spent.1) in
        let other_room : length new.history < 1000000 = omega (arith, room, least, long, other_long, carried_there) in
        record {
          permitted = λ a.
              let next = later_same x fits (word_of old) (word_of new) (a ∷ []) both in (
                partial_same x fits (word_of old ++ a ∷ []) (word_of new ++ a ∷ []) next,
                partial_same x fits (word_of new ++ a ∷ []) (word_of old ++ a ∷ []) (sym next),
              );
          allowed = λ a. (
            allowed_same x fits limit (word_of old) (word_of new) a both (omega (arith, other_room, new_words)),
            allowed_same x fits limit (word_of new) (word_of old) a (sym both) (omega (arith, room, old_words)),
          );
          complete = (complete_same x fits (word_of old) (word_of new) both, complete_same x fits (word_of new) (word_of old) (sym both));
          size = ap size_of both;
          next_size = λ a. ap size_of (later_same x fits (word_of old) (word_of new) (a ∷ []) both);
          room = room;
          other_room = other_room;
          counts = counts;
        }

    -- an entry in front of what was confirmed since is left out
    module _ (number : ℕ) where
      old_entry : (replies : List Reply) (before behind : Word) (a : PlainAction) → replies ≡ reply.Entry number a ∷ []
          → word_of old ≡ before ++ a ∷ behind → number ≡ ahead_of r + length before + 1
          → Moves old_new (OnlyOldTells n) m (request.log number) replies old
      old_entry replies before behind a told split place =
          by (parts (actions_of h) (actions_of m.history) before a behind (sym old_word ∙ split))
        where
          by : InFront (actions_of h) before a ⊎ IsBehind (actions_of h) (actions_of m.history) before a behind
              → Moves old_new (OnlyOldTells n) m (request.log number) replies old
          by (inl it) =
              let all = ap length it.1 in
              let long = length-append before (a ∷ it.0) in
              let words = length-map h (λ (spent : Spent). spent.1) in
              let counted = f.counted in
              let low : 0 < number = omega (arith, place) in
              let most : number ≤ n.actions = omega (arith, place, all, long, words, counted) in
              stays old_new (OnlyOldTells n) m (request.log number) replies (refused.entry_left_out ∷ [])
              (inr (subst (λ (rs : List Reply). OnlyOldTells n (request.log number) rs (refused.entry_left_out ∷ [])) (sym told) (alikes.entry a low most)))
              (machine.entry_left_out low most)
          by (inr it) =
              let long = ap length it.1 in
              let joined = length-append (actions_of h) it.0 in
              let other_joined = length-append carried it.0 in
              let words = length-map h (λ (spent : Spent). spent.1) in
              let both = ahead in
              let counted = f.counted in
              let least = few in
              let are = f.carried_are in
              stays old_new (OnlyOldTells n) m (request.log number) replies (reply.Entry number a ∷ []) (inl told)
              (machine.entry (carried ++ it.0) behind
              (new_word ∙ ap (λ (w : Word). carried ++ w) it.2 ∙ sym (append_assoc carried it.0 (a ∷ behind)))
              (omega (arith, place, long, joined, other_joined, words, both))
              (omega (arith, place, long, joined, words, counted)))

      new_entry : (replies : List Reply) (before behind : Word) (a : PlainAction) → replies ≡ reply.Entry number a ∷ []
          → word_of new ≡ before ++ a ∷ behind → number ≡ ahead_of n + length before + 1 → n.actions < number
          → Moves new_old (λ asked one two. OnlyOldTells n asked two one) m (request.log number) replies new
      new_entry replies before behind a told split place above =
          by (parts carried (actions_of m.history) before a behind (sym new_word ∙ split))
        where
          by : InFront carried before a ⊎ IsBehind carried (actions_of m.history) before a behind
              → Moves new_old (λ asked one two. OnlyOldTells n asked two one) m (request.log number) replies new
          by (inl it) =
              let all = ap length it.1 in
              let long = length-append before (a ∷ it.0) in
              let least = few in
              let counted = f.counted in
              let both = ahead in
              absurd (omega (arith, place, above, all, long, least, counted, both))
          by (inr it) =
              let long = ap length it.1 in
              let joined = length-append carried it.0 in
              let other_joined = length-append (actions_of h) it.0 in
              let words = length-map h (λ (spent : Spent). spent.1) in
              let both = ahead in
              let before_that = earlier in
              stays new_old (λ asked one two. OnlyOldTells n asked two one) m (request.log number) replies (reply.Entry number a ∷ []) (inl told)
              (machine.entry (actions_of h ++ it.0) behind
              (old_word ∙ ap (λ (w : Word). actions_of h ++ w) it.2 ∙ sym (append_assoc (actions_of h) it.0 (a ∷ behind)))
              (omega (arith, place, long, joined, other_joined, words, both))
              (omega (arith, above, before_that)))

      -- what the new one left out the old one may have left out already
      new_left_out : 0 < number → number ≤ n.actions
          → Moves new_old (λ asked one two. OnlyOldTells n asked two one) m (request.log number) (refused.entry_left_out ∷ []) new
      new_left_out low most = by (cases_lt r.actions number)
        where
          by : (r.actions < number) ⊎ (number ≤ r.actions)
              → Moves new_old (λ asked one two. OnlyOldTells n asked two one) m (request.log number) (refused.entry_left_out ∷ []) new
          by (inr there_too) =
              stays new_old (λ asked one two. OnlyOldTells n asked two one) m (request.log number) (refused.entry_left_out ∷ [])
              (refused.entry_left_out ∷ []) (inl refl) (machine.entry_left_out low there_too)
          by (inl above) =
              let words = length-map h (λ (spent : Spent). spent.1) in
              let counted = f.counted in
              let it = at_place (actions_of h) (number - ahead_of r - 1) (omega (arith, above, most, words, counted)) in
              let long = it.long in
              stays new_old (λ asked one two. OnlyOldTells n asked two one) m (request.log number) (refused.entry_left_out ∷ [])
              (reply.Entry number it.action ∷ []) (inr (alikes.entry it.action low most))
              (machine.entry it.before (it.behind ++ actions_of m.history)
              (old_word ∙ ap (λ (w : Word). w ++ actions_of m.history) it.split
              ∙ append_assoc it.before (it.action ∷ it.behind) (actions_of m.history))
              (omega (arith, above, long)) above)

    old_logs : (number : ℕ) (replies : List Reply) (after : MachineState) → Step x limit old (request.log number) replies after
        → Moves old_new (OnlyOldTells n) m (request.log number) replies after
    old_logs _ _ _ (machine.entry {number = number} {a = a} before behind split place above) =
        old_entry number (reply.Entry number a ∷ []) before behind a refl split place
    old_logs _ _ _ (machine.entry_left_out {number = number} low most) =
        let before_that = earlier in
        stays old_new (OnlyOldTells n) m (request.log number) (refused.entry_left_out ∷ []) (refused.entry_left_out ∷ []) (inl refl)
        (machine.entry_left_out low (omega (arith, most, before_that)))
    old_logs _ _ _ (machine.no_such_entry {number = number} which) =
        stays old_new (OnlyOldTells n) m (request.log number) (refused.no_such_entry ∷ []) (refused.no_such_entry ∷ []) (inl refl)
        (machine.no_such_entry (subst (λ (c : ℕ). (number ≡ 0) ⊎ (c < number)) counts which))

    new_logs : (number : ℕ) (replies : List Reply) (after : MachineState) → Step x limit new (request.log number) replies after
        → Moves new_old (λ asked one two. OnlyOldTells n asked two one) m (request.log number) replies after
    new_logs _ _ _ (machine.entry {number = number} {a = a} before behind split place above) =
        new_entry number (reply.Entry number a ∷ []) before behind a refl split place above
    new_logs _ _ _ (machine.entry_left_out {number = number} low most) = new_left_out number low most
    new_logs _ _ _ (machine.no_such_entry {number = number} which) =
        stays new_old (λ asked one two. OnlyOldTells n asked two one) m (request.log number) (refused.no_such_entry ∷ [])
        (refused.no_such_entry ∷ []) (inl refl)
        (machine.no_such_entry (subst (λ (c : ℕ). (number ≡ 0) ⊎ (c < number)) (sym counts) which))

    module _ (since : IsSince n.boots m) (ticket : Ticket) where
      -- a ticket of a boot before isn't spent nor reserved since, and was granted
      not_since : ticket.boot ≤ n.boots → IsAbsent ticket m.history
      not_since high = Each-weaker (λ spent above is. let later = above ticket is in omega (arith, high, later)) since.spent

      not_reserved : ticket.boot ≤ n.boots → IsOpenWith m.slot m.moment ticket → ⊥
      not_reserved high reserved =
          let it = held_with m.slot ticket reserved.1 in
          let later = since.held ticket it.0 it.1 it.2 in
          omega (arith, high, later)

      was_granted : IsOfBoots n.boots ticket → IsUngranted m.boot m.number ticket → ⊥
      was_granted of (inl none) = let low = of.low in omega (arith, low, none)
      was_granted of (inr (inl none)) = let low = of.seq in omega (arith, low, none)
      was_granted of (inr (inr (inl above))) = let high = of.high in let later = since.later in omega (arith, high, later, above)
      was_granted of (inr (inr (inr is))) =
          let same = is.0 in let high = of.high in let later = since.later in omega (arith, high, later, same)

      -- one that isn't of them isn't in the old history
      not_before : (IsOfBoots n.boots ticket → ⊥) → IsAbsent ticket h
      not_before none = Each-weaker (λ spent was is. none (was ticket is)) f.sound.tickets

      is_low : (IsUngranted m.boot m.number ticket → ⊥) → 0 < ticket.boot
      is_low granted = elim (cases_lt 0 ticket.boot) [
        | inl low ↦ low
        | inr none ↦ absurd (granted (inl (omega (arith, none))))
      ]

      -- the new one has left it out
      new_refuses : IsOfBoots n.boots ticket → Step x limit new (request.outcome ticket) (refused.ticket_left_out ∷ []) new
      new_refuses of =
          machine.outcome_left_out (Each-append (carries_none ticket carried) (not_since of.high)) (not_reserved of.high) (was_granted of) of.high

      old_confirmed : (place : ℕ) (before behind : PlainHistory) (a : PlainAction) → old.history ≡ before ++ (Some ticket, a) ∷ behind
          → place ≡ ahead_of r + length before + 1
          → Moves old_new (OnlyOldTells n) m (request.outcome ticket) (reply.Outcome (became.Confirmed place) ∷ []) old
      old_confirmed place before behind a split is = by (parts h m.history before (Some ticket, a) behind split)
        where
          by : InFront h before (Some ticket, a) ⊎ IsBehind h m.history before (Some ticket, a) behind
              → Moves old_new (OnlyOldTells n) m (request.outcome ticket) (reply.Outcome (became.Confirmed place) ∷ []) old
          by (inl it) =
              let of = pair_of (WasOfBoots n.boots) h before it.0 (Some ticket, a) it.1 f.sound.tickets ticket refl in
              let all = ap length it.1 in
              let long = length-append before ((Some ticket, a) ∷ it.0) in
              let counted = f.counted in
              stays old_new (OnlyOldTells n) m (request.outcome ticket) (reply.Outcome (became.Confirmed place) ∷ [])
              (refused.ticket_left_out ∷ []) (inr (alikes.confirmed place of.low of.high (omega (arith, is, all, long, counted)))) (new_refuses of)
          by (inr it) =
              let long = ap length it.1 in
              let joined = length-append h it.0 in
              let other_joined = length-append (without_tickets carried) it.0 in
              let carried_there = carried_long in
              let both = ahead in
              stays old_new (OnlyOldTells n) m (request.outcome ticket) (reply.Outcome (became.Confirmed place) ∷ [])
              (reply.Outcome (became.Confirmed place) ∷ []) (inl refl)
              (machine.outcome_confirmed (without_tickets carried ++ it.0) behind a
              (ap (λ (l : PlainHistory). without_tickets carried ++ l) it.2
              ∙ sym (append_assoc (without_tickets carried) it.0 ((Some ticket, a) ∷ behind)))
              (omega (arith, is, long, joined, other_joined, carried_there, both)))

      new_confirmed : (place : ℕ) (before behind : PlainHistory) (a : PlainAction) → new.history ≡ before ++ (Some ticket, a) ∷ behind
          → place ≡ ahead_of n + length before + 1
          → Moves new_old (λ asked one two. OnlyOldTells n asked two one) m (request.outcome ticket)
          (reply.Outcome (became.Confirmed place) ∷ []) new
      new_confirmed place before behind a split is = by (parts (without_tickets carried) m.history before (Some ticket, a) behind split)
        where
          by : InFront (without_tickets carried) before (Some ticket, a)
              ⊎ IsBehind (without_tickets carried) m.history before (Some ticket, a) behind
              → Moves new_old (λ asked one two. OnlyOldTells n asked two one) m (request.outcome ticket)
              (reply.Outcome (became.Confirmed place) ∷ []) new
          by (inl it) =
              absurd (pair_of (λ (spent : Spent). spent.0 ≢ Some ticket) (without_tickets carried) before it.0 (Some ticket, a) it.1
              (carries_none ticket carried) refl)
          by (inr it) =
              let long = ap length it.1 in
              let joined = length-append (without_tickets carried) it.0 in
              let other_joined = length-append h it.0 in
              let carried_there = carried_long in
              let both = ahead in
              stays new_old (λ asked one two. OnlyOldTells n asked two one) m (request.outcome ticket)
              (reply.Outcome (became.Confirmed place) ∷ []) (reply.Outcome (became.Confirmed place) ∷ []) (inl refl)
              (machine.outcome_confirmed (h ++ it.0) behind a
              (ap (λ (l : PlainHistory). h ++ l) it.2 ∙ sym (append_assoc h it.0 ((Some ticket, a) ∷ behind)))
              (omega (arith, is, long, joined, other_joined, carried_there, both)))

      -- a ticket that the old one told to be over is left out where its boot is one before
      old_never : IsAbsent ticket old.history → (IsOpenWith m.slot m.moment ticket → ⊥) → (IsUngranted m.boot m.number ticket → ⊥)
          → Moves old_new (OnlyOldTells n) m (request.outcome ticket) (reply.Outcome became.Never ∷ []) old
      old_never absent shut granted = by (cases_lt n.boots ticket.boot)
        where
          new_absent : IsAbsent ticket new.history
          new_absent = Each-append (carries_none ticket carried) (Each-right h m.history absent)

          by : (n.boots < ticket.boot) ⊎ (ticket.boot ≤ n.boots)
              → Moves old_new (OnlyOldTells n) m (request.outcome ticket) (reply.Outcome became.Never ∷ []) old
          by (inl above) =
              stays old_new (OnlyOldTells n) m (request.outcome ticket) (reply.Outcome became.Never ∷ []) (reply.Outcome became.Never ∷ [])
              (inl refl) (machine.outcome_never new_absent shut granted above)
          by (inr high) =
              stays old_new (OnlyOldTells n) m (request.outcome ticket) (reply.Outcome became.Never ∷ []) (refused.ticket_left_out ∷ [])
              (inr (alikes.never (is_low granted) high)) (machine.outcome_left_out new_absent shut granted high)

      -- what the old one told of a ticket that was left out
      new_ticket_left_out : IsAbsent ticket new.history → (IsOpenWith m.slot m.moment ticket → ⊥) → (IsUngranted m.boot m.number ticket → ⊥)
          → ticket.boot ≤ n.boots
          → Moves new_old (λ asked one two. OnlyOldTells n asked two one) m (request.outcome ticket) (refused.ticket_left_out ∷ []) new
      new_ticket_left_out absent shut granted high = by (kept_or_absent ticket h) (cases_lt r.boots ticket.boot)
        where
          by : IsKept h ticket ⊎ IsAbsent ticket h → (r.boots < ticket.boot) ⊎ (ticket.boot ≤ r.boots)
              → Moves new_old (λ asked one two. OnlyOldTells n asked two one) m (request.outcome ticket) (refused.ticket_left_out ∷ []) new
          by (inl it) _ =
              let all = ap length it.split in
              let long = length-append it.before ((Some ticket, it.action) ∷ it.behind) in
              let counted = f.counted in
              stays new_old (λ asked one two. OnlyOldTells n asked two one) m (request.outcome ticket) (refused.ticket_left_out ∷ [])
              (reply.Outcome (became.Confirmed (ahead_of r + length it.before + 1)) ∷ [])
              (inr (alikes.confirmed (ahead_of r + length it.before + 1) (is_low granted) high (omega (arith, all, long, counted))))
              (machine.outcome_confirmed it.before (it.behind ++ m.history) it.action
              (ap (λ (l : PlainHistory). l ++ m.history) it.split
              ∙ append_assoc it.before ((Some ticket, it.action) ∷ it.behind) m.history)
              refl)
          by (inr none) (inl above) =
              stays new_old (λ asked one two. OnlyOldTells n asked two one) m (request.outcome ticket) (refused.ticket_left_out ∷ [])
              (reply.Outcome became.Never ∷ []) (inr (alikes.never (is_low granted) high))
              (machine.outcome_never (Each-append none (not_since high)) shut granted above)
          by (inr none) (inr there_too) =
              stays new_old (λ asked one two. OnlyOldTells n asked two one) m (request.outcome ticket) (refused.ticket_left_out ∷ [])
              (refused.ticket_left_out ∷ []) (inl refl)
              (machine.outcome_left_out (Each-append none (not_since high)) shut granted there_too)

    module _ (since : IsSince n.boots m) where
      old_outcomes : (ticket : Ticket) (replies : List Reply) (after : MachineState) → Step x limit old (request.outcome ticket) replies after
          → Moves old_new (OnlyOldTells n) m (request.outcome ticket) replies after
      old_outcomes _ _ _ (machine.outcome_confirmed {ticket = ticket} {place = place} before behind a split is) =
          old_confirmed since ticket place before behind a split is
      old_outcomes _ _ _ (machine.outcome_open {ticket = ticket} absent reserved) =
          stays old_new (OnlyOldTells n) m (request.outcome ticket) (reply.Outcome became.Waiting ∷ []) (reply.Outcome became.Waiting ∷ [])
          (inl refl) (machine.outcome_open (Each-append (carries_none ticket carried) (Each-right h m.history absent)) reserved)
      old_outcomes _ _ _ (machine.outcome_no_such {ticket = ticket} absent shut none) =
          stays old_new (OnlyOldTells n) m (request.outcome ticket) (refused.no_such_ticket ∷ []) (refused.no_such_ticket ∷ [])
          (inl refl) (machine.outcome_no_such (Each-append (carries_none ticket carried) (Each-right h m.history absent)) shut none)
      old_outcomes _ _ _ (machine.outcome_left_out {ticket = ticket} absent shut granted low) =
          let before_that = f.sound.earlier in
          stays old_new (OnlyOldTells n) m (request.outcome ticket) (refused.ticket_left_out ∷ []) (refused.ticket_left_out ∷ [])
          (inl refl)
          (machine.outcome_left_out (Each-append (carries_none ticket carried) (Each-right h m.history absent)) shut granted
          (omega (arith, low, before_that)))
      old_outcomes _ _ _ (machine.outcome_never {ticket = ticket} absent shut granted above) = old_never since ticket absent shut granted

      new_outcomes : (ticket : Ticket) (replies : List Reply) (after : MachineState) → Step x limit new (request.outcome ticket) replies after
          → Moves new_old (λ asked one two. OnlyOldTells n asked two one) m (request.outcome ticket) replies after
      new_outcomes _ _ _ (machine.outcome_confirmed {ticket = ticket} {place = place} before behind a split is) =
          new_confirmed since ticket place before behind a split is
      new_outcomes _ _ _ (machine.outcome_open {ticket = ticket} absent reserved) =
          let none = not_before since ticket (λ of. not_reserved since ticket of.high reserved) in
          stays new_old (λ asked one two. OnlyOldTells n asked two one) m (request.outcome ticket) (reply.Outcome became.Waiting ∷ [])
          (reply.Outcome became.Waiting ∷ []) (inl refl)
          (machine.outcome_open (Each-append none (Each-right (without_tickets carried) m.history absent)) reserved)
      new_outcomes _ _ _ (machine.outcome_no_such {ticket = ticket} absent shut none_granted) =
          let none = not_before since ticket (λ of. was_granted since ticket of none_granted) in
          stays new_old (λ asked one two. OnlyOldTells n asked two one) m (request.outcome ticket) (refused.no_such_ticket ∷ [])
          (refused.no_such_ticket ∷ []) (inl refl)
          (machine.outcome_no_such (Each-append none (Each-right (without_tickets carried) m.history absent)) shut none_granted)
      new_outcomes _ _ _ (machine.outcome_left_out {ticket = ticket} absent shut granted high) =
          new_ticket_left_out since ticket absent shut granted high
      new_outcomes _ _ _ (machine.outcome_never {ticket = ticket} absent shut granted above) =
          let none = not_before since ticket (λ of. let high = of.high in omega (arith, high, above)) in
          let before_that = f.sound.earlier in
          stays new_old (λ asked one two. OnlyOldTells n asked two one) m (request.outcome ticket) (reply.Outcome became.Never ∷ [])
          (reply.Outcome became.Never ∷ []) (inl refl)
          (machine.outcome_never (Each-append none (Each-right (without_tickets carried) m.history absent)) shut granted
          (omega (arith, above, before_that)))

  -- each step of the one is a step of the other
  old_moves : (m : MachineState) → IsSince n.boots m → length (here old_new m).history + 0 < most_actions
      → (asked : PlainRequest) (told : List Reply) (behind : MachineState) → Step x limit (here old_new m) asked told behind
      → Moves old_new (OnlyOldTells n) m asked told behind
  old_moves m since room asked told behind step =
      step_moves old_new (OnlyOldTells n) m (act_alike m (omega (arith, room))) (old_outcomes m since) (old_logs m) step

  new_moves : (m : MachineState) → IsSince n.boots m → length (here new_old m).history + length h < most_actions + length carried
      → (asked : PlainRequest) (told : List Reply) (behind : MachineState) → Step x limit (here new_old m) asked told behind
      → Moves new_old (λ one two three. OnlyOldTells n one three two) m asked told behind
  new_moves m since room asked told behind step =
      let long = length-append h m.history in
      let other_long = length-append (without_tickets carried) m.history in
      let carried_there = carried_long in
      step_moves new_old (λ one two three. OnlyOldTells n one three two) m
      (swapped (act_alike m (omega (arith, room, long, other_long, carried_there))))
      (new_outcomes m since) (new_logs m) step

  old_runs : (boot : ℕ) → n.boots < boot → (events : List GivenEvent) (answers : List (List (List Reply))) (last : MachineState)
      (ending : Ending) → Run (opening_of x limit h r boot) events answers last ending → length last.history < most_actions
      → RunMoves old_new (AnswerEventsAlike n) n.boots boot events answers last ending
  old_runs boot later events answers last ending run room =
      run_moves old_new n.boots (OnlyOldTells n) (AnswerAlike n)
      (λ it replies. alikes.same)
      (λ bytes asked one two valid words left. alikes.left_out valid words left)
      0 most_actions old_moves (AnswerItemsAlike n)
      (λ its. AnswerItemsAlike.none)
      (λ it its one two old new alike rest. AnswerItemsAlike.more alike rest)
      boot later (AnswerEventsAlike n) AnswerEventsAlike.none
      (λ events old new given completed one two alike completes rest. AnswerEventsAlike.more given completed one two alike completes rest)
      (omega (arith, room)) run

  new_runs : (boot : ℕ) → n.boots < boot → (events : List GivenEvent) (others : List (List (List Reply))) (end : MachineState)
      (ending : Ending) → Run (opening_of x limit (without_tickets carried) n boot) events others end ending
      → length end.history + length h < most_actions + length carried
      → RunMoves new_old (λ its two one. AnswerEventsAlike n its one two) n.boots boot events others end ending
  new_runs boot later events others end ending run room =
      run_moves new_old n.boots (λ asked two one. OnlyOldTells n asked one two) (λ it two one. AnswerAlike n it one two)
      (λ it replies. alikes.same)
      (λ bytes asked two one valid words left. alikes.left_out valid words left)
      (length h) (most_actions + length carried) new_moves (λ its two one. AnswerItemsAlike n its one two)
      (λ its. AnswerItemsAlike.none)
      (λ it its two one new old alike rest. AnswerItemsAlike.more alike rest)
      boot later (λ its two one. AnswerEventsAlike n its one two) AnswerEventsAlike.none
      (λ events new old given completed two one alike completes rest. AnswerEventsAlike.more given completed one two alike completes rest)
      room run

-- what both starts are
module _ (file : List ℕ) (old new : Opening) (both : StartBeside file old new) where
  abbrev stands : Renewed
  stands = record { carried = length both.carried; actions = both.actions; boots = both.boots }

  history_is : old.history ≡ both.renewal.history
  history_is =
      one_history file old.history both.renewal.history both.starts.recovers
      (file_recovers old.form old.limit file both.carried both.actions both.boots both.renewal)

  said : (old.renewed ≡ renewed_of both.renewal.marks) × (both.starts.boots ≡ both.renewal.marks.boots)
  said =
      one_number file old.renewed (renewed_of both.renewal.marks) both.starts.boots both.renewal.marks.boots both.starts.holds
      (file_holds old.form old.limit file both.carried both.actions both.boots both.renewal)

  new_history : without_tickets both.carried ≡ new.history
  new_history =
      one_history _ (without_tickets both.carried) new.history
      (image_recovers old.form old.limit file both.carried both.actions both.boots both.renewal)
      both.starts_anew.recovers

  new_said : (stands ≡ new.renewed) × (both.boots ≡ both.starts_anew.boots)
  new_said =
      one_number _ stands new.renewed both.boots both.starts_anew.boots
      (image_holds old.form old.limit file both.carried both.actions both.boots both.renewal)
      both.starts_anew.holds

  boots_are : both.boots ≡ both.starts.boots
  boots_are = both.renewal.booted ∙ sym said.1

  boot_is : old.boot ≡ new.boot
  boot_is =
      let one = both.starts.next in
      let two = both.starts_anew.next in
      let three = new_said.1 in
      let four = boots_are in
      omega (arith, one, two, three, four)

  -- the new opening
  new_is : opening_of old.form old.limit (without_tickets both.carried) stands old.boot ≡ new
  new_is = λ i. opening_of (sym both.form i) (sym both.limit i) (new_history i) (new_said.0 i) (boot_is i)

  renewal : Renewal old.form old.limit old.history old.renewed both.carried stands
  renewal = record {
    formed = both.formed;
    carries = subst (λ (h : PlainHistory). IsCarriedFor old.form old.limit (actions_of h) both.carried) (sym history_is) both.renewal.carries;
    counted = both.renewal.counted ∙ (λ i. count_of (sym said.0 i) (sym history_is i));
    carried_are = refl;
    sound = subst (IsSound old.history old.renewed) (sym boots_are) (start_sound old file both.starts);
  }

  later : stands.boots < old.boot
  later = let one = both.starts.next in let two = boots_are in omega (arith, one, two)

old_runs_are_met : OldRunsAreMet
old_runs_are_met file old new events answers last ending both run room =
    let n = stands file old new both in
    let made =
    old_runs old.form old.limit old.history old.renewed both.carried n (renewal file old new both) old.boot (later file old new both)
    events answers last ending run room in (
      made.others,
      placed (without_tickets both.carried) n made.next,
      subst (λ (o : Opening). Run o events made.others (placed (without_tickets both.carried) n made.next) ending) (new_is file old new both) made.run,
      subst (λ (r : Renewed). AnswerEventsAlike r events answers made.others) (new_said file old new both).0 made.alike,
    )

new_runs_are_met : NewRunsAreMet
new_runs_are_met file old new events others end ending both run room =
    let n = stands file old new both in
    let same = new_is file old new both in
    let again = subst (λ (o : Opening). Run o events others end ending) (sym same) run in
    let f = renewal file old new both in
    let stood = ap ahead_of (run_renewed again) in
    let ahead_there = ahead old.form old.limit old.history old.renewed both.carried n f in
    let made =
    new_runs old.form old.limit old.history old.renewed both.carried n f old.boot (later file old new both) events others end ending again
    (omega (arith, room, stood, ahead_there)) in
    let end_long = ap (λ (v : MachineState). length v.history) made.is in
    let long = length-append old.history made.next.history in
    let other_long = length-append (without_tickets both.carried) made.next.history in
    let carried_there = carried_long old.form old.limit old.history old.renewed both.carried n f in (
      made.others,
      placed old.history old.renewed made.next,
      made.run,
      subst (λ (r : Renewed). AnswerEventsAlike r events made.others others) (new_said file old new both).0 made.alike,
      omega (arith, room, stood, ahead_there, end_long, long, other_long, carried_there),
    )

pub renewed_runs_answer_alike : RenewedRunsAnswerAlike
renewed_runs_answer_alike = (old_runs_are_met, new_runs_are_met)
