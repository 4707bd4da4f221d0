-- What holds of the states that come later also over renewals.
use Rattle.std.proofs.Common.{◌≡◌, ◌⊎◌, inl, inr, ℕ, ◌<◌, ◌≤◌, List, [], ◌∷◌, ◌++◌, length, Some, None, refl, sym, ◌∙◌, ap, subst, arith}
use Rattle.std.specs.Bool.{⊤}
use Rattle.std.proofs.lemmas.List.{length-append, length-map}
use Rattle.ix_words.specs.Each.{no_item, item}
use Rattle.ix_values.specs.PlainAction.{PlainAction, Word}
use Rattle.ix_values.specs.declared.tickets.Ticket.{Ticket}
use Rattle.ix_journal.specs.History.{PlainHistory, Spent}
use Rattle.ix_journal.specs.declared.entries.Renewed.{Renewed}
use Rattle.ix_expr.specs.Form.{Form}
use Rattle.ix_proto.specs.Requests as request
use Rattle.ix_proto.specs.Requests.{PlainRequest}
use Rattle.ix_proto.specs.declared.reply.Reply.{Reply}
use Rattle.ix_proto.specs.declared.reply.Reply.TheVariants as reply
use Rattle.ix_manager.specs.Refusals as refused
use Rattle.ix_manager.specs.Later.{Later, MayKeep, whole, confirming}
use Rattle.ix_manager.specs.LaterLaws.{IsEntryOf}
use Rattle.ix_manager.specs.Machine.{IsAbsent, MachineState, Step, ahead_of, count, count_of, entry, entry_left_out, no_such_entry, word_of}
use Rattle.ix_manager.proofs.LaterLemmas.{entry_stays, later_grows, later_renewed}
use Rattle.ix_manager.proofs.SlotLemmas.{free_holds}
use Rattle.ix_manager.proofs.StartTickets.{start_well}
use Rattle.ix_manager.proofs.TicketLemmas.{IsOver, later_well, over_begins, stays_over, well_holds}
use Rattle.ix_renew.specs.LaterRenewals.{CountsGoOn, LaterRenewed, OverTicketsStayOverRenewals, RenewalsKeepTheCount, ToldNumbersStay, goes_on, renews, start_renewed, without_tickets}

-- no carried action has a ticket
carries_none : (ticket : Ticket) (carried : Word) → IsAbsent ticket (without_tickets carried)
carries_none ticket [] = no_item
carries_none ticket (a ∷ carried) = item (λ is. let no : None ≡ Some ticket = is in cc) (carries_none ticket carried)

-- a ticket that is over where a journal is renewed is over in the next boot
over_renews : (s : MachineState) (kept : PlainHistory) (carried : Word) (ticket : Ticket) → IsOver s ticket
    → IsOver (start_renewed s kept carried) ticket
over_renews s kept carried ticket over = record {
  granted = let earlier = over.granted.earlier in record {
    earlier = omega (arith, earlier);
    below = λ same. absurd (omega (arith, earlier, same));
  };
  absent = carries_none ticket carried;
  shut = λ a deadline is. free_holds _ a deadline is;
}

stays_over_renewals : {x : Form} {s later : MachineState} {ticket : Ticket} → LaterRenewed x s later → IsOver s ticket → IsOver later ticket
stays_over_renewals (goes_on rest) over = stays_over rest over
stays_over_renewals {ticket = ticket} (renews {between = between} {kept = kept} {carried = carried} first may carries rest) over =
    stays_over_renewals rest (over_renews between kept carried ticket (stays_over first over))

pub over_tickets_stay_over : OverTicketsStayOverRenewals
over_tickets_stay_over opening image s after later limit asked replies ticket starts reached step tells rest =
    (stays_over_renewals rest (over_begins step (well_holds s (later_well reached (start_well opening image starts))) tells)).absent

-- the count rises
count_rises : {x : Form} {s later : MachineState} → Later x s later → count s ≤ count later
count_rises {s = s} {later = later} rest =
    let grows = later_grows rest in
    let long = ap length grows.1 in
    let parts = length-append s.history grows.0 in
    let ahead = ap ahead_of (later_renewed rest) in
    omega (arith, long, parts, ahead)

-- a crash loses no count
kept_counts : {s : MachineState} {kept : PlainHistory} → MayKeep s kept → count s ≤ count_of s.renewed kept
kept_counts whole = omega arith
kept_counts {s = s} (confirming {ticket = ticket} {a = a} held before) =
    let parts = length-append s.history ((Some ticket, a) ∷ []) in omega (arith, parts)

-- as many are carried
carried_long : (carried : Word) → length (without_tickets carried) ≡ length carried
carried_long carried = length-map carried (λ (a : PlainAction). (None, a))

renewed_counts : (s : MachineState) (kept : PlainHistory) (carried : Word) → count_of s.renewed kept ≤ count (start_renewed s kept carried)
renewed_counts s kept carried = let long = carried_long carried in omega (arith, long)

counts_dont_fall : {x : Form} {s later : MachineState} → LaterRenewed x s later → count s ≤ count later
counts_dont_fall (goes_on rest) = count_rises rest
counts_dont_fall (renews {between = between} {kept = kept} {carried = carried} first may carries rest) =
    let one = count_rises first in
    let two = kept_counts may in
    let three = renewed_counts between kept carried in
    let four = counts_dont_fall rest in
    omega (arith, one, two, three, four)

renewals_keep_the_count : RenewalsKeepTheCount
renewals_keep_the_count x limit s kept carried carries =
    let long = carried_long carried in
    let few = carries.few in
    let same = length-map kept (λ (spent : Spent). spent.1) in
    omega (arith, long, few, same)

pub counts_go_on : CountsGoOn
counts_go_on = (λ x s later rest. counts_dont_fall rest, renewals_keep_the_count)

-- the number is this action's in the history, or is left out
abbrev IsTold : ℕ → PlainAction → MachineState → Type 0
IsTold number a s =
    IsEntryOf s.renewed (word_of s) number a ⊎ ((number ≤ s.renewed.actions) × (s.renewed.carried ≤ length s.history))

told_later : {x : Form} {s later : MachineState} (number : ℕ) (a : PlainAction) → Later x s later → IsTold number a s → IsTold number a later
told_later {s = s} {later = later} number a rest (inl is) =
    inl (subst (λ (r : Renewed). IsEntryOf r (word_of later) number a) (sym (later_renewed rest))
    (entry_stays s.renewed s.history later.history number a (later_grows rest) is))
told_later {s = s} number a rest (inr left) =
    let grows = later_grows rest in
    let long = ap length grows.1 in
    let parts = length-append s.history grows.0 in
    let actions = ap (λ (r : Renewed). r.actions) (later_renewed rest) in
    let carried = ap (λ (r : Renewed). r.carried) (later_renewed rest) in
    let below = left.0 in
    let within = left.1 in
    inr (omega (arith, below, actions), omega (arith, within, long, parts, carried))

-- a number that was told isn't above the count, nor 0 where it isn't left out
told_within : (s : MachineState) (number : ℕ) (a : PlainAction) → IsTold number a s → number ≤ count s
told_within s number a (inl is) =
    let split = ap length is.split in
    let parts = length-append is.before (a ∷ is.behind) in
    let same = length-map s.history (λ (spent : Spent). spent.1) in
    let place = is.place in
    omega (arith, split, parts, same, place)
told_within s number a (inr left) =
    let below = left.0 in let within = left.1 in omega (arith, below, within)

told_renewals : {x : Form} {s later : MachineState} (number : ℕ) (a : PlainAction) → LaterRenewed x s later → IsTold number a s → IsTold number a later
told_renewals number a (goes_on rest) told = told_later number a rest told
told_renewals number a (renews {between = between} {kept = kept} {carried = carried} first may carries rest) told =
    let below = told_within between number a (told_later number a first told) in
    let keeps = kept_counts may in
    let long = carried_long carried in
    told_renewals number a rest (inr (omega (arith, below, keeps), omega (arith, long)))

-- a reply to a `log` that tells an action
abbrev TellsSo : PlainRequest → List Reply → MachineState → Type 0
TellsSo (request.log number) (reply.Entry told a ∷ []) after = (0 < number) × IsTold number a after
TellsSo _ _ after = ⊤

told_first : {x : Form} {limit : ℕ} {s after : MachineState} {asked : PlainRequest} {replies : List Reply}
    → Step x limit s asked replies after → TellsSo asked replies after
told_first (entry before behind split place above) =
    (omega (arith, place), inl (record { before = before; behind = behind; split = split; place = place }))
told_first _ = tt

-- what a later `log` of this number answers
abbrev AnswersSo : ℕ → PlainAction → PlainRequest → List Reply → Type 0
AnswersSo number a (request.log asked) replies =
    asked ≡ number → (replies ≡ reply.Entry number a ∷ []) ⊎ (replies ≡ refused.entry_left_out ∷ [])
AnswersSo number a _ replies = ⊤

-- one place of a word has one action
same_at : (one two behind other : Word) (a b : PlainAction) → one ++ a ∷ behind ≡ two ++ b ∷ other → length one ≡ length two → a ≡ b
same_at [] [] behind other a b same long = let first : a ≡ b = cc in first
same_at [] (c ∷ two) behind other a b same long = absurd (omega (arith, long))
same_at (c ∷ one) [] behind other a b same long = absurd (omega (arith, long))
same_at (c ∷ one) (d ∷ two) behind other a b same long =
    let rest : one ++ a ∷ behind ≡ two ++ b ∷ other = cc in
    same_at one two behind other a b rest (omega (arith, long))

-- an entry that is answered is the one that was told
same_entry : (s : MachineState) (number own : ℕ) (a b : PlainAction) → IsTold number a s → own ≡ number → IsEntryOf s.renewed (word_of s) own b
    → s.renewed.actions < own → b ≡ a
same_entry s number own a b (inl is) same it above =
    let one = it.place in
    let two = is.place in
    same_at it.before is.before it.behind is.behind b a (sym it.split ∙ is.split) (omega (arith, one, two, same))
same_entry s number own a b (inr left) same it above = let below = left.0 in absurd (omega (arith, below, same, above))

told_last : {x : Form} {limit : ℕ} {s after : MachineState} {asked : PlainRequest} {replies : List Reply} (number : ℕ) (a : PlainAction)
    → Step x limit s asked replies after → 0 < number → IsTold number a s → AnswersSo number a asked replies
told_last {s = s} number a (entry {number = own} {a = b} before behind split place above) first told = λ same.
    let it : IsEntryOf s.renewed (word_of s) own b = record { before = before; behind = behind; split = split; place = place } in
    inl (λ i. reply.Entry (same i) (same_entry s number own a b told same it above i) ∷ [])
told_last number a (entry_left_out low most) first told = λ same. inr refl
told_last {s = s} number a (no_such_entry {number = own} which) first told = λ same. absurd (none which same)
  where
    none : (own ≡ 0) ⊎ (count s < own) → own ≡ number → ⊥
    none (inl zero) same = omega (arith, zero, same, first)
    none (inr above) same = let within = told_within s number a told in omega (arith, above, same, within)
told_last number a _ first told = tt

pub told_numbers_stay : ToldNumbersStay
told_numbers_stay x limit other s after later last number a replies step rest again =
    let told = told_first step in
    told_last number a again told.0 (told_renewals number a rest told.1) refl
