-- What a run's status tells of the counts.
use Rattle.std.proofs.Common.{◌≡◌, ◌≢◌, ◌⊎◌, inl, inr, ℕ, ◌+◌, ◌-◌, ◌^◌, ◌<◌, ◌≤◌, suc, List, Result, Ok, Err, refl, sym, ◌∙◌, ap, subst, arith}
use Rattle.std.proofs.lemmas.Bool.{cases_lt}
use Rattle.ix_values.specs.PlainAction.{PlainAction}
use Rattle.ix_values.specs.declared.tickets.Ticket.{Ticket}
use Rattle.ix_outside.specs.Counts.{Rose}
use Rattle.ix_outside.specs.SinkState.{SinkState}
use Rattle.ix_client.specs.Client.{ClientEnds, GoesOnBehind, GoesOnAfter, NamesAsk, Runs, Serves, TakesTurn, TakesTurns, again, another, bad_words, comes_to, done, ends, ends_with, left_out, never, none_left, serves, unsure, usage}
use Rattle.ix_client.specs.Rising.{RoseBy}
use Rattle.ix_client.specs.Endings.{PutsLine, part, status_of, whole}
use Rattle.ix_client.specs.Grant.{Grant}
use Rattle.ix_client.specs.Hearing.{Asks, Confirms}
use Rattle.ix_client.specs.Rising.{EitherRose}
use Rattle.ix_client.specs.Links.{LinkState, NoFewer}
use Rattle.ix_client.specs.declared.ended.Ended.{Ended}
use Rattle.ix_client.specs.declared.ended.Ended.TheVariants as ended
use Rattle.ix_client.specs.declared.grants.AskFault.{AskFault}
use Rattle.ix_client.specs.declared.grants.AskFault.TheVariants as fault
use Rattle.ix_client.specs.declared.grants.Confirm.{Confirm}
use Rattle.ix_client.specs.declared.grants.Confirm.TheVariants as confirm
use Rattle.ix_client.specs.declared.turns.Turned.{Turned}
use Rattle.ix_client.specs.declared.turns.Turned.TheVariants as turned
use Rattle.ix_client.proofs.CauseLemmas.{odd_answers_have_a_cause}

-- counts over stretches of calls

no_fewer : (s t u : LinkState) → NoFewer s t → NoFewer t u → NoFewer s u
no_fewer s t u first second = record {
  faults = let f = first.faults in let g = second.faults in omega (arith, f, g);
  balks = let f = first.balks in let g = second.balks in omega (arith, f, g);
}

same_counts : (s u : LinkState) → u ≡ s → NoFewer s u
same_counts s u is = subst (NoFewer s) (sym is) (record { faults = omega arith; balks = omega arith })

rose_later : (a b c : ℕ) → Rose a b → b ≤ c → Rose a c
rose_later a b c rose more = omega (arith, rose, more)

rose_earlier : (a b c : ℕ) → a ≤ b → Rose b c → Rose a c
rose_earlier a b c more rose = omega (arith, rose, more)

either_later : (s t u : LinkState) → EitherRose s t → NoFewer t u → EitherRose s u
either_later s t u (inl rose) more = inl (rose_later s.faults t.faults u.faults rose more.faults)
either_later s t u (inr rose) more = inr (rose_later s.balks t.balks u.balks rose more.balks)

either_earlier : (s t u : LinkState) → NoFewer s t → EitherRose t u → EitherRose s u
either_earlier s t u more (inl rose) = inl (rose_earlier s.faults t.faults u.faults more.faults rose)
either_earlier s t u more (inr rose) = inr (rose_earlier s.balks t.balks u.balks more.balks rose)

rose_or_full : (a b : ℕ) → Rose a b → (a + 1 ≤ b) ⊎ (2 ^ 64 - 1 ≤ b)
rose_or_full a b rose = elim (cases_lt b (2 ^ 64 - 1)) [
  | inl below ↦ inl (omega (arith, rose, below))
  | inr full ↦ inr full
]

-- one call
rose_once : (s u : LinkState) → NoFewer s u → EitherRose s u → RoseBy 1 s u
rose_once s u more (inl rose) = elim (rose_or_full s.faults u.faults rose) [
  | inl up ↦ let m = more.balks in inl (omega (arith, up, m))
  | inr full ↦ inr (inl full)
]
rose_once s u more (inr rose) = elim (rose_or_full s.balks u.balks rose) [
  | inl up ↦ let m = more.faults in inl (omega (arith, up, m))
  | inr full ↦ inr (inr full)
]

rose_both : (m n : ℕ) (s t u : LinkState) → RoseBy m s t → NoFewer t u → RoseBy n t u → RoseBy (m + n) s u
rose_both m n s t u (inl first) more (inl second) = inl (omega (arith, first, second))
rose_both m n s t u (inr (inl full)) more second = let f = more.faults in inr (inl (omega (arith, full, f)))
rose_both m n s t u (inr (inr full)) more second = let f = more.balks in inr (inr (omega (arith, full, f)))
rose_both m n s t u (inl first) more (inr full) = inr full

-- turns

unsure_confirmed : (g back : Grant) (confirmed : Confirm) (s u : LinkState) → turned.Unsure back ≡ comes_to confirmed → Confirms g confirmed s u → EitherRose s u
unsure_confirmed g back (confirm.Done number) s u is confirms = absurd cc
unsure_confirmed g back confirm.Expired s u is confirms = absurd cc
unsure_confirmed g back (confirm.Unsure other) s u is confirms = odd_answers_have_a_cause.unsure s u g other (inl confirms)

turn_counts : (g : Grant) (how : Turned) (s u : LinkState) → TakesTurn g how s u → NoFewer s u
turn_counts g how s u (done number settles is) = settles.hears.counts
turn_counts g how s u (never settles is) = settles.hears.counts
turn_counts g how s u (left_out settles is) = settles.hears.counts
turn_counts g how s u (again back confirmed t settles confirms is) = no_fewer s t u settles.hears.counts confirms.hears.counts
turn_counts g how s u (unsure back settles is) = settles.hears.counts

unsure_turn : (g back : Grant) (s u : LinkState) → TakesTurn g (turned.Unsure back) s u → EitherRose s u
unsure_turn g back s u (done number settles is) = absurd cc
unsure_turn g back s u (never settles is) = absurd cc
unsure_turn g back s u (left_out settles is) = absurd cc
unsure_turn g back s u (again other confirmed t settles confirms is) =
    either_earlier s t u settles.hears.counts (unsure_confirmed other back confirmed t u is confirms)
unsure_turn g back s u (unsure other settles is) = odd_answers_have_a_cause.unsure s u g other (inr (inr settles))

-- a turn that ends a run doesn't leave it unsure
no_unsure : (confirmed : Confirm) (ticket : Ticket) → turned.Over (ended.Unsure ticket) ≢ comes_to confirmed
no_unsure (confirm.Done number) ticket is = cc
no_unsure confirm.Expired ticket is = cc
no_unsure (confirm.Unsure g) ticket is = cc

sure_end : (g : Grant) (how : Ended) (ticket : Ticket) (s u : LinkState) → TakesTurn g (turned.Over how) s u → how ≢ ended.Unsure ticket
sure_end g how ticket s u (done number settles is) same = cc
sure_end g how ticket s u (never settles is) same = cc
sure_end g how ticket s u (left_out settles is) same = cc
sure_end g how ticket s u (again back confirmed t settles confirms is) same =
    no_unsure confirmed ticket (ap (λ (v : Ended). turned.Over v) (sym same) ∙ is)
sure_end g how ticket s u (unsure back settles is) same = cc

turns_counts : {n : ℕ} {g : Grant} {how : Ended} {s u : LinkState} → TakesTurns n g how s u → NoFewer s u
turns_counts {s = s} none_left = same_counts s s refl
turns_counts {g = g} {how = how} {s = s} {u = u} (ends turn) = turn_counts g (turned.Over how) s u turn
turns_counts {g = g} {s = s} {u = u} (another {back = back} {t = t} turn turns) =
    no_fewer s t u (turn_counts g (turned.Unsure back) s t turn) (turns_counts turns)

turns_rose : {n : ℕ} {g : Grant} {how : Ended} {s u : LinkState} (ticket : Ticket) → TakesTurns n g how s u → how ≡ ended.Unsure ticket → RoseBy n s u
turns_rose ticket none_left is = inl (omega arith)
turns_rose {g = g} {how = how} {s = s} {u = u} ticket (ends turn) is = absurd (sure_end g how ticket s u turn is)
turns_rose {g = g} {s = s} {u = u} ticket (another {n = n} {back = back} {t = t} turn turns) is =
    let first = rose_once s t (turn_counts g (turned.Unsure back) s t turn) (unsure_turn g back s t turn) in
    let rest = rose_both 1 n s t u first (turns_counts turns) (turns_rose ticket turns is) in
    let one_more : 1 + n ≡ suc n = omega arith in
    subst (λ m. RoseBy m s u) one_more rest

-- behind the first confirm

from_counts : (first : Turned) (how : Ended) (s u : LinkState) → GoesOnAfter first how s u → NoFewer s u
from_counts (turned.Over over) how s u goes = same_counts s u goes.1
from_counts (turned.Unsure g) how s u turns = turns_counts turns

behind_counts : (asked : Result Grant AskFault) (how : Ended) (s u : LinkState) → GoesOnBehind asked how s u → NoFewer s u
behind_counts (Ok g) how s u (confirmed, t, confirms, goes) = no_fewer s t u confirms.hears.counts (from_counts (comes_to confirmed) how t u goes)
behind_counts (Err why) how s u (is, same) = same_counts s u same

-- a run that ended with never, or unsure, or blames the link

never_from : (g : Grant) (confirmed : Confirm) (s t u : LinkState) → Confirms g confirmed s t → GoesOnAfter (comes_to confirmed) ended.Never t u → EitherRose s u
never_from g (confirm.Done number) s t u confirms goes = absurd (let no_end : ended.Never ≡ ended.Done number = goes.0 in cc)
never_from g confirm.Expired s t u confirms goes =
    either_later s t u (inr (odd_answers_have_a_cause.expired s t g (inl confirms))) (same_counts t u goes.1)
never_from g (confirm.Unsure back) s t u confirms turns =
    either_later s t u (odd_answers_have_a_cause.unsure s t g back (inl confirms)) (turns_counts turns)

left_out_from : (g : Grant) (ticket : Ticket) (confirmed : Confirm) (s t u : LinkState) → Confirms g confirmed s t
    → GoesOnAfter (comes_to confirmed) (ended.LeftOut ticket) t u → EitherRose s u
left_out_from g ticket (confirm.Done number) s t u confirms goes = absurd (let no_end : ended.LeftOut ticket ≡ ended.Done number = goes.0 in cc)
left_out_from g ticket confirm.Expired s t u confirms goes = absurd (let no_end : ended.LeftOut ticket ≡ ended.Never = goes.0 in cc)
left_out_from g ticket (confirm.Unsure back) s t u confirms turns =
    either_later s t u (odd_answers_have_a_cause.unsure s t g back (inl confirms)) (turns_counts turns)

unsure_from : (g : Grant) (ticket : Ticket) (confirmed : Confirm) (s t u : LinkState) → Confirms g confirmed s t
    → GoesOnAfter (comes_to confirmed) (ended.Unsure ticket) t u → RoseBy 9 s u
unsure_from g ticket (confirm.Done number) s t u confirms goes = absurd (let no_end : ended.Unsure ticket ≡ ended.Done number = goes.0 in cc)
unsure_from g ticket confirm.Expired s t u confirms goes = absurd (let no_end : ended.Unsure ticket ≡ ended.Never = goes.0 in cc)
unsure_from g ticket (confirm.Unsure back) s t u confirms turns =
    rose_both 1 8 s t u (rose_once s t confirms.hears.counts (odd_answers_have_a_cause.unsure s t g back (inl confirms))) (turns_counts turns)
    (turns_rose ticket turns refl)

rose_before : (n : ℕ) (s t u : LinkState) → NoFewer s t → RoseBy n t u → RoseBy n s u
rose_before n s t u more (inl rose) = let f = more.faults in let b = more.balks in inl (omega (arith, rose, f, b))
rose_before n s t u more (inr full) = inr full

-- a run whose ask wasn't granted: its cause

abbrev CauseOf : AskFault → LinkState → LinkState → Type 0
CauseOf (fault.Refused code) s u = Unit {0}
CauseOf fault.Memory s u = Rose s.balks u.balks
CauseOf fault.Odd s u = Rose s.balks u.balks
CauseOf fault.Link s u = Rose s.faults u.faults

ask_cause : (a : PlainAction) (lease : ℕ) (why : AskFault) (s u : LinkState) → Asks a lease (Err why) s u → CauseOf why s u
ask_cause a lease (fault.Refused code) s u asks = tt
ask_cause a lease fault.Memory s u asks = odd_answers_have_a_cause.asked s u a lease (inl asks)
ask_cause a lease fault.Odd s u asks = odd_answers_have_a_cause.asked s u a lease (inr asks)
ask_cause a lease fault.Link s u asks = odd_answers_have_a_cause.no_link s u a lease asks

-- endings

-- what an ending tells of the counts
abbrev pub EndCause : Ended → LinkState → LinkState → Type 0
EndCause ended.Never s u = EitherRose s u
EndCause (ended.LeftOut ticket) s u = EitherRose s u
EndCause ended.NoLink s u = Rose s.faults u.faults
EndCause ended.OddReply s u = Rose s.balks u.balks
EndCause ended.NoMemory s u = Rose s.balks u.balks
EndCause (ended.Unsure ticket) s u = RoseBy 9 s u
EndCause _ s u = Unit {0}

-- the ending of an ask
abbrev pub IsOfAsk : Ended → Type 0
IsOfAsk ended.Usage = ⊥
IsOfAsk ended.BadWords = ⊥
IsOfAsk _ = Unit {0}

fault_cause : (why : AskFault) (s t u : LinkState) → CauseOf why s t → u ≡ t → EndCause (ends_with why) s u
fault_cause (fault.Refused code) s t u cause same = tt
fault_cause fault.Memory s t u cause same = subst (λ (v : LinkState). Rose s.balks v.balks) (sym same) cause
fault_cause fault.Odd s t u cause same = subst (λ (v : LinkState). Rose s.balks v.balks) (sym same) cause
fault_cause fault.Link s t u cause same = subst (λ (v : LinkState). Rose s.faults v.faults) (sym same) cause

-- what a turn that ends a run may end it with
of_confirm : (confirmed : Confirm) (how : Ended) → turned.Over how ≡ comes_to confirmed → IsOfAsk how
of_confirm (confirm.Done number) how is = let same : ended.Done number ≡ how = cc in subst IsOfAsk same tt
of_confirm confirm.Expired how is = let same : ended.Never ≡ how = cc in subst IsOfAsk same tt
of_confirm (confirm.Unsure g) how is = absurd cc

of_turn : (g : Grant) (how : Ended) (s u : LinkState) → TakesTurn g (turned.Over how) s u → IsOfAsk how
of_turn g how s u (done number settles is) = let same : ended.Done number ≡ how = cc in subst IsOfAsk same tt
of_turn g how s u (never settles is) = let same : ended.Never ≡ how = cc in subst IsOfAsk same tt
of_turn g how s u (left_out settles is) = let same : ended.LeftOut g.ticket ≡ how = cc in subst IsOfAsk same tt
of_turn g how s u (again back confirmed t settles confirms is) = of_confirm confirmed how is
of_turn g how s u (unsure back settles is) = absurd cc

of_turns : {n : ℕ} {g : Grant} {how : Ended} {s u : LinkState} → TakesTurns n g how s u → IsOfAsk how
of_turns none_left = tt
of_turns {g = g} {how = how} {s = s} {u = u} (ends turn) = of_turn g how s u turn
of_turns (another turn turns) = of_turns turns

of_from : (confirmed : Confirm) (how : Ended) (s u : LinkState) → GoesOnAfter (comes_to confirmed) how s u → IsOfAsk how
of_from (confirm.Done number) how s u goes = subst IsOfAsk (sym goes.0) tt
of_from confirm.Expired how s u goes = subst IsOfAsk (sym goes.0) tt
of_from (confirm.Unsure g) how s u turns = of_turns turns

of_fault : (why : AskFault) → IsOfAsk (ends_with why)
of_fault (fault.Refused code) = tt
of_fault fault.Memory = tt
of_fault fault.Odd = tt
of_fault fault.Link = tt

pub of_ask : (a : PlainAction) (lease : ℕ) (how : Ended) (s u : LinkState) → Serves a lease how s u → IsOfAsk how
of_ask a lease how s u (Ok g, t, asks, (confirmed, v, confirms, goes)) = of_from confirmed how v u goes
of_ask a lease how s u (Err why, t, asks, (is, same)) = subst IsOfAsk (sym is) (of_fault why)

-- a grant doesn't end with a fault of the ask
abbrev pub IsOfGrant : Ended → Type 0
IsOfGrant (ended.Done number) = Unit {0}
IsOfGrant ended.Never = Unit {0}
IsOfGrant (ended.Unsure ticket) = Unit {0}
IsOfGrant (ended.LeftOut ticket) = Unit {0}
IsOfGrant _ = ⊥

grant_confirm : (confirmed : Confirm) (how : Ended) → turned.Over how ≡ comes_to confirmed → IsOfGrant how
grant_confirm (confirm.Done number) how is = let same : ended.Done number ≡ how = cc in subst IsOfGrant same tt
grant_confirm confirm.Expired how is = let same : ended.Never ≡ how = cc in subst IsOfGrant same tt
grant_confirm (confirm.Unsure g) how is = absurd cc

grant_turn : (g : Grant) (how : Ended) (s u : LinkState) → TakesTurn g (turned.Over how) s u → IsOfGrant how
grant_turn g how s u (done number settles is) = let same : ended.Done number ≡ how = cc in subst IsOfGrant same tt
grant_turn g how s u (never settles is) = let same : ended.Never ≡ how = cc in subst IsOfGrant same tt
grant_turn g how s u (left_out settles is) = let same : ended.LeftOut g.ticket ≡ how = cc in subst IsOfGrant same tt
grant_turn g how s u (again back confirmed t settles confirms is) = grant_confirm confirmed how is
grant_turn g how s u (unsure back settles is) = absurd cc

grant_turns : {n : ℕ} {g : Grant} {how : Ended} {s u : LinkState} → TakesTurns n g how s u → IsOfGrant how
grant_turns none_left = tt
grant_turns {g = g} {how = how} {s = s} {u = u} (ends turn) = grant_turn g how s u turn
grant_turns (another turn turns) = grant_turns turns

pub grant_from : (confirmed : Confirm) (how : Ended) (s u : LinkState) → GoesOnAfter (comes_to confirmed) how s u → IsOfGrant how
grant_from (confirm.Done number) how s u goes = subst IsOfGrant (sym goes.0) tt
grant_from confirm.Expired how s u goes = subst IsOfGrant (sym goes.0) tt
grant_from (confirm.Unsure g) how s u turns = grant_turns turns

grant_cause : (a : PlainAction) (lease : ℕ) (g : Grant) (confirmed : Confirm) (how : Ended) (s t v u : LinkState)
    → Asks a lease (Ok g) s t → Confirms g confirmed t v → GoesOnAfter (comes_to confirmed) how v u → IsOfGrant how → EndCause how s u
grant_cause a lease g confirmed (ended.Done number) s t v u asks confirms goes of = tt
grant_cause a lease g confirmed ended.Never s t v u asks confirms goes of =
    either_earlier s t u asks.hears.counts (never_from g confirmed t v u confirms goes)
grant_cause a lease g confirmed (ended.LeftOut ticket) s t v u asks confirms goes of =
    either_earlier s t u asks.hears.counts (left_out_from g ticket confirmed t v u confirms goes)
grant_cause a lease g confirmed (ended.Unsure ticket) s t v u asks confirms goes of =
    rose_before 9 s t u asks.hears.counts (unsure_from g ticket confirmed t v u confirms goes)
grant_cause a lease g confirmed _ s t v u asks confirms goes of = absurd of

serves_cause : (a : PlainAction) (lease : ℕ) (how : Ended) (s u : LinkState) → Serves a lease how s u → EndCause how s u
serves_cause a lease how s u (Ok g, t, asks, (confirmed, v, confirms, goes)) =
    grant_cause a lease g confirmed how s t v u asks confirms goes (grant_from confirmed how v u goes)
serves_cause a lease how s u (Err why, t, asks, (is, same)) =
    subst (λ v. EndCause v s u) (sym is) (fault_cause why s t u (ask_cause a lease why s t asks) same)

pub runs_cause : (words : List (List ℕ)) (how : Ended) (s u : LinkState) → Runs words how s u → EndCause how s u
runs_cause words how s u (usage none is same) = subst (λ v. EndCause v s u) (sym is) tt
runs_cause words how s u (bad_words some none is same) = subst (λ v. EndCause v s u) (sym is) tt
runs_cause words how s u (serves a lease names run) = serves_cause a lease how s u run

-- words that name an ask aren't refused
pub runs_well : (words : List (List ℕ)) (a : PlainAction) (lease : ℕ) (how : Ended) (s u : LinkState) → NamesAsk words a lease
    → Runs words how s u → how ≢ ended.BadWords
runs_well words a lease how s u names (usage none is same) bad = let no_end : ended.Usage ≡ ended.BadWords = sym is ∙ bad in absurd cc
runs_well words a lease how s u names (bad_words some none is same) bad = absurd (none a lease names)
runs_well words a lease how s u names (serves b other named run) bad = absurd (subst IsOfAsk bad (of_ask b other how s u run))

-- statuses

-- the status is that of the ending, unless the put failed
status_is : (how : Ended) (status n : ℕ) (before after : SinkState) → PutsLine how status before after → status ≡ n → n ≢ 10 → status_of how ≡ n
status_is how status n before after (whole is text) same other = sym is ∙ same
status_is how status n before after (part is rose text) same other = absurd (other (sym same ∙ is))

never_of : (how : Ended) (s u : LinkState) → status_of how ≡ 4 → EndCause how s u → EitherRose s u
never_of ended.Never s u is cause = cause
never_of _ s u is cause = absurd (omega (arith, is))

left_out_of : (how : Ended) (s u : LinkState) → status_of how ≡ 5 → EndCause how s u → EitherRose s u
left_out_of (ended.LeftOut ticket) s u is cause = cause
left_out_of _ s u is cause = absurd (omega (arith, is))

link_of : (how : Ended) (s u : LinkState) → status_of how ≡ 6 → EndCause how s u → Rose s.faults u.faults
link_of ended.NoLink s u is cause = cause
link_of _ s u is cause = absurd (omega (arith, is))

reply_of : (how : Ended) (s u : LinkState) → status_of how ≡ 7 → EndCause how s u → Rose s.balks u.balks
reply_of ended.OddReply s u is cause = cause
reply_of _ s u is cause = absurd (omega (arith, is))

memory_of : (how : Ended) (s u : LinkState) → status_of how ≡ 9 → EndCause how s u → Rose s.balks u.balks
memory_of ended.NoMemory s u is cause = cause
memory_of _ s u is cause = absurd (omega (arith, is))

unsure_of : (how : Ended) (s u : LinkState) → status_of how ≡ 8 → EndCause how s u → RoseBy 9 s u
unsure_of (ended.Unsure ticket) s u is cause = cause
unsure_of _ s u is cause = absurd (omega (arith, is))

module _ (words : List (List ℕ)) (status : ℕ) (s u : LinkState) (before after : SinkState) (run : ClientEnds words status s u before after) where
  cause : EndCause run.how s u
  cause = runs_cause words run.how s u run.runs

  at : (n : ℕ) → status ≡ n → n ≢ 10 → status_of run.how ≡ n
  at n is other = status_is run.how status n before after run.puts is other

  pub never_cause : (status ≡ 4) ⊎ (status ≡ 5) → EitherRose s u
  never_cause (inl is) = never_of run.how s u (at 4 is (λ e. omega (arith, e))) cause
  never_cause (inr is) = left_out_of run.how s u (at 5 is (λ e. omega (arith, e))) cause

  pub link_cause : status ≡ 6 → Rose s.faults u.faults
  link_cause is = link_of run.how s u (at 6 is (λ e. omega (arith, e))) cause

  pub reply_cause : (status ≡ 7) ⊎ (status ≡ 9) → Rose s.balks u.balks
  reply_cause (inl is) = reply_of run.how s u (at 7 is (λ e. omega (arith, e))) cause
  reply_cause (inr is) = memory_of run.how s u (at 9 is (λ e. omega (arith, e))) cause

  pub unsure_cause : status ≡ 8 → RoseBy 9 s u
  unsure_cause is = unsure_of run.how s u (at 8 is (λ e. omega (arith, e))) cause

-- two counts that rose by some together
either_rose : (n : ℕ) (s u : LinkState) → 0 < n → RoseBy n s u → EitherRose s u
either_rose n s u some (inl rose) = elim (cases_lt s.faults u.faults) [
  | inl up ↦ inl (omega (arith, up))
  | inr down ↦ inr (omega (arith, some, rose, down))
]
either_rose n s u some (inr (inl full)) = inl (omega (arith, full))
either_rose n s u some (inr (inr full)) = inr (omega (arith, full))

-- where no count rose, an ask is done or refused
plain_end : (how : Ended) (s u : LinkState) → (EitherRose s u → ⊥) → how ≢ ended.BadWords → EndCause how s u
    → (status_of how ≡ 0) ⊎ (status_of how ≡ 3)
plain_end ended.Usage s u none well cause = inl refl
plain_end ended.BadWords s u none well cause = absurd (well refl)
plain_end (ended.Done number) s u none well cause = inl refl
plain_end (ended.Refused code) s u none well cause = inr refl
plain_end ended.Never s u none well cause = absurd (none cause)
plain_end (ended.LeftOut ticket) s u none well cause = absurd (none cause)
plain_end ended.NoLink s u none well cause = absurd (none (inl cause))
plain_end ended.OddReply s u none well cause = absurd (none (inr cause))
plain_end ended.NoMemory s u none well cause = absurd (none (inr cause))
plain_end (ended.Unsure ticket) s u none well cause = absurd (none (either_rose 9 s u (omega arith) cause))

pub plain_run : (words : List (List ℕ)) (status : ℕ) (s u : LinkState) (before after : SinkState) → ClientEnds words status s u before after
    → (a : PlainAction) (lease : ℕ) → NamesAsk words a lease → (EitherRose s u → ⊥) → (Rose before.faults after.faults → ⊥)
    → (status ≡ 0) ⊎ (status ≡ 3)
plain_run words status s u before after run a lease names none put =
    let by = plain_end run.how s u none (runs_well words a lease run.how s u names run.runs) (runs_cause words run.how s u run.runs) in
    told run.puts by
  where
    told : PutsLine run.how status before after → (status_of run.how ≡ 0) ⊎ (status_of run.how ≡ 3) → (status ≡ 0) ⊎ (status ≡ 3)
    told (whole is text) (inl zero_is) = inl (is ∙ zero_is)
    told (whole is text) (inr three_is) = inr (is ∙ three_is)
    told (part is rose text) by = absurd (put rose)
