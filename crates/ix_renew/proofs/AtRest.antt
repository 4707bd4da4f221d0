-- What a journal that rests is to a renewal.
use Rattle.std.proofs.Common.{◌≡◌, ◌⊎◌, inl, inr, ℕ, ◌+◌, ◌<◌, ◌≤◌, ◌^◌, List, [], length, Result, Ok, Err, IfErr, IsErrAnd, All, refl, sym, ◌∙◌, ap, subst, arith}
use Rattle.std.specs.Prelude.{MatchResult}
use Rattle.std.proofs.lemmas.List.{length-map}
use Rattle.ix_expr.specs.CanonicalText.{canonical_text}
use Rattle.ix_expr.specs.Form.{Form}
use Rattle.ix_can.specs.TreeOf.{tree_size}
use Rattle.ix_values.specs.PlainAction.{Word}
use Rattle.ix_values.specs.Texts.{IsAction}
use Rattle.ix_engine.specs.Histories.{AreAllowed, IsRefused, StopsAt}
use Rattle.ix_engine.specs.inside.Engine.{EngineState}
use Rattle.ix_engine.specs.declared.faults.PrepareFault.{PrepareFault}
use Rattle.ix_engine.specs.declared.faults.PrepareFault.TheVariants as prepare
use Rattle.ix_engine.specs.declared.faults.ResumeFault.{ResumeFault}
use Rattle.ix_journal.specs.Entries.{AreFew, fresh, pairs_of, renewed_of}
use Rattle.ix_journal.specs.History.{PlainHistory, Spent, actions_of}
use Rattle.ix_journal.specs.declared.entries.Entry.{Entry}
use Rattle.ix_journal.specs.declared.entries.Marks.{Marks}
use Rattle.ix_journal.specs.inside.Counting.{AreNotMany, AreSound}
use Rattle.ix_journal.proofs.OrderLemmas.{number_of, sound-all, sound-fresh}
use Rattle.ix_manager.specs.Images.{EachPrefixIsWithin}
use Rattle.ix_manager.specs.Machine.{count_of}
use Rattle.ix_manager.proofs.RecoverLemmas.{each_within, heavy, longer, no_word}
use Rattle.ix_renew.specs.Carried.{IsCarriedFor}
use Rattle.ix_renew.specs.Renewal.{IsJournalOf, IsRenewal}
use Rattle.ix_renew.specs.inside.Faults.{action_fault_of}
use Rattle.ix_renew.specs.inside.Renewing.{ReadsAs, RefusesRead, RefusesHistory, PreventsRenewal, RestsAs}
use Rattle.ix_renew.specs.declared.fault.RenewalFault.{RenewalFault}
use Rattle.ix_renew.specs.declared.fault.RenewalFault.TheVariants as fault
use Rattle.ix_renew.proofs.Making.{initial_within}

-- what a `?` hands on has what holds of the fault that it hands on
pub refused_on : {T E : Type 0} (r : Result T E) (why : E) (P : T → Type 0) (Q : E → Type 0)
    → IsErrAnd r (λ e. e ≡ why) → Q why → MatchResult r P Q
refused_on (Ok x) why P Q is it = absurd is
refused_on (Err e) why P Q is it = subst Q (sym is) it

pub handed_on : {T E : Type 0} (r : Result T E) (why : E) (Q : E → Type 0)
    → IsErrAnd r (λ e. e ≡ why) → Q why → IfErr r Q
handed_on (Ok x) why Q is it = absurd is
handed_on (Err e) why Q is it = subst Q (sym is) it

-- what the file is, where its bytes aren't taken
pub file_refused : (x : Form) (limit : ℕ) (file : List ℕ) → tree_size x [] ≤ limit → (why : RenewalFault)
    → RefusesRead (canonical_text x) file why → RefusesHistory x limit file why
file_refused x limit file small fault.Foreign is = (small, is)
file_refused x limit file small (fault.Other kept) is = (small, is)
file_refused x limit file small fault.Unopened is = (small, is)
file_refused x limit file small (fault.Damaged at) is = (small, is)
file_refused x limit file small fault.Many is = (small, inl is)
file_refused x limit file small fault.Memory is = tt
file_refused x limit file small _ is = absurd is

module _ (x : Form) (limit : ℕ) (file : List ℕ) (actions : Word) (marks : Marks)
    (reads : ReadsAs file (canonical_text x) actions marks) where
  abbrev entries : List Entry
  entries = reads.closes.entries

  abbrev history : PlainHistory
  history = pairs_of entries

  -- the marks are sound, and not many
  pub marks_sound : AreSound marks
  marks_sound =
      let records = reads.closes.closes.records in
      subst AreSound (sym reads.closes.marked) (sound-all fresh entries sound-fresh records.valid records.order)

  few_records : AreFew entries
  few_records = reads.closes.closes.few

  pub marks_few : AreNotMany marks
  marks_few =
      let actions = few_records.actions in
      let boots = few_records.boots in
      subst AreNotMany (sym reads.closes.marked) (omega (arith, number_of entries, actions), boots)

  -- the journal
  pub journal_of : IsJournalOf x file history marks
  journal_of = record {
    gate = reads.closes.gate;
    journal = record {
      entries = entries;
      journal = record { first = reads.first; ready = reads.ready; closes = reads.closes.closes };
      pairs = refl;
      marked = sym reads.closes.marked;
    };
  }

  -- the count
  pub counted : (count : ℕ) → count + (renewed_of marks).carried ≡ (renewed_of marks).actions + marks.actions
      → count ≡ count_of (renewed_of marks) history
  counted count is =
      let number : length history ≡ marks.actions =
      number_of entries ∙ ap (λ (m : Marks). m.actions) (sym reads.closes.marked) in
      let carried = marks_sound.carried in
      omega (arith, is, number, carried)

  module _ (small : tree_size x [] ≤ limit) where
    -- the count or the boots are above
    pub above_refused : (count : ℕ) → count ≡ count_of (renewed_of marks) history
        → (2 ^ 63 < count) ⊎ (2 ^ 63 < marks.boots) → RefusesHistory x limit file fault.Many
    above_refused count is (inl above) = (
      small,
      inr (record { history = history; marks = marks; journal = journal_of; above = inl (omega (arith, is, above)) }),
    )
    above_refused count is (inr above) =
        (small, inr (record { history = history; marks = marks; journal = journal_of; above = inr above }))

    -- the engine didn't take an action
    pub record_refused : (stopped : ResumeFault) → StopsAt x limit actions stopped
        → RefusesHistory x limit file (action_fault_of stopped.number stopped.why)
    record_refused stopped stops = told stopped.why at.refused
      where
        at : StopsAt x limit (actions_of history) stopped
        at = subst (λ (w : Word). StopsAt x limit w stopped) reads.closes.told stops

        each : EachPrefixIsWithin x limit at.before
        each = each_within x limit at.before (initial_within x limit small) at.allowed

        told : (why : PrepareFault) → IsRefused x limit at.before at.action why
            → RefusesHistory x limit file (action_fault_of stopped.number why)
        told prepare.NotPartial refused = (
          small,
          (
            history,
            marks,
            journal_of,
            no_word x limit (actions_of history) at.before at.action at.behind stopped.number at.parts at.number each refused,
          ),
        )
        told (prepare.Over l) refused = (
          small,
          (
            history,
            marks,
            journal_of,
            heavy x limit (actions_of history) at.before at.action at.behind stopped.number at.parts at.number each l refused,
            refused.0,
          ),
        )
        told prepare.Full refused =
            let few = few_records.actions in
            let room = longer x limit (actions_of history) at.before at.action at.behind stopped.number at.parts at.number each in
            let full = refused.1 in
            let all = length-map history (λ (spent : Spent). spent.1) in
            absurd (omega (arith, few, room, full, all))
        told prepare.Memory refused = tt

    -- the engine took all
    pub rests : (engine : EngineState) (count boots : ℕ) → engine.form ≡ x → engine.limit ≡ limit → engine.history ≡ actions
        → AreAllowed x limit actions → count ≡ count_of (renewed_of marks) history → boots ≡ marks.boots
        → count ≤ 2 ^ 63 → boots ≤ 2 ^ 63 → RestsAs x limit file engine count boots
    rests engine count boots form most word allowed number booted few_actions few_boots = record {
      history = history;
      marks = marks;
      journal = journal_of;
      form = form;
      most = most;
      word = word ∙ reads.closes.told;
      small = small;
      allowed = subst (λ (w : Word). AreAllowed x limit w) reads.closes.told allowed;
      counted = number;
      booted = booted;
      few_actions = few_actions;
      few_boots = few_boots;
    }

-- what is carried for the engine's history is a renewal of its journal
pub renewal_of : (x : Form) (limit : ℕ) (file : List ℕ) (engine : EngineState) (count boots : ℕ)
    → (resting : RestsAs x limit file engine count boots) → (word : Word) → All IsAction word
    → IsCarriedFor engine.form engine.limit engine.history word → IsRenewal x limit file word count boots
renewal_of x limit file engine count boots resting word texts carries = record {
  history = resting.history;
  marks = resting.marks;
  journal = resting.journal;
  within = each_within x limit (actions_of resting.history) (initial_within x limit resting.small) resting.allowed;
  texts = texts;
  carries = subst (λ (y : Form). IsCarriedFor y limit (actions_of resting.history) word) resting.form
      (subst (λ l. IsCarriedFor engine.form l (actions_of resting.history) word) resting.most
      (subst (λ (w : Word). IsCarriedFor engine.form engine.limit w word) resting.word carries));
  counted = resting.counted;
  booted = resting.booted;
  few_actions = resting.few_actions;
  few_boots = resting.few_boots;
}

-- what refuses the history refuses the renewal, and comes from the file alone
pub history_refused : (x : Form) (limit : ℕ) (file : List ℕ) (why : RenewalFault) → RefusesHistory x limit file why
    → PreventsRenewal x limit file why
history_refused x limit file (fault.Large most) is = is
history_refused x limit file fault.Foreign is = is
history_refused x limit file (fault.Other kept) is = is
history_refused x limit file fault.Unopened is = is
history_refused x limit file (fault.Damaged at) is = is
history_refused x limit file fault.Many is = is
history_refused x limit file (fault.Word number) is = is
history_refused x limit file (fault.Heavy number most) is = is
history_refused x limit file fault.There is = absurd is
history_refused x limit file fault.Disk is = absurd is
history_refused x limit file fault.Memory is = is

module _ {T : Type 0} (x : Form) (limit : ℕ) (file : List ℕ) (r : Result T RenewalFault) (why : RenewalFault)
    (handed : IsErrAnd r (λ e. e ≡ why)) (is : RefusesHistory x limit file why) where
  handed_is : r ≡ Err why
  handed_is = by r handed
    where
      by : (s : Result T RenewalFault) → IsErrAnd s (λ e. e ≡ why) → s ≡ Err why
      by (Ok t) same = absurd same
      by (Err e) same = ap Err same

  pub not_of_the_site : (r ≡ Err fault.There) ⊎ (r ≡ Err fault.Disk) → ⊥
  not_of_the_site (inl there) =
      let same : why ≡ fault.There = let e = sym handed_is ∙ there in cc in
      subst (λ (w : RenewalFault). RefusesHistory x limit file w) same is
  not_of_the_site (inr disk) =
      let same : why ≡ fault.Disk = let e = sym handed_is ∙ disk in cc in
      subst (λ (w : RenewalFault). RefusesHistory x limit file w) same is
