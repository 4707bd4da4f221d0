-- A renewed journal can be started from, and what starts from it comes later; and one that is renewed twice in a row.
use Rattle.std.proofs.Common.{◌≡◌, ℕ, ◌+◌, ◌≤◌, List, [], ◌∷◌, length, None, Some, refl, sym, ◌∙◌, ap, subst, arith}
use Rattle.std.proofs.lemmas.List.{length-map}
use Rattle.ix_values.specs.PlainAction.{PlainAction, Word}
use Rattle.ix_journal.specs.Entries.{renewed_of}
use Rattle.ix_journal.specs.Format.{renewed_journal}
use Rattle.ix_journal.specs.History.{PlainHistory, Spent, actions_of}
use Rattle.ix_journal.specs.Recovery as recovery
use Rattle.ix_journal.specs.Recovery.{HoldsBoots, Recovers}
use Rattle.ix_journal.specs.declared.TheConstants.{MOST_RECORDS}
use Rattle.ix_journal.specs.declared.entries.Marks.{Marks}
use Rattle.ix_journal.proofs.OutcomeLaws.{one_history, one_number}
use Rattle.ix_journal.proofs.RenewedLaws.{renewed_is_a_journal}
use Rattle.ix_expr.specs.CanonicalText.{canonical_text}
use Rattle.ix_expr.specs.Form.{Form}
use Rattle.ix_manager.specs.Images as images
use Rattle.ix_manager.specs.Images.{EachPrefixIsWithin, IsOwn, IsStartable, IsWithin}
use Rattle.ix_manager.specs.Later.{MayKeep, stays}
use Rattle.ix_manager.specs.Machine.{MachineState, ahead_of, count_of, start_of}
use Rattle.ix_manager.specs.Runs.{Opening, opening_of}
use Rattle.ix_manager.proofs.RecoverLemmas.{each_within}
use Rattle.ix_renew.specs.Carried.{IsCarriedFor}
use Rattle.ix_renew.specs.LaterRenewals.{LaterRenewed, RenewedJournalsGoOn, RenewedStartsComeLater, RenewedTwice, goes_on, renewed_as, renews, without_tickets}
use Rattle.ix_renew.specs.Renewal.{IsRenewal}

-- the carried actions are the actions of their history
same_actions : (carried : Word) → actions_of (without_tickets carried) ≡ carried
same_actions [] = refl
same_actions (a ∷ carried) = ap (λ (w : Word). a ∷ w) (same_actions carried)

-- the empty word is within the limit
empty_within : (x : Form) (limit : ℕ) (w : Word) → EachPrefixIsWithin x limit w → IsWithin x limit []
empty_within x limit [] within = within 0
empty_within x limit (a ∷ w) within = within 0

module _ (x : Form) (limit : ℕ) (file : List ℕ) (carried : Word) (actions boots : ℕ)
    (is : IsRenewal x limit file carried actions boots) where
  abbrev pub image : List ℕ
  image = renewed_journal (canonical_text x) carried actions boots

  file_keeps : recovery.KeepsRecords file is.journal.journal.entries
  file_keeps = recovery.ready file (canonical_text x) is.journal.journal.entries is.journal.gate is.journal.journal.journal

  -- what the old journal tells
  pub file_recovers : Recovers file is.history
  file_recovers = record { entries = is.journal.journal.entries; keeps = file_keeps; pairs = is.journal.journal.pairs }

  pub file_holds : HoldsBoots file (renewed_of is.marks) is.marks.boots
  file_holds = record {
    entries = is.journal.journal.entries;
    keeps = file_keeps;
    said = ap renewed_of is.journal.journal.marked;
    number = ap (λ (m : Marks). m.boots) is.journal.journal.marked;
  }

  -- at most as many are carried as the journal has
  few : length carried ≤ length is.history
  few = let least = is.carries.few in let long = length-map is.history (λ (spent : Spent). spent.1) in omega (arith, least, long)

  many : length carried ≤ MOST_RECORDS
  many =
      let least = few in
      let most = is.journal.journal.journal.closes.few.actions in
      let pairs = ap length is.journal.journal.pairs in
      omega (arith, least, most, pairs)

  pub fewer : length carried ≤ actions
  fewer = let least = few in let of = is.counted in omega (arith, least, of)

  made : (gate : ℕ) × recovery.IsJournalWith image (canonical_text x) (without_tickets carried)
      (record {
        actions = length carried;
        boots = boots;
        seq = 0;
        renewal = Some (record { carried = length carried; actions = actions; boots = boots });
      }) gate
  made =
      renewed_is_a_journal (canonical_text x) carried actions boots is.journal.journal.journal.ready.header.short is.texts many
      fewer is.few_actions is.few_boots

  image_keeps : recovery.KeepsRecords image made.1.entries
  image_keeps = recovery.ready image (canonical_text x) made.1.entries made.0 made.1.journal

  -- what the new one tells
  pub image_own : IsOwn x image
  image_own = images.ready (without_tickets carried) _ made.0 made.1

  pub image_recovers : Recovers image (without_tickets carried)
  image_recovers = record { entries = made.1.entries; keeps = image_keeps; pairs = made.1.pairs }

  pub image_holds : HoldsBoots image (record { carried = length carried; actions = actions; boots = boots }) boots
  image_holds = record {
    entries = made.1.entries;
    keeps = image_keeps;
    said = ap renewed_of made.1.marked;
    number = ap (λ (m : Marks). m.boots) made.1.marked;
  }

module _ (x : Form) (limit : ℕ) (file : List ℕ) (s : MachineState) (kept : PlainHistory) (carried : Word) (actions boots : ℕ)
    (may : MayKeep s kept) (recovers : Recovers file kept) (holds : HoldsBoots file s.renewed s.boot)
    (is : IsRenewal x limit file carried actions boots) where
  history : kept ≡ is.history
  history = one_history file kept is.history recovers (file_recovers x limit file carried actions boots is)

  same : (s.renewed ≡ renewed_of is.marks) × (s.boot ≡ is.marks.boots)
  same = one_number file s.renewed (renewed_of is.marks) s.boot is.marks.boots holds (file_holds x limit file carried actions boots is)

  counted : actions ≡ count_of s.renewed kept
  counted =
      let both : count_of s.renewed kept ≡ count_of (renewed_of is.marks) is.history = λ i. count_of (same.0 i) (history i) in
      is.counted ∙ sym both

  booted : boots ≡ s.boot
  booted = is.booted ∙ sym same.1

  carries : IsCarriedFor x limit (actions_of kept) carried
  carries = subst (λ (h : PlainHistory). IsCarriedFor x limit (actions_of h) carried) (sym history) is.carries

  state_holds : HoldsBoots (image x limit file carried actions boots is) (renewed_as s kept carried) s.boot
  state_holds =
      let it = image_holds x limit file carried actions boots is in
      record {
        entries = it.entries;
        keeps = it.keeps;
        said = it.said ∙ (λ i. record { carried = length carried; actions = counted i; boots = booted i });
        number = it.number ∙ booted;
      }

  pub startable : IsStartable (opening_of x limit (without_tickets carried) (renewed_as s kept carried) (s.boot + 1))
      (image x limit file carried actions boots is)
  startable = record {
    own = image_own x limit file carried actions boots is;
    recovers = image_recovers x limit file carried actions boots is;
    within = subst (EachPrefixIsWithin x limit) (sym (same_actions carried))
        (each_within x limit carried (empty_within x limit (actions_of is.history) is.within) is.carries.allowed);
    boots = s.boot;
    holds = state_holds;
    few = omega arith;
    next = refl;
  }

  pub starts_later : (opening : Opening) → IsStartable opening (image x limit file carried actions boots is)
      → LaterRenewed x s (start_of opening.history opening.renewed opening.boot)
  starts_later opening starts =
      let bytes = image x limit file carried actions boots is in
      let told = one_history bytes (without_tickets carried) opening.history (image_recovers x limit file carried actions boots is) starts.recovers in
      let said = one_number bytes (renewed_as s kept carried) opening.renewed s.boot starts.boots state_holds starts.holds in
      let boot : s.boot + 1 ≡ opening.boot = ap (λ n. n + 1) said.1 ∙ sym starts.next in
      subst (LaterRenewed x s) (λ i. start_of (told i) (said.0 i) (boot i)) (renews stays may carries (goes_on stays))

renewed_starts_come_later : RenewedStartsComeLater
renewed_starts_come_later x limit file s kept carried actions boots may recovers holds is = (
  startable x limit file s kept carried actions boots may recovers holds is,
  starts_later x limit file s kept carried actions boots may recovers holds is,
)

-- what is carried for a word that is carried for a history is carried for this history
carried_again : (x : Form) (limit : ℕ) (history word again : Word) → IsCarriedFor x limit history word → IsCarriedFor x limit word again
    → IsCarriedFor x limit history again
carried_again x limit history word again one two = record {
  allowed = two.allowed;
  tree = two.tree ∙ one.tree;
  few = let first = one.few in let second = two.few in omega (arith, first, second);
}

renewed_twice : RenewedTwice
renewed_twice x limit file carried again actions boots actions' boots' is then_is =
    let bytes = image x limit file carried actions boots is in
    let history : then_is.history ≡ without_tickets carried =
    one_history bytes then_is.history (without_tickets carried)
    (record {
      entries = then_is.journal.journal.entries;
      keeps = recovery.ready bytes (canonical_text x) then_is.journal.journal.entries then_is.journal.gate then_is.journal.journal.journal;
      pairs = then_is.journal.journal.pairs;
    })
    (image_recovers x limit file carried actions boots is) in
    let said = one_number bytes (renewed_of then_is.marks) (record { carried = length carried; actions = actions; boots = boots })
    then_is.marks.boots boots
    (record {
      entries = then_is.journal.journal.entries;
      keeps = recovery.ready bytes (canonical_text x) then_is.journal.journal.entries then_is.journal.gate then_is.journal.journal.journal;
      said = ap renewed_of then_is.journal.journal.marked;
      number = ap (λ (m : Marks). m.boots) then_is.journal.journal.marked;
    })
    (image_holds x limit file carried actions boots is) in
    let ahead = ap ahead_of said.0 in
    let long = ap length history in
    let carried_long : length (without_tickets carried) ≡ length carried = length-map carried (λ (a : PlainAction). (None, a)) in
    let least = fewer x limit file carried actions boots is in
    let count = then_is.counted in
    let all : actions' ≡ actions = omega (arith, ahead, long, carried_long, least, count) in
    let word : actions_of then_is.history ≡ carried = ap actions_of history ∙ same_actions carried in
    record {
      history = is.history;
      marks = is.marks;
      journal = is.journal;
      within = is.within;
      texts = then_is.texts;
      carries = carried_again x limit (actions_of is.history) carried again is.carries
          (subst (λ (w : Word). IsCarriedFor x limit w again) word then_is.carries);
      counted = all ∙ is.counted;
      booted = then_is.booted ∙ said.1 ∙ is.booted;
      few_actions = then_is.few_actions;
      few_boots = then_is.few_boots;
    }

pub renewed_journals_go_on : RenewedJournalsGoOn
renewed_journals_go_on = (renewed_starts_come_later, renewed_twice)
