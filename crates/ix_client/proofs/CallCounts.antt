-- What a call of a link to a manager counts, and why none was started.
use Rattle.std.proofs.Common.{◌≡◌, ◌⊎◌, inl, inr, ℕ, ◌<◌, ◌≤◌, Bool, true, false, List, [], Option, Some, None, Result, Ok, Err, true≢false, refl, sym, ◌∙◌, ap, subst, arith}
use Rattle.std.specs.Prelude.{IfErr, IsOk, IsErr, IsSome, is_some}
use Rattle.std.specs.Option.{ForSome}
use Rattle.std.proofs.lemmas.Bool.{cases_lt}
use Rattle.ix_can.specs.TreeOf.{tree_size}
use Rattle.ix_expr.specs.Form.{Form}
use Rattle.ix_outside.specs.Counts.{one_more}
use Rattle.ix_memory.specs.inside.MemorySiteState.{MemorySiteState, opened_where, state_of, told_disk}
use Rattle.ix_outside.specs.Counts.{Rose}
use Rattle.ix_proto.specs.Requests.{PlainRequest}
use Rattle.ix_client.proofs.LinkLemmas.{there_manages}
use Rattle.ix_client.proofs.TellLemmas.{is_told}
use Rattle.ix_manager.specs.Handled.{ManagerState}
use Rattle.ix_manager.specs.declared.faults.StartFault.{StartFault}
use Rattle.ix_manager.specs.declared.faults.StartFault.TheVariants as fault
use Rattle.ix_manager.specs.inside.StartAnswers.{IsStartFault, StartsFrom}
use Rattle.ix_client.specs.Links.{IsExpected, IsLineWith}
use Rattle.ix_client.specs.declared.link.LinkFailed.{LinkFailed}
use Rattle.ix_client.specs.declared.manager_link.Passed.TheVariants.{Answered}
use Rattle.ix_client.specs.inside.ManagerCalls.{CallsManager, CountsCall, CountsNone, FailsToStart}
use Rattle.ix_client.specs.inside.ManagerLinks.{IsManagerWhere, ManagerLinkState, call_noted, told_at, told_by, told_of}
use Rattle.ix_client.specs.inside.Passing.{KeepsAsked, StartedFrom}

-- a start that failed, by what the manager's says of it
module _ (limit : ℕ) (x : Form) (site : MemorySiteState) (result : Result ManagerState StartFault) (told : site.told ≡ true)
    (large : limit < tree_size x [] → (result ≡ Err (fault.Large limit)) ⊎ (result ≡ Err fault.Memory))
    (only : (l : ℕ) → result ≡ Err (fault.Large l) → (l ≡ limit) × (limit < tree_size x []))
    (else_ : tree_size x [] ≤ limit → ForSome (state_of site).disk (λ disk. StartsFrom x limit disk.file result)) where
  from_file : (why : StartFault) → result ≡ Err why → tree_size x [] ≤ limit → IsStartFault x limit site.image why
  from_file why is within =
      let opened = opened_where site.attached site.name site.past in
      let at : ForSome (told_disk true site.image opened) (λ disk. StartsFrom x limit disk.file result) =
      subst (λ t. ForSome (told_disk t site.image opened) (λ disk. StartsFrom x limit disk.file result)) told (else_ within) in
      subst (StartsFrom x limit site.image) is (at (record { file = site.image; opened = opened }) refl)

  other_fault : (why : StartFault) → result ≡ Err why → (result ≡ Err (fault.Large limit) → ⊥) → (result ≡ Err fault.Memory → ⊥)
      → IsStartFault x limit site.image why
  other_fault why is no_large no_memory = elim (cases_lt limit (tree_size x [])) [
    | inl above ↦ elim (large above) [
      | inl so ↦ absurd (no_large so)
      | inr so ↦ absurd (no_memory so)
    ]
    | inr within ↦ from_file why is within
  ]

  pub fails_to_start : (why : StartFault) → result ≡ Err why → FailsToStart x limit site.image why
  fails_to_start (fault.Large l) is = only l is
  fails_to_start fault.Disk is = tt
  fails_to_start fault.Memory is = tt
  fails_to_start fault.Foreign is = other_fault fault.Foreign is (λ so. cc) (λ so. cc)
  fails_to_start (fault.Other kept) is = other_fault (fault.Other kept) is (λ so. cc) (λ so. cc)
  fails_to_start (fault.Damaged at) is = other_fault (fault.Damaged at) is (λ so. cc) (λ so. cc)
  fails_to_start fault.Many is = other_fault fault.Many is (λ so. cc) (λ so. cc)
  fails_to_start (fault.Word number) is = other_fault (fault.Word number) is (λ so. cc) (λ so. cc)
  fails_to_start (fault.Heavy number l) is = other_fault (fault.Heavy number l) is (λ so. cc) (λ so. cc)

not_both : (result : Result (Unit {0}) LinkFailed) → IsOk result → IsErr result → ⊥
not_both (Ok done) ok err = true≢false (sym err)
not_both (Err failed) ok err = true≢false (sym ok)

-- a call that failed
pub failed_counts : (asked : PlainRequest) (result : Result (Unit {0}) LinkFailed) (line : List ℕ) (old new : ManagerLinkState) → IsErr result
    → Rose old.faults new.faults → new.balks ≡ old.balks → CountsCall asked result line old new
failed_counts asked result line old new failed rose balks = record {
  kept = inr rose;
  faults = λ ok some. absurd (not_both result ok failed);
  balks = λ ok with_. balks;
  lines = λ err. balks;
}

-- a manager that answered is kept
pub answered_kept : (asked : PlainRequest) (kept : Option ManagerState) (line : List ℕ) (m : ManagerState) (after : MemorySiteState)
    → KeepsAsked asked Answered kept line m after → IsSome kept
answered_kept asked (Some n) line m after keeps = refl
answered_kept asked None line m after keeps = absurd keeps

-- a call that worked, behind a manager that goes on
pub answered_counts : (asked : PlainRequest) (line : List ℕ) (old new : ManagerLinkState) → IsSome new.manager
    → new.faults ≡ old.faults → (IsLineWith (IsExpected asked) line → new.balks ≡ old.balks)
    → CountsCall asked (Ok tt) line old new
answered_counts asked line old new some faults balks = record {
  kept = inl some;
  faults = λ ok there. faults;
  balks = λ ok with_. balks with_;
  lines = λ err. absurd (true≢false (sym err));
}

one_rose : (n : ℕ) → Rose n (one_more n)
one_rose n = omega arith

-- a call that worked, behind which a manager was started, or couldn't be
pub ended_counts : (asked : PlainRequest) (line : List ℕ) (old new : ManagerLinkState) (manager : Option ManagerState) (before : ℕ)
    → new.manager ≡ manager → before ≡ old.faults → CountsNone manager before new.faults
    → (IsLineWith (IsExpected asked) line → new.balks ≡ old.balks) → CountsCall asked (Ok tt) line old new
ended_counts asked line old new (Some m) before is same counts balks =
    answered_counts asked line old new (ap is_some is) (counts ∙ same) balks
ended_counts asked line old new None before is same counts balks = record {
  kept = inr (subst (λ n. Rose old.faults n) (sym (counts ∙ ap one_more same)) (one_rose old.faults));
  faults = λ ok there. absurd (true≢false (sym there ∙ ap is_some is));
  balks = λ ok with_. balks with_;
  lines = λ err. absurd (true≢false (sym err));
}

-- a call that was noted before
pub noted_counts : (asked : PlainRequest) (result : Result (Unit {0}) LinkFailed) (sent line : List ℕ) (old before new : ManagerLinkState)
    → before ≡ call_noted sent old → CountsCall asked result line before new → CountsCall asked result line old new
noted_counts asked result sent line old before new is counts =
    let noted : CountsCall asked result line (call_noted sent old) new = subst (λ b. CountsCall asked result line b new) is counts in
    record { kept = noted.kept; faults = noted.faults; balks = noted.balks; lines = noted.lines }

-- a call that isn't told to fail
pub passes : (asked : PlainRequest) (result : Result (Unit {0}) LinkFailed) (line : List ℕ) (old new : ManagerLinkState)
    → told_at old.calls old.fail ≡ None → CountsCall asked result line old new → CallsManager asked result line old new
passes asked result line old new told counts = record {
  counts = counts;
  fails = λ some. absurd (true≢false (sym some ∙ ap is_some told));
  front = λ front. absurd (none_some (sym told ∙ front));
}
  where
    none_some : {b : Bool} → None ≡ Some b → ⊥
    none_some is = cc

-- a call that is told to fail behind its step
pub fails_late : (asked : PlainRequest) (result : Result (Unit {0}) LinkFailed) (line : List ℕ) (old new : ManagerLinkState)
    → told_at old.calls old.fail ≡ Some true → IsErr result → CountsCall asked result line old new → CallsManager asked result line old new
fails_late asked result line old new told failed counts = record {
  counts = counts;
  fails = λ some. failed;
  front = λ front. absurd (late_early (sym told ∙ front));
}
  where
    late_early : Some true ≡ Some false → ⊥
    late_early is = cc

-- a call that is told to fail in front of its step
pub fails_early : (asked : PlainRequest) (result : Result (Unit {0}) LinkFailed) (line sent : List ℕ) (old before new : ManagerLinkState)
    → IsErr result → before ≡ call_noted sent old
    → ((m : ManagerState) → new.manager ≡ Some m → StartedFrom before.text before.limit m before.site new.site)
    → CountsCall asked result line old new → CallsManager asked result line old new
fails_early asked result line sent old before new failed noted started counts =
    let from_old : (m : ManagerState) → new.manager ≡ Some m → StartedFrom old.text old.limit m old.site new.site =
    subst (λ (b : ManagerLinkState). (m : ManagerState) → new.manager ≡ Some m → StartedFrom b.text b.limit m b.site new.site) noted started in
    record { counts = counts; fails = λ some. failed; front = λ told. from_old }

-- where a fault has this, a result that has one has it
pub if_err : (P : StartFault → Type 0) (result : Result ManagerState StartFault) → ((why : StartFault) → result ≡ Err why → P why) → IfErr result P
if_err P (Ok m) holds = tt
if_err P (Err why) holds = holds why refl

pub of_err : (P : StartFault → Type 0) (result : Result ManagerState StartFault) (why : StartFault) → result ≡ Err why → IfErr result P → P why
of_err P result why is holds = subst (λ r. IfErr r P) is holds

-- a link with a manager tells it where its site tells its contents
pub tells_there : (text : List ℕ) (limit : ℕ) (manager : Option ManagerState) (m : ManagerState) (site : MemorySiteState) → manager ≡ Some m
    → IsManagerWhere text limit manager site → site.told ≡ true → told_of manager site ≡ Some (told_by m)
tells_there text limit manager m site is manages told =
    ap (λ o. told_of o site) is ∙ is_told m site (there_manages text limit manager m site is manages).over told
