-- How a renew ends, by what its parts say.
use Rattle.std.proofs.Common.{◌≡◌, ◌⊎◌, inl, inr, ℕ, ◌≤◌, List, [], ◌++◌, codes, decimal, Option, None, refl, sym, subst}
use Rattle.std.proofs.lemmas.Option.{none-some}
use Rattle.ix_expr.specs.Form.{Form}
use Rattle.ix_can.specs.TreeOf.{tree_size}
use Rattle.ix_outside.specs.Counts.{Rose}
use Rattle.ix_outside.specs.Crashes.{Crashes}
use Rattle.ix_outside.specs.FilesState.{FilesState, OnlyFaults}
use Rattle.ix_outside.specs.SiteState.{SiteState, OnlyDisk}
use Rattle.ix_outside.specs.SinkState.{SinkState}
use Rattle.ix_outside.proofs.Counting.{Rose-earlier}
use Rattle.ix_renew.specs.inside.Renewing.{IsOfTheJournal, LeavesNew, PreventsRenewal, Renews}
use Rattle.ix_renew.specs.declared.renewing.Renewal.{Renewal}
use Rattle.ix_renew.specs.declared.fault.RenewalFault.{RenewalFault}
use Rattle.ix_renew.specs.declared.fault.RenewalFault.TheVariants as fault
use Rattle.ix_renew.proofs.Making.{if_new_file}
use Rattle.ix_manage.specs.ActionLines.{line}
use Rattle.ix_manage.specs.Around.{around_of}
use Rattle.ix_manage.specs.Ends.{JobEnds, JobOver, large, lost_journal, lost_new, no_memory, renewed, there, unrenewed}
use Rattle.ix_manage.specs.Journal.{journal_line}
use Rattle.ix_manage.specs.Puts.{LastLine}
use Rattle.ix_manage.specs.Renewals as refuses
use Rattle.ix_manage.specs.Renewals.{HasByte, HasLongJournal, ReadsJournal, renewed_line}
use Rattle.ix_manage.specs.Session.{Session}
use Rattle.ix_manage.specs.Trace.{ReadsForm, large_line}
use Rattle.ix_manage.specs.inside.Jobs.{renew_of}
use Rattle.ix_manage.specs.inside.Leaves.{AwaitsLine, StopsAfter}
use Rattle.ix_manage.specs.inside.Pasts.{EndsWith}
use Rattle.ix_manage.specs.inside.Renewing.{RefusesLoad, renewal_end}
use Rattle.ix_manage.specs.declared.job.RenewWords.{RenewWords}
use Rattle.ix_manage.specs.declared.refusal.Input.TheVariants as input
use Rattle.ix_manage.specs.declared.refusal.Refusal.{Refusal}
use Rattle.ix_manage.specs.declared.refusal.Refusal.TheVariants as refusal
use Rattle.ix_manage.proofs.Stops.{nothing_put_of}

-- what refuses the journal's file behind another load refuses it from the start on
pub load_refused_later : (files mid later : FilesState) (name : List ℕ) (why : Refusal) → OnlyFaults files mid
    → RefusesLoad mid later name why → RefusesLoad files later name why
load_refused_later files mid later name (refusal.Lost input.Journal) only (inl rose) =
    inl (Rose-earlier files.faults mid.faults later.faults only.faults rose)
load_refused_later files mid later name (refusal.Lost input.Journal) only (inr longer) =
    inr (subst (λ known. HasLongJournal known name) only.contents longer)
load_refused_later files mid later name refusal.Memory only why = why
load_refused_later files mid later name _ only why = absurd why

module _ (files later : FilesState) (names : RenewWords) where
  -- the journal's file isn't loaded
  pub load_ends : (x : Form) → ReadsForm files.contents names.expression.now x → (why : Refusal)
      → RefusesLoad files later names.journal.now why
      → EndsWith files later (renew_of names) why
  load_ends x reads (refusal.Lost input.Journal) why status whole part last site = lost_journal reads why refl last
  load_ends x reads refusal.Memory why status whole part last site = no_memory last
  load_ends x reads _ why _ _ _ _ _ = absurd why

  module _ (before after : SiteState) (is : Crashes) (x : Form) (bytes : List ℕ)
      (reads : ReadsForm files.contents names.expression.now x)
      (loads : ReadsJournal files.contents names.journal.now bytes)
      (left : LeavesNew x names.limit bytes names.new.now after.disk is) (only : OnlyDisk before after)
    where
      abbrev Ends : ℕ → List ℕ → List ℕ → Type 0
      Ends status whole part = JobEnds (around_of files later before after) (renew_of names) status whole part None

      abbrev Over : ℕ → List ℕ → List ℕ → Option Session → Type 0
      Over = JobOver (around_of files later before after) (renew_of names) is

      pub renew_over : (status : ℕ) (whole part : List ℕ) → Ends status whole part → Over status whole part None
      renew_over status whole part end = record {
        ends = end;
        touches = only;
        journal = λ expression journal of_expression has_journal. absurd (none-some journal has_journal);
        wire = λ socket same. absurd (none-some socket same);
        made = if_new_file names.new.now _ _ after.disk (λ opened now leaves. (x, bytes, reads, loads, leaves)) left;
      }

      -- why the journal isn't renewed
      refused : (why : List ℕ) → tree_size x [] ≤ names.limit → refuses.RefusesRenewal x names.limit bytes why
          → after ≡ before → (sink : SinkState) → AwaitsLine Over 8 (journal_line why) sink sink
      refused why small is_refused rests sink = nothing_put_of 8 (journal_line why) sink (λ status whole part last.
          renew_over status whole part (unrenewed why (record { reads = reads; small = small }) loads is_refused rests last))

      pub renewal_stops : (why : RenewalFault) → PreventsRenewal x names.limit bytes why
          → (IsOfTheJournal why → after ≡ before)
          → (why ≡ fault.There → HasByte names.new.now after.disk)
          → (why ≡ fault.Disk → Rose before.counts.disk after.counts.disk)
          → (sink : SinkState) → StopsAfter Over sink sink (renewal_end why)
      renewal_stops (fault.Large most) why rests has rose sink =
          nothing_put_of 3 (large_line most) sink (λ status whole part last.
          renew_over status whole part (large refl (bytes, loads)
          (record { form = x; reads = reads; above = why.1 })
          (subst (λ l. LastLine 3 [] (large_line l) status whole part) why.0 last)))
      renewal_stops fault.Foreign why rests has rose sink = refused _ why.0 (refuses.foreign why.1) (rests tt) sink
      renewal_stops (fault.Other kept) why rests has rose sink =
          refused _ why.0 (refuses.other why.1.0 why.1.1) (rests tt) sink
      renewal_stops fault.Unopened why rests has rose sink = refused _ why.0 (refuses.unopened why.1) (rests tt) sink
      renewal_stops (fault.Damaged at) why rests has rose sink =
          refused _ why.0 (refuses.damaged why.1.0 why.1.1) (rests tt) sink
      renewal_stops fault.Many why rests has rose sink = elim why.1 [
        | inl many ↦ refused _ why.0 (refuses.many many.0 many.1) (rests tt) sink
        | inr above ↦ refused _ why.0 (refuses.above above) (rests tt) sink
      ]
      renewal_stops (fault.Word number) why rests has rose sink =
          refused _ why.0 (refuses.word why.1.2 why.1.3) (rests tt) sink
      renewal_stops (fault.Heavy number most) why rests has rose sink =
          subst (λ l. AwaitsLine Over 8 (journal_line (codes "large " ++ decimal number ++ codes " " ++ decimal l)) sink sink)
          (sym why.1.4)
          (refused _ why.0 (refuses.large why.1.2 why.1.3) (rests tt) sink)
      renewal_stops fault.There why rests has rose sink =
          nothing_put_of 8 (journal_line (codes "there")) sink (λ status whole part last.
          renew_over status whole part (there (record { reads = reads; small = why.0 }) loads (has refl) last))
      renewal_stops fault.Disk why rests has rose sink =
          nothing_put_of 5 (line (codes "refused disk")) sink (λ status whole part last.
          renew_over status whole part (lost_new (record { reads = reads; small = why.0 }) loads (rose refl) last))
      renewal_stops fault.Memory why rests has rose sink =
          nothing_put_of 9 (line (codes "refused memory")) sink (λ status whole part last.
          renew_over status whole part (no_memory last))

      -- the journal was made
      pub renewal_made : (told : Renewal) → (made : Renews x names.limit bytes names.new.now told after.disk is)
          → (status : ℕ) (whole part : List ℕ)
          → LastLine 0 [] (renewed_line told.actions told.boots told.carried) status whole part
          → Over status whole part None
      renewal_made told made status whole part last =
          renew_over status whole part (renewed made.carried (record { reads = reads; small = (made.renewal.within 0).size })
          loads made.renewal made.made
          (subst (λ n. LastLine 0 [] (renewed_line told.actions told.boots n) status whole part) made.number last))
