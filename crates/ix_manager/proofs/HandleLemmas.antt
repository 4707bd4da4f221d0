-- Events, handled.
use Rattle.std.proofs.Common.{◌≡◌, ℕ, false, List, [], length, get_or, set, Result, Ok, Err, OnOk}
use Rattle.std.proofs.Common.{OnErr, inl, refl, sym, ◌∙◌, ap, subst}
use Rattle.std.proofs.lemmas.List.{set-get_or}
use Rattle.ix_words.specs.Each.{no_item}
use Rattle.ix_lines.specs.Feeding.{unfinished}
use Rattle.ix_outside.specs.Contents.{Contents}
use Rattle.ix_outside.specs.Counts.{Rose}
use Rattle.ix_outside.specs.Crashes.{Crashes, AreLawful, Passes}
use Rattle.ix_outside.specs.SiteState.{SiteState}
use Rattle.ix_outside.specs.declared.event.Event.{Event}
use Rattle.ix_outside.specs.declared.event.EventKind.TheVariants.{Bytes, Closed, End}
use Rattle.ix_outside.specs.inside.DiskCalls.{span}
use Rattle.ix_manager.specs.Runs.{Ending, going, Steps, none, raised}
use Rattle.ix_manager.specs.Wire.{done, marks_after, all_replies}
use Rattle.ix_manager.specs.Handled.{ManagerState, Handles, held_at, completed_by, held_after}
use Rattle.ix_manager.specs.Images.{with_failed}
use Rattle.ix_manager.specs.Machine.{MachineState}
use Rattle.ix_proto.specs.declared.reply.Reply.{Reply}
use Rattle.ix_manager.specs.inside.Acknowledging.{Acknowledges}
use Rattle.ix_manager.specs.inside.Does.{MayReserve}
use Rattle.ix_manager.specs.inside.WireState.{WireState, wired, SendsAll, wire_span}
use Rattle.ix_manager.specs.declared.faults.Go.{Go}
use Rattle.ix_manager.specs.declared.faults.Go.TheVariants.{More, Stopped}
use Rattle.ix_manager.specs.declared.faults.Stop.{Stop}
use Rattle.ix_manager.specs.declared.faults.Stop.TheVariants.{Disk}
use Rattle.ix_manager.specs.inside.Over.{OverRun}
use Rattle.ix_manager.specs.inside.OverSite.{FitsWith, FitsSite, EndsBy, HandlesOver}
use Rattle.ix_manager.specs.inside.Saving.{UnlessFailed, WhereFailed}
use Rattle.ix_manager.specs.inside.TakenItems.{TakesBytes}
use Rattle.ix_manager.proofs.AcknowledgeSteps.{saves_acknowledges}
use Rattle.ix_manager.proofs.SavingLemmas.{saves_none, saves_same, saves_reserved, fits_reserved}
use Rattle.ix_manager.proofs.SendSteps.{nothing_sent}

-- a manager whose moment was raised
abbrev pub at_moment : ℕ → ManagerState → ManagerState
at_moment moment old = record old { machine = raised moment old.machine }

-- bytes came
abbrev pub bytes_handled : (old new : ManagerState) (event : Event) (n : ℕ) (bytes : List ℕ)
    (ending : Ending) (replies : List Reply) (before after : WireState)
    → event.kind ≡ Bytes n → before.gone ≡ get_or old.marks event.conn false
    → TakesBytes event.conn bytes ending replies (at_moment event.moment old) new before after
    → Handles old event bytes ending new before.site.contents after.site.contents
bytes_handled old new event n bytes ending replies before after is gone taken =
    let held = held_at event.conn old.lines in
    record {
      answers = taken.answers;
      takes = record {
        steps = subst (λ kind. Steps old.form old.limit (raised event.moment old.machine) (completed_by kind held bytes) taken.answers new.machine ending) (sym is) taken.steps;
        lines = λ goes. taken.lines goes ∙ ap (λ kind. set old.lines event.conn (held_after kind held bytes)) (sym is);
        ended = taken.ended;
        form = taken.form;
        limit = taken.limit;
      };
      sends = record {
        marked = taken.marked;
        sends =
            let sent = subst (λ rs. SendsAll event.conn rs before (record after { gone = taken.marked })) taken.all taken.sends in
            rw (← gone) sent.order;
        marks = taken.marks ∙ ap (λ kind. marks_after kind event.conn taken.marked old.marks) (sym is);
      };
    }

-- a manager without a connection's line and mark
abbrev pub without_line : ℕ → ManagerState → ManagerState
without_line conn old = record old { lines = set old.lines conn (unfinished []); marks = set old.marks conn false }

-- the connection was closed
abbrev pub closed_handled : (old between new : ManagerState) (event : Event) (bytes : List ℕ)
    (contents : Contents)
    → event.kind ≡ Closed → old.ended ≡ false → between ≡ at_moment event.moment old → new ≡ without_line event.conn between
    → Handles old event bytes going new contents contents
closed_handled old between new event bytes contents is open_before begun closes =
    let same : new ≡ without_line event.conn (at_moment event.moment old) = closes ∙ ap (without_line event.conn) begun in
    let held = held_at event.conn old.lines in
    let marked = get_or old.marks event.conn false in
    record {
      answers = [];
      takes = record {
        steps = subst (λ kind. Steps old.form old.limit (raised event.moment old.machine) (completed_by kind held bytes) [] new.machine going) (sym is)
            (subst (λ s. Steps old.form old.limit (raised event.moment old.machine) [] [] s going) (sym (ap (λ (m : ManagerState). m.machine) same)) none);
        lines = λ goes. ap (λ (m : ManagerState). m.lines) same ∙ ap (λ kind. set old.lines event.conn (held_after kind held bytes)) (sym is);
        ended = ap (λ (m : ManagerState). m.ended) same ∙ open_before;
        form = ap (λ (m : ManagerState). m.form) same;
        limit = ap (λ (m : ManagerState). m.limit) same;
      };
      sends = record {
        marked = marked;
        sends = done;
        marks = ap (λ (m : ManagerState). m.marks) same ∙ ap (λ kind. marks_after kind event.conn marked old.marks) (sym is);
      };
    }

-- the end came
abbrev pub end_handled : (old new : ManagerState) (event : Event) (bytes : List ℕ)
    (contents : Contents)
    → event.kind ≡ End → old.ended ≡ false → new ≡ at_moment event.moment old
    → Handles old event bytes going new contents contents
end_handled old new event bytes contents is open_before same =
    let held = held_at event.conn old.lines in
    let marked = get_or old.marks event.conn false in
    record {
      answers = [];
      takes = record {
        steps = subst (λ kind. Steps old.form old.limit (raised event.moment old.machine) (completed_by kind held bytes) [] new.machine going) (sym is)
            (subst (λ s. Steps old.form old.limit (raised event.moment old.machine) [] [] s going) (sym (ap (λ (m : ManagerState). m.machine) same)) none);
        lines = λ goes. ap (λ (m : ManagerState). m.lines) same ∙ sym (set-get_or old.lines event.conn (unfinished []))
            ∙ ap (λ kind. set old.lines event.conn (held_after kind held bytes)) (sym is);
        ended = ap (λ (m : ManagerState). m.ended) same ∙ open_before;
        form = ap (λ (m : ManagerState). m.form) same;
        limit = ap (λ (m : ManagerState). m.limit) same;
      };
      sends = record {
        marked = marked;
        sends = done;
        marks = ap (λ (m : ManagerState). m.marks) same ∙ sym (set-get_or old.marks event.conn false)
            ∙ ap (λ kind. marks_after kind event.conn marked old.marks) (sym is);
      };
    }

-- where the disk failed, its count rose
rose_where : (result : Result Go Stop) (ending : Ending) (P : Type 0) → EndsBy result ending → WhereFailed ending P → OnErr result P
rose_where (Ok go) ending P answered rose = tt
rose_where (Err Disk) ending P answered rose = let Q : Ending → Type 0 = λ e. WhereFailed e P in subst Q answered.1 rose

-- else the store fits
fits_where : (result : Result Go Stop) (ending : Ending) (P : Type 0) → EndsBy result ending → UnlessFailed ending P → OnOk result P
fits_where (Ok More) ending P answered fits = let Q : Ending → Type 0 = λ e. UnlessFailed e P in subst Q answered fits
fits_where (Ok Stopped) ending P answered fits = let Q : Ending → Type 0 = λ e. UnlessFailed e P in subst Q answered fits
fits_where (Err Disk) ending P answered fits = tt

fits_along : (result : Result Go Stop) (P Q : Type 0) → (P → Q) → OnOk result P → OnOk result Q
fits_along (Ok go) P Q to p = to p
fits_along (Err Disk) P Q to p = tt

module _ (old between new : ManagerState) (event : Event) (n : ℕ) (bytes : List ℕ) (result : Result Go Stop)
    (before after : WireState) (p q : Crashes) (is : event.kind ≡ Bytes n) (same : between ≡ at_moment event.moment old)
    (taken : OverRun (TakesBytes event.conn bytes) result between new (wire_span before after p q)) where
  over : OverRun (TakesBytes event.conn bytes) result (at_moment event.moment old) new (wire_span before after p q)
  over = subst (λ (m : ManagerState). OverRun (TakesBytes event.conn bytes) result m new (wire_span before after p q)) same
      taken

  -- bytes came, over a site
  pub bytes_over : before.gone ≡ get_or between.marks event.conn false → HandlesOver old event bytes result new (span before.site after.site p q)
  bytes_over gone_between = record {
    ending = over.ending;
    answered = over.answered;
    handles = bytes_handled old new event n bytes over.ending over.replies before after is
        (gone_between ∙ ap (λ (m : ManagerState). get_or m.marks event.conn false) same) over.made;
    keeps = over.saves.keeps;
    boots = over.saves.boots;
    ends = over.saves.ends;
    acknowledges = subst (λ rs. Acknowledges old.form (length old.machine.history)
        (with_failed over.ending new.machine.history) old.machine.renewed rs (span before.site after.site p q))
        over.made.all
        over.acknowledges;
    sends = over.saves.sends;
  }

  pub bytes_failed : OnErr result (Rose before.site.counts.disk after.site.counts.disk)
  bytes_failed = rose_where result over.ending _ over.answered over.saves.faults

  pub bytes_fit : OnOk result (FitsSite new after.site q)
  bytes_fit =
      let form : new.form ≡ old.form = over.made.form in
      fits_along result (FitsWith old.form new.machine new.store after.site q) _ (λ fits. subst (λ x. FitsWith x new.machine new.store after.site q) (sym form) fits)
      (fits_where result over.ending _ over.answered over.saves.fits)

  pub bytes_pass : Passes (span before.site after.site p q)
  bytes_pass = over.saves.passes

-- raising the moment reserves nothing
pub raised_reserves : (moment : ℕ) (s : MachineState) → MayReserve s (raised moment s)
raised_reserves moment s = record { renewed = refl; boot = refl; slot = inl (refl, refl) }

-- a manager's store goes on to fit at a later moment
pub moment_fits : (old between : ManagerState) (moment : ℕ) (site : SiteState) (crashes : Crashes)
    → between ≡ at_moment moment old → FitsSite old site crashes → FitsSite between site crashes
moment_fits old between moment site crashes same fits =
    subst (λ (m : ManagerState). FitsSite m site crashes) (sym same)
    (fits_reserved old.form old.machine (raised moment old.machine) old.store site crashes refl
    (raised_reserves moment old.machine) fits)

-- no call was made, over a site
pub rest_over : (old new : ManagerState) (event : Event) (bytes : List ℕ) (site : SiteState) (crashes : Crashes) → AreLawful site crashes
    → FitsSite old site crashes → (handles :
    Handles old event bytes going new site.contents site.contents) → handles.answers ≡ []
    → new.machine ≡ raised event.moment old.machine
    → HandlesOver old event bytes (Ok More) new (span site site crashes crashes)
rest_over old new event bytes site crashes lawful fits handles nothing same =
    let none = saves_same going old.form old.machine (raised event.moment old.machine) new.machine old.store site site crashes crashes same
    (saves_reserved old.form old.machine old.machine (raised event.moment old.machine) old.store site site crashes crashes refl
    (raised_reserves event.moment old.machine) (saves_none old.form old.machine old.store site crashes lawful fits)) in
    record {
      ending = going;
      answered = refl;
      handles = handles;
      keeps = none.keeps;
      boots = none.boots;
      ends = none.ends;
      acknowledges = subst (λ answers. Acknowledges old.form (length old.machine.history)
          new.machine.history old.machine.renewed (all_replies answers) (span site site crashes crashes))
          (sym nothing)
          (saves_acknowledges going old.form old.machine new.machine old.store 0 []
          (wired false site) (wired false site) crashes crashes
          lawful none (nothing_sent 0 (wired false site)) no_item);
      sends = none.sends;
    }
