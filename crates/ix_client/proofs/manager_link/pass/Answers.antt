use Rattle.std.proofs.Common.{◌≡◌, ℕ, List, Ok, Err, length, true, refl, subst, arith}
use Rattle.ix_values.specs.Laws.{TextsTellTicketsApart}
use Rattle.ix_memory.specs.inside.MemorySiteState.{MemorySiteState, crashes_of, state_of}
use Rattle.ix_outside.specs.Crashes.{Passes, stretch_of}
use Rattle.ix_outside.specs.declared.event.Event.{Event}
use Rattle.ix_proto.specs.Requests.{PlainRequest}
use Rattle.ix_manager.specs.Handled.{ManagerState}
use Rattle.ix_manager.specs.declared.faults.Stop.{Stop}
use Rattle.ix_manager.specs.declared.faults.Stop.TheVariants.{Disk}
use Rattle.ix_manager.specs.inside.OverSite.{HandlesOver}
use Rattle.ix_client.specs.inside.ManagerLinks.{IsRunEnded}
use Rattle.ix_client.specs.inside.Passing.{EndsInLine, StartsAgain, TellsDisk}
use Rattle.ix_client.proofs.OverLemmas.{IsWholeLine, answers_over, ends_again, event_for, fits_again, lost_again, tells_disk, whole_line}
use Rattle.ix_client.proofs.manager_link.pass.Goals as goal
use Rattle.ix_client.proofs.manager_link.pass.Goals.{in_default-via-in-Ok+else-is_whole, in_default-via-in-Err+else-is_whole-2}

pub returns-then-ended-clause-keeps : goal.returns-then-ended-clause-keeps
returns-then-ended-clause-keeps c = λ asked of.
    (refl, λ told. fits_again c.args.manager c.args.site.now c.requires.over.fits told)

pub returns-in-Ok-clause-keeps : goal.returns-in-Ok-clause-keeps
returns-in-Ok-clause-keeps c = λ asked of.
    let one = c.if-not-is_one_line.ensures refl in
    let new = c.handle-handled.new.self in
    let before = c.args.site.now in
    let after = c.handle-handled.new.site in
    let line = c.args.line.now in
    let go = c.in-Ok.field-0 in
    let handled = subst (λ (e : Event). HandlesOver c.args.manager e line (Ok go) new (stretch_of state_of crashes_of before after))
    c.event_of.ensures c.in-Ok.ensures.handles in
    answers_over c.texts_tell_tickets_apart.ensures asked one.0 line (whole_line asked one.0 line of one.1)
    c.args.manager new before after c.requires.over go c.take_reply-is_whole.new.out.items handled c.in-Ok.ensures.fits
    (subst (λ n. EndsInLine n after.sends c.take_reply-is_whole.new.out.items) c.sent_len-sent.ensures (c.if-is_whole.ensures refl))
    c.requires.limit (omega (arith, c.tickets.ensures, c.if-tickets-ge-MOST_TICKETS.false))

-- the disk failed, and its reply came whole
ends : (apart : TextsTellTicketsApart) (asked : PlainRequest) (bytes line : List ℕ) (whole : IsWholeLine asked bytes line) (m new : ManagerState)
    (before after : MemorySiteState) (over : IsRunEnded m before) (stop : Stop)
    → HandlesOver m (event_for line) line (Err stop) new (stretch_of state_of crashes_of before after)
    → Passes (stretch_of state_of crashes_of before after)
    → after.told ≡ true → StartsAgain m.form m.machine after.image
ends apart asked bytes line whole m new before after over Disk handled passes told =
    ends_again apart asked bytes line whole m new before after over handled passes told

tells : (apart : TextsTellTicketsApart) (asked : PlainRequest) (bytes line result : List ℕ) (whole : IsWholeLine asked bytes line) (m new : ManagerState)
    (before after : MemorySiteState) (over : IsRunEnded m before) (stop : Stop)
    → HandlesOver m (event_for line) line (Err stop) new (stretch_of state_of crashes_of before after)
    → EndsInLine (length before.sends.sent) after.sends result → after.told ≡ true → TellsDisk asked result
tells apart asked bytes line result whole m new before after over Disk handled in_line told =
    tells_disk apart asked bytes line whole m new before after over result handled in_line told

pub returns-in-Err-clause-keeps : goal.returns-in-Err-clause-keeps
returns-in-Err-clause-keeps c = λ asked of.
    let one = c.if-not-is_one_line.ensures refl in
    let new = c.handle-handled.new.self in
    let before = c.args.site.now in
    let after = c.handle-handled.new.site in
    let line = c.args.line.now in
    let stop = c.in-Err.field-0 in
    let whole = whole_line asked one.0 line of one.1 in
    let handled = subst (λ (e : Event). HandlesOver c.args.manager e line (Err stop) new (stretch_of state_of crashes_of before after))
    c.event_of.ensures c.in-Err.ensures.handles in (
      refl,
      tells c.texts_tell_tickets_apart.ensures asked one.0 line c.take_reply-is_whole.new.out.items whole c.args.manager new before after
          c.requires.over stop handled
          (subst (λ n. EndsInLine n after.sends c.take_reply-is_whole.new.out.items) c.sent_len-sent.ensures (c.if-is_whole-2.ensures refl)),
      ends c.texts_tell_tickets_apart.ensures asked one.0 line whole c.args.manager new before after c.requires.over stop handled c.in-Err.ensures.passes,
    )

pub returns-in_default-clause-keeps : goal.returns-in_default-clause-keeps
returns-in_default-clause-keeps c = λ asked of.
    let one = c.if-not-is_one_line.ensures refl in
    let new = c.handle-handled.new.self in
    let before = c.args.site.now in
    let after = c.handle-handled.new.site in
    let line = c.args.line.now in
    let whole = whole_line asked one.0 line of one.1 in (
      refl,
      elim c.in_default.branch [
        | in_default-via-in-Ok+else-is_whole w ↦
            lost_again c.texts_tell_tickets_apart.ensures asked one.0 line whole c.args.manager new before after c.requires.over w.in-Ok.field-0
            (subst (λ (e : Event). HandlesOver c.args.manager e line (Ok w.in-Ok.field-0) new (stretch_of state_of crashes_of before after))
            c.event_of.ensures w.in-Ok.ensures.handles)
            w.in-Ok.ensures.fits
        | in_default-via-in-Err+else-is_whole-2 w ↦
            ends c.texts_tell_tickets_apart.ensures asked one.0 line whole c.args.manager new before after c.requires.over w.in-Err.field-0
            (subst (λ (e : Event). HandlesOver c.args.manager e line (Err w.in-Err.field-0) new (stretch_of state_of crashes_of before after))
            c.event_of.ensures w.in-Err.ensures.handles)
            w.in-Err.ensures.passes
      ],
    )
