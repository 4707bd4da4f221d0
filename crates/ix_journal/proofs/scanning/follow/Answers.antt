use Rattle.std.proofs.Common.{sym}
use Rattle.ix_journal.proofs.Following.{boots_within, few_followed, followed_damage, followed_end}
use Rattle.ix_journal.proofs.Following.{followed_many, followed_more, none_followed}
use Rattle.ix_journal.proofs.scanning.follow.Goals as goal

pub loop-item-init : goal.loop-item-init
loop-item-init c =
    let none = none_followed _ _ c.requires _ c.new-records.ensures in
    record { progress = (tt, tt); place = none.0; so_far = none.1 }

pub are_many-requires : goal.are_many-requires
are_many-requires c =
    let more = followed_more _ _ _ _ c.loop-item.invariant.so_far _ _ c.loop-item.invariant.place _ _
    c.in-Some.ensures.steps c.in_default-item.is in
    rw c.marks.ensures (boots_within _ _ _ _ more.1)

pub returns-then-are_many : goal.returns-then-are_many
returns-then-are_many c =
    followed_many _ _ _ _ c.loop-item.invariant.so_far _ _ c.loop-item.invariant.place _ _
    c.in-Some.ensures.steps c.in_default-item.is
    (rw (sym c.marks.ensures) (c.are_many.ensures.many c.if-are_many.true))

pub loop-item-preserved : goal.loop-item-preserved
loop-item-preserved c =
    let more = followed_more _ _ _ _ c.loop-item.invariant.so_far _ _ c.loop-item.invariant.place _ _
    c.in-Some.ensures.steps c.in_default-item.is in
    record {
      progress = (tt, tt);
      place = more.0;
      so_far =
          few_followed _ _ _ _ more.1 (rw (sym c.marks.ensures) (c.are_many.ensures.few c.if-are_many.false));
    }

pub returns-in-Err : goal.returns-in-Err
returns-in-Err c =
    followed_damage _ _ _ _ c.loop-item.invariant.so_far _ _ c.loop-item.invariant.place _ _
    c.in-Some.ensures.steps c.in-Err.is

pub returns : goal.returns
returns c =
    rw (c.marks-marks.ensures, c.gate.ensures.place)
    (followed_end _ _ _ _ c.loop-item.invariant.so_far _ _ c.loop-item.invariant.place
    c.in_default.ensures.steps)
