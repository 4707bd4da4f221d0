use Rattle.std.proofs.Common.{sym, subst}
use Rattle.ix_journal.specs.inside.Counting.{AreNotMany}
use Rattle.ix_journal.proofs.Following.{boots_within, followed_damage, followed_many, followed_more}
use Rattle.ix_renew.proofs.Reading.{none_read, read_end, read_more, text_said}
use Rattle.ix_renew.proofs.resting.read_records.Goals as goal

pub loop-item-init : goal.loop-item-init
loop-item-init c =
    let none = none_read _ _ c.requires _ c.new-actions.ensures.items _ c.new-records.ensures in
    record { progress = (tt, tt); place = none.0; so_far = none.1 }

pub are_many-requires : goal.are_many-requires
are_many-requires c =
    let more = followed_more _ _ _ _ c.loop-item.invariant.so_far.so_far _ _ c.loop-item.invariant.place _ _
    c.in-Some.ensures.steps c.in-Ok.is in
    rw c.marks.ensures (boots_within _ _ _ _ more.1)

pub returns-then-are_many : goal.returns-then-are_many
returns-then-are_many c =
    followed_many _ _ _ _ c.loop-item.invariant.so_far.so_far _ _ c.loop-item.invariant.place _ _
    c.in-Some.ensures.steps c.in-Ok.is
    (rw (sym c.marks.ensures) (c.are_many.ensures.many c.if-are_many.true))

pub of_text-requires : goal.of_text-requires
of_text-requires c = text_said _ _ _ _ c.in-Some.ensures.steps c.in-Ok.is

pub loop-item-preserved : goal.loop-item-preserved
loop-item-preserved c =
    let few = subst AreNotMany c.marks.ensures (c.are_many.ensures.few c.if-are_many.false) in
    let more = followed_more _ _ _ _ c.loop-item.invariant.so_far.so_far _ _ c.loop-item.invariant.place _ _
    c.in-Some.ensures.steps c.in-Ok.is in
    record {
      progress = (tt, tt);
      place = more.0;
      so_far =
          read_more _ _ _ _ _ c.loop-item.invariant.so_far _ _ c.loop-item.invariant.place _ _
          c.in-Some.ensures.steps c.in-Ok.is _ c.of_text.ensures few _ c.in_ok-keep.ensures;
    }

pub returns-in-Err : goal.returns-in-Err
returns-in-Err c =
    followed_damage _ _ _ _ c.loop-item.invariant.so_far.so_far _ _ c.loop-item.invariant.place _ _
    c.in-Some.ensures.steps c.in-Err.is

pub returns : goal.returns
returns c =
    rw c.marks-marks.ensures
    (read_end _ _ _ _ _ c.loop-item.invariant.so_far _ _ c.loop-item.invariant.place
    c.in_default.ensures.steps)
