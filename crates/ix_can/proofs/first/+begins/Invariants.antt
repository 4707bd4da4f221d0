-- Measures and invariants of the functions behind `can_first`.
use Rattle.std.proofs.Common.{◌≡◌, true, false, ◌+◌, ◌*◌, take, Some}
use Rattle.std.specs.List.{list_all, list_any}
use Rattle.ix_expr.specs.Environment.{bind}
use Rattle.ix_expr.specs.inside.FormOf.{form_of}
use Rattle.ix_can.specs.inside.CanAsk.{first_or_stays}
use Rattle.ix_can.specs.May.{may_first}
use Rattle.ix_can.proofs.Measures.{count}
use Rattle.ix_can.proofs.first.+begins.Given as goal

abbrev pub decreases-begins : goal.decreases-begins
decreases-begins l = 5 * count (form_of l.expr.now)

abbrev pub decreases-begins_seq : goal.decreases-begins_seq
decreases-begins_seq l = 5 * (count (form_of l.y.now) + count (form_of l.z.now)) + 4

abbrev pub decreases-begins_either : goal.decreases-begins_either
decreases-begins_either l = 5 * (count (form_of l.y.now) + count (form_of l.z.now)) + 4

abbrev pub decreases-begins_both : goal.decreases-begins_both
decreases-begins_both l = 5 * (count (form_of l.y.now) + count (form_of l.z.now)) + 4

abbrev pub decreases-begins_couple : goal.decreases-begins_couple
decreases-begins_couple l = 5 * (count (form_of l.y.now) + count (form_of l.z.now)) + 4

abbrev pub decreases-begins_or_stays : goal.decreases-begins_or_stays
decreases-begins_or_stays l = 5 * count (form_of l.y.now) + 1

abbrev pub decreases-begins_at : goal.decreases-begins_at
decreases-begins_at l = 5 * count (form_of l.y.now) + 2

abbrev pub decreases-some_value_begins : goal.decreases-some_value_begins
decreases-some_value_begins l = 5 * count (form_of l.y.now) + 3

abbrev pub decreases-each_value_begins : goal.decreases-each_value_begins
decreases-each_value_begins l = 5 * count (form_of l.y.now) + 3

abbrev pub decreases-begins_for_some : goal.decreases-begins_for_some
decreases-begins_for_some l = 5 * count (form_of l.y.now) + 4

abbrev pub decreases-begins_for_each : goal.decreases-begins_for_each
decreases-begins_for_each l = 5 * count (form_of l.y.now) + 4

abbrev pub invariant-some_value_begins-loop-value : goal.invariant-some_value_begins-loop-value
invariant-some_value_begins-loop-value l =
    list_any (λ v. may_first (form_of l.y) (bind l.p (Some v) l.env) l.action) (take l.value-index l.value-items) ≡ false

abbrev pub invariant-each_value_begins-loop-value : goal.invariant-each_value_begins-loop-value
invariant-each_value_begins-loop-value l =
    list_all (λ v. first_or_stays l.stays (form_of l.y) (bind l.p (Some v) l.env) l.action) (take l.value-index l.value-items) ≡ true
