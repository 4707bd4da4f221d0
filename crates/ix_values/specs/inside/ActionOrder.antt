-- How actions are compared: by name, and then by the values in their order.
use Rattle.std.specs.Prelude.{Bool}
use Rattle.std.specs.declared.cmp.Ordering.{Ordering}
use Rattle.std.specs.Cmp.Lexicographic.{pointwise, slice_cmp}
use Rattle.std.specs.Ordering.{on, then_cmp, eq_of_both}
use Rattle.ix_values.specs.PlainAction.{PlainAction}
use Rattle.ix_values.specs.Order.{text_eq, text_cmp}

-- names and values are equal
abbrev pub action_eq : PlainAction → PlainAction → Bool
action_eq = eq_of_both (on (λ a. a.name) text_eq) (on (λ a. a.values) (pointwise text_eq))

-- by name, and then by the values in their order
abbrev pub action_cmp : PlainAction → PlainAction → Ordering
action_cmp = then_cmp (on (λ a. a.name) text_cmp) (on (λ a. a.values) (slice_cmp text_cmp))
