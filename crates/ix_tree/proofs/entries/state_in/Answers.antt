use Rattle.std.proofs.Common.{ℕ, List, rules}
use Rattle.std.proofs.lemmas.Fn.{always_returns_same}
use Rattle.std.specs.Cmp.{nat_cmp_total}
use Rattle.std.specs.Cmp.Lexicographic.{lists_total}
use Rattle.ix_values.specs.Order.{text_cmp}
use Rattle.ix_entries.proofs.Places.{found, missing, searchable}
use Rattle.ix_tree.specs.Plain.{Plain}
use Rattle.ix_tree.proofs.entries.state_in.Goals as goal

pub returns-in-Ok : goal.returns-in-Ok
returns-in-Ok c =
    (found (lists_total nat_cmp_total) c.args.entries.now c.args.value.now c.in-Ok.place c.requires c.in-Ok.ensures.bound (c.in-Ok.ensures.position (λ (entry : List ℕ × Plain). text_cmp entry.0 c.args.value.now) (always_returns_same _ _ _ (λ a r f called. search rules)))).looked_up c.index-entries-place.result

pub returns-in-Err : goal.returns-in-Err
returns-in-Err c =
    let cut = c.in-Err.ensures.position (λ (entry : List ℕ × Plain). text_cmp entry.0 c.args.value.now) (always_returns_same _ _ _ (λ a r f called. search rules)) (searchable (lists_total nat_cmp_total) c.args.entries.now c.args.value.now c.requires) in
    (missing (lists_total nat_cmp_total) c.args.entries.now c.args.value.now c.in-Err.field-0 c.in-Err.ensures.bound cut.0 cut.1).looked_up
