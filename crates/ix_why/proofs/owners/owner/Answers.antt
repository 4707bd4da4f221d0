-- The first owner is the only one where each is it.
use Rattle.std.proofs.Common.{Bool, List, ℕ, Some, None, sym, ap, ◌∙◌, if◌then◌else◌}
use Rattle.ix_expr.specs.Environment.{bind}
use Rattle.ix_expr.specs.inside.FormOf.{form_of}
use Rattle.ix_expr.specs.Tests.{in_alphabet}
use Rattle.ix_why.proofs.Listed.{no_value, first_value}
use Rattle.ix_why.proofs.owners.owner.Goals as goal
use Rattle.ix_why.proofs.owners.owner.Goals.{in_default-via-in-Some+else-is_only_owner, in_default-via-in_default}

pub returns-in-Some : goal.returns-in-Some
returns-in-Some c =
    let owns : List ℕ → Bool = λ v. in_alphabet (form_of c.args.body.expr.now) (bind c.args.body.parameter.now (Some v) c.args.scope.now) c.args.action.now in
    sym (first_value owns c.args.action.now.values c.in-Some.value (sym c.in-Some.ensures) ∙ ap (λ (b : Bool). if b then Some c.in-Some.value else None) (sym c.is_only_owner.ensures ∙ c.if-is_only_owner.true))

pub returns-in_default : goal.returns-in_default
returns-in_default c =
    let owns : List ℕ → Bool = λ v. in_alphabet (form_of c.args.body.expr.now) (bind c.args.body.parameter.now (Some v) c.args.scope.now) c.args.action.now in
    elim c.in_default.branch [
      | in_default-via-in-Some+else-is_only_owner w ↦
          sym (first_value owns c.args.action.now.values w.in-Some.value (sym w.in-Some.ensures) ∙ ap (λ (b : Bool). if b then Some w.in-Some.value else None) (sym w.is_only_owner.ensures ∙ w.if-is_only_owner.false))
      | in_default-via-in_default w ↦ sym (no_value owns c.args.action.now.values (sym w.in_default.ensures))
    ]
