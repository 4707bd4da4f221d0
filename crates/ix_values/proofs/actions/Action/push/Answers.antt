use Rattle.std.proofs.Common.{[], ◌∷◌, ◌<◌, length, take, subst, sym, arith}
use Rattle.ix_values.specs.inside.ActionOf.{action_of}
use Rattle.ix_values.specs.Texts.{IsAction}
use Rattle.ix_values.proofs.Slots.{items-push, IsPadded-push}
use Rattle.ix_values.proofs.TextsOfActions.{IsAction-push}
use Rattle.ix_values.proofs.actions.Action.push.Goals as goal

pub invariant_of-self : goal.invariant_of-self
invariant_of-self c =
    let inside = c.self.inside in
    let padded = c.self.invariant.0 in
    let valid = c.self.invariant.1 in
    let few : length (take inside.count inside.values) < 4 = subst (λ a. length a.values < 4) (sym c.self.view_is) c.requires in
    let room : inside.count < 4 = omega (arith, padded.counted) in
    let pushed = items-push 4 (48 ∷ []) inside.count inside.values c.args.value padded room in (
      IsPadded-push 4 (48 ∷ []) inside.count inside.values c.args.value padded room,
      subst (λ values. IsAction (action_of inside.name values)) (sym pushed)
          (IsAction-push inside.name (take inside.count inside.values) c.args.value valid.name valid.values few c.bytes.ensures.valid),
    )
