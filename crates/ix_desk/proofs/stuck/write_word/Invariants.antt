-- The lines of the actions so far.
use Rattle.std.proofs.Common.{◌≡◌, ◌∷◌, ◌++◌, [], take}
use Rattle.std.specs.List.{flat_map}
use Rattle.ix_values.specs.PlainAction.{text_of}
use Rattle.ix_desk.proofs.stuck.write_word.Given as goal

abbrev pub invariant-loop-action : goal.invariant-loop-action
invariant-loop-action l = l.out.items
    ≡ l.initial.out.items
    ++ flat_map (λ action. text_of action ++ 10 ∷ []) (take l.action-index l.word)
