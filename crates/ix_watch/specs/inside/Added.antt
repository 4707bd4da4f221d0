-- What adding a watch answers.
use Rattle.std.specs.Prelude.{◌≡◌, ◌<◌, ℕ, Bool, true, false, List, [], ◌∷◌, ◌++◌, length, Result}
use Rattle.std.specs.Prelude.{Ok, Err}
use Rattle.ix_values.specs.PlainAction.{PlainAction}
use Rattle.ix_watch.specs.inside.Watches.{PlainWatch, new_watch, is_watched, told_again}
use Rattle.ix_watch.specs.declared.Added.{Added}
use Rattle.ix_watch.specs.declared.Added.TheVariants.{New, Again}
use Rattle.ix_watch.specs.declared.WatchFault.{WatchFault}
use Rattle.ix_watch.specs.declared.WatchFault.TheVariants.{Full, Memory}

-- what adding a watch to old answers, and what the watches are then
abbrev pub Adds : List PlainWatch → List ℕ → PlainAction → Bool → Result Added WatchFault
    → List PlainWatch → Type 0
Adds old name action told (Ok New) new =
    (is_watched name action old ≡ false) × (length old < 4096)
    × (new ≡ old ++ new_watch name action told ∷ [])
Adds old name action told (Ok Again) new =
    (is_watched name action old ≡ true) × (new ≡ told_again name action told old)
Adds old name action told (Err Full) new =
    (is_watched name action old ≡ false) × (length old ≡ 4096) × (new ≡ old)
Adds old name action told (Err Memory) new =
    (is_watched name action old ≡ false) × (length old < 4096) × (new ≡ old)
