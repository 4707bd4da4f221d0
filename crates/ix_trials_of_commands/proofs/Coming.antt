-- What comes to a site that a test makes.
use Rattle.std.proofs.Common.{List, [], ◌∷◌, ◌++◌, ℕ}
use Rattle.std.specs.Prelude.{Vec}
use Rattle.std.specs.declared.alloc.Global.{Global}
use Rattle.ix_outside.specs.declared.event.Event.{Event}
use Rattle.ix_memory.specs.inside.CanCome.{CanCome, CanAllCome, beside, events_beside}

-- behind events that can come one more that can come
pub come_push : (events : List (Event × Vec ℕ Global)) (last : Event × Vec ℕ Global)
    → CanAllCome (events_beside events) → CanCome (beside last) → CanAllCome (events_beside (events ++ last ∷ []))
come_push [] last all one = (one, tt)
come_push (first ∷ events) last all one = (all.0, come_push events last all.1 one)
