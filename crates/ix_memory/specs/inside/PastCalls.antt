-- The calls of a site that were made.
use Rattle.std.specs.Prelude.{ℕ, List, [], ◌∷◌, reverse, Vec}
use Rattle.std.specs.declared.alloc.Global.{Global}
use Rattle.ix_outside.specs.Contents.{SentBytes}
use Rattle.ix_memory.specs.inside.SentState.{SentState}
use Rattle.ix_memory.specs.declared.past.Effect.{Effect}

-- a call that was made: what it did to the disk, and the file and what had been sent before it
pub record PastCall : Type 0 where
  pub effect : Effect
  pub file : List ℕ
  pub sent : List SentBytes

-- from three lists of the same length
abbrev pub beside_each : List Effect → List (Vec ℕ Global) → List SentState → List PastCall
beside_each [] files sends = []
beside_each (effect ∷ effects) [] sends = []
beside_each (effect ∷ effects) (file ∷ files) [] = []
beside_each (effect ∷ effects) (file ∷ files) (sent ∷ sends) =
    record { effect = effect; file = file.items; sent = sent.sends.sent }
    ∷ beside_each effects files sends

-- the calls, the last one first
abbrev pub past_calls : List Effect → List (Vec ℕ Global) → List SentState → List PastCall
past_calls effects files sends = beside_each (reverse effects) (reverse files) (reverse sends)
