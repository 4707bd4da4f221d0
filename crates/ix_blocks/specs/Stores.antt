-- What a store of keys tells of one file, and what may come to it.
use Rattle.std.specs.Prelude.{List, [], ◌∷◌, ⊤}
use Rattle.ix_words.specs.Each.{Each, Member}
use Rattle.ix_blocks.specs.Register.{Register, Transaction, apply}
use Rattle.ix_blocks.specs.Owners.{raised_elsewhere}

-- the keys, and each transaction that was ever sent, in order; any of them may come later, or again
pub record Store : Type 0 where
  pub register : Register
  pub sent : List Transaction

-- what comes to the store: a transaction on these keys, or one on others
pub data Arrival : Type 0 where
  on_these : Transaction → Arrival
  on_others : Arrival

abbrev pub arrive : Register → Arrival → Register
arrive register (on_these transaction) = apply transaction register
arrive register on_others = raised_elsewhere register

-- the keys after all of these came, in order
abbrev pub after_arrivals : List Arrival → Register → Register
after_arrivals [] register = register
after_arrivals (arrival ∷ arrivals) register = after_arrivals arrivals (arrive register arrival)

-- a transaction on these keys is one of those that were sent
abbrev pub WasSent : List Transaction → Arrival → Type 0
WasSent sent (on_these transaction) = Member transaction sent
WasSent sent on_others = ⊤

-- whatever comes of all that was sent, this holds of the keys then
abbrev pub WhateverComes : (Register → Type 0) → Store → Type 0
WhateverComes P store = (arrivals : List Arrival) → Each (WasSent store.sent) arrivals
    → P (after_arrivals arrivals store.register)
