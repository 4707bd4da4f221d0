-- What the calls of a store of keys make of what it tells.
use Rattle.std.specs.Prelude.{◌≡◌, ◌⊎◌, ℕ, ◌+◌, if◌then◌else◌, List, [], ◌∷◌, ◌++◌}
use Rattle.std.specs.Prelude.{Option, None, Some}
use Rattle.ix_words.specs.Each.{Each}
use Rattle.ix_blocks.specs.Register.{Register, Transaction, seen_of, fits, apply}
use Rattle.ix_blocks.specs.declared.claim.Seen.{Seen}
use Rattle.ix_blocks.specs.declared.claim.Commit.{Commit}
use Rattle.ix_blocks.specs.declared.claim.Commit.TheVariants.{Applied, Refused}
use Rattle.ix_blocks.specs.Stores.{Store, Arrival, after_arrivals, WasSent}

-- from one moment to a later one, some of what was sent came
pub record Meanwhile (sent : List Transaction) (before after : Register) : Type 0 where
  pub arrivals : List Arrival
  pub were_sent : Each (WasSent sent) arrivals
  pub makes : after ≡ after_arrivals arrivals before

-- this holds at a moment between the two
pub record AtMoment (P : Register → Type 0) (sent : List Transaction) (before after : Register)
    : Type 0 where
  pub moment : Register
  pub until : Meanwhile sent before moment
  pub holds : P moment
  pub since : Meanwhile sent moment after

-- what the store answers to a transaction that comes
abbrev pub answer_of : Transaction → Register → Commit
answer_of transaction register =
    if fits transaction register then Applied (register.newest + 1) else Refused (seen_of register)

-- a transaction came at a moment between the two, and this is what it was answered
pub record ComesOnce (transaction : Transaction) (says : Commit) (sent : List Transaction)
    (before after : Register) : Type 0 where
  pub moment : Register
  pub until : Meanwhile sent before moment
  pub answers : says ≡ answer_of transaction moment
  pub since : Meanwhile sent (apply transaction moment) after

-- where the store tells, this holds of it before and after; whether it tells stays
abbrev pub WhereTold : (Store → Store → Type 0) → Option Store → Option Store → Type 0
WhereTold R None new = new ≡ None
WhereTold R (Some old) None = ⊥
WhereTold R (Some old) (Some new) = R old new

-- nothing was sent, and some of what had been sent before may have come
pub record TimePasses (old new : Store) : Type 0 where
  pub register : Meanwhile old.sent old.register new.register
  pub sent : new.sent ≡ old.sent

-- the head was this at a moment
abbrev pub SeesHead : Seen → Store → Store → Type 0
SeesHead seen old new =
    AtMoment (λ register. seen_of register ≡ seen) old.sent old.register new.register

-- the block had these bytes at a moment at which the head was the one put last at this revision
abbrev pub ReadsBlock : ℕ → ℕ → List ℕ → Store → Store → Type 0
ReadsBlock number at bytes old new = AtMoment
    (λ register. (register.revision ≡ at) × (register.blocks number ≡ bytes))
    old.sent old.register new.register

-- those that were sent, with one more
abbrev pub sent_with : Store → Transaction → List Transaction
sent_with store transaction = store.sent ++ transaction ∷ []

-- a transaction was sent, or there was no memory to send it; some of what was sent may have come
pub record SendsOne (transaction : Transaction) (old new : Store) : Type 0 where
  pub register : Meanwhile (sent_with old transaction) old.register new.register
  pub sent : (new.sent ≡ old.sent) ⊎ (new.sent ≡ sent_with old transaction)

-- a transaction came, and was answered so
abbrev pub AnswersSo : Transaction → Commit → Store → Store → Type 0
AnswersSo transaction says old new =
    ComesOnce transaction says (sent_with old transaction) old.register new.register
