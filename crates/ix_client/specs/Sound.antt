-- The states in which a manager that is told may be.
use Rattle.std.specs.Prelude.{◌≡◌, ◌<◌, [], ◌∷◌, ◌++◌, Option, None, Some, ⊤}
use Rattle.ix_words.specs.Each.{Each}
use Rattle.ix_values.specs.declared.tickets.Ticket.{Ticket}
use Rattle.ix_journal.specs.History.{PlainHistory}
use Rattle.ix_lease.specs.declared.Slot.{Slot}
use Rattle.ix_lease.specs.declared.Slot.TheVariants.{Free, Held}
use Rattle.ix_manager.specs.Granted.{WasGranted}
use Rattle.ix_manager.specs.Machine.{IsAbsent, MachineState}
use Rattle.ix_client.specs.Links.{Told}

-- the pair of a reservation, whether it is open or not
abbrev pub reserved : Slot → PlainHistory
reserved Free = []
reserved (Held ticket a deadline) = (Some ticket, a) ∷ []

-- the pairs of the history, and behind them that of the reservation
abbrev pub all_pairs : MachineState → PlainHistory
all_pairs s = s.history ++ reserved s.slot

-- no ticket stands in two pairs
abbrev pub AreApart : PlainHistory → Type 0
AreApart [] = ⊤
AreApart (spent ∷ others) =
    ((ticket : Ticket) → spent.0 ≡ Some ticket → IsAbsent ticket others) × AreApart others

-- The boot and the next number aren't 0, no ticket stands twice in the history and the reservation
-- together, and each of them was granted in an earlier boot, or in this one below the next number.
pub record IsSound (s : MachineState) : Type 0 where
  pub boot : 0 < s.boot
  pub number : 0 < s.number
  pub apart : AreApart (all_pairs s)
  pub granted : Each (WasGranted s.boot s.number) (all_pairs s)

abbrev pub IsSoundWhereTold : Option Told → Type 0
IsSoundWhereTold None = ⊤
IsSoundWhereTold (Some told) = IsSound told.machine
