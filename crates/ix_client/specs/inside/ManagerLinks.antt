-- A link to a manager in memory, as contracts see it.
use Rattle.std.specs.Prelude.{◌≡◌, ℕ, ◌^◌, ◌<◌, ◌≤◌, ◌==◌, nat_le, nat_lt, ◌&&◌, ◌||◌, not, Bool}
use Rattle.std.specs.Prelude.{if◌then◌else◌}
use Rattle.std.specs.Prelude.{true, false, List, [], ◌∷◌, Option, None, Some, ⊤}
use Rattle.std.specs.List.{list_all}
use Rattle.ix_values.specs.PlainAction.{PlainAction}
use Rattle.ix_values.specs.declared.tickets.Ticket.{Ticket}
use Rattle.ix_journal.specs.History.{PlainHistory, Spent}
use Rattle.ix_lease.specs.declared.Slot.TheVariants.{Held}
use Rattle.ix_lines.specs.Feeding.{unfinished}
use Rattle.ix_outside.specs.Counts.{one_more}
use Rattle.ix_memory.specs.inside.MemorySiteState.{MemorySiteState, crashes_of, state_of}
use Rattle.ix_parse.specs.Faults.{StandsFor}
use Rattle.ix_step.specs.inside.Limits.{most_size}
use Rattle.ix_manager.specs.Handled.{ManagerState, held_at}
use Rattle.ix_manager.specs.Machine.{MachineState}
use Rattle.ix_manager.specs.inside.OverSite.{FitsSite}
use Rattle.ix_client.specs.Grants.{same_ticket}
use Rattle.ix_client.specs.Links.{LinkState, Told}
use Rattle.ix_client.specs.Sound.{all_pairs}

-- the text of the expression, the limit of Size, the manager, unless none could be started, its
-- site, the calls that are told to fail, and the link's counts and line
pub record ManagerLinkState : Type 0 where
  pub text : List ℕ
  pub limit : ℕ
  pub manager : Option ManagerState
  pub site : MemorySiteState
  pub fail : List (ℕ × Bool)
  pub calls : ℕ
  pub line : List ℕ
  pub faults : ℕ
  pub balks : ℕ

-- there is a ticket, and it is this one
abbrev pub names_ticket : Ticket → Option Ticket → Bool
names_ticket ticket None = false
names_ticket ticket (Some other) = same_ticket ticket other

-- no pair has the ticket, where there is one
abbrev pub is_absent : Option Ticket → PlainHistory → Bool
is_absent None others = true
is_absent (Some ticket) others =
    list_all (λ (spent : Spent). not (names_ticket ticket spent.0)) others

-- no ticket stands in two pairs
abbrev pub are_apart : PlainHistory → Bool
are_apart [] = true
are_apart (spent ∷ others) = is_absent spent.0 others && are_apart others

-- the ticket, where there is one, was granted in an earlier boot, or in this one below the number
abbrev pub is_granted : ℕ → ℕ → Option Ticket → Bool
is_granted boot number None = true
is_granted boot number (Some ticket) =
    nat_le ticket.boot boot && (not (ticket.boot == boot) || nat_lt ticket.seq number)

-- the state is sound: the same as a test
abbrev pub is_sound : MachineState → Bool
is_sound s = (nat_lt 0 s.boot && nat_lt 0 s.number)
    && (are_apart (all_pairs s)
    && list_all (λ (spent : Spent). is_granted s.boot s.number spent.0) (all_pairs s))

abbrev pub told_where : Bool → Told → Option Told
told_where true told = Some told
told_where false told = None

-- what is told of a manager
abbrev pub told_by : ManagerState → Told
told_by m = record { form = m.form; limit = m.limit; machine = m.machine }

-- the manager is told where there is one, and the site tells its contents and its disk; its state
-- is sound then
abbrev pub told_of : Option ManagerState → MemorySiteState → Option Told
told_of None site = None
told_of (Some m) site = told_where (site.told && is_sound m.machine) (told_by m)

abbrev pub link_state : ManagerLinkState → LinkState
link_state link = record {
  calls = link.calls;
  line = link.line;
  faults = link.faults;
  balks = link.balks;
  told = told_of link.manager link.site;
}

-- a call with this line was noted
abbrev pub call_noted : List ℕ → ManagerLinkState → ManagerLinkState
call_noted line link = record link { calls = one_more link.calls; line = line }

-- what is told of the call of this number: that it fails, and then whether behind its step
abbrev pub told_at : ℕ → List (ℕ × Bool) → Option Bool
told_at number [] = None
told_at number (one ∷ fail) = if one.0 == number then Some one.1 else told_at number fail

-- what is told and noted of calls stays
pub record NotesStay (old new : ManagerLinkState) : Type 0 where
  pub fail : new.fail ≡ old.fail
  pub calls : new.calls ≡ old.calls
  pub line : new.line ≡ old.line

-- a reservation's deadline fits into 64 bits
abbrev pub HasTime : MachineState → Type 0
HasTime s = (ticket : Ticket) (a : PlainAction) (deadline : ℕ) → s.slot ≡ Held ticket a deadline
    → deadline < 2 ^ 64

-- the manager fits its site, and holds no unfinished line of connection 0
pub record IsRunEnded (m : ManagerState) (site : MemorySiteState) : Type 0 where
  pub fits : FitsSite m (state_of site) (crashes_of site)
  pub held : held_at 0 m.lines ≡ unfinished []
  pub time : HasTime m.machine

-- the manager is one of the text's expression and the limit, over its site
pub record IsManagerOf (text : List ℕ) (limit : ℕ) (m : ManagerState) (site : MemorySiteState)
    : Type 0 where
  pub stands : StandsFor text m.form
  pub limit_is : m.limit ≡ limit
  pub over : IsRunEnded m site

abbrev pub IsManagerWhere : List ℕ → ℕ → Option ManagerState → MemorySiteState → Type 0
IsManagerWhere text limit None site = ⊤
IsManagerWhere text limit (Some m) site = IsManagerOf text limit m site

-- a manager can be started under the limit, over the attached file, and where one is there, it is
-- of the text and the limit and over the site
pub record IsLinked (text : List ℕ) (limit : ℕ) (manager : Option ManagerState)
    (site : MemorySiteState) : Type 0 where
  pub least : 1 ≤ limit
  pub most : limit ≤ most_size
  pub attached : site.attached ≡ true
  pub manages : IsManagerWhere text limit manager site
