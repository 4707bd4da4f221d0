-- What the records of a journal say, and in which order they may stand.
use Rattle.std.specs.Prelude.{◌≡◌, ℕ, ◌+◌, ◌<◌, ◌≤◌, ◌^◌, List, [], ◌∷◌, ◌++◌, length, codes}
use Rattle.std.specs.Prelude.{decimal}
use Rattle.std.specs.Prelude.{Option, Some, None, ⊤}
use Rattle.std.specs.List.{flat_map}
use Rattle.ix_values.specs.PlainAction.{text_of}
use Rattle.ix_values.specs.Texts.{IsAction}
use Rattle.ix_values.specs.Tickets.{IsTicket, ticket_text}
use Rattle.ix_values.specs.declared.tickets.Ticket.{Ticket}
use Rattle.ix_journal.specs.History.{PlainHistory}
use Rattle.ix_journal.specs.declared.TheConstants.{MOST_RECORDS, MOST_BOOTS}
use Rattle.ix_journal.specs.declared.entries.Entry.{Entry}
use Rattle.ix_journal.specs.declared.entries.Entry.TheVariants as entry
use Rattle.ix_journal.specs.declared.entries.Marks.{Marks}
use Rattle.ix_journal.specs.declared.entries.Renewed.{Renewed}

-- the text of a record: `renewed` and two numbers; `boot` and a number; a ticket's text and an
-- action's; an action's alone
abbrev pub entry_text : Entry → List ℕ
entry_text (entry.Renewed actions boots) =
    codes "renewed " ++ decimal actions ++ 32 ∷ decimal boots
entry_text (entry.Boot number) = codes "boot " ++ decimal number
entry_text (entry.Spent ticket action) = ticket_text ticket ++ 32 ∷ text_of action
entry_text (entry.Plain action) = text_of action

-- the numbers fit, and the action is one
abbrev pub IsEntry : Entry → Type 0
IsEntry (entry.Renewed actions boots) = (actions ≤ 2 ^ 63) × (boots ≤ 2 ^ 63)
IsEntry (entry.Boot number) = number < 2 ^ 64
IsEntry (entry.Spent ticket action) = IsTicket ticket × IsAction action
IsEntry (entry.Plain action) = IsAction action

-- in front of all records: no action, no boot, nothing spent, and no renewal
abbrev pub fresh : Marks
fresh = record { actions = 0; boots = 0; seq = 0; renewal = None }

-- without a renewal nothing is carried, and nothing was before
abbrev pub or_none : Option Renewed → Renewed
or_none None = record { carried = 0; actions = 0; boots = 0 }
or_none (Some renewed) = renewed

-- what the journal stands for besides its own records
abbrev pub renewed_of : Marks → Renewed
renewed_of marks = or_none marks.renewal

-- the ticket is of this boot, which has a record here, and its number is above those spent in it
abbrev pub CanSpend : Marks → Ticket → Type 0
CanSpend marks ticket =
    (ticket.boot ≡ marks.boots) × ((renewed_of marks).boots < ticket.boot)
    × (marks.seq < ticket.seq)

-- behind records with these marks the next one may say this: a renewal once, behind no boot, and
-- with no fewer actions than are in front of it
abbrev pub MayFollow : Marks → Entry → Type 0
MayFollow marks (entry.Renewed actions boots) =
    (marks.renewal ≡ None) × (marks.boots ≡ 0) × (marks.actions ≤ actions)
MayFollow marks (entry.Boot number) = number ≡ marks.boots + 1
MayFollow marks (entry.Spent ticket action) = CanSpend marks ticket
MayFollow marks (entry.Plain action) = ⊤

-- the marks behind one record more: with a renewal those in front of it are carried, a boot begins
-- its own numbers, a ticket spends its number
abbrev pub behind : Marks → Entry → Marks
behind marks (entry.Renewed actions boots) =
    record {
      actions = marks.actions;
      boots = boots;
      seq = 0;
      renewal = Some (record { carried = marks.actions; actions = actions; boots = boots });
    }
behind marks (entry.Boot number) =
    record {
      actions = marks.actions;
      boots = marks.boots + 1;
      seq = 0;
      renewal = marks.renewal;
    }
behind marks (entry.Spent ticket action) =
    record {
      actions = marks.actions + 1;
      boots = marks.boots;
      seq = ticket.seq;
      renewal = marks.renewal;
    }
behind marks (entry.Plain action) =
    record {
      actions = marks.actions + 1;
      boots = marks.boots;
      seq = marks.seq;
      renewal = marks.renewal;
    }

-- the marks behind all of these records
abbrev pub marks_behind : Marks → List Entry → Marks
marks_behind marks [] = marks
marks_behind marks (entry ∷ entries) = marks_behind (behind marks entry) entries

-- each of these records may stand behind those in front of it
abbrev pub InOrder : Marks → List Entry → Type 0
InOrder marks [] = ⊤
InOrder marks (entry ∷ entries) = MayFollow marks entry × InOrder (behind marks entry) entries

-- the marks behind a journal's records: how many are of actions, the number of the last boot, the
-- last number spent in it, or 0, and the renewal among them
abbrev pub marks_of : List Entry → Marks
marks_of entries = marks_behind fresh entries

-- the action that a record tells with its ticket, if it tells one
abbrev pub pair_of : Entry → PlainHistory
pair_of (entry.Renewed actions boots) = []
pair_of (entry.Boot number) = []
pair_of (entry.Spent ticket action) = (Some ticket, action) ∷ []
pair_of (entry.Plain action) = (None, action) ∷ []

-- the actions that records tell with their tickets, in order
abbrev pub pairs_of : List Entry → PlainHistory
pairs_of entries = flat_map pair_of entries

-- at most a million records of actions, and at most a million of boots
pub record AreFew (entries : List Entry) : Type 0 where
  pub actions : length (pairs_of entries) ≤ MOST_RECORDS
  pub boots : let marks = marks_of entries in
      marks.boots ≤ (renewed_of marks).boots + MOST_BOOTS
