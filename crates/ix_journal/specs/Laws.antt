-- What holds of journals.
use Rattle.std.specs.Prelude.{◌≡◌, ◌≢◌, ◌⊎◌, ℕ, ◌+◌, ◌<◌, ◌≤◌, List, [], ◌∷◌, ◌++◌, length}
use Rattle.std.specs.Prelude.{◌^◌, All, None, Some, take, drop, map, true}
use Rattle.ix_values.specs.PlainAction.{Word}
use Rattle.ix_values.specs.Texts.{IsAction}
use Rattle.ix_journal.specs.Entries.{AreFew, IsEntry, MayFollow, entry_text, fresh, marks_of}
use Rattle.ix_journal.specs.Entries.{pairs_of}
use Rattle.ix_journal.specs.History.{PlainHistory}
use Rattle.ix_journal.specs.declared.TheConstants.{FRONT_LENGTH, MOST_RECORDS, OPEN}
use Rattle.ix_journal.specs.declared.entries.Entry.{Entry}
use Rattle.ix_journal.specs.declared.entries.Marks.{Marks}
use Rattle.ix_journal.specs.declared.entries.Renewed.{Renewed}
use Rattle.ix_journal.specs.Format.{IsOpen, IsClosed, IsVersion, farthest_gate, header, record_of}
use Rattle.ix_journal.specs.Format.{renewed_journal}
use Rattle.ix_journal.specs.Kinds.{IsUnfinished, IsUnopened, IsReady, Kind, HasKind}
use Rattle.ix_journal.specs.Records.{BeginsWithRecord, Holds}
use Rattle.ix_journal.specs.declared.slide.Slid.{Slid}
use Rattle.ix_journal.specs.Answers.{Standing, at_gate, LendsRecords, PassesRecords}
use Rattle.ix_journal.specs.Kept.{Kept}
use Rattle.ix_journal.specs.Slide.{ComesTo, TellsSlid, RecordsGive}
use Rattle.ix_journal.specs.Recovery.{IsJournal, IsDamaged, IsMany, KeepsRecords, Recovers}
use Rattle.ix_journal.specs.Recovery.{HoldsBoots}
use Rattle.ix_journal.specs.Recovery.{IsJournalWith}

-- a file has one kind at most
abbrev pub OneKind : Type 0
OneKind = (bytes : List ℕ) (x y : Kind) → HasKind bytes x → HasKind bytes y → x ≡ y

-- a file keeps one list of records at most
abbrev pub OneList : Type 0
OneList = (bytes : List ℕ) (x y : List Entry) → KeepsRecords bytes x → KeepsRecords bytes y → x ≡ y

-- a file recovers one history at most
abbrev pub OneHistory : Type 0
OneHistory = (bytes : List ℕ) (x y : PlainHistory) → Recovers bytes x → Recovers bytes y → x ≡ y

-- a file holds one number of boots at most, and stands for one thing
abbrev pub OneNumber : Type 0
OneNumber = (bytes : List ℕ) (x y : Renewed) (m n : ℕ)
    → HoldsBoots bytes x m → HoldsBoots bytes y n → (x ≡ y) × (m ≡ n)

-- a journal has one text, one list of records and one first closed gate
abbrev pub OneJournal : Type 0
OneJournal = (bytes text text' : List ℕ) (x y : List Entry) (gate gate' : ℕ)
    → IsJournal bytes text x gate → IsJournal bytes text' y gate'
    → (text ≡ text') × (x ≡ y) × (gate ≡ gate')

-- a file has one of these at most: a history, damage at one place, too many records
abbrev pub OneOutcome : Type 0
OneOutcome = (bytes : List ℕ)
    → ((history : PlainHistory) (at : ℕ) → Recovers bytes history → IsDamaged bytes at → ⊥)
    × ((history : PlainHistory) → Recovers bytes history → IsMany bytes → ⊥)
    × ((at : ℕ) → IsDamaged bytes at → IsMany bytes → ⊥)
    × ((at other : ℕ) → IsDamaged bytes at → IsDamaged bytes other → at ≡ other)

-- no records stand in front of the first gate
abbrev pub HoldsNone : Type 0
HoldsNone = (bytes : List ℕ) (first : ℕ) → first < length bytes → Holds bytes first [] first

-- an open gate and a record behind it that may follow make one record more
abbrev pub HoldsMore : Type 0
HoldsMore = (bytes : List ℕ) (first : ℕ) (entries : List Entry) (gate : ℕ) (entry : Entry)
    → Holds bytes first entries gate → IsOpen bytes gate
    → BeginsWithRecord (drop (gate + 1) bytes) entry → MayFollow (marks_of entries) entry
    → Holds bytes first (entries ++ entry ∷ []) (gate + 1 + length (record_of entry))

-- the texts lent from a ready file's first gate to the end are those of records, and where these
-- aren't too many they are the journal's
abbrev pub LendsTheHistory : Type 0
LendsTheHistory = (bytes text : List ℕ) (first : ℕ) (texts : List (List ℕ)) (end : Standing)
    → IsReady bytes text first → LendsRecords (at_gate bytes first fresh) texts end
    → (entries : List Entry) × (texts ≡ map entry_text entries)
    × (AreFew entries → IsJournal bytes text entries end.gate)

-- the texts given from a gate up to another are those of the records between, which leave the marks
abbrev pub PassesTheHistory : Type 0
PassesTheHistory = (bytes : List ℕ) (first gate : ℕ) (marks : Marks) (texts : List (List ℕ))
    → first < length bytes
    → PassesRecords (at_gate bytes first fresh) texts (at_gate bytes gate marks)
    → (entries : List Entry) × (texts ≡ map entry_text entries) × (marks ≡ marks_of entries)
    × Holds bytes first entries gate

-- with its head gate opened, a header and a closed gate are a journal without records
abbrev pub OpenedIsEmpty : Type 0
OpenedIsEmpty = (version : ℕ) (text : List ℕ) (gate : ℕ) (rest : List ℕ) → IsVersion version
    → length text < 65536 → gate ≢ OPEN
    → IsJournal (OPEN ∷ header version text ++ gate ∷ rest) text [] (FRONT_LENGTH + length text)

-- whatever its head gate holds, a file that is a header and one closed gate has no records
abbrev pub Begun : Type 0
Begun = (head version : ℕ) (text : List ℕ) (gate : ℕ) → IsVersion version
    → length text < 65536 → gate ≢ OPEN
    → let bytes = head ∷ header version text ++ gate ∷ [] in
    IsUnfinished bytes
    ⊎ (IsUnopened bytes text ⊎ IsJournal bytes text [] (FRONT_LENGTH + length text))

-- the first closed gate stands no farther than that of the longest records
abbrev pub GateIsNear : Type 0
GateIsNear = (bytes text : List ℕ) (entries : List Entry) (gate : ℕ)
    → IsJournal bytes text entries gate
    → gate ≤ farthest_gate (marks_of entries)

-- what stands behind the first closed gate means nothing
abbrev pub IgnoresTheRest : Type 0
IgnoresTheRest = (bytes text : List ℕ) (entries : List Entry) (gate : ℕ) (new : List ℕ)
    → IsJournal bytes text entries gate → take gate new ≡ take gate bytes → IsClosed new gate
    → IsJournal new text entries gate

-- with its gate opened, a record that may follow and a closed gate behind it are the next record
abbrev pub Appended : Type 0
Appended = (bytes text : List ℕ) (entries : List Entry) (gate : ℕ)
    (entry : Entry) (closed : ℕ) (rest : List ℕ)
    → IsJournal bytes text entries gate → AreFew (entries ++ entry ∷ [])
    → IsEntry entry → MayFollow (marks_of entries) entry → closed ≢ OPEN
    → IsJournal (take gate bytes ++ OPEN ∷ record_of entry ++ closed ∷ rest) text
    (entries ++ entry ∷ []) (gate + 1 + length (record_of entry))

-- a renewed journal is one: its history is the carried actions without tickets, and it stands for
-- what its last record says
abbrev pub RenewedIsAJournal : Type 0
RenewedIsAJournal = (text : List ℕ) (carried : Word) (actions boots : ℕ)
    → length text < 65536 → All IsAction carried → length carried ≤ MOST_RECORDS
    → length carried ≤ actions → actions ≤ 2 ^ 63 → boots ≤ 2 ^ 63
    → (gate : ℕ) × IsJournalWith (renewed_journal text carried actions boots) text
    (map (λ a. (None, a)) carried)
    (record {
      actions = length carried;
      boots = boots;
      seq = 0;
      renewal = Some (record { carried = length carried; actions = actions; boots = boots });
    }) gate

-- what a file is by its first 237,065,593 bytes, or by more of them, it is
abbrev pub EnoughBytes : Type 0
EnoughBytes = (bytes : List ℕ) (read : ℕ) → 237065593 ≤ read
    → ((text : List ℕ) (entries : List Entry) (gate : ℕ)
    → IsJournal (take read bytes) text entries gate → IsJournal bytes text entries gate)
    × ((at : ℕ) → IsDamaged (take read bytes) at → IsDamaged bytes at)
    × (IsMany (take read bytes) → IsMany bytes)
    × ((kind : Kind) → HasKind (take read bytes) kind → HasKind bytes kind)

-- the records of the file from this first gate on give the texts, and at the gate where they then
-- stand, with these marks, the answer, with places counted in the file
pub record AreOfTheFile (file : List ℕ) (first : ℕ) (texts : List (List ℕ)) (gate : ℕ)
    (marks : Marks) (answer : Slid) : Type 0 where
  pub lent : PassesRecords (at_gate file first fresh) texts (at_gate file gate marks)
  pub last : RecordsGive 0 file gate marks answer

-- whatever pieces a Slide took behind a file's front, what it lent and answers is of the file, and
-- would be with other bytes behind those taken unless the end was told
abbrev pub PiecesDoNotMatter : Type 0
PiecesDoNotMatter = (front taken rest : List ℕ) (texts : List (List ℕ)) (kept : Kept)
    (answer : Slid)
    → ComesTo (length front) taken texts kept → (kept.ended ≡ true → rest ≡ [])
    → TellsSlid kept answer
    → AreOfTheFile (front ++ (taken ++ rest)) (length front) texts kept.gate kept.marks answer
