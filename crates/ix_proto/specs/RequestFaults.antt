-- The faults of lines that aren't requests: the first that applies.
use Rattle.std.specs.Prelude.{◌≡◌, ◌≢◌, ℕ, ◌^◌, ◌⊎◌, List, [], ◌∷◌, length, codes}
use Rattle.ix_values.specs.Faults.{IsActionText}
use Rattle.ix_values.specs.Texts.{IsName}
use Rattle.ix_values.specs.Tickets.{IsTicketText}
use Rattle.ix_lines.specs.Numbers.{IsNumber}
use Rattle.ix_proto.specs.Requests.{IsLease}
use Rattle.ix_proto.specs.declared.request.Verb.{Verb}
use Rattle.ix_proto.specs.declared.request.Verb.TheVariants.{Ask, Confirm, Cancel, Outcome, May}
use Rattle.ix_proto.specs.declared.request.Verb.TheVariants.{Watch, Drop, Poll, Status, Log, Stop}

-- what a word behind the first one has to be
pub data Part : Type 0 where
  an_action : Part
  a_name : Part
  a_ticket : Part
  a_number : Part
  a_lease : Part

-- the first words
abbrev pub verb_word : Verb → List ℕ
verb_word Ask = codes "ask"
verb_word Confirm = codes "confirm"
verb_word Cancel = codes "cancel"
verb_word Outcome = codes "outcome"
verb_word May = codes "may"
verb_word Watch = codes "watch"
verb_word Drop = codes "drop"
verb_word Poll = codes "poll"
verb_word Status = codes "status"
verb_word Log = codes "log"
verb_word Stop = codes "stop"

-- what stands behind them
abbrev pub parts_of : Verb → List Part
parts_of Ask = an_action ∷ a_lease ∷ []
parts_of Confirm = a_ticket ∷ []
parts_of Cancel = a_ticket ∷ []
parts_of Outcome = a_ticket ∷ []
parts_of May = an_action ∷ []
parts_of Watch = a_name ∷ an_action ∷ []
parts_of Drop = a_name ∷ an_action ∷ []
parts_of Poll = a_name ∷ []
parts_of Status = []
parts_of Log = a_number ∷ []
parts_of Stop = []

-- the text is a number's, at most 18446744073709551615
abbrev pub IsNumberText : List ℕ → Type 0
IsNumberText text = (number : ℕ) × IsNumber (2 ^ 64) text number

-- the text is a lease's
abbrev pub IsLeaseText : List ℕ → Type 0
IsLeaseText word = (number : ℕ) × IsNumber (2 ^ 64) word number × IsLease number

-- the word is what it has to be
abbrev pub IsPart : Part → List ℕ → Type 0
IsPart an_action word = IsActionText word
IsPart a_name word = IsName word
IsPart a_ticket word = IsTicketText word
IsPart a_number word = IsNumberText word
IsPart a_lease word = IsLeaseText word

-- 12, 16 and 13 where it isn't an action, a name, a ticket or a number; 14 for a number that is no
-- lease
abbrev pub IsPartFault : Part → List ℕ → ℕ → Type 0
IsPartFault an_action word code = (¬ IsActionText word) × (code ≡ 12)
IsPartFault a_name word code = (¬ IsName word) × (code ≡ 16)
IsPartFault a_ticket word code = (¬ IsTicketText word) × (code ≡ 13)
IsPartFault a_number word code = (¬ IsNumberText word) × (code ≡ 13)
IsPartFault a_lease word code =
    ((¬ IsNumberText word) × (code ≡ 13)) ⊎ (IsNumberText word × (¬ IsLeaseText word) × (code ≡ 14))

-- word by word from the left, the first that isn't what it has to be
abbrev pub IsFirstRequestFault : List Part → List (List ℕ) → ℕ → Type 0
IsFirstRequestFault (part ∷ parts) (word ∷ words) code = IsPartFault part word code
    ⊎ (IsPart part word × IsFirstRequestFault parts words code)
IsFirstRequestFault _ _ code = ⊥

-- 15 where there are more words or fewer, and else the first fault of a word
abbrev pub IsFaultBehind : List Part → List (List ℕ) → ℕ → Type 0
IsFaultBehind parts words code =
    ((length words ≢ length parts) × (code ≡ 15))
    ⊎ ((length words ≡ length parts) × IsFirstRequestFault parts words code)

-- 11 where the first word isn't one of the eleven, and else the fault of what stands behind it
abbrev pub IsRequestFault : List (List ℕ) → ℕ → Type 0
IsRequestFault [] code = ⊥
IsRequestFault (first ∷ words) code =
    (((verb : Verb) → first ≢ verb_word verb) × (code ≡ 11))
    ⊎ ((verb : Verb) × (first ≡ verb_word verb) × IsFaultBehind (parts_of verb) words code)
