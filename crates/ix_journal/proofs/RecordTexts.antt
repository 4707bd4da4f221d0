-- Bytes that begin with a record's text.
use Rattle.std.proofs.Common.{◌≡◌, ℕ, List, sym, ◌∙◌, subst, arith}
use Rattle.ix_journal.specs.Entries.{MayFollow, entry_text}
use Rattle.ix_journal.specs.Records.{BeginsWithRecord}
use Rattle.ix_journal.specs.declared.entries.Entry.{Entry}
use Rattle.ix_journal.specs.declared.entries.Marks.{Marks}
use Rattle.ix_journal.specs.inside.Fronts.{BeginsWithText}
use Rattle.ix_journal.specs.inside.Reading.{IsText, SaysEntry}
use Rattle.ix_journal.proofs.EntryTexts.{entries-same}
use Rattle.ix_journal.proofs.OrderLemmas.{entry_short}
use Rattle.ix_journal.proofs.TextFronts.{with_length-apart}

-- a record begins with its text
pub text_of_record : (bytes : List ℕ) (entry : Entry) → BeginsWithRecord bytes entry
    → BeginsWithText bytes (entry_text entry)
text_of_record bytes entry w =
    let short = entry_short entry w.valid in
    record { behind = w.behind; spells = w.spells; gate = w.gate; short = omega arith }

-- bytes begin with one text at most
pub text_unique : (bytes x y : List ℕ) → BeginsWithText bytes x → BeginsWithText bytes y → x ≡ y
text_unique bytes x y v w =
    (with_length-apart x y v.behind w.behind v.short w.short (sym v.spells ∙ w.spells)).0

-- a text that is no record's makes no record
pub no_record : (bytes text : List ℕ) → BeginsWithText bytes text → (IsText text → ⊥)
    → (entry : Entry) → BeginsWithRecord bytes entry → ⊥
no_record bytes text v none entry w =
    none (
      entry,
      record {
        valid = w.valid;
        same = text_unique bytes text (entry_text entry) v (text_of_record bytes entry w);
      },
    )

-- where no text is found there is no record
pub no_text : (bytes : List ℕ) → ((text : List ℕ) → BeginsWithText bytes text → ⊥)
    → (entry : Entry) → BeginsWithRecord bytes entry → ⊥
no_text bytes none entry w = none (entry_text entry) (text_of_record bytes entry w)

-- where the record that is there may not follow, no record is there that may
pub not_next : (bytes text : List ℕ) → BeginsWithText bytes text → (marks : Marks) (found : Entry)
    → SaysEntry text found → (MayFollow marks found → ⊥)
    → (entry : Entry) → MayFollow marks entry → BeginsWithRecord bytes entry → ⊥
not_next bytes text v marks found says none entry follows w =
    let same : entry ≡ found = entries-same entry found w.valid says.valid
    (sym (text_unique bytes text (entry_text entry) v (text_of_record bytes entry w)) ∙ says.same) in
    none (subst (MayFollow marks) same follows)
