-- What a Slide lends of a file that it takes in pieces.
use Rattle.std.proofs.Common.{◌≡◌, ℕ, ◌+◌, List, [], ◌∷◌, ◌++◌, length, drop, Bool, true, false}
use Rattle.std.proofs.Common.{refl, sym, ◌∙◌, ap, subst}
use Rattle.std.proofs.lemmas.List.{append-nil, append_assoc, drop_at}
use Rattle.ix_journal.specs.declared.entries.Entry.{Entry}
use Rattle.ix_journal.specs.declared.slide.Slid.{Slid}
use Rattle.ix_journal.specs.declared.slide.Slid.TheVariants as slid
use Rattle.ix_journal.specs.Format.{IsOpen}
use Rattle.ix_journal.specs.Records.{BeginsWithRecord}
use Rattle.ix_journal.specs.Answers.{at_gate, PassesRecords}
use Rattle.ix_journal.specs.Entries.{fresh}
use Rattle.ix_journal.specs.Kept.{Kept}
use Rattle.ix_journal.specs.declared.entries.Marks.{Marks}
use Rattle.ix_journal.specs.Slide.{ComesTo, TellsSlid, RecordsGive, WantMore}
use Rattle.ix_journal.specs.Laws.{PiecesDoNotMatter}
use Rattle.ix_journal.proofs.SlideLemmas.{gives_record, gives_text, gives_closed, gives_damage, further}
use Rattle.ix_journal.proofs.SlideLemmas.{record_within, no_record_more}

-- the kept bytes and the rest are the file's from the gate on, and the texts are of the records in
-- front of it
record Reached (file : List ℕ) (first : ℕ) (rest : List ℕ) (texts : List (List ℕ))
    (kept : Kept) : Type 0 where
  passes : PassesRecords (at_gate file first fresh) texts (at_gate file kept.gate kept.marks)
  here : kept.bytes ++ rest ≡ drop kept.gate file

-- the file of a front, the bytes taken and the rest
abbrev File : List ℕ → List ℕ → List ℕ → List ℕ
File front taken rest = front ++ (taken ++ rest)

module _ (front : List ℕ) (first : ℕ) (is : length front ≡ first) where
  -- wherever the pieces end, the Slide is at a gate of the file
  reached : (taken rest : List ℕ) (texts : List (List ℕ)) (kept : Kept)
      → ComesTo first taken texts kept → Reached (File front taken rest) first rest texts kept
  reached _ rest _ _ ComesTo.begun =
      record {
        passes = PassesRecords.at_first (at_gate (File front [] rest) first fresh);
        here = sym (drop_at front rest first is);
      }
  reached _ rest _ _ (ComesTo.took taken texts kept piece before) =
      let same : File front taken (piece ++ rest) ≡ File front (taken ++ piece) rest =
      ap (λ (b : List ℕ). front ++ b) (sym (append_assoc taken piece rest)) in
      let r = reached taken (piece ++ rest) texts kept before in
      record {
        passes = subst (λ (b : List ℕ). PassesRecords (at_gate b first fresh) texts (at_gate b kept.gate kept.marks))
            same r.passes;
        here = append_assoc kept.bytes piece rest ∙ r.here ∙ ap (drop kept.gate) same;
      }
  reached _ rest _ _ (ComesTo.told_the_end taken texts kept before) =
      let r = reached taken rest texts kept before in record { passes = r.passes; here = r.here }
  reached _ rest _ _ (ComesTo.lent taken texts kept new text before tells leaves) =
      let r = reached taken rest texts kept before in
      let file : List ℕ = File front taken rest in
      let left : Marks = leaves.0 in
      let more = gives_text file kept.gate kept.bytes rest r.here kept.marks left text leaves.1 in
      let length_all : ℕ = 3 + length text.now in
      subst (λ (k : Kept). Reached file first rest (texts ++ text.now ∷ []) k) (sym leaves.2)
      (record {
        passes = PassesRecords.one_more (at_gate file first fresh) (at_gate file kept.gate kept.marks)
            (at_gate file (kept.gate + length_all) left) texts text r.passes more;
        here = further file kept.gate kept.bytes rest r.here length_all
            (record_within file kept.gate kept.bytes rest r.here kept.marks left text leaves.1);
      })

-- of bytes that aren't short a missing record stays away, whatever the rest that may come
pub stays_away : (bytes rest : List ℕ) (ended : Bool) → IsOpen bytes 0
    → ((ended ≡ false) × WantMore bytes → ⊥) → (ended ≡ true → rest ≡ [])
    → (entry : Entry) → BeginsWithRecord (drop 1 bytes ++ rest) entry
    → BeginsWithRecord (drop 1 bytes) entry
stays_away bytes rest true open_there enough none entry w =
    subst (λ (b : List ℕ). BeginsWithRecord b entry)
    (ap (λ (r : List ℕ). drop 1 bytes ++ r) (none refl) ∙ append-nil (drop 1 bytes)) w
stays_away bytes rest false open_there enough none entry w =
    no_record_more bytes rest entry (λ m. enough (refl, m)) open_there w

last : (file rest : List ℕ) (kept : Kept) (answer : Slid)
    → kept.bytes ++ rest ≡ drop kept.gate file
    → (kept.ended ≡ true → rest ≡ []) → TellsSlid kept answer
    → RecordsGive 0 file kept.gate kept.marks answer
last file rest kept (slid.Record text) here none tells =
    gives_record file kept.gate kept.bytes rest here kept.marks text tells.1
last file rest kept slid.More here none tells = tt
last file rest kept (slid.Closed place) here none tells =
    gives_closed file kept.gate kept.bytes rest here kept.marks place tells.1
last file rest kept (slid.Damaged at) here none tells =
    gives_damage file kept.gate kept.bytes rest here kept.marks at
    (stays_away kept.bytes rest kept.ended tells.1.2.1.1.open_there tells.0 none) tells.1

pub pieces_do_not_matter : PiecesDoNotMatter
pieces_do_not_matter front taken rest texts kept answer comes none tells =
    let r = reached front (length front) refl taken rest texts kept comes in
    record {
      lent = r.passes;
      last = last (File front taken rest) rest kept answer r.here none tells;
    }
