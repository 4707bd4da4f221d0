-- The records of a file that a Slide takes in pieces.
use Rattle.std.proofs.Common.{◌≡◌, ◌≢◌, ℕ, ◌+◌, ◌-◌, ◌*◌, ◌<◌, ◌≤◌, List, [], ◌∷◌, ◌++◌}
use Rattle.std.proofs.Common.{length, drop, Bool, true}
use Rattle.std.proofs.Common.{false, take, min, Some, None, Bor, if◌then◌else◌, Option}
use Rattle.std.proofs.Common.{refl, sym, ◌∙◌, ap, subst, arith, inl, inr}
use Rattle.std.proofs.lemmas.List.{append_assoc, length-append, length-drop}
use Rattle.std.proofs.lemmas.List.{drop-append-le, take-append-le, take-append-drop}
use Rattle.std.proofs.lemmas.List.{drop-drop, drop_all}
use Rattle.std.proofs.lemmas.List.{take-take, length-take, take_min}
use Rattle.std.proofs.Math.Seq.{take-add}
use Rattle.std.proofs.lemmas.List.Elements.{All-append, All-cons, All-nil}
use Rattle.std.specs.Prelude.{All}
use Rattle.ix_values.specs.Texts.{IsAction}
use Rattle.ix_outside.specs.Disk.{Disk, OfFile}
use Rattle.ix_journal.specs.declared.entries.Entry.{Entry}
use Rattle.ix_journal.specs.declared.entries.Entry.TheVariants as said
use Rattle.ix_journal.specs.declared.entries.Marks.{Marks}
use Rattle.ix_journal.specs.declared.slide.Slid.TheVariants as slid
use Rattle.ix_journal.specs.Entries.{AreFew, IsEntry, MayFollow, behind, entry_text, marks_of}
use Rattle.ix_journal.specs.Entries.{pair_of, pairs_of, renewed_of}
use Rattle.ix_journal.specs.History.{PlainHistory, Spent}
use Rattle.ix_journal.specs.Kinds.{HasKind}
use Rattle.ix_journal.specs.Format.{IsClosed, header, with_length, record_of}
use Rattle.ix_journal.specs.Records.{BeginsWithRecord, Holds, ClosesAt, IsDamagedFrom, IsManyFrom}
use Rattle.ix_journal.specs.Answers.{Standing, at_gate, GivesRecord}
use Rattle.ix_journal.specs.Kept.{Kept, empty_at, extended, moved_on}
use Rattle.ix_journal.specs.Slide.{GivesText, Leaves, TellsSlid, RecordsGive, WantMore, IsShort}
use Rattle.ix_journal.specs.inside.Counting.{AreMany, AreNotMany, AreSound}
use Rattle.ix_journal.specs.inside.Reading.{IsText, SaysEntry}
use Rattle.ix_journal.proofs.EntryTexts.{entries-same}
use Rattle.ix_journal.proofs.HoldsLemmas.{holds_none, holds_more, gate_behind}
use Rattle.ix_journal.proofs.KindFronts.{Covers, kinds_of_front}
use Rattle.ix_journal.proofs.OrderLemmas.{entry_near, marks_of-more, record_more}
use Rattle.ix_journal.proofs.OrderLemmas.{records_of, renewals_most, room_of, sound-behind, sound-fresh}
use Rattle.ix_journal.proofs.Following.{not_few}
use Rattle.ix_journal.proofs.SlideLaws.{stays_away}
use Rattle.ix_journal.proofs.SlideLemmas.{gives_text, gives_closed, gives_damage, further}
use Rattle.ix_store.specs.inside.Reading.{HasFront, ReadsOn, IsHeadOf}
use Rattle.ix_store.specs.inside.Steps.{ClosesWith}
use Rattle.ix_store.proofs.Histories.{pairs-more}
use Rattle.ix_store.proofs.Told.{of_told}

-- bytes that want more are few
want_few : (bytes : List ℕ) → WantMore bytes → length bytes ≤ 210
want_few [] want = omega arith
want_few (gate ∷ []) want = omega arith
want_few (gate ∷ high ∷ []) want = omega arith
want_few (gate ∷ high ∷ low ∷ rest) want =
    let most = want.1 in let few = want.2 in omega arith

-- a Slide behind records of these actions, whatever the file: `at` is the place behind the kept bytes
pub record IsOnWay (first at : ℕ) (history : PlainHistory) (kept : Kept) : Type 0 where
  pub place : at ≡ kept.gate + length kept.bytes
  pub some : 0 < length kept.bytes
  pub room : length kept.bytes ≤ 4096
  pub near : kept.gate ≤ first + room_of kept.marks
  pub valid : All (λ (spent : Spent). IsAction spent.1) history
  pub counted : kept.marks.actions ≡ length history
  pub few : AreNotMany kept.marks
  pub sound : AreSound kept.marks

-- the records of the file up to the Slide's gate tell these actions and leave the Slide's marks, and
-- the kept bytes are the file's
pub record Reached (first at : ℕ) (history : PlainHistory) (kept : Kept) (file : List ℕ) : Type 0 where
  pub entries : List Entry
  pub records : Holds file first entries kept.gate
  pub pairs : pairs_of entries ≡ history
  pub marked : marks_of entries ≡ kept.marks
  pub here : kept.bytes ++ drop at file ≡ drop kept.gate file
  pub end : kept.ended ≡ true → drop at file ≡ []

-- a number that falls from step to step
abbrev pub steps_left : Kept → ℕ
steps_left kept =
    (2000001 - records_of kept.marks) * 5000 + (4096 - length kept.bytes)
    + (if kept.ended then 0 else 1)

-- the Slide at the first gate, with so many bytes of the front from there on
module _ (head : List ℕ) (first count : ℕ) (within : first < length head)
    (count_is : count ≡ min (length (drop first head)) 4096) where
  abbrev piece : List ℕ
  piece = take count (drop first head)

  piece_len : length piece ≡ count
  piece_len = omega (arith, length-take count (drop first head))

  pub starts_on_way : IsOnWay first (first + count) [] (extended (empty_at first) piece)
  starts_on_way = record {
    place = omega (arith, piece_len);
    some = omega (arith, piece_len, length-drop first head);
    room = omega (arith, piece_len);
    near = omega arith;
    valid = All-nil (λ (spent : Spent). IsAction spent.1);
    counted = refl;
    few = (omega arith, omega arith);
    sound = sound-fresh;
  }

  pub starts_reached : (file : List ℕ) → HasFront head file
      → Reached first (first + count) [] (extended (empty_at first) piece) file
  starts_reached file (rest, whole) =
      let longer = ap length whole in
      let behind : drop first file ≡ drop first head ++ rest =
      ap (drop first) whole ∙ drop-append-le first head rest (omega arith) in
      let front : piece ≡ take count (drop first file) =
      sym (take-append-le count (drop first head) rest (omega arith))
      ∙ ap (take count) (sym behind) in
      record {
        entries = [];
        records = holds_none file first (omega (arith, longer, length-append head rest));
        pairs = refl;
        marked = refl;
        here = ap (λ (b : List ℕ). b ++ drop (first + count) file) front
            ∙ ap (λ (b : List ℕ). take count (drop first file) ++ b)
            (sym (drop-drop count first file))
            ∙ take-append-drop count (drop first file);
        end = λ ended. absurd cc;
      }

-- of the records reached there aren't too many
few_reached : (first at : ℕ) (history : PlainHistory) (kept : Kept) (file : List ℕ)
    → (reached : Reached first at history kept file) → IsOnWay first at history kept
    → AreFew reached.entries
few_reached first at history kept file reached way = record {
  actions = omega (arith, ap length reached.pairs, way.counted, way.few.0);
  boots = omega (
    arith,
    ap (λ (m : Marks). m.boots) reached.marked,
    ap (λ (m : Marks). (renewed_of m).boots) reached.marked,
    way.few.1,
  );
}

-- a record is lent
pub text_lent : (kept : Kept) (text : Bor (List ℕ)) → TellsSlid kept (slid.Record text) → IsText text.now
text_lent kept text tells =
    let at_first = tells.1.1 in
    (at_first.0, record { valid = at_first.2.begins.valid; same = at_first.1 })

-- a record that says this was lent, and may follow; what is kept then
record IsLent (kept : Kept) (text : Bor (List ℕ)) (entry : Entry) (new : Kept) : Type 0 where
  given : GivesText kept.bytes 0 kept.marks text (behind kept.marks entry)
  says : given.0 ≡ entry
  next : new ≡ moved_on kept (3 + length text.now) (behind kept.marks entry)

lent_so : (kept new : Kept) (text : Bor (List ℕ)) (entry : Entry) → SaysEntry text.now entry
    → Leaves kept (slid.Record text) new → IsLent kept text entry new
lent_so kept new text entry says leaves =
    let first = leaves.1 in
    let same : first.0 ≡ entry =
    entries-same first.0 entry first.2.begins.valid says.valid (sym first.1 ∙ says.same) in
    let left : leaves.0 ≡ behind kept.marks entry =
    ap (λ (s : Standing). s.marks) first.3 ∙ ap (behind kept.marks) same in
    let family : Marks → Type 0 = λ m.
    (given : GivesText kept.bytes 0 kept.marks text m) × (given.0 ≡ entry)
    × (new ≡ moved_on kept (3 + length text.now) m) in
    let all = subst family left (first, same, leaves.2) in
    record { given = all.0; says = all.1; next = all.2 }

module _ (kept new : Kept) (text : Bor (List ℕ)) (entry : Entry) (says : SaysEntry text.now entry)
    (leaves : Leaves kept (slid.Record text) new) where
  lent : IsLent kept text entry new
  lent = lent_so kept new text entry says leaves

  follows : MayFollow kept.marks entry
  follows = subst (MayFollow kept.marks) lent.says lent.given.2.follows

  len : length text.now ≡ length (entry_text entry)
  len = ap length says.same

  gate_kept : 3 + length text.now < length kept.bytes
  gate_kept =
      omega (arith, ap length lent.given.1, gate_behind kept.bytes 0 lent.given.0 lent.given.2.begins)

  -- behind it the boots before a renewal are among the boots
  pub marks_within : (first at : ℕ) (history : PlainHistory) → IsOnWay first at history kept
      → (renewed_of new.marks).boots ≤ new.marks.boots
  marks_within first at history way =
      let sound = sound-behind kept.marks entry way.sound says.valid follows in
      let within = sound.within in
      omega (
        arith,
        ap (λ (k : Kept). k.marks.boots) lent.next,
        ap (λ (k : Kept). (renewed_of k.marks).boots) lent.next,
      )

  module _ (first at : ℕ) (history : PlainHistory) (may : AreNotMany new.marks)
      (way : IsOnWay first at history kept) where
    room_for : AreNotMany (behind kept.marks entry)
    room_for = subst (λ (k : Kept). AreNotMany k.marks) lent.next may

    sound_behind : AreSound (behind kept.marks entry)
    sound_behind = sound-behind kept.marks entry way.sound says.valid follows

    more_valid : All (λ (spent : Spent). IsAction spent.1) (pair_of entry)
    more_valid = by entry says.valid
      where
        by : (e : Entry) → IsEntry e → All (λ (spent : Spent). IsAction spent.1) (pair_of e)
        by (said.Renewed actions boots) valid = All-nil (λ (spent : Spent). IsAction spent.1)
        by (said.Boot number) valid = All-nil (λ (spent : Spent). IsAction spent.1)
        by (said.Spent ticket action) valid =
            All-cons (λ (spent : Spent). IsAction spent.1) (Some ticket, action) [] valid.1
            (All-nil (λ (spent : Spent). IsAction spent.1))
        by (said.Plain action) valid =
            All-cons (λ (spent : Spent). IsAction spent.1) (None, action) [] valid
            (All-nil (λ (spent : Spent). IsAction spent.1))

    counted_behind : (behind kept.marks entry).actions ≡ length (history ++ pair_of entry)
    counted_behind = omega (arith, by entry, way.counted, length-append history (pair_of entry))
      where
        by : (e : Entry) → (behind kept.marks e).actions ≡ kept.marks.actions + length (pair_of e)
        by (said.Renewed actions boots) = omega arith
        by (said.Boot number) = omega arith
        by (said.Spent ticket action) = omega arith
        by (said.Plain action) = omega arith

    abbrev after : Kept
    after = moved_on kept (3 + length text.now) (behind kept.marks entry)

    lent_on_way : IsOnWay first at (history ++ pair_of entry) after
    lent_on_way =
        let more_gates = gate_kept in
        let near = way.near in
        let place = way.place in
        let room = way.room in
        let left = length-drop (3 + length text.now) kept.bytes in
        record {
          place = omega (arith, left);
          some = omega (arith, left);
          room = omega (arith, left);
          near = omega (
            arith,
            len,
            entry_near kept.marks entry way.sound says.valid follows (omega (arith, room_for.1)),
          );
          valid = All-append (λ (spent : Spent). IsAction spent.1) history (pair_of entry) way.valid
              more_valid;
          counted = counted_behind;
          few = room_for;
          sound = sound_behind;
        }

    pub next_on_way : IsOnWay first at (history ++ pair_of entry) new
    next_on_way =
        subst (IsOnWay first at (history ++ pair_of entry)) (sym lent.next) lent_on_way

    lent_less : steps_left after < steps_left kept
    lent_less =
        let room = way.room in
        omega (
          arith,
          record_more kept.marks entry way.sound follows,
          room_for.0,
          room_for.1,
          renewals_most (behind kept.marks entry).renewal,
        )

    pub next_less : steps_left new < steps_left kept
    next_less = subst (λ (k : Kept). steps_left k < steps_left kept) (sym lent.next) lent_less

  -- in the file the record stands behind those reached
  module _ (first at : ℕ) (history : PlainHistory) (file : List ℕ)
      (reached : Reached first at history kept file) where
    abbrev rest : List ℕ
    rest = drop at file

    given_there : GivesText file kept.gate kept.marks text (behind kept.marks entry)
    given_there = gives_text file kept.gate kept.bytes rest reached.here kept.marks
        (behind kept.marks entry) text lent.given

    begins_there : BeginsWithRecord (drop (kept.gate + 1) file) entry
    begins_there =
        let there = given_there.2.begins in
        let texts : record_of given_there.0 ≡ record_of entry =
        ap with_length (sym given_there.1 ∙ says.same) in
        record {
          behind = there.behind;
          spells = there.spells ∙ ap (λ (r : List ℕ). r ++ there.behind) texts;
          gate = there.gate;
          valid = says.valid;
        }

    follows_there : MayFollow (marks_of reached.entries) entry
    follows_there = subst (λ (m : Marks). MayFollow m entry) (sym reached.marked) follows

    lent_reached : Reached first at (history ++ pair_of entry)
        (moved_on kept (3 + length text.now) (behind kept.marks entry)) file
    lent_reached =
        let next : kept.gate + 1 + length (record_of entry) ≡ kept.gate + (3 + length text.now) =
        omega (arith, len) in
        record {
          entries = reached.entries ++ entry ∷ [];
          records = subst (Holds file first (reached.entries ++ entry ∷ [])) next
              (holds_more file first reached.entries kept.gate entry reached.records
              given_there.2.open_there begins_there follows_there);
          pairs = pairs-more reached.entries entry
              ∙ ap (λ (h : PlainHistory). h ++ pair_of entry) reached.pairs;
          marked = marks_of-more reached.entries entry
              ∙ ap (λ (m : Marks). behind m entry) reached.marked;
          here = further file kept.gate kept.bytes rest reached.here (3 + length text.now)
              (let more_gates = gate_kept in omega arith);
          end = reached.end;
        }

    pub next_reached : Reached first at (history ++ pair_of entry) new file
    next_reached =
        subst (λ (k : Kept). Reached first at (history ++ pair_of entry) k file) (sym lent.next)
        lent_reached

    -- a record that isn't kept makes too many
    pub lent_many : IsOnWay first at history kept → AreMany new.marks → IsManyFrom file first
    lent_many way many = record {
      entries = reached.entries;
      entry = entry;
      gate = kept.gate;
      records = reached.records;
      open_there = given_there.2.open_there;
      few = few_reached first at history kept file reached way;
      begins = begins_there;
      follows = follows_there;
      many = λ few. by (subst (λ (k : Kept). AreMany k.marks) lent.next many) few;
    }
      where
        marked : behind kept.marks entry ≡ marks_of (reached.entries ++ entry ∷ [])
        marked =
            sym (marks_of-more reached.entries entry ∙ ap (λ (m : Marks). behind m entry) reached.marked)

        by : AreMany (behind kept.marks entry) → AreFew (reached.entries ++ entry ∷ []) → ⊥
        by many few = not_few (reached.entries ++ entry ∷ []) (behind kept.marks entry) marked many few

-- a closed gate is met, or damage
module _ (first at : ℕ) (history : PlainHistory) (kept : Kept) (file : List ℕ)
    (reached : Reached first at history kept file) (way : IsOnWay first at history kept) where
  closed_here : (gate : ℕ) (marks : Marks) (new : Standing) → GivesRecord (at_gate file gate marks) None new
      → IsClosed file gate
  closed_here gate marks new (inl damaged, same) = absurd cc
  closed_here gate marks new (inr closed, same) = closed

  pub closes : (gate : ℕ) → TellsSlid kept (slid.Closed gate)
      → ClosesWith file first history kept.marks gate
  closes gate tells =
      let given =
      gives_closed file kept.gate kept.bytes (drop at file) reached.here kept.marks gate tells.1 in
      let place : kept.gate ≡ gate = omega (arith, given.0) in
      record {
        entries = reached.entries;
        closes = subst (ClosesAt file first reached.entries) place (record {
          records = reached.records;
          closed = closed_here kept.gate kept.marks _ given.1;
          few = few_reached first at history kept file reached way;
        });
        pairs = reached.pairs;
        marked = reached.marked;
      }

  module _ (place : ℕ) (tells : TellsSlid kept (slid.Damaged place)) where
    given_damage : RecordsGive 0 file kept.gate kept.marks (slid.Damaged place)
    given_damage =
        gives_damage file kept.gate kept.bytes (drop at file) reached.here kept.marks place
        (stays_away kept.bytes (drop at file) kept.ended tells.1.2.1.1.open_there tells.0
        reached.end)
        tells.1

    pub damages : IsDamagedFrom file first place
    damages = record {
      entries = reached.entries;
      gate = kept.gate;
      records = reached.records;
      open_there = given_damage.2.1.1.open_there;
      few = few_reached first at history kept file reached way;
      no_record = λ e follows. given_damage.2.1.1.no_record e
          (subst (λ (m : Marks). MayFollow m e) reached.marked follows);
      place = let first_place = given_damage.1 in let second = given_damage.2.1.0 in
          omega arith;
    }

-- more bytes come, or the end is told
module _ (first at : ℕ) (history : PlainHistory) (kept : Kept) (short : IsShort kept) where
  short_few : length kept.bytes ≤ 210
  short_few = want_few kept.bytes short.1

  pub fed_on_way : (disk : Option Disk) (next : ℕ) (new : Kept) → ReadsOn disk at kept next new
      → IsOnWay first at history kept → IsOnWay first next history new
  fed_on_way disk _ _ (ReadsOn.took piece some room file) way = record {
    place = let place = way.place in omega (arith, length-append kept.bytes piece);
    some = omega (arith, length-append kept.bytes piece);
    room = omega (arith, length-append kept.bytes piece);
    near = way.near;
    valid = way.valid;
    counted = way.counted;
    few = way.few;
    sound = way.sound;
  }
  fed_on_way disk _ _ (ReadsOn.told_the_end file) way = record {
    place = way.place;
    some = way.some;
    room = way.room;
    near = way.near;
    valid = way.valid;
    counted = way.counted;
    few = way.few;
    sound = way.sound;
  }

  going : let left : ℕ = if kept.ended then 0 else 1 in left ≡ 1
  going = let one_left : Bool → ℕ = λ b. if b then 0 else 1 in ap one_left short.0

  pub fed_less : (disk : Option Disk) (next : ℕ) (new : Kept) → ReadsOn disk at kept next new
      → steps_left new < steps_left kept
  fed_less disk _ _ (ReadsOn.took piece some room file) =
      let few = short_few in omega (arith, length-append kept.bytes piece)
  fed_less disk _ _ (ReadsOn.told_the_end file) = let e = going in omega arith

  pub fed_reached : (file : List ℕ) (disk : Option Disk) (told : Disk) → disk ≡ Some told
      → told.file ≡ file → (next : ℕ) (new : Kept) → ReadsOn disk at kept next new
      → Reached first at history kept file → Reached first next history new file
  fed_reached file disk told is same _ _ (ReadsOn.took piece some room of_file) reached =
      let P : List ℕ → Type 0 = λ f. drop at f ≡ piece ++ drop (at + length piece) f in
      let read : P file = subst P same (of_told P disk told is of_file) in
      record {
        entries = reached.entries;
        records = reached.records;
        pairs = reached.pairs;
        marked = reached.marked;
        here = append_assoc kept.bytes piece (drop (at + length piece) file)
            ∙ ap (λ (b : List ℕ). kept.bytes ++ b) (sym read) ∙ reached.here;
        end = λ ended. absurd (let e : true ≡ false = sym ended ∙ short.0 in cc);
      }
  fed_reached file disk told is same _ _ (ReadsOn.told_the_end of_file) reached =
      let P : List ℕ → Type 0 = λ f. drop at f ≡ [] in
      record {
        entries = reached.entries;
        records = reached.records;
        pairs = reached.pairs;
        marked = reached.marked;
        here = reached.here;
        end = λ ended. subst P same (of_told P disk told is of_file);
      }

-- what is read of a file into a buffer is the next piece
pub piece_read : (file buf : List ℕ) (at count taken size : ℕ)
    → count ≡ min size (length file - at) → taken ≤ count → length buf ≡ size
    → take count buf ≡ take count (drop at file)
    → drop at file ≡ take taken (take count buf) ++ drop (at + taken) file
piece_read file buf at count taken size counted few len same =
    let front : take taken (take count buf) ≡ take taken (drop at file) =
    ap (take taken) same ∙ take-take taken count (drop at file) few in
    sym (take-append-drop taken (drop at file))
    ∙ ap (λ (b : List ℕ). b ++ drop taken (drop at file)) (sym front)
    ∙ ap (λ (b : List ℕ). take taken (take count buf) ++ b) (drop-drop taken at file)

pub feeds_took : (disk : Option Disk) (at : ℕ) (old : Kept) (piece : List ℕ) (taken : ℕ)
    → length piece ≡ taken → 0 < taken → length old.bytes + taken ≤ 4096
    → OfFile (λ file. drop at file ≡ piece ++ drop (at + taken) file) disk
    → ReadsOn disk at old (at + taken) (extended old piece)
feeds_took disk at old piece taken long some room of_file =
    let P : ℕ → Type 0 = λ n. OfFile (λ file. drop at file ≡ piece ++ drop (at + n) file) disk in
    subst (λ (n : ℕ). ReadsOn disk at old (at + n) (extended old piece)) long
    (ReadsOn.took piece (omega arith) (omega arith) (subst P (sym long) of_file))

-- no byte is read of a file into a buffer that has room
pub end_read : (file : List ℕ) (at size : ℕ) → 0 ≡ min size (length file - at) → 0 < size
    → drop at file ≡ []
end_read file at size none room = drop_all at file (omega arith)

-- what is read behind a front of a file
pub more_read : (file front old buf rest new : List ℕ) (so_far at count size : ℕ)
    → front ≡ take so_far file → at ≡ length front → length old ≡ size → length buf ≡ length old
    → count ≡ min (length old) (length file - at)
    → take count buf ≡ take count (drop at file)
    → new ≡ front ++ take count (take size (buf ++ rest))
    → new ≡ take (so_far + size) file
more_read file front old buf rest new so_far at count size is place room same_room counted same
    made =
    let here : at ≡ min so_far (length file) =
    place ∙ ap length is ∙ omega (arith, length-take so_far file) in
    let left = length-drop at file in
    let most : count ≡ min size (length (drop at file)) = omega arith in
    let piece : take count (take size (buf ++ rest)) ≡ take size (drop at file) =
    take-take count size (buf ++ rest) (omega arith) ∙ take-append-le count buf rest (omega arith)
    ∙ same ∙ ap (λ (n : ℕ). take n (drop at file)) most ∙ take_min size (drop at file) in
    let fronts : front ≡ take at file =
    is ∙ sym (take_min so_far file) ∙ ap (λ (n : ℕ). take n file) (sym here) in
    let ends : min (at + size) (length file) ≡ min (so_far + size) (length file) = omega arith in
    made ∙ ap (λ (b : List ℕ). b ++ take count (take size (buf ++ rest))) fronts
    ∙ ap (λ (b : List ℕ). take at file ++ b) piece
    ∙ sym (take-add at size file) ∙ sym (take_min (at + size) file)
    ∙ ap (λ (n : ℕ). take n file) ends ∙ take_min (so_far + size) file

-- a front of seven bytes or more that has the whole header tells what the file is
pub is_head : (file head : List ℕ) (count : ℕ) → head ≡ take count file → 7 ≤ count
    → Covers file count → IsHeadOf head file
is_head file head count is seven covers = record {
  rest = drop count file;
  whole = sym (take-append-drop count file) ∙ ap (λ (b : List ℕ). b ++ drop count file) (sym is);
  all = λ few. drop_all count file (let n = length-take count file in omega (arith, ap length is));
  kind = λ kind has. kinds_of_front file count (omega arith) covers kind
      (subst (λ (b : List ℕ). HasKind b kind) is has);
}

-- a file of fewer bytes than stand in front of a text has no header
pub covers_few : (file : List ℕ) (count : ℕ) → length (take 7 file) ≢ 7 → Covers file count
covers_few file count few head text behind w =
    absurd (few (omega (
      arith,
      length-take 7 file,
      ap length w.spells,
      length-append (header w.version text) behind,
    )))
