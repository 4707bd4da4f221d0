-- Records in order, and how many of them are actions and boots.
use Rattle.std.proofs.Common.{◌≡◌, ℕ, ◌+◌, ◌-◌, ◌*◌, ◌≤◌, ◌^◌, List, [], ◌∷◌, ◌++◌, length, refl, ap, arith, decimal}
use Rattle.std.proofs.Common.{Option, Some, None}
use Rattle.std.specs.Prelude.{All}
use Rattle.std.proofs.lemmas.List.Elements.{All-cons, All-head, All-nil, All-tail}
use Rattle.std.proofs.lemmas.Fmt.{length-decimal-le}
use Rattle.std.proofs.lemmas.Grind.{flat_map-append}
use Rattle.std.proofs.lemmas.List.{length-append}
use Rattle.ix_values.specs.PlainAction.{text_of}
use Rattle.ix_journal.specs.Entries.{AreFew, InOrder, IsEntry, MayFollow, behind, entry_text, fresh}
use Rattle.ix_journal.specs.Entries.{marks_behind, marks_of, pair_of, pairs_of, renewed_of}
use Rattle.ix_journal.specs.declared.entries.Entry.{Entry}
use Rattle.ix_journal.specs.declared.entries.Entry.TheVariants as entry
use Rattle.ix_journal.specs.declared.entries.Marks.{Marks}
use Rattle.ix_journal.specs.declared.entries.Renewed.{Renewed}
use Rattle.ix_journal.specs.Format.{renewal_room}
use Rattle.ix_journal.specs.inside.Counting.{AreSound}
use Rattle.ix_journal.proofs.RecordFronts.{text_short}

-- the marks behind two lists of records
pub marks_behind-append : (m : Marks) (xs ys : List Entry)
    → marks_behind m (xs ++ ys) ≡ marks_behind (marks_behind m xs) ys
marks_behind-append m [] ys = refl
marks_behind-append m (x ∷ xs) ys = marks_behind-append (behind m x) xs ys

-- the marks behind one record more
pub marks_of-more : (xs : List Entry) (e : Entry) → marks_of (xs ++ e ∷ []) ≡ behind (marks_of xs) e
marks_of-more xs e = marks_behind-append fresh xs (e ∷ [])

-- one record more in order
pub order-more : (m : Marks) (xs : List Entry) (e : Entry) → InOrder m xs
    → MayFollow (marks_behind m xs) e → InOrder m (xs ++ e ∷ [])
order-more m [] e h f = (f, tt)
order-more m (x ∷ xs) e h f = (h.0, order-more (behind m x) xs e h.1 f)

-- records in front of others in order, and those behind others
pub order-front : (m : Marks) (xs ys : List Entry) → InOrder m (xs ++ ys) → InOrder m xs
order-front m [] ys h = tt
order-front m (x ∷ xs) ys h = (h.0, order-front (behind m x) xs ys h.1)

pub order-back : (m : Marks) (xs ys : List Entry) → InOrder m (xs ++ ys) → InOrder (marks_behind m xs) ys
order-back m [] ys h = h
order-back m (x ∷ xs) ys h = order-back (behind m x) xs ys h.1

-- each record may follow those in front of it
pub order-at : (m : Marks) (xs : List Entry) (e : Entry) (later : List Entry)
    → InOrder m (xs ++ e ∷ later) → MayFollow (marks_behind m xs) e
order-at m [] e later h = h.0
order-at m (x ∷ xs) e later h = order-at (behind m x) xs e later h.1

pub sound-fresh : AreSound fresh
sound-fresh = record {
  within = omega arith;
  boots = omega arith;
  carried = omega arith;
  actions = omega arith;
}

pub sound-behind : (m : Marks) (e : Entry) → AreSound m → IsEntry e → MayFollow m e → AreSound (behind m e)
sound-behind m (entry.Renewed actions boots) sound valid follows =
    record { within = omega arith; boots = valid.1; carried = follows.2; actions = valid.0 }
sound-behind m (entry.Boot number) sound valid follows =
    let within = sound.within in
    record {
      within = omega arith;
      boots = sound.boots;
      carried = sound.carried;
      actions = sound.actions;
    }
sound-behind m (entry.Spent ticket action) sound valid follows =
    record {
      within = sound.within;
      boots = sound.boots;
      carried = sound.carried;
      actions = sound.actions;
    }
sound-behind m (entry.Plain action) sound valid follows =
    record {
      within = sound.within;
      boots = sound.boots;
      carried = sound.carried;
      actions = sound.actions;
    }

pub sound-all : (m : Marks) (xs : List Entry) → AreSound m → All IsEntry xs → InOrder m xs
    → AreSound (marks_behind m xs)
sound-all m [] sound valid order = sound
sound-all m (x ∷ xs) sound valid order =
    sound-all (behind m x) xs (sound-behind m x sound (All-head IsEntry x xs valid) order.0)
    (All-tail IsEntry x xs valid) order.1

-- how many records are boots
abbrev pub boots_since : Marks → ℕ
boots_since m = m.boots - (renewed_of m).boots

-- boots don't get fewer
since-more : (m : Marks) (e : Entry) → AreSound m → MayFollow m e → boots_since m ≤ boots_since (behind m e)
since-more m (entry.Renewed actions boots) sound follows =
    omega (arith, follows.1)
since-more m (entry.Boot number) sound follows = let within = sound.within in omega arith
since-more m (entry.Spent ticket action) sound follows = omega arith
since-more m (entry.Plain action) sound follows = omega arith

pub boots-grow : (m : Marks) (xs : List Entry) → AreSound m → All IsEntry xs → InOrder m xs
    → boots_since m ≤ boots_since (marks_behind m xs)
boots-grow m [] sound valid order = omega arith
boots-grow m (x ∷ xs) sound valid order =
    omega (
      arith,
      since-more m x sound order.0,
      boots-grow (behind m x) xs (sound-behind m x sound (All-head IsEntry x xs valid) order.0)
          (All-tail IsEntry x xs valid) order.1,
    )

-- how many renewals there are
abbrev pub renewals : Option Renewed → ℕ
renewals None = 0
renewals (Some renewed) = 1

pub renewals_most : (renewal : Option Renewed) → renewals renewal ≤ 1
renewals_most None = omega arith
renewals_most (Some renewed) = omega arith

-- how many records there are
abbrev pub records_of : Marks → ℕ
records_of m = m.actions + boots_since m + renewals m.renewal

pub record_more : (m : Marks) (e : Entry) → AreSound m → MayFollow m e
    → records_of (behind m e) ≡ 1 + records_of m
record_more m (entry.Renewed actions boots) sound follows = omega (arith, ap renewals follows.0, follows.1)
record_more m (entry.Boot number) sound follows = let within = sound.within in omega arith
record_more m (entry.Spent ticket action) sound follows = omega arith
record_more m (entry.Plain action) sound follows = omega arith

pub records-behind : (m : Marks) (xs : List Entry) → AreSound m → All IsEntry xs → InOrder m xs
    → records_of (marks_behind m xs) ≡ length xs + records_of m
records-behind m [] sound valid order = omega arith
records-behind m (x ∷ xs) sound valid order =
    omega (
      arith,
      record_more m x sound order.0,
      records-behind (behind m x) xs (sound-behind m x sound (All-head IsEntry x xs valid) order.0)
          (All-tail IsEntry x xs valid) order.1,
    )

-- the actions counted are those that the records tell
pub one-of : (m : Marks) (e : Entry) → length (pair_of e) + m.actions ≡ (behind m e).actions
one-of m (entry.Renewed actions boots) = omega arith
one-of m (entry.Boot number) = omega arith
one-of m (entry.Spent ticket action) = omega arith
one-of m (entry.Plain action) = omega arith

pub actions-behind : (m : Marks) (xs : List Entry)
    → length (pairs_of xs) + m.actions ≡ (marks_behind m xs).actions
actions-behind m [] = omega arith
actions-behind m (x ∷ xs) =
    omega (arith, one-of m x, actions-behind (behind m x) xs, length-append (pair_of x) (pairs_of xs))

pub number_of : (xs : List Entry) → length (pairs_of xs) ≡ (marks_of xs).actions
number_of xs = omega (arith, actions-behind fresh xs)

-- the actions of one list of records behind another
pub pairs-append : (xs ys : List Entry) → pairs_of (xs ++ ys) ≡ pairs_of xs ++ pairs_of ys
pairs-append xs ys = flat_map-append pair_of xs ys

-- what holds of each record of a list holds in its front and in what stands behind
All-front : (P : Entry → Type 0) (xs ys : List Entry) → All P (xs ++ ys) → All P xs
All-front P [] ys all = All-nil P
All-front P (x ∷ xs) ys all =
    All-cons P x xs (All-head P x (xs ++ ys) all) (All-front P xs ys (All-tail P x (xs ++ ys) all))

All-back : (P : Entry → Type 0) (xs ys : List Entry) → All P (xs ++ ys) → All P ys
All-back P [] ys all = all
All-back P (x ∷ xs) ys all = All-back P xs ys (All-tail P x (xs ++ ys) all)

-- a front of records that aren't too many has not too many
pub few_front : (xs ys : List Entry) → All IsEntry (xs ++ ys) → InOrder fresh (xs ++ ys) → AreFew (xs ++ ys)
    → AreFew xs
few_front xs ys valid order few =
    let actions = few.actions in
    let boots = few.boots in
    let marks : marks_of (xs ++ ys) ≡ marks_behind (marks_of xs) ys = marks_behind-append fresh xs ys in
    let sound : AreSound (marks_of xs) = sound-all fresh xs sound-fresh (All-front IsEntry xs ys valid)
    (order-front fresh xs ys order) in
    let within = sound.within in
    record {
      actions = omega (arith, ap length (pairs-append xs ys), length-append (pairs_of xs) (pairs_of ys));
      boots = omega (
        arith,
        ap (λ (m : Marks). m.boots) marks,
        ap (λ (m : Marks). (renewed_of m).boots) marks,
        ap boots_since marks,
        boots-grow (marks_of xs) ys sound (All-back IsEntry xs ys valid) (order-back fresh xs ys order),
      );
    }

pub few_none : AreFew []
few_none = record { actions = omega arith; boots = omega arith }

-- a number up to 2^63 has at most 19 digits
renewed_short : (actions boots : ℕ) → actions ≤ 2 ^ 63 → boots ≤ 2 ^ 63
    → length (entry_text (entry.Renewed actions boots)) ≤ 47
renewed_short actions boots fits also =
    omega (
      arith,
      length-decimal-le 19 actions (omega arith) (omega (arith, fits)) (omega (arith, fits)),
      length-decimal-le 19 boots (omega arith) (omega (arith, also)) (omega (arith, also)),
      length-append (decimal actions) (32 ∷ decimal boots),
    )

-- a record's text has at most 207 bytes
pub entry_short : (e : Entry) → IsEntry e → length (entry_text e) ≤ 207
entry_short (entry.Renewed actions boots) valid =
    omega (arith, renewed_short actions boots valid.0 valid.1)
entry_short (entry.Boot number) valid =
    omega (arith, length-decimal-le 20 number (omega arith) (omega arith) valid)
entry_short (entry.Spent ticket action) valid =
    omega (
      arith,
      length-decimal-le 20 ticket.boot (omega arith) (omega (arith, valid.0.boot)) valid.0.boot,
      length-decimal-le 20 ticket.seq (omega arith) (omega (arith, valid.0.seq)) valid.0.seq,
      text_short action valid.1,
      length-append (decimal ticket.boot) (45 ∷ decimal ticket.seq),
      length-append (decimal ticket.boot ++ 45 ∷ decimal ticket.seq) (32 ∷ text_of action),
    )
entry_short (entry.Plain action) valid = omega (arith, text_short action valid)

pub renewal_most : (renewal : Option Renewed) → renewal_room renewal ≤ 50
renewal_most None = omega arith
renewal_most (Some renewed) = omega arith

-- at most as many bytes have records with these marks
abbrev pub room_of : Marks → ℕ
room_of m = renewal_room m.renewal + 209 * m.actions + 27 * boots_since m

-- how many bytes a record has with its gate, where the boots aren't too many
pub entry_near : (m : Marks) (e : Entry) → AreSound m → IsEntry e → MayFollow m e
    → boots_since (behind m e) ≤ 1000000
    → 3 + length (entry_text e) + room_of m ≤ room_of (behind m e)
entry_near m (entry.Renewed actions boots) sound valid follows few =
    omega (arith, renewed_short actions boots valid.0 valid.1, ap renewal_room follows.0, follows.1)
entry_near m (entry.Boot number) sound valid follows few =
    let within = sound.within in
    let low = sound.boots in
    omega (arith, follows, length-decimal-le 19 number (omega arith) (omega (arith, follows)) valid)
entry_near m (entry.Spent ticket action) sound valid follows few =
    let within = sound.within in
    let low = sound.boots in
    omega (
      arith,
      length-decimal-le 19 ticket.boot (omega arith) (omega (arith, follows.0)) valid.0.boot,
      length-decimal-le 20 ticket.seq (omega arith) (omega (arith, valid.0.seq)) valid.0.seq,
      text_short action valid.1,
      length-append (decimal ticket.boot) (45 ∷ decimal ticket.seq),
      length-append (decimal ticket.boot ++ 45 ∷ decimal ticket.seq) (32 ∷ text_of action),
    )
entry_near m (entry.Plain action) sound valid follows few = omega (arith, text_short action valid)
