-- A renewed journal is a journal of its records.
use Rattle.std.proofs.Common.{◌≡◌, ℕ, ◌+◌, ◌<◌, ◌≤◌, ◌^◌, List, [], ◌∷◌, ◌++◌, length, map, drop, take, get_or, Option, Some, None}
use Rattle.std.proofs.Common.{refl, sym, ◌∙◌, ap, subst, arith, inr}
use Rattle.std.specs.Prelude.{All}
use Rattle.std.proofs.lemmas.List.{append_assoc, append-nil, drop_at, length-append, length-map, map-append, take_more}
use Rattle.std.proofs.lemmas.List.Elements.{All-append, All-cons, All-head, All-nil, All-tail}
use Rattle.std.proofs.lemmas.Grind.{flat_map-append}
use Rattle.ix_values.specs.PlainAction.{PlainAction, Word}
use Rattle.ix_values.specs.Texts.{IsAction}
use Rattle.ix_journal.specs.Entries.{AreFew, InOrder, IsEntry, behind, fresh, marks_behind, marks_of, pairs_of, renewed_of}
use Rattle.ix_journal.specs.Format.{IsVersion, header, open_records, record_of, renewed_journal, renewed_records}
use Rattle.ix_journal.specs.History.{PlainHistory}
use Rattle.ix_journal.specs.Laws.{RenewedIsAJournal}
use Rattle.ix_journal.specs.Recovery.{IsJournal}
use Rattle.ix_journal.specs.declared.entries.Entry.{Entry}
use Rattle.ix_journal.specs.declared.entries.Entry.TheVariants as entry
use Rattle.ix_journal.specs.declared.entries.Marks.{Marks}
use Rattle.ix_journal.proofs.OrderLemmas.{marks_of-more, order-more}
use Rattle.ix_journal.proofs.WritingLaws.{byte_behind}

-- a head gate that is open, a header, records in order that aren't many, and one closed gate
written : (version : ℕ) (text : List ℕ) (entries : List Entry) → IsVersion version → length text < 65536
    → All IsEntry entries → InOrder fresh entries → AreFew entries
    → IsJournal (165 ∷ header version text ++ open_records entries ++ 0 ∷ []) text entries
    (7 + length text + length (open_records entries))
written version text entries known short valid order few =
    let front = 165 ∷ header version text in
    let first = 7 + length text in
    let records = open_records entries in
    let bytes = front ++ records ++ 0 ∷ [] in
    let gate = first + length records in
    let parts : bytes ≡ front ++ (records ++ 0 ∷ []) = append_assoc front records (0 ∷ []) in
    let behind : drop first bytes ≡ records ++ 0 ∷ [] =
    ap (drop first) parts ∙ drop_at front (records ++ 0 ∷ []) first (omega arith) in
    let len : length (front ++ records) ≡ gate = omega (arith, length-append front records) in
    let last : drop gate bytes ≡ 0 ∷ [] = drop_at (front ++ records) (0 ∷ []) gate len in
    let all = length-append (front ++ records) (0 ∷ []) in
    record {
      first = first;
      ready = record {
        header = record {
          version = version;
          known = known;
          spells = parts ∙ ap (λ (r : List ℕ). front ++ r) (sym behind);
          short = short;
          gate = omega (arith, ap length behind, length-append records (0 ∷ []));
        };
        place = refl;
      };
      closes = record {
        records = record {
          spells = behind ∙ ap (λ (r : List ℕ). records ++ r) (sym last);
          place = refl;
          within = omega (arith, all, len);
          valid = valid;
          order = order;
        };
        closed = (0, byte_behind (front ++ records) 0 [] gate len, λ e. omega (arith, e));
        few = few;
      };
    }

-- the marks behind carried actions
carried_marks : (m : Marks) (carried : Word)
    → marks_behind m (map entry.Plain carried)
    ≡ record { actions = length carried + m.actions; boots = m.boots; seq = m.seq; renewal = m.renewal }
carried_marks m [] =
    ap (λ (n : ℕ). record { actions = n; boots = m.boots; seq = m.seq; renewal = m.renewal }) (omega arith)
carried_marks m (a ∷ carried) =
    carried_marks (behind m (entry.Plain a)) carried
    ∙ ap (λ (n : ℕ). record { actions = n; boots = m.boots; seq = m.seq; renewal = m.renewal }) (omega arith)

carried_order : (m : Marks) (carried : Word) → InOrder m (map entry.Plain carried)
carried_order m [] = tt
carried_order m (a ∷ carried) = (tt, carried_order (behind m (entry.Plain a)) carried)

carried_valid : (carried : Word) (more : List Entry) → All IsAction carried → All IsEntry more
    → All IsEntry (map entry.Plain carried ++ more)
carried_valid [] more each valid = valid
carried_valid (a ∷ carried) more each valid =
    All-cons IsEntry (entry.Plain a) (map entry.Plain carried ++ more) (All-head IsAction a carried each)
    (carried_valid carried more (All-tail IsAction a carried each) valid)

carried_pairs : (carried : Word) (more : List Entry) → pairs_of more ≡ []
    → pairs_of (map entry.Plain carried ++ more) ≡ map (λ (a : PlainAction). (None, a)) carried
carried_pairs [] more none = none
carried_pairs (a ∷ carried) more none = ap (λ (h : PlainHistory). (None, a) ∷ h) (carried_pairs carried more none)

pub renewed_is_a_journal : RenewedIsAJournal
renewed_is_a_journal text carried actions boots short each most least fits few =
    let front = map entry.Plain carried in
    let renewal = entry.Renewed actions boots in
    let entries = renewed_records carried actions boots in
    let plain : marks_of front ≡ record { actions = length carried + 0; boots = 0; seq = 0; renewal = None } =
    carried_marks fresh carried in
    let marks : marks_of entries ≡ behind (record { actions = length carried; boots = 0; seq = 0; renewal = None }) renewal =
    marks_of-more front renewal
    ∙ ap (λ (m : Marks). behind m renewal) (plain
    ∙ ap (λ (n : ℕ). record { actions = n; boots = 0; seq = 0; renewal = None }) (omega arith)) in
    let pairs = carried_pairs carried (renewal ∷ []) refl in
    let follows : (marks_of front).renewal ≡ None = ap (λ (m : Marks). m.renewal) plain in
    let none : (marks_of front).boots ≡ 0 = ap (λ (m : Marks). m.boots) plain in
    let count : (marks_of front).actions ≡ length carried + 0 = ap (λ (m : Marks). m.actions) plain in
    let many : length (pairs_of entries) ≡ length carried = ap length pairs ∙ length-map carried (λ (a : PlainAction). (None, a)) in (
      7 + length text + length (open_records entries),
      record {
        entries = entries;
        journal = written 51 text entries (inr (inr refl)) short
            (carried_valid carried (renewal ∷ []) each (All-cons IsEntry renewal [] (fits, few) (All-nil IsEntry)))
            (order-more fresh front renewal (carried_order fresh carried) (follows, none, omega (arith, count, least)))
            (record { actions = omega (arith, many, most); boots = subst (λ (m : Marks). m.boots ≤ (renewed_of m).boots + 1000000) (sym marks) (omega arith) });
        pairs = pairs;
        marked = marks;
      },
    )

-- one carried action more is written
pub one_more : (before so_far new : List ℕ) (carried : Word) (i : ℕ) (a : PlainAction) → i < length carried → a ≡ get_or carried i a
    → so_far ≡ before ++ open_records (map entry.Plain (take i carried)) → All IsAction (take i carried)
    → new ≡ so_far ++ 165 ∷ record_of (entry.Plain a) → IsAction a
    → (new ≡ before ++ open_records (map entry.Plain (take (i + 1) carried))) × All IsAction (take (i + 1) carried)
one_more before so_far new carried i a within is same each more valid =
    let taken : take (i + 1) carried ≡ take i carried ++ a ∷ [] =
    take_more carried i a within ∙ ap (λ (b : PlainAction). take i carried ++ b ∷ []) (sym is) in
    let front = take i carried in
    let records : open_records (map entry.Plain (front ++ a ∷ [])) ≡ open_records (map entry.Plain front) ++ 165 ∷ record_of (entry.Plain a) =
    ap open_records (map-append entry.Plain front (a ∷ []))
    ∙ flat_map-append (λ (e : Entry). 165 ∷ record_of e) (map entry.Plain front) (entry.Plain a ∷ [])
    ∙ ap (λ (r : List ℕ). open_records (map entry.Plain front) ++ r) (append-nil (165 ∷ record_of (entry.Plain a))) in (
      more ∙ ap (λ (r : List ℕ). r ++ 165 ∷ record_of (entry.Plain a)) same
          ∙ append_assoc before (open_records (map entry.Plain front)) (165 ∷ record_of (entry.Plain a))
          ∙ ap (λ (r : List ℕ). before ++ r) (sym records)
          ∙ ap (λ (w : Word). before ++ open_records (map entry.Plain w)) (sym taken),
      subst (All IsAction) (sym taken) (All-append IsAction front (a ∷ []) each (All-cons IsAction a [] valid (All-nil IsAction))),
    )

-- the renewal and the last gate
pub renewed_whole : (none carried_too with_renewal bytes : List ℕ) (carried : Word) (actions boots : ℕ)
    → none ≡ [] → carried_too ≡ none ++ open_records (map entry.Plain carried)
    → with_renewal ≡ carried_too ++ 165 ∷ record_of (entry.Renewed actions boots)
    → bytes ≡ with_renewal ++ 0 ∷ []
    → bytes ≡ open_records (renewed_records carried actions boots) ++ 0 ∷ []
renewed_whole none carried_too with_renewal bytes carried actions boots begun all renewed closed =
    let front = map entry.Plain carried in
    let last = 165 ∷ record_of (entry.Renewed actions boots) in
    let records : open_records (renewed_records carried actions boots) ≡ open_records front ++ last =
    flat_map-append (λ (e : Entry). 165 ∷ record_of e) front (entry.Renewed actions boots ∷ [])
    ∙ ap (λ (r : List ℕ). open_records front ++ r) (append-nil last) in
    closed ∙ ap (λ (r : List ℕ). r ++ 0 ∷ [])
    (renewed ∙ ap (λ (r : List ℕ). r ++ last) (all ∙ ap (λ (r : List ℕ). r ++ open_records front) begun)
    ∙ sym records)
