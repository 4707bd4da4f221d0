-- Texts in one list of bytes stay what they are when bytes come behind.
use Rattle.std.proofs.Common.{◌≡◌, ℕ, zero, suc, ◌+◌, ◌-◌, ◌≤◌, ◌<◌, List, [], ◌∷◌, ◌++◌, length, map, take, drop, get_or, refl, sym, ap, ◌∙◌, subst, arith, length-append, length-drop, slice_get, Some}
use Rattle.std.proofs.lemmas.List.{take-append-le, drop-append-le, drop_at, take_all, map-append, length-map}
use Rattle.ix_outside.specs.Contents.{SentBytes, with_pair, with_gone}
use Rattle.ix_memory.specs.declared.sent.Pair.{Pair}
use Rattle.ix_memory.specs.declared.sent.Span.{Span}
use Rattle.ix_memory.specs.inside.Spans.{text_at, IsSpanWithin, AreWithin}
use Rattle.ix_memory.specs.inside.SentState.{sent_of, sends_of, AreKept}
use Rattle.ix_outside.specs.Contents.{with_heard}

-- more bytes behind don't change a text
pub text_at-more : (bytes more : List ℕ) (span : Span) → IsSpanWithin (length bytes) span
    → text_at (bytes ++ more) span ≡ text_at bytes span
text_at-more bytes more span within =
    let start_within : span.start ≤ length bytes = omega arith in
    let some_left : span.end - span.start ≤ length (drop span.start bytes) = omega (arith, length-drop span.start bytes) in
    ap (take (span.end - span.start)) (drop-append-le span.start bytes more start_within)
    ∙ take-append-le (span.end - span.start) (drop span.start bytes) more some_left

-- the text that was put behind the bytes
pub text_at-last : (bytes text : List ℕ) (span : Span) → span.start ≡ length bytes → span.end ≡ length bytes + length text
    → text_at (bytes ++ text) span ≡ text
text_at-last bytes text span at_start at_end =
    let all : length text ≤ span.end - span.start = omega (arith, length-append bytes text) in
    ap (take (span.end - span.start)) (drop_at bytes text span.start (sym at_start))
    ∙ take_all (span.end - span.start) text all

pub IsWithin-more : (count more : ℕ) (span : Span) → count ≤ more → IsSpanWithin count span → IsSpanWithin more span
IsWithin-more count more span le within =
    record { in_order = within.in_order; within = let end = within.within in omega arith }

pub AreWithin-more : (count more : ℕ) (spans : List Span) → count ≤ more → AreWithin count spans → AreWithin more spans
AreWithin-more count more [] le within = tt
AreWithin-more count more (span ∷ spans) le within =
    (IsWithin-more count more span le within.0, AreWithin-more count more spans le within.1)

pub AreWithin-push : (count : ℕ) (spans : List Span) (span : Span) → AreWithin count spans → IsSpanWithin count span
    → AreWithin count (spans ++ span ∷ [])
AreWithin-push count [] span within last = (last, tt)
AreWithin-push count (first ∷ spans) span within last = (within.0, AreWithin-push count spans span within.1 last)

-- the span of a text that was put behind the bytes
pub IsWithin-last : (bytes text : List ℕ) (span : Span) → span.start ≡ length bytes → span.end ≡ length bytes + length text
    → IsSpanWithin (length (bytes ++ text)) span
IsWithin-last bytes text span at_start at_end =
    record { in_order = omega (arith, length-append bytes text); within = omega (arith, length-append bytes text) }

-- names stay what they are
pub names-more : (bytes more : List ℕ) (spans : List Span) → AreWithin (length bytes) spans
    → map (text_at (bytes ++ more)) spans ≡ map (text_at bytes) spans
names-more bytes more [] within = refl
names-more bytes more (span ∷ spans) within =
    ap (λ x. x ∷ map (text_at (bytes ++ more)) spans) (text_at-more bytes more span within.0)
    ∙ ap (λ xs. text_at bytes span ∷ xs) (names-more bytes more spans within.1)

-- pairs stay what they are
pub pairs-more : (bytes more : List ℕ) (pairs : List Pair) → AreWithin (length bytes) (map (λ (pair : Pair). pair.span) pairs)
    → map (sent_of (bytes ++ more)) pairs ≡ map (sent_of bytes) pairs
pairs-more bytes more [] within = refl
pairs-more bytes more (pair ∷ pairs) within =
    let first : sent_of (bytes ++ more) pair ≡ sent_of bytes pair =
    ap (λ (text : List ℕ). record { conn = pair.conn; bytes = text }) (text_at-more bytes more pair.span within.0) in
    ap (λ (x : SentBytes). x ∷ map (sent_of (bytes ++ more)) pairs) first
    ∙ ap (λ xs. sent_of bytes pair ∷ xs) (pairs-more bytes more pairs within.1)

-- one more pair, whose text was put behind the bytes
pub pairs-push : (bytes text : List ℕ) (pairs : List Pair) (conn : ℕ) (span : Span)
    → AreWithin (length bytes) (map (λ (pair : Pair). pair.span) pairs)
    → span.start ≡ length bytes → span.end ≡ length bytes + length text
    → map (sent_of (bytes ++ text)) (pairs ++ record { conn = conn; span = span } ∷ [])
    ≡ map (sent_of bytes) pairs ++ record { conn = conn; bytes = text } ∷ []
pairs-push bytes text pairs conn span within at_start at_end =
    let last : sent_of (bytes ++ text) (record { conn = conn; span = span }) ≡ record { conn = conn; bytes = text } =
    ap (λ (t : List ℕ). record { conn = conn; bytes = t }) (text_at-last bytes text span at_start at_end) in
    map-append (sent_of (bytes ++ text)) pairs (record { conn = conn; span = span } ∷ [])
    ∙ ap (λ (xs : List SentBytes). xs ++ sent_of (bytes ++ text) (record { conn = conn; span = span }) ∷ []) (pairs-more bytes text pairs within)
    ∙ ap (λ (x : SentBytes). map (sent_of bytes) pairs ++ x ∷ []) last

-- one more name, which was put behind the bytes
pub names-push : (bytes text : List ℕ) (spans : List Span) (span : Span)
    → AreWithin (length bytes) spans
    → span.start ≡ length bytes → span.end ≡ length bytes + length text
    → map (text_at (bytes ++ text)) (spans ++ span ∷ []) ≡ map (text_at bytes) spans ++ text ∷ []
names-push bytes text spans span within at_start at_end =
    map-append (text_at (bytes ++ text)) spans (span ∷ [])
    ∙ ap (λ (xs : List (List ℕ)). xs ++ text_at (bytes ++ text) span ∷ []) (names-more bytes text spans within)
    ∙ ap (λ (x : List ℕ). map (text_at bytes) spans ++ x ∷ []) (text_at-last bytes text span at_start at_end)

pub sends_of-pair : (bytes text : List ℕ) (pairs : List Pair) (gone : List ℕ) (heard : List Span) (name : Span) (conn : ℕ) (span : Span)
    → AreKept (length bytes) pairs heard name
    → span.start ≡ length bytes → span.end ≡ length bytes + length text
    → sends_of (bytes ++ text) (pairs ++ record { conn = conn; span = span } ∷ []) gone heard
    ≡ with_pair conn text (sends_of bytes pairs gone heard)
sends_of-pair bytes text pairs gone heard name conn span kept at_start at_end =
    ap (λ (sent : List SentBytes). record { sent = sent; gone = gone; heard = map (text_at (bytes ++ text)) heard })
    (pairs-push bytes text pairs conn span kept.of_pairs at_start at_end)
    ∙ ap (λ (names : List (List ℕ)). record { sent = map (sent_of bytes) pairs ++ record { conn = conn; bytes = text } ∷ []; gone = gone; heard = names })
    (names-more bytes text heard kept.of_heard)

pub sends_of-gone : (bytes text : List ℕ) (pairs : List Pair) (gone : List ℕ) (heard : List Span) (name : Span) (conn place : ℕ) (span : Span)
    → AreKept (length bytes) pairs heard name → place ≡ length pairs
    → span.start ≡ length bytes → span.end ≡ length bytes + length text
    → sends_of (bytes ++ text) (pairs ++ record { conn = conn; span = span } ∷ []) (gone ++ place ∷ []) heard
    ≡ with_gone conn text (sends_of bytes pairs gone heard)
sends_of-gone bytes text pairs gone heard name conn place span kept here at_start at_end =
    sends_of-pair bytes text pairs (gone ++ place ∷ []) heard name conn span kept at_start at_end
    ∙ ap (λ (at : ℕ). record (with_pair conn text (sends_of bytes pairs gone heard)) { gone = gone ++ at ∷ [] })
    (here ∙ sym (length-map pairs (sent_of bytes)))

pub sends_of-heard : (bytes text : List ℕ) (pairs : List Pair) (gone : List ℕ) (heard : List Span) (name span : Span)
    → AreKept (length bytes) pairs heard name
    → span.start ≡ length bytes → span.end ≡ length bytes + length text
    → sends_of (bytes ++ text) pairs gone (heard ++ span ∷ []) ≡ with_heard text (sends_of bytes pairs gone heard)
sends_of-heard bytes text pairs gone heard name span kept at_start at_end =
    ap (λ (sent : List SentBytes). record { sent = sent; gone = gone; heard = map (text_at (bytes ++ text)) (heard ++ span ∷ []) })
    (pairs-more bytes text pairs kept.of_pairs)
    ∙ ap (λ (names : List (List ℕ)). record { sent = map (sent_of bytes) pairs; gone = gone; heard = names })
    (names-push bytes text heard span kept.of_heard at_start at_end)

-- more bytes behind don't change the sends
pub sends_of-more : (bytes text : List ℕ) (pairs : List Pair) (gone : List ℕ) (heard : List Span) (name : Span)
    → AreKept (length bytes) pairs heard name → sends_of (bytes ++ text) pairs gone heard ≡ sends_of bytes pairs gone heard
sends_of-more bytes text pairs gone heard name kept =
    ap (λ (sent : List SentBytes). record { sent = sent; gone = gone; heard = map (text_at (bytes ++ text)) heard })
    (pairs-more bytes text pairs kept.of_pairs)
    ∙ ap (λ (names : List (List ℕ)). record { sent = map (sent_of bytes) pairs; gone = gone; heard = names })
    (names-more bytes text heard kept.of_heard)

pub AreKept-pair : (bytes text : List ℕ) (pairs : List Pair) (heard : List Span) (name : Span) (conn : ℕ) (span : Span)
    → AreKept (length bytes) pairs heard name
    → span.start ≡ length bytes → span.end ≡ length bytes + length text
    → AreKept (length (bytes ++ text)) (pairs ++ record { conn = conn; span = span } ∷ []) heard name
AreKept-pair bytes text pairs heard name conn span kept at_start at_end =
    let more : length bytes ≤ length (bytes ++ text) = omega (arith, length-append bytes text) in
    let P : List Span → Type 0 = λ spans. AreWithin (length (bytes ++ text)) spans in
    record {
      of_pairs = subst P (sym (map-append (λ (pair : Pair). pair.span) pairs (record { conn = conn; span = span } ∷ [])))
          (AreWithin-push _ _ span (AreWithin-more (length bytes) (length (bytes ++ text)) _ more kept.of_pairs)
          (IsWithin-last bytes text span at_start at_end));
      of_heard = AreWithin-more (length bytes) (length (bytes ++ text)) heard more kept.of_heard;
      of_name = IsWithin-more (length bytes) (length (bytes ++ text)) name more kept.of_name;
    }

pub AreKept-heard : (bytes text : List ℕ) (pairs : List Pair) (heard : List Span) (name span : Span)
    → AreKept (length bytes) pairs heard name
    → span.start ≡ length bytes → span.end ≡ length bytes + length text
    → AreKept (length (bytes ++ text)) pairs (heard ++ span ∷ []) name
AreKept-heard bytes text pairs heard name span kept at_start at_end =
    let more : length bytes ≤ length (bytes ++ text) = omega (arith, length-append bytes text) in
    record {
      of_pairs = AreWithin-more (length bytes) (length (bytes ++ text)) _ more kept.of_pairs;
      of_heard = AreWithin-push _ _ span (AreWithin-more (length bytes) (length (bytes ++ text)) heard more kept.of_heard)
          (IsWithin-last bytes text span at_start at_end);
      of_name = IsWithin-more (length bytes) (length (bytes ++ text)) name more kept.of_name;
    }

-- the name, whose text was put behind the bytes
pub AreKept-name : (bytes text : List ℕ) (pairs : List Pair) (heard : List Span) (name span : Span)
    → AreKept (length bytes) pairs heard name
    → span.start ≡ length bytes → span.end ≡ length bytes + length text
    → AreKept (length (bytes ++ text)) pairs heard span
AreKept-name bytes text pairs heard name span kept at_start at_end =
    let more : length bytes ≤ length (bytes ++ text) = omega (arith, length-append bytes text) in
    record {
      of_pairs = AreWithin-more (length bytes) (length (bytes ++ text)) _ more kept.of_pairs;
      of_heard = AreWithin-more (length bytes) (length (bytes ++ text)) heard more kept.of_heard;
      of_name = IsWithin-last bytes text span at_start at_end;
    }

-- the pair at a place lies within the bytes
pub pair_within : (count : ℕ) (pairs : List Pair) (at : ℕ) (none : Pair) → at < length pairs
    → AreWithin count (map (λ (pair : Pair). pair.span) pairs) → IsSpanWithin count (get_or pairs at none).span
pair_within count [] at none below within = absurd (omega arith)
pair_within count (pair ∷ pairs) zero none below within = within.0
pair_within count (pair ∷ pairs) (suc at) none below within = pair_within count pairs at none (omega arith) within.1

-- the pair at a place, as it is seen
pub sent_at : (bytes : List ℕ) (pairs : List Pair) (at : ℕ) (none : Pair) → at < length pairs
    → slice_get (map (sent_of bytes) pairs) at ≡ Some (sent_of bytes (get_or pairs at none))
sent_at bytes [] at none below = absurd (omega arith)
sent_at bytes (pair ∷ pairs) zero none below = refl
sent_at bytes (pair ∷ pairs) (suc at) none below = sent_at bytes pairs at none (omega arith)
