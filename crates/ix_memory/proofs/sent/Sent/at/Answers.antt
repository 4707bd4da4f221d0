-- The pair at a place lies within the bytes.
use Rattle.std.proofs.Common.{◌≡◌, ◌<◌, ℕ, List, length, map, get_or, slice_get, Some, sym, subst, arith}
use Rattle.std.proofs.lemmas.List.{length-map}
use Rattle.ix_memory.specs.declared.sent.Pair.{Pair}
use Rattle.ix_memory.specs.inside.Spans.{IsSpanWithin, AreWithin}
use Rattle.ix_memory.specs.inside.SentState.{sent_of}
use Rattle.ix_memory.proofs.Spanning.{pair_within, sent_at}
use Rattle.ix_memory.proofs.sent.Sent.at.Goals as goal

-- a pair that is the one at a place lies within the bytes
within : (bytes : List ℕ) (pairs : List Pair) (at : ℕ) (pair : Pair)
    → at < length pairs → pair ≡ get_or pairs at pair
    → AreWithin (length bytes) (map (λ (p : Pair). p.span) pairs) → IsSpanWithin (length bytes) pair.span
within bytes pairs at pair below is kept =
    let P : Pair → Type 0 = λ p. IsSpanWithin (length bytes) p.span in
    subst P (sym is) (pair_within (length bytes) pairs at pair below kept)

pub text-requires-clause-in_order : goal.text-requires-clause-in_order
text-requires-clause-in_order c =
    let below : c.args.index < length c.self.inside.pairs.items =
    omega (arith, length-map c.self.inside.pairs.items (sent_of c.self.inside.bytes.items), rw (← c.self.view_is) at c.requires) in
    (within c.self.inside.bytes.items _ c.args.index _ below c.index-pair.ensures c.self.invariant.of_pairs).in_order

pub text-requires-clause-within : goal.text-requires-clause-within
text-requires-clause-within c =
    let below : c.args.index < length c.self.inside.pairs.items =
    omega (arith, length-map c.self.inside.pairs.items (sent_of c.self.inside.bytes.items), rw (← c.self.view_is) at c.requires) in
    rw c.deref.ensures.value
    ((within c.self.inside.bytes.items _ c.args.index _ below c.index-pair.ensures c.self.invariant.of_pairs).within)

pub returns : goal.returns
returns c =
    let below : c.args.index < length c.self.inside.pairs.items =
    omega (arith, length-map c.self.inside.pairs.items (sent_of c.self.inside.bytes.items), rw (← c.self.view_is) at c.requires) in
    let pair = c.index-pair.result.now in
    let P : Pair → Type 0 = λ p.
    slice_get (map (sent_of c.self.inside.bytes.items) c.self.inside.pairs.items) c.args.index ≡ Some (sent_of c.self.inside.bytes.items p) in
    let seen : P pair = subst P (sym c.index-pair.ensures)
    (sent_at c.self.inside.bytes.items c.self.inside.pairs.items c.args.index pair below) in
    rw (← c.self.view_is, c.text.ensures, c.deref.ensures.value) seen
