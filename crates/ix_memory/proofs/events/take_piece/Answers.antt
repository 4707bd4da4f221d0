-- The rest of a piece is kept where the piece was.
use Rattle.std.proofs.Common.{◌≡◌, ◌<◌, ℕ, List, length, get_or, sym, subst, arith}
use Rattle.ix_memory.specs.inside.EventsState.{IsKept, AreEventsKept}
use Rattle.ix_memory.specs.declared.events.Piece.{Piece}
use Rattle.ix_memory.proofs.GivingNext.{kept_at, kept_bytes, kept_rest, AreEventsKept-set}
use Rattle.ix_memory.proofs.events.take_piece.Goals as goal

-- the piece at a place is kept
kept_here : (count : ℕ) (pieces : List Piece) (at : ℕ) (piece : Piece) → at < length pieces → piece ≡ get_or pieces at piece
    → AreEventsKept count pieces → IsKept count piece
kept_here count pieces at piece below is kept =
    let P : Piece → Type 0 = λ p. IsKept count p in
    subst P (sym is) (kept_at count pieces at piece below kept)

pub rest_piece-requires-clause-within : goal.rest_piece-requires-clause-within
rest_piece-requires-clause-within c =
    (kept_bytes _ c.index-piece.result.now c.in-Bytes.count c.in-Bytes.is
    (kept_here _ c.args.pieces.now.items c.args.at.now c.index-piece.result.now (omega (arith, c.args.pieces.now.ok.0)) c.index-piece.ensures c.requires.kept)).1

pub returns-in-Bytes-clause-kept : goal.returns-in-Bytes-clause-kept
returns-in-Bytes-clause-kept c = λ count kept.
    rw c.rest_piece.ensures
    (AreEventsKept-set count c.args.pieces.now.items c.args.at.now _ kept
    (kept_rest count c.index-piece.result.now c.in-Bytes.count c.args.room c.in-Bytes.is c.if-room-count.true
    (kept_here count c.args.pieces.now.items c.args.at.now c.index-piece.result.now (omega (arith, c.args.pieces.now.ok.0)) c.index-piece.ensures kept)))
