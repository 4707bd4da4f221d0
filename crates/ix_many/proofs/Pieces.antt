-- A piece is an event of its connection.
use Rattle.std.proofs.Common.{ℕ}
use Rattle.ix_outside.specs.Event.{IsPiece, KindFits}
use Rattle.ix_outside.specs.declared.event.EventKind.{EventKind}
use Rattle.ix_outside.specs.declared.event.EventKind.TheVariants.{Bytes, Closed, End}

pub kind_fits : (room conn : ℕ) (kind : EventKind) → IsPiece room kind → KindFits room conn kind
kind_fits room conn (Bytes n) piece = piece
kind_fits room conn Closed piece = piece
kind_fits room conn End piece = absurd piece
