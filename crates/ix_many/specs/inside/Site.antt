-- A site of many connections as contracts see it.
use Rattle.std.specs.Prelude.{◌≡◌, ℕ, ◌<◌, [], Option, None, Some, Result, Ok, Err}
use Rattle.ix_outside.specs.SiteState.{SiteState}
use Rattle.ix_outside.specs.declared.event.Event.{Event}
use Rattle.ix_real.specs.inside.Untold.{RealSiteState, untold_site}
use Rattle.ix_outside.specs.Event.{IsPiece}
use Rattle.ix_many.specs.inside.Streams.{ComesOnly, IsFree, KeepsStreams, Streams, StreamsState}

-- the counts, whether a file is attached, and which stream has which number
pub record ManySiteState : Type 0 where
  pub site : RealSiteState
  pub streams : Streams

-- the streams of a wire; none, where nothing is listened to
abbrev pub streams_of : Option StreamsState → Streams
streams_of None = []
streams_of (Some wire) = wire.streams

-- a site that tells nothing
abbrev pub untold_many : ManySiteState → SiteState
untold_many many = untold_site many.site

-- behind a call that began to listen no number has a stream
abbrev pub ListensAnew : {T E : Type 0} → Result T E → Streams → Streams → Type 0
ListensAnew (Ok done) old new = IsFree new
ListensAnew (Err fault) old new = new ≡ old

-- a piece came on a number below 64, and each stream keeps its number, but one that ended
abbrev pub ComesNumbered : {E : Type 0} → ℕ → Result Event E → Streams → Streams → Type 0
ComesNumbered room (Ok event) old new =
    (event.conn < 64) × IsPiece room event.kind × ComesOnly event.conn event.kind old new
ComesNumbered room (Err fault) old new = KeepsStreams old new
