-- What is around a run beside its output.
use Rattle.std.specs.Prelude.{◌≡◌, ℕ, Option}
use Rattle.ix_outside.specs.Counts.{Rose}
use Rattle.ix_outside.specs.Files.{Listing}
use Rattle.ix_outside.specs.FilesState.{FilesState}
use Rattle.ix_outside.specs.SiteState.{SiteState}

-- the files, where they are told; and before and after the run how many of their calls had failed,
-- and the site
pub record Around : Type 0 where
  pub files : Option Listing
  pub faults_before : ℕ
  pub faults_after : ℕ
  pub before : SiteState
  pub after : SiteState

abbrev pub around_of : FilesState → FilesState → SiteState → SiteState → Around
around_of files later before after = record {
  files = files.contents;
  faults_before = files.faults;
  faults_after = later.faults;
  before = before;
  after = after;
}

-- the count of failed loads rose
abbrev pub FilesFailed : Around → Type 0
FilesFailed around = Rose around.faults_before around.faults_after

-- that of failed calls of the disk did
abbrev pub DiskFailed : Around → Type 0
DiskFailed around = Rose around.before.counts.disk around.after.counts.disk

-- that of failed calls of the wire did
abbrev pub WireFailed : Around → Type 0
WireFailed around = Rose around.before.counts.wire around.after.counts.wire

-- the site's whole state is as it was
abbrev pub SiteRests : Around → Type 0
SiteRests around = around.after ≡ around.before
