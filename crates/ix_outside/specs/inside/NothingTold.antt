-- Contents of which nothing is told.
use Rattle.std.specs.Prelude.{None}
use Rattle.ix_outside.specs.Contents.{Contents}

-- what a site tells that tells nothing
abbrev pub nothing_told : Contents
nothing_told = record { given = None; sends = None; text = None; lost = None }
