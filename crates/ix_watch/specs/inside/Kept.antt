-- What the map of a `Watches` shows.
use Rattle.std.specs.Prelude.{List, map}
use Rattle.ix_watch.specs.inside.Watches.{PlainWatch}
use Rattle.ix_watch.specs.declared.pairs.Pair.{Pair}
use Rattle.ix_watch.specs.declared.Mark.{Mark}

-- the watch of an entry
abbrev pub watch_of : Pair × Mark → PlainWatch
watch_of entry = record {
  name = entry.0.name;
  action = entry.0.action;
  told = entry.1.told;
  now =
      entry.1.holds;
}

-- the watches of the entries, in their order
abbrev pub watches_of : List (Pair × Mark) → List PlainWatch
watches_of entries = map watch_of entries
