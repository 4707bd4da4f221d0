-- What a crash may leave of a site whose wire and disk are two objects.
use Rattle.ix_outside.specs.Crashes.{Crashes}

-- nothing is said of what had been sent by then
abbrev pub without_sends : Crashes → Crashes
without_sends crashes = record crashes { left_since = λ t left. ⊥ }
