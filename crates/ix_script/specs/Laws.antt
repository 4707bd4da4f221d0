-- Laws of scripts, as statements over the definitions alone.
use Rattle.std.specs.Prelude.{◌≡◌, ℕ, List}
use Rattle.ix_outside.specs.Contents.{GivenEvent}
use Rattle.ix_script.specs.Events.{HasEvents}
use Rattle.ix_script.specs.Grammar.{IsFirstScriptFault}

-- a script has at most one first fault: one code, and one place
abbrev pub ScriptsHaveOneFirstFault : Type 0
ScriptsHaveOneFirstFault =
    (bytes : List ℕ) (c a d b : ℕ) → IsFirstScriptFault bytes c a → IsFirstScriptFault bytes d b
    → (c ≡ d) × (a ≡ b)

-- a script that has a first fault has no events
abbrev pub FaultyScriptsHaveNoEvents : Type 0
FaultyScriptsHaveNoEvents =
    (bytes : List ℕ) (code at : ℕ) (events : List GivenEvent) → IsFirstScriptFault bytes code at
    → ¬ HasEvents bytes events
