-- The events of a script.
use Rattle.std.specs.Prelude.{◌≡◌, ℕ, Bool, false, ◌==◌, if◌then◌else◌, List, [], ◌∷◌, length}
use Rattle.ix_outside.specs.Contents.{GivenEvent}
use Rattle.ix_outside.specs.declared.event.EventKind.TheVariants.{Bytes, Closed, End}
use Rattle.ix_lines.specs.TextLines.{lines_of}
use Rattle.ix_script.specs.Grammar.{IsScriptLine}

-- these bytes come on a connection
abbrev pub bytes_event : ℕ → ℕ → List ℕ → GivenEvent
bytes_event moment conn bytes =
    record {
      event = record { conn = conn; moment = moment; kind = Bytes (length bytes) };
      bytes = bytes;
    }

-- a connection is closed
abbrev pub closed_event : ℕ → ℕ → GivenEvent
closed_event moment conn =
    record { event = record { conn = conn; moment = moment; kind = Closed }; bytes = [] }

-- the end
abbrev pub end_event : ℕ → GivenEvent
end_event moment = record { event = record { conn = 0; moment = moment; kind = End }; bytes = [] }

-- `!` alone
abbrev pub is_close : List ℕ → Bool
is_close [] = false
is_close (byte ∷ []) = byte == 33
is_close (byte ∷ next ∷ rest) = false

-- without the `\` at its end, or else with a byte 10 behind it
abbrev pub text_bytes : List ℕ → List ℕ
text_bytes [] = 10 ∷ []
text_bytes (byte ∷ []) = if byte == 92 then [] else byte ∷ 10 ∷ []
text_bytes (byte ∷ next ∷ rest) = byte ∷ text_bytes (next ∷ rest)

-- the event of a line
abbrev pub line_event : ℕ → ℕ → List ℕ → GivenEvent
line_event moment conn text =
    if is_close text then closed_event moment conn else bytes_event moment conn (text_bytes text)

-- the events of these lines, and behind them the end at the last line's moment, or at this one
-- where there is no line
abbrev pub AreEvents : ℕ → List (List ℕ) → List GivenEvent → Type 0
AreEvents moment [] events = events ≡ end_event moment ∷ []
AreEvents moment (line ∷ lines) events =
    (now : ℕ) × (conn : ℕ) × (text : List ℕ) × (later : List GivenEvent)
    × IsScriptLine line now conn text × (events ≡ line_event now conn text ∷ later)
    × AreEvents now lines later

-- the script's events, with whole pieces
abbrev pub HasEvents : List ℕ → List GivenEvent → Type 0
HasEvents bytes events = AreEvents 0 (lines_of bytes) events
