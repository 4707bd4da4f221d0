-- A line that is in the grammar has the parts that are computed of it.
use Rattle.std.proofs.Common.{◌≡◌, ◌≢◌, ℕ, ◌+◌, ◌-◌, ◌*◌, ◌%◌, ◌<◌, ◌^◌, ◌==◌, Bool, true, false, cond, List, [], ◌∷◌, ◌++◌, length, refl, sym, ◌∙◌, ap, subst, arith, append_assoc, append-nil, decimal, eqb-true}
use Rattle.std.specs.List.{list_any}
use Rattle.std.proofs.lemmas.Fmt.{decimal_by_steps}
use Rattle.ix_outside.specs.Contents.{GivenEvent}
use Rattle.ix_script.specs.Events.{text_bytes, line_event, AreEvents}
use Rattle.ix_script.specs.Grammar.{IsScriptLine, InGrammar, IsLineFault, no_moment, no_connection, no_text}
use Rattle.ix_script.specs.inside.Progress.{before_space, behind_space, number_from, moment_of, conn_of, text_behind_two, events_at}
use Rattle.ix_lines.specs.Numbers.{BeginsWithNumber}
use Rattle.ix_lines.specs.inside.WordsBehind.{HasNoSpace}
use Rattle.ix_lines.proofs.WordLemmas.{is_space}
use Rattle.ix_lines.proofs.NumberCuts.{or_false, decimal-plain, begins_same}

before-at : (word rest : List ℕ) → HasNoSpace word → before_space (word ++ 32 ∷ rest) ≡ word
before-at [] rest plain = refl
before-at (byte ∷ word) rest plain =
    let parts = or_false (is_space byte) (list_any is_space word) plain in
    ap (λ t. cond t [] (byte ∷ before_space (word ++ 32 ∷ rest))) parts.0 ∙ ap (λ w. byte ∷ w) (before-at word rest parts.1)

behind-at : (word rest : List ℕ) → HasNoSpace word → behind_space (word ++ 32 ∷ rest) ≡ rest
behind-at [] rest plain = refl
behind-at (byte ∷ word) rest plain =
    let parts = or_false (is_space byte) (list_any is_space word) plain in
    ap (λ t. cond t (word ++ 32 ∷ rest) (behind_space (word ++ 32 ∷ rest))) parts.0 ∙ behind-at word rest parts.1

number_from-end : (number : ℕ) (digits : List ℕ) (digit : ℕ) → number_from number (digits ++ digit ∷ []) ≡ number_from number digits * 10 + (digit - 48)
number_from-end number [] digit = refl
number_from-end number (first ∷ digits) digit = number_from-end (number * 10 + (first - 48)) digits digit

number_from-decimal : (n : ℕ) → n < 2 ^ 64 → number_from 0 (decimal n) ≡ n
number_from-decimal =
    decimal_by_steps (λ n ds. number_from 0 ds ≡ n)
    (λ n l. omega arith)
    (λ n ds l h. number_from-end 0 ds (48 + n % 10) ∙ omega (arith, h))

begins-number : (text rest : List ℕ) (n : ℕ) → BeginsWithNumber (2 ^ 64) text n rest → number_from 0 (before_space text) ≡ n
begins-number text rest n h =
    ap (λ t. number_from 0 (before_space t)) h.split ∙ ap (number_from 0) (before-at (decimal n) rest (decimal-plain n h.fits)) ∙ number_from-decimal n h.fits

begins-rest : (text rest : List ℕ) (n : ℕ) → BeginsWithNumber (2 ^ 64) text n rest → behind_space text ≡ rest
begins-rest text rest n h = ap behind_space h.split ∙ behind-at (decimal n) rest (decimal-plain n h.fits)

small : {text rest : List ℕ} {n : ℕ} → BeginsWithNumber 64 text n rest → BeginsWithNumber (2 ^ 64) text n rest
small h = record { fits = omega (arith, h.fits); split = h.split }

-- the parts of a line are computed of it
pub line_parts : (line text : List ℕ) (moment conn : ℕ) → IsScriptLine line moment conn text → (moment_of line ≡ moment) × (conn_of line ≡ conn) × (text_behind_two line ≡ text)
line_parts line text moment conn h =
    let rest = begins-rest line h.behind moment h.begins in (
      begins-number line h.behind moment h.begins,
      ap (λ t. number_from 0 (before_space t)) rest ∙ begins-number h.behind text conn (small h.goes_on),
      ap behind_space rest ∙ begins-rest h.behind text conn (small h.goes_on),
    )

-- the first event of lines, and those behind it
pub events_step : (now moment conn : ℕ) (line text : List ℕ) (lines : List (List ℕ)) → IsScriptLine line moment conn text
    → events_at now (line ∷ lines) ≡ line_event moment conn text ∷ events_at moment lines
events_step now moment conn line text lines h =
    let parts = line_parts line text moment conn h in
    (λ i. line_event (parts.0 i) (parts.1 i) (parts.2 i) ∷ events_at (parts.0 i) lines)

-- the events of a script are those that are computed
pub events_computed : (moment : ℕ) (lines : List (List ℕ)) (events : List GivenEvent) → AreEvents moment lines events → events ≡ events_at moment lines
events_computed moment [] events h = h
events_computed moment (line ∷ lines) events (now, conn, text, later, parts, first, rest) =
    first ∙ ap (λ es. line_event now conn text ∷ es) (events_computed now lines later rest) ∙ sym (events_step moment now conn line text lines parts)

-- a line of the grammar has no fault
pub no_fault : (line : List ℕ) (code : ℕ) → IsLineFault line code → InGrammar line → ⊥
no_fault line code (no_moment none) (moment, conn, text, parts) = none (moment, parts.behind, parts.begins)
no_fault line code (no_connection {moment = m} {behind = b} begins none) (moment, conn, text, parts) =
    let same = begins_same line m moment b parts.behind begins parts.begins in
    none (conn, text, subst (λ t. BeginsWithNumber 64 t conn text) (sym same.1) parts.goes_on)
no_fault line code (no_text {moment = m} {conn = d} {behind = b} begins goes_on) (moment, conn, text, parts) =
    let same = begins_same line m moment b parts.behind begins parts.begins in
    let again = subst (λ t. BeginsWithNumber 64 t d (92 ∷ [])) same.1 goes_on in
    parts.more (begins_same parts.behind conn d text (92 ∷ []) (small parts.goes_on) (small again)).1

one_byte : (test : Bool) (byte : ℕ) → (byte == 92) ≡ test → byte ∷ [] ≢ 92 ∷ [] → 0 < length (cond test [] (byte ∷ 10 ∷ []))
one_byte true byte is more = absurd (more (ap (λ b. b ∷ []) (eqb-true byte 92 is)))
one_byte false byte is more = omega arith

-- a text that isn't `\` alone stands for some bytes
pub some_bytes : (text : List ℕ) → text ≢ 92 ∷ [] → 0 < length (text_bytes text)
some_bytes [] more = omega arith
some_bytes (byte ∷ []) more = one_byte (byte == 92) byte refl more
some_bytes (byte ∷ next ∷ rest) more = omega arith

cond-cons : (test : Bool) (first : ℕ) (x y : List ℕ) → first ∷ cond test x y ≡ cond test (first ∷ x) (first ∷ y)
cond-cons true first x y = refl
cond-cons false first x y = refl

not_equal : (byte : ℕ) → byte ≢ 92 → (byte == 92) ≡ false
not_equal byte other = by (byte == 92) refl
  where
    by : (test : Bool) → (byte == 92) ≡ test → (byte == 92) ≡ false
    by true is = absurd (other (eqb-true byte 92 is))
    by false is = is

-- a line's text by its last byte
pub text_bytes-end : (front : List ℕ) (byte : ℕ) → text_bytes (front ++ byte ∷ []) ≡ cond (byte == 92) front (front ++ byte ∷ 10 ∷ [])
text_bytes-end [] byte = refl
text_bytes-end (first ∷ []) byte = cond-cons (byte == 92) first [] (byte ∷ 10 ∷ [])
text_bytes-end (first ∷ next ∷ rest) byte =
    ap (λ t. first ∷ t) (text_bytes-end (next ∷ rest) byte) ∙ cond-cons (byte == 92) first (next ∷ rest) (next ∷ rest ++ byte ∷ 10 ∷ [])

-- the text has no byte
pub no_text_bytes : (text : List ℕ) → length text ≡ 0 → text ++ 10 ∷ [] ≡ text_bytes text
no_text_bytes [] none = refl
no_text_bytes (byte ∷ text) none = absurd (omega arith)

-- the text ends with `\`
pub cut_end : (text front : List ℕ) (last : ℕ) → text ≡ front ++ last ∷ [] → last ≡ 92 → front ++ [] ≡ text_bytes text
cut_end text front last split is =
    append-nil front ∙ sym (ap text_bytes (split ∙ ap (λ b. front ++ b ∷ []) is) ∙ text_bytes-end front 92)

-- the text ends with another byte
pub whole_end : (text front : List ℕ) (last : ℕ) → text ≡ front ++ last ∷ [] → last ≢ 92 → text ++ 10 ∷ [] ≡ text_bytes text
whole_end text front last split other =
    ap (λ t. t ++ 10 ∷ []) split ∙ append_assoc front (last ∷ []) (10 ∷ [])
    ∙ sym (ap text_bytes split ∙ text_bytes-end front last ∙ ap (λ t. cond t front (front ++ last ∷ 10 ∷ [])) (not_equal last other))
