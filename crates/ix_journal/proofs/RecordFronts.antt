-- Bytes that begin with a record, and gates in front of them.
use Rattle.std.proofs.Common.{◌≡◌, ℕ, ◌+◌, ◌*◌, ◌<◌, ◌≤◌, List, [], ◌∷◌, length, get_or, drop, Some}
use Rattle.std.proofs.Common.{◌∙◌, ap, arith}
use Rattle.std.proofs.lemmas.List.{drop_more, length-append}
use Rattle.std.proofs.lemmas.List.Elements.{All-head, All-tail}
use Rattle.std.proofs.lemmas.Option.{get_or_from_slice_get, slice_get_within, slice_get-get_or}
use Rattle.std.specs.Prelude.{slice_get, All}
use Rattle.ix_values.specs.PlainAction.{PlainAction, text_of, text_of_rest, text_of_values}
use Rattle.ix_values.specs.Texts.{IsAction, IsValue}

rest_short : (values : List (List ℕ)) → All IsValue values
    → length (text_of_rest values) ≤ 1 + 33 * length values
rest_short [] valid = omega arith
rest_short (value ∷ values) valid =
    let first : IsValue value = All-head IsValue value values valid in
    let short = first.short in
    let more = rest_short values (All-tail IsValue value values valid) in
    omega (arith, length-append value (text_of_rest values))

values_short : (values : List (List ℕ)) → All IsValue values
    → length (text_of_values values) ≤ 1 + 33 * length values
values_short [] valid = omega arith
values_short (value ∷ values) valid =
    let first : IsValue value = All-head IsValue value values valid in
    let short = first.short in
    let more = rest_short values (All-tail IsValue value values valid) in
    omega (arith, length-append value (text_of_rest values))

-- an action's text has at most 165 bytes
pub text_short : (action : PlainAction) → IsAction action → length (text_of action) ≤ 165
text_short action valid =
    let name = valid.name.short in
    let few = valid.few in
    let values = values_short action.values valid.values in
    omega (arith, length-append action.name (text_of_values action.values))

-- a gate in front of the bytes behind it
pub drop_gate : (bytes : List ℕ) (gate byte : ℕ) → slice_get bytes gate ≡ Some byte
    → drop gate bytes ≡ byte ∷ drop (gate + 1) bytes
drop_gate bytes gate byte e =
    drop_more bytes gate 0 (slice_get_within bytes gate byte e)
    ∙ ap (λ (b : ℕ). b ∷ drop (gate + 1) bytes) (get_or_from_slice_get bytes gate byte 0 e)

-- the gate that was read
pub gate_read : (bytes : List ℕ) (gate byte : ℕ) → gate < length bytes → get_or bytes gate 0 ≡ byte
    → slice_get bytes gate ≡ Some byte
gate_read bytes gate byte within e = slice_get-get_or bytes gate 0 within ∙ ap (λ (b : ℕ). Some b) e
