-- Where the machine is stuck, the text has a fault there.
use Rattle.std.proofs.Common.{◌≡◌, ℕ, zero, suc, ◌-◌, ◌<◌, ◌≤◌, Bool, true, false, cond, List, [], ◌∷◌, ◌++◌, length, take, drop, refl, sym, ◌∙◌, ap, subst, arith, ◌⊎◌, inl, inr, true≢false, take-append-drop, length-take-le, length-append, lit<, rules, eq-eqb}
use borrow.Author.Tests.{eqb-true}
use Rattle.std.specs.Prelude.{Option, Some, None, ◌==◌, IsTrue, IsSomeAnd, All, slice_get}
use Rattle.std.specs.List.{list_all}
use Rattle.std.proofs.lemmas.List.{append_cancel_right}
use Rattle.std.proofs.lemmas.List.Elements.{All-take, All-nil}
use Rattle.ix_lines.specs.Bytes.{is_word_byte}
use Rattle.ix_values.specs.Faults.{IsActionText, BeginsAction, EndsInLongest, EndsInFourthValue, IsTooLong, IsTooMany, IsFaultCode, IsFault}
use Rattle.ix_values.specs.PlainAction.{PlainAction, text_of}
use Rattle.ix_values.specs.inside.ActionOf.{action_of}
use Rattle.ix_values.specs.inside.FirstWord.{opened, code_after_name, code_after_value}
use Rattle.ix_values.specs.Texts.{IsName, IsValue, IsAction, begins_with_letter}
use Rattle.ix_values.proofs.Machine.{Kind, letter, tail, opens, closes, comma, other, State, dead, start, named, expecting, valued, closed, kind, is_word, move, in_name, in_value, begin_name, begin_value, run, may_end, run-append, run-dead, run-action, run-name, run-closed, run-opened, run-begun, is_word-kind, stuck_at_start, stuck_in_name, stuck_in_value, stuck_at_value, and-left, and-right}
use Rattle.ix_values.proofs.TextsOfActions.{text_of-push, IsAction-push, goes_on_text, goes_on_empty, goes_on_action, goes_on_opened, goes_on_begun}

-- no text goes on with this byte, or with the end
abbrev pub StuckAt : State → Option ℕ → Type 0
StuckAt s None = may_end s ≡ false
StuckAt s (Some byte) = move s (kind byte) ≡ dead

-- the first item
abbrev pub head : List ℕ → Option ℕ
head [] = None
head (x ∷ xs) = Some x

pub slice_get-drop : (text : List ℕ) (at : ℕ) → slice_get text at ≡ head (drop at text)
slice_get-drop [] zero = refl
slice_get-drop [] (suc at) = refl
slice_get-drop (x ∷ xs) zero = refl
slice_get-drop (x ∷ xs) (suc at) = slice_get-drop xs at

live : (front : List ℕ) → BeginsAction front → run start front ≡ dead → ⊥
live front goes e =
    let whole : run start (text_of goes.action) ≡ dead = ap (run start) (sym goes.same) ∙ run-append start front goes.rest ∙ ap (λ s. run s goes.rest) e ∙ run-dead goes.rest in
    true≢false (sym (run-action goes.action goes.valid) ∙ ap may_end whole)

stuck_rest : (s : State) (rest : List ℕ) → StuckAt s (head rest) → may_end (run s rest) ≡ false
stuck_rest s [] stuck = stuck
stuck_rest s (x ∷ xs) stuck = ap (λ t. may_end (run t xs)) stuck ∙ ap may_end (run-dead xs)

no_further : (front rest : List ℕ) (k : ℕ) (s : State) → StuckAt (run s front) (head rest) → k ≤ length (front ++ rest) → (run s (take k (front ++ rest)) ≡ dead → ⊥) → k ≤ length front
no_further [] [] k s stuck within alive = within
no_further [] (x ∷ xs) zero s stuck within alive = omega arith
no_further [] (x ∷ xs) (suc k) s stuck within alive = absurd (alive (ap (λ t. run t (take k xs)) stuck ∙ run-dead (take k xs)))
no_further (y ∷ ys) rest zero s stuck within alive = omega arith
no_further (y ∷ ys) rest (suc k) s stuck within alive =
    let below : k ≤ length ys = no_further ys rest k (move s (kind y)) stuck (omega arith) alive in
    omega arith

-- the fault of a text at which the machine is stuck
pub fault_at : (text : List ℕ) (at code : ℕ) (s : State) → at ≤ length text → run start (take at text) ≡ s → BeginsAction (take at text) → StuckAt s (slice_get text at) → IsFaultCode text at code → IsFault text code at
fault_at text at code s within runs goes stuck row =
    let same : text ≡ take at text ++ drop at text = sym (take-append-drop at text) in
    let front_stuck : StuckAt (run start (take at text)) (head (drop at text)) = subst (λ t. StuckAt t (head (drop at text))) (sym runs) (subst (StuckAt s) (slice_get-drop text at) stuck) in
    record {
      no_action = λ action.
          true≢false (
          sym (ap (λ t. may_end (run start t)) action.same ∙ run-action action.action action.valid)
          ∙ ap (λ t. may_end (run start t)) same
          ∙ ap may_end (run-append start (take at text) (drop at text))
          ∙ stuck_rest (run start (take at text)) (drop at text) front_stuck);
      place = record {
        within = within;
        goes_on = goes;
        greatest = λ k below onward.
            let reached : k ≤ length (take at text) =
            no_further (take at text) (drop at text) k start front_stuck (subst (λ t. k ≤ length t) same below) (λ e. live (take k text) onward (ap (λ t. run start (take k t)) same ∙ e)) in
            omega (arith, length-take-le at text within);
      };
      row = row;
    }

-- which rows of the table don't apply

only_words : (text : List ℕ) → IsName text ⊎ IsValue text → list_all is_word_byte text ≡ true
only_words text (inl is) = is.word
only_words text (inr is) = is.word

name_open : (r : ℕ) (k : Kind) → is_word k ≡ true → in_name r k ≡ closed → ⊥
name_open zero letter w e = cc
name_open zero tail w e = cc
name_open (suc r) letter w e = cc
name_open (suc r) tail w e = cc
name_open r opens w e = cc
name_open r closes w e = cc
name_open r comma w e = cc
name_open r other w e = cc

value_open : (v r : ℕ) (k : Kind) → is_word k ≡ true → in_value v r k ≡ closed → ⊥
value_open v zero letter w e = cc
value_open v zero tail w e = cc
value_open v (suc r) letter w e = cc
value_open v (suc r) tail w e = cc
value_open v r opens w e = absurd (true≢false (sym w))
value_open v r closes w e = absurd (true≢false (sym w))
value_open v r comma w e = absurd (true≢false (sym w))
value_open v r other w e = absurd (true≢false (sym w))

begin_value_open : (v : ℕ) (k : Kind) → begin_value v k ≡ closed → ⊥
begin_value_open v letter e = cc
begin_value_open v tail e = cc
begin_value_open v opens e = cc
begin_value_open v closes e = cc
begin_value_open v comma e = cc
begin_value_open v other e = cc

begin_name_open : (k : Kind) → begin_name k ≡ closed → ⊥
begin_name_open letter e = cc
begin_name_open tail e = cc
begin_name_open opens e = cc
begin_name_open closes e = cc
begin_name_open comma e = cc
begin_name_open other e = cc

word_open : (s : State) (k : Kind) → is_word k ≡ true → move s k ≡ closed → ⊥
word_open dead k w e = cc
word_open start k w e = begin_name_open k e
word_open (named r) k w e = name_open r k w e
word_open (expecting v) k w e = begin_value_open v k e
word_open (valued v r) k w e = value_open v r k w e
word_open closed k w e = cc

words_open : (xs : List ℕ) (s : State) → list_all is_word_byte xs ≡ true → 0 < length xs → run s xs ≡ closed → ⊥
words_open [] s words some e = omega arith
words_open (x ∷ []) s words some e = word_open s (kind x) (is_word-kind x ∙ and-left (is_word_byte x) true words) e
words_open (x ∷ y ∷ ys) s words some e =
    words_open (y ∷ ys) (move s (kind x)) (and-right (is_word_byte x) (list_all is_word_byte (y ∷ ys)) words) (omega arith) e

not_long_when_closed : (front : List ℕ) → run start front ≡ closed → EndsInLongest front → ⊥
not_long_when_closed front runs ends =
    words_open ends.last (run start ends.front) (only_words ends.last ends.kind) (let longest = ends.longest in omega arith)
    (sym (run-append start ends.front ends.last) ∙ ap (run start) (sym ends.same) ∙ runs)

four_values : (name : List ℕ) (values : List (List ℕ)) → length values ≡ 4 → IsName name → All IsValue values → (front : List ℕ) → front ++ 41 ∷ [] ≡ text_of (action_of name values) → (r : ℕ) × (run start front ≡ valued 0 r)
four_values name [] four is are front same = absurd (omega arith)
four_values name (a ∷ []) four is are front same = absurd (omega arith)
four_values name (a ∷ b ∷ []) four is are front same = absurd (omega arith)
four_values name (a ∷ b ∷ c ∷ []) four is are front same = absurd (omega arith)
four_values name (a ∷ b ∷ c ∷ d ∷ []) four is are front same =
    let three : All IsValue (a ∷ b ∷ c ∷ []) = All-take IsValue 3 (a ∷ b ∷ c ∷ d ∷ []) are in
    let begun : front ≡ opened name (a ∷ b ∷ c ∷ []) ++ d = append_cancel_right front (opened name (a ∷ b ∷ c ∷ []) ++ d) (41 ∷ []) (same ∙ text_of-push name (a ∷ b ∷ c ∷ []) d) in
    (32 - length d, ap (run start) begun ∙ run-begun name (a ∷ b ∷ c ∷ []) d is three (lit< tt) (are 3 d (lit< tt)))
four_values name (a ∷ b ∷ c ∷ d ∷ e ∷ es) four is are front same = absurd (omega arith)

fourth : (front : List ℕ) → EndsInFourthValue front → (r : ℕ) × (run start front ≡ valued 0 r)
fourth front ends = four_values ends.action.name ends.action.values ends.four ends.valid.name ends.valid.values front ends.same

-- the places at which each reader stops

not_long_at_start : (text : List ℕ) → EndsInLongest [] → ⊥
not_long_at_start text ends = let longest = ends.longest in omega (arith, ap length ends.same, length-append ends.front ends.last)

not_fourth_at_start : EndsInFourthValue [] → ⊥
not_fourth_at_start ends = let f = fourth [] ends in start_is_not_valued f.0 f.1
  where
    start_is_not_valued : (r : ℕ) → start ≡ valued 0 r → ⊥
    start_is_not_valued r e = cc

-- where the text begins with no letter
pub fault_name : (text : List ℕ) → begins_with_letter text ≡ false → IsFault text 1 0
fault_name text h =
    fault_at text 0 1 start (omega arith) refl goes_on_empty (stuck text h)
    (inr (λ long. not_long_at_start text long.0, inr (λ many. not_fourth_at_start many.0, inl (refl, refl))))
  where
    stuck : (xs : List ℕ) → begins_with_letter xs ≡ false → StuckAt start (slice_get xs 0)
    stuck [] e = refl
    stuck (x ∷ xs) e = stuck_at_start x e

-- the rows of the table

row_long : (text : List ℕ) (at code : ℕ) → IsTooLong text at → code ≡ 4 → IsFaultCode text at code
row_long text at code long e = inl (long, e)

row_many : (text : List ℕ) (at code : ℕ) → (IsTooLong text at → ⊥) → IsTooMany text at → code ≡ 3 → IsFaultCode text at code
row_many text at code not_long many e = inr (not_long, inl (many, e))

row_trailing : (text : List ℕ) (at code : ℕ) → (IsTooLong text at → ⊥) → (IsTooMany text at → ⊥) → (at ≡ 0 → ⊥) → IsActionText (take at text) → code ≡ 5 → IsFaultCode text at code
row_trailing text at code not_long not_many not_first action e = inr (not_long, inr (not_many, inr (not_first, inl (action, e))))

row_argument : (text : List ℕ) (at code : ℕ) → (IsTooLong text at → ⊥) → (IsTooMany text at → ⊥) → (at ≡ 0 → ⊥) → (IsActionText (take at text) → ⊥) → code ≡ 2 → IsFaultCode text at code
row_argument text at code not_long not_many not_first not_action e = inr (not_long, inr (not_many, inr (not_first, inr (not_action, e))))

-- which rows don't apply, by the state of the machine and by the next byte

not_first : (text : List ℕ) (at : ℕ) (s : State) → run start (take at text) ≡ s → (s ≡ start → ⊥) → at ≡ 0 → ⊥
not_first text at s runs never e = never (sym runs ∙ ap (λ k. run start (take k text)) e)

not_action : (text : List ℕ) (at : ℕ) (s : State) → run start (take at text) ≡ s → may_end s ≡ false → IsActionText (take at text) → ⊥
not_action text at s runs never action =
    true≢false (sym (run-action action.action action.valid) ∙ ap (λ t. may_end (run start t)) (sym action.same) ∙ ap may_end runs ∙ never)

not_many : (text : List ℕ) (at : ℕ) (s : State) → run start (take at text) ≡ s → ((r : ℕ) → s ≡ valued 0 r → ⊥) → IsTooMany text at → ⊥
not_many text at s runs never many = let f = fourth (take at text) many.0 in never f.0 (sym runs ∙ f.1)

-- a word byte stands there
abbrev pub word_next : Option ℕ → Bool
word_next None = false
word_next (Some byte) = is_word_byte byte

no_word : (o : Option ℕ) → word_next o ≡ false → IsSomeAnd o (λ byte. IsTrue (is_word_byte byte)) → ⊥
no_word None h word = word
no_word (Some byte) h word = true≢false (sym word ∙ h)

not_long : (text : List ℕ) (at : ℕ) → word_next (slice_get text at) ≡ false → IsTooLong text at → ⊥
not_long text at h long = no_word (slice_get text at) h long.1

long : (text : List ℕ) (at byte : ℕ) (front last : List ℕ) → take at text ≡ front ++ last → IsName last ⊎ IsValue last → length last ≡ 32 → slice_get text at ≡ Some byte → is_word_byte byte ≡ true → IsTooLong text at
long text at byte front last same is full next word =
    (record { front = front; last = last; same = same; kind = is; longest = full }, subst (λ o. IsSomeAnd o (λ b. IsTrue (is_word_byte b))) (sym next) word)

named_is_not_valued : (r s : ℕ) → named r ≡ valued 0 s → ⊥
named_is_not_valued r s e = cc

named_is_not_start : (r : ℕ) → named r ≡ start → ⊥
named_is_not_start r e = cc

name_text : (name : List ℕ) → IsName name → IsActionText name
name_text name is = record {
  action = action_of name [];
  valid = record { name = is; values = All-nil IsValue; few = omega arith };
  same = append_nil name;
}
  where
    append_nil : (xs : List ℕ) → xs ≡ xs ++ []
    append_nil xs = search rules

-- where a name ends, and neither the text nor `(` follows
pub fault_behind_name : (text name : List ℕ) (at byte : ℕ) → at ≤ length text → take at text ≡ name → IsName name → slice_get text at ≡ Some byte → (byte ≡ 40 → ⊥) → (is_word_byte byte ≡ true → length name ≡ 32) → IsFault text (code_after_name byte) at
fault_behind_name text name at byte within front is next never full =
    let short : length name ≤ 32 = is.short in
    fault_at text at (code_after_name byte) state within runs
    (subst BeginsAction (sym front) (goes_on_text name (name_text name is)))
    (subst (StuckAt state) (sym next) (stuck_in_name (32 - length name) byte never (λ w. let e = full w in omega arith)))
    (row (is_word_byte byte) refl)
  where
    state : State
    state = named (32 - length name)

    runs : run start (take at text) ≡ named (32 - length name)
    runs = ap (run start) front ∙ run-name name is

    row : (w : Bool) → is_word_byte byte ≡ w → IsFaultCode text at (cond (is_word_byte byte) 4 5)
    row true e = row_long text at _ (long text at byte [] name front (inl is) (full e) next e) (ap (λ t. cond t 4 5) e)
    row false e =
        row_trailing text at _ (not_long text at (ap word_next next ∙ e))
        (not_many text at _ runs (named_is_not_valued (32 - length name)))
        (not_first text at _ runs (named_is_not_start (32 - length name)))
        (subst IsActionText (sym front) (name_text name is))
        (ap (λ t. cond t 4 5) e)

expecting_is_not_valued : (v s : ℕ) → expecting v ≡ valued 0 s → ⊥
expecting_is_not_valued v s e = cc

expecting_is_not_start : (v : ℕ) → expecting v ≡ start → ⊥
expecting_is_not_start v e = cc

-- where a value has to begin and none does
pub fault_no_value : (text name : List ℕ) (values : List (List ℕ)) (at : ℕ) → at ≤ length text → take at text ≡ opened name values → IsName name → All IsValue values → length values < 4 → word_next (slice_get text at) ≡ false → IsFault text 2 at
fault_no_value text name values at within front is are few none =
    fault_at text at 2 (expecting (3 - length values)) within runs
    (subst BeginsAction (sym front) (goes_on_opened name values is are few))
    (stuck (slice_get text at) none)
    (row_argument text at 2 (not_long text at none)
    (not_many text at _ runs (expecting_is_not_valued (3 - length values)))
    (not_first text at _ runs (expecting_is_not_start (3 - length values)))
    (not_action text at _ runs refl)
    refl)
  where
    runs : run start (take at text) ≡ expecting (3 - length values)
    runs = ap (run start) front ∙ run-opened name values is are few

    stuck : (o : Option ℕ) → word_next o ≡ false → StuckAt (expecting (3 - length values)) o
    stuck None h = refl
    stuck (Some byte) h = stuck_at_value (3 - length values) byte h

valued_is_not_start : (v r : ℕ) → valued v r ≡ start → ⊥
valued_is_not_start v r e = cc

more_is_not_none : (v r s : ℕ) → valued v r ≡ valued 0 s → v ≡ 0
more_is_not_none v r s e = cc

is_not_comma : (byte : ℕ) → (byte == 44) ≡ false → byte ≡ 44 → ⊥
is_not_comma byte h e = true≢false (sym (eq-eqb byte 44 e) ∙ h)

-- where a value ends, and neither `)` nor a comma that may stand there follows
pub fault_behind_value : (text name : List ℕ) (values : List (List ℕ)) (value : List ℕ) (at : ℕ) → at ≤ length text → take at text ≡ opened name values ++ value → IsName name → All IsValue values → length values < 4 → IsValue value → (o : Option ℕ) → slice_get text at ≡ o → (o ≡ Some 41 → ⊥) → (o ≡ Some 44 → length values ≡ 3) → (word_next o ≡ true → length value ≡ 32) → IsFault text (code_after_value o) at
fault_behind_value text name values value at within front is are few one o next never last full =
    fault_at text at (code_after_value o) (valued (3 - length values) (32 - length value)) within runs
    (subst BeginsAction (sym front) (goes_on_begun name values value is are few one))
    (subst (StuckAt (valued (3 - length values) (32 - length value))) (sym next) (stuck o never last full))
    (row o next last full)
  where
    runs : run start (take at text) ≡ valued (3 - length values) (32 - length value)
    runs = ap (run start) front ∙ run-begun name values value is are few one

    stuck : (p : Option ℕ) → (p ≡ Some 41 → ⊥) → (p ≡ Some 44 → length values ≡ 3) → (word_next p ≡ true → length value ≡ 32) → StuckAt (valued (3 - length values) (32 - length value)) p
    stuck None n l f = refl
    stuck (Some byte) n l f =
        stuck_in_value (3 - length values) (32 - length value) byte (λ e. n (ap Some e))
        (λ e. let three = l (ap Some e) in omega arith) (λ w. let most = f w in omega arith)

    argument : word_next (slice_get text at) ≡ false → (IsTooMany text at → ⊥) → (code : ℕ) → code ≡ 2 → IsFaultCode text at code
    argument none few_enough code e =
        row_argument text at code (not_long text at none) few_enough
        (not_first text at _ runs (valued_is_not_start (3 - length values) (32 - length value)))
        (not_action text at _ runs refl)
        e

    behind : (byte : ℕ) → slice_get text at ≡ Some byte → (Some byte ≡ Some 44 → length values ≡ 3) → (is_word_byte byte ≡ true → length value ≡ 32) → (c w : Bool) → (byte == 44) ≡ c → is_word_byte byte ≡ w → IsFaultCode text at (cond (byte == 44) 3 (cond (is_word_byte byte) 4 2))
    behind byte here l f true w is_comma e =
        let comma_byte : byte ≡ 44 = eqb-true byte 44 is_comma in
        row_many text at _ (not_long text at (ap word_next here ∙ ap is_word_byte comma_byte)) (
          record {
            action = action_of name (values ++ value ∷ []);
            valid = IsAction-push name values value is are few one;
            four = (let three = l (ap Some comma_byte) in omega (arith, length-append values (value ∷ [])));
            same = ap (λ t. t ++ 41 ∷ []) front ∙ sym (text_of-push name values value);
          },
          here ∙ ap Some comma_byte,
        )
        (ap (λ t. cond t 3 (cond (is_word_byte byte) 4 2)) is_comma)
    behind byte here l f false true is_comma e =
        row_long text at _ (long text at byte (opened name values) value front (inr one) (f e) here e)
        (ap (λ t. cond t 3 (cond (is_word_byte byte) 4 2)) is_comma ∙ ap (λ t. cond t 4 2) e)
    behind byte here l f false false is_comma e =
        argument (ap word_next here ∙ e) (λ many. is_not_comma byte is_comma (some_same byte 44 (sym here ∙ many.1))) _
        (ap (λ t. cond t 3 (cond (is_word_byte byte) 4 2)) is_comma ∙ ap (λ t. cond t 4 2) e)
      where
        some_same : (x y : ℕ) → Some x ≡ Some y → x ≡ y
        some_same x y s = cc

    row : (p : Option ℕ) → slice_get text at ≡ p → (p ≡ Some 44 → length values ≡ 3) → (word_next p ≡ true → length value ≡ 32) → IsFaultCode text at (code_after_value p)
    row None here l f = argument (ap word_next here) (λ many. none_some 44 (sym here ∙ many.1)) 2 refl
      where
        none_some : (x : ℕ) → None ≡ Some x → ⊥
        none_some x s = cc
    row (Some byte) here l f = behind byte here l f (byte == 44) (is_word_byte byte) refl refl

closed_is_not_valued : (s : ℕ) → closed ≡ valued 0 s → ⊥
closed_is_not_valued s e = cc

closed_is_not_start : closed ≡ start → ⊥
closed_is_not_start e = cc

some_behind : (text : List ℕ) (at : ℕ) → at < length text → (byte : ℕ) × (slice_get text at ≡ Some byte)
some_behind [] at below = absurd (omega arith)
some_behind (x ∷ xs) zero below = (x, refl)
some_behind (x ∷ xs) (suc at) below = some_behind xs at (omega arith)

-- where an action's text with values ends, and the text goes on
pub fault_trailing : (text : List ℕ) (action : PlainAction) (at : ℕ) → at < length text → take at text ≡ text_of action → IsAction action → 0 < length action.values → IsFault text 5 at
fault_trailing text action at below front is some =
    let more = some_behind text at below in
    fault_at text at 5 closed (omega arith) runs
    (subst BeginsAction (sym front) (goes_on_action action is))
    (subst (StuckAt closed) (sym more.1) refl)
    (row_trailing text at 5 (λ l. not_long_when_closed (take at text) runs l.0)
    (not_many text at _ runs closed_is_not_valued)
    (not_first text at _ runs closed_is_not_start)
    (record { action = action; valid = is; same = front })
    refl)
  where
    runs : run start (take at text) ≡ closed
    runs = ap (run start) front ∙ run-closed action is some
