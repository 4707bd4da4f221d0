-- A machine that reads texts of actions byte by byte, and dies at the first byte with which no text goes on.
use Rattle.std.proofs.Common.{◌≡◌, ℕ, zero, suc, ◌+◌, ◌-◌, ◌<◌, ◌≤◌, Bool, true, false, cond, List, [], ◌∷◌, ◌++◌, length, refl, sym, ◌∙◌, ap, arith, true≢false}
use Rattle.std.specs.Int.{is_in_range}
use borrow.Author.Tests.{eqb-true}
use Rattle.std.specs.Prelude.{◌==◌, ◌&&◌, ◌||◌, All}
use Rattle.std.specs.List.{list_all, flat_map}
use Rattle.std.proofs.lemmas.List.Elements.{All-head, All-tail}
use Rattle.ix_lines.specs.Bytes.{is_letter, is_word_byte}
use Rattle.ix_values.specs.PlainAction.{PlainAction, text_of, text_of_rest, text_of_values}
use Rattle.ix_values.specs.inside.FirstWord.{opened}
use Rattle.ix_values.specs.Texts.{IsName, IsValue, IsAction}

-- what a byte is to the machine
pub data Kind : Type 0 where
  letter : Kind
  tail : Kind
  opens : Kind
  closes : Kind
  comma : Kind
  other : Kind

-- in a name with room for more bytes; where a value has to begin, with room for more values behind it; in a
-- value, with room for more values and for more bytes; behind the closing parenthesis
pub data State : Type 0 where
  dead : State
  start : State
  named : ℕ → State
  expecting : ℕ → State
  valued : ℕ → ℕ → State
  closed : State

pub kind : ℕ → Kind
kind byte = cond (is_letter byte) letter (cond (is_word_byte byte) tail (cond (byte == 40) opens (cond (byte == 41) closes (cond (byte == 44) comma other))))

-- letters, digits and `_`
abbrev pub is_word : Kind → Bool
is_word letter = true
is_word tail = true
is_word opens = false
is_word closes = false
is_word comma = false
is_word other = false

abbrev pub in_name : ℕ → Kind → State
in_name zero letter = dead
in_name zero tail = dead
in_name (suc r) letter = named r
in_name (suc r) tail = named r
in_name r opens = expecting 3
in_name r closes = dead
in_name r comma = dead
in_name r other = dead

abbrev pub in_value : ℕ → ℕ → Kind → State
in_value v zero letter = dead
in_value v zero tail = dead
in_value v (suc r) letter = valued v r
in_value v (suc r) tail = valued v r
in_value v r opens = dead
in_value v r closes = closed
in_value zero r comma = dead
in_value (suc v) r comma = expecting v
in_value v r other = dead

abbrev pub begin_value : ℕ → Kind → State
begin_value v letter = valued v 31
begin_value v tail = valued v 31
begin_value v opens = dead
begin_value v closes = dead
begin_value v comma = dead
begin_value v other = dead

abbrev pub begin_name : Kind → State
begin_name letter = named 31
begin_name tail = dead
begin_name opens = dead
begin_name closes = dead
begin_name comma = dead
begin_name other = dead

abbrev pub move : State → Kind → State
move dead k = dead
move start k = begin_name k
move (named r) k = in_name r k
move (expecting v) k = begin_value v k
move (valued v r) k = in_value v r k
move closed k = dead

abbrev pub run : State → List ℕ → State
run s [] = s
run s (byte ∷ bytes) = run (move s (kind byte)) bytes

-- the text may end here
abbrev pub may_end : State → Bool
may_end dead = false
may_end start = false
may_end (named r) = true
may_end (expecting v) = false
may_end (valued v r) = false
may_end closed = true

pub and-left : (a b : Bool) → (a && b) ≡ true → a ≡ true
and-left true b h = refl
and-left false b h = absurd (true≢false (sym h))

pub and-right : (a b : Bool) → (a && b) ≡ true → b ≡ true
and-right true b h = h
and-right false b h = absurd (true≢false (sym h))

pub run-append : (s : State) (xs ys : List ℕ) → run s (xs ++ ys) ≡ run (run s xs) ys
run-append s [] ys = refl
run-append s (x ∷ xs) ys = run-append (move s (kind x)) xs ys

pub run-dead : (xs : List ℕ) → run dead xs ≡ dead
run-dead [] = refl
run-dead (x ∷ xs) = run-dead xs

-- kinds and the tests of bytes

by_cases : (letter? word? forty forty_one forty_four : Bool) → (letter? ≡ true → word? ≡ true) → is_word (cond letter? letter (cond word? tail (cond forty opens (cond forty_one closes (cond forty_four comma other))))) ≡ word?
by_cases true word? a b c also = sym (also refl)
by_cases false true a b c also = refl
by_cases false false true b c also = refl
by_cases false false false true c also = refl
by_cases false false false false true also = refl
by_cases false false false false false also = refl

alphanumeric : (digit? upper? lower? line? : Bool) → (upper? || lower?) ≡ true → (((digit? || upper?) || lower?) || line?) ≡ true
alphanumeric true u l b h = refl
alphanumeric false true l b h = refl
alphanumeric false false true b h = refl
alphanumeric false false false b h = absurd (true≢false (sym h))

pub letters_are_words : (byte : ℕ) → is_letter byte ≡ true → is_word_byte byte ≡ true
letters_are_words byte = alphanumeric (is_in_range 48 57 byte) (is_in_range 65 90 byte) (is_in_range 97 122 byte) (byte == 95)

pub is_word-kind : (byte : ℕ) → is_word (kind byte) ≡ is_word_byte byte
unfolding kind
is_word-kind byte = by_cases (is_letter byte) (is_word_byte byte) (byte == 40) (byte == 41) (byte == 44) (letters_are_words byte)

pub kind-letter : (byte : ℕ) → is_letter byte ≡ true → kind byte ≡ letter
unfolding kind
kind-letter byte h = ap (λ t. cond t letter (cond (is_word_byte byte) tail (cond (byte == 40) opens (cond (byte == 41) closes (cond (byte == 44) comma other))))) h

no_letter : (word? forty forty_one forty_four : Bool) → begin_name (cond word? tail (cond forty opens (cond forty_one closes (cond forty_four comma other)))) ≡ dead
no_letter true a b c = refl
no_letter false true b c = refl
no_letter false false true c = refl
no_letter false false false true = refl
no_letter false false false false = refl

-- no name begins with another byte than a letter
pub stuck_at_start : (byte : ℕ) → is_letter byte ≡ false → move start (kind byte) ≡ dead
unfolding kind
stuck_at_start byte h =
    ap (λ t. begin_name (cond t letter (cond (is_word_byte byte) tail (cond (byte == 40) opens (cond (byte == 41) closes (cond (byte == 44) comma other)))))) h
    ∙ no_letter (is_word_byte byte) (byte == 40) (byte == 41) (byte == 44)

only_opens : (l w a b c : Bool) → cond l letter (cond w tail (cond a opens (cond b closes (cond c comma other)))) ≡ opens → a ≡ true
only_opens true w a b c e = cc
only_opens false true a b c e = cc
only_opens false false true b c e = refl
only_opens false false false true c e = cc
only_opens false false false false true e = cc
only_opens false false false false false e = cc

only_closes : (l w a b c : Bool) → cond l letter (cond w tail (cond a opens (cond b closes (cond c comma other)))) ≡ closes → b ≡ true
only_closes true w a b c e = cc
only_closes false true a b c e = cc
only_closes false false true b c e = cc
only_closes false false false true c e = refl
only_closes false false false false true e = cc
only_closes false false false false false e = cc

only_comma : (l w a b c : Bool) → cond l letter (cond w tail (cond a opens (cond b closes (cond c comma other)))) ≡ comma → c ≡ true
only_comma true w a b c e = cc
only_comma false true a b c e = cc
only_comma false false true b c e = cc
only_comma false false false true c e = cc
only_comma false false false false true e = refl
only_comma false false false false false e = cc

opens-kind : (byte : ℕ) → kind byte ≡ opens → byte ≡ 40
unfolding kind
opens-kind byte e = eqb-true byte 40 (only_opens (is_letter byte) (is_word_byte byte) (byte == 40) (byte == 41) (byte == 44) e)

closes-kind : (byte : ℕ) → kind byte ≡ closes → byte ≡ 41
unfolding kind
closes-kind byte e = eqb-true byte 41 (only_closes (is_letter byte) (is_word_byte byte) (byte == 40) (byte == 41) (byte == 44) e)

comma-kind : (byte : ℕ) → kind byte ≡ comma → byte ≡ 44
unfolding kind
comma-kind byte e = eqb-true byte 44 (only_comma (is_letter byte) (is_word_byte byte) (byte == 40) (byte == 41) (byte == 44) e)

dies_in_name : (r : ℕ) (k : Kind) → (k ≡ opens → ⊥) → (is_word k ≡ true → r ≡ 0) → in_name r k ≡ dead
dies_in_name zero letter never full = refl
dies_in_name zero tail never full = refl
dies_in_name (suc r) letter never full = absurd (omega (arith, full refl))
dies_in_name (suc r) tail never full = absurd (omega (arith, full refl))
dies_in_name r opens never full = absurd (never refl)
dies_in_name r closes never full = refl
dies_in_name r comma never full = refl
dies_in_name r other never full = refl

dies_in_value : (v r : ℕ) (k : Kind) → (k ≡ closes → ⊥) → (k ≡ comma → v ≡ 0) → (is_word k ≡ true → r ≡ 0) → in_value v r k ≡ dead
dies_in_value v zero letter never few full = refl
dies_in_value v zero tail never few full = refl
dies_in_value v (suc r) letter never few full = absurd (omega (arith, full refl))
dies_in_value v (suc r) tail never few full = absurd (omega (arith, full refl))
dies_in_value v r opens never few full = refl
dies_in_value v r closes never few full = absurd (never refl)
dies_in_value zero r comma never few full = refl
dies_in_value (suc v) r comma never few full = absurd (omega (arith, few refl))
dies_in_value v r other never few full = refl

dies_at_value : (v : ℕ) (k : Kind) → is_word k ≡ false → begin_value v k ≡ dead
dies_at_value v letter h = absurd (true≢false h)
dies_at_value v tail h = absurd (true≢false h)
dies_at_value v opens h = refl
dies_at_value v closes h = refl
dies_at_value v comma h = refl
dies_at_value v other h = refl

-- behind a name
pub stuck_in_name : (r byte : ℕ) → (byte ≡ 40 → ⊥) → (is_word_byte byte ≡ true → r ≡ 0) → move (named r) (kind byte) ≡ dead
stuck_in_name r byte never full = dies_in_name r (kind byte) (λ e. never (opens-kind byte e)) (λ w. full (sym (is_word-kind byte) ∙ w))

-- behind a value
pub stuck_in_value : (v r byte : ℕ) → (byte ≡ 41 → ⊥) → (byte ≡ 44 → v ≡ 0) → (is_word_byte byte ≡ true → r ≡ 0) → move (valued v r) (kind byte) ≡ dead
stuck_in_value v r byte never few full =
    dies_in_value v r (kind byte) (λ e. never (closes-kind byte e)) (λ e. few (comma-kind byte e)) (λ w. full (sym (is_word-kind byte) ∙ w))

-- in the place of a value
pub stuck_at_value : (v byte : ℕ) → is_word_byte byte ≡ false → move (expecting v) (kind byte) ≡ dead
stuck_at_value v byte h = dies_at_value v (kind byte) (is_word-kind byte ∙ h)

pub kind-opens : kind 40 ≡ opens
unfolding kind
kind-opens = refl

pub kind-closes : kind 41 ≡ closes
unfolding kind
kind-closes = refl

pub kind-comma : kind 44 ≡ comma
unfolding kind
kind-comma = refl

-- what the machine makes of the parts of a text

grow_name : (k : Kind) (r : ℕ) → is_word k ≡ true → in_name (suc r) k ≡ named r
grow_name letter r h = refl
grow_name tail r h = refl
grow_name opens r h = absurd (true≢false (sym h))
grow_name closes r h = absurd (true≢false (sym h))
grow_name comma r h = absurd (true≢false (sym h))
grow_name other r h = absurd (true≢false (sym h))

grow_value : (k : Kind) (v r : ℕ) → is_word k ≡ true → in_value v (suc r) k ≡ valued v r
grow_value letter v r h = refl
grow_value tail v r h = refl
grow_value opens v r h = absurd (true≢false (sym h))
grow_value closes v r h = absurd (true≢false (sym h))
grow_value comma v r h = absurd (true≢false (sym h))
grow_value other v r h = absurd (true≢false (sym h))

first_of_value : (k : Kind) (v : ℕ) → is_word k ≡ true → begin_value v k ≡ valued v 31
first_of_value letter v h = refl
first_of_value tail v h = refl
first_of_value opens v h = absurd (true≢false (sym h))
first_of_value closes v h = absurd (true≢false (sym h))
first_of_value comma v h = absurd (true≢false (sym h))
first_of_value other v h = absurd (true≢false (sym h))

run-named : (xs : List ℕ) (r room : ℕ) → list_all is_word_byte xs ≡ true → room ≡ length xs + r → run (named room) xs ≡ named r
run-named [] r room h e = ap named (omega arith)
run-named (x ∷ xs) r zero h e = absurd (omega arith)
run-named (x ∷ xs) r (suc room) h e =
    ap (λ s. run s xs) (grow_name (kind x) room (is_word-kind x ∙ and-left (is_word_byte x) (list_all is_word_byte xs) h))
    ∙ run-named xs r room (and-right (is_word_byte x) (list_all is_word_byte xs) h) (omega arith)

run-valued : (xs : List ℕ) (v r room : ℕ) → list_all is_word_byte xs ≡ true → room ≡ length xs + r → run (valued v room) xs ≡ valued v r
run-valued [] v r room h e = ap (valued v) (omega arith)
run-valued (x ∷ xs) v r zero h e = absurd (omega arith)
run-valued (x ∷ xs) v r (suc room) h e =
    ap (λ s. run s xs) (grow_value (kind x) v room (is_word-kind x ∙ and-left (is_word_byte x) (list_all is_word_byte xs) h))
    ∙ run-valued xs v r room (and-right (is_word_byte x) (list_all is_word_byte xs) h) (omega arith)

-- a name
pub run-name : (name : List ℕ) → IsName name → run start name ≡ named (32 - length name)
run-name [] is = absurd (true≢false (sym is.begins))
run-name (x ∷ xs) is =
    ap (λ k. run (begin_name k) xs) (kind-letter x is.begins)
    ∙ run-named xs (32 - length (x ∷ xs)) 31 (and-right (is_word_byte x) (list_all is_word_byte xs) is.word) (let short = is.short in omega arith)

-- a value
pub run-value : (value : List ℕ) (v : ℕ) → IsValue value → run (expecting v) value ≡ valued v (32 - length value)
run-value [] v is = absurd (omega (arith, is.begins))
run-value (x ∷ xs) v is =
    ap (λ s. run s xs) (first_of_value (kind x) v (is_word-kind x ∙ and-left (is_word_byte x) (list_all is_word_byte xs) is.word))
    ∙ run-valued xs v (32 - length (x ∷ xs)) 31 (and-right (is_word_byte x) (list_all is_word_byte xs) is.word) (let short = is.short in omega arith)

-- values with a comma behind each
run-commas : (values : List (List ℕ)) (v room : ℕ) → All IsValue values → room ≡ length values + v → run (expecting room) (flat_map (λ value. value ++ 44 ∷ []) values) ≡ expecting v
run-commas [] v room are e = ap expecting (omega arith)
run-commas (x ∷ xs) v zero are e = absurd (omega arith)
run-commas (x ∷ xs) v (suc room) are e =
    let commas : List ℕ = flat_map (λ value. value ++ 44 ∷ []) xs in
    run-append (expecting (suc room)) (x ++ 44 ∷ []) commas
    ∙ ap (λ s. run s commas) (
    run-append (expecting (suc room)) x (44 ∷ [])
    ∙ ap (λ s. run s (44 ∷ [])) (run-value x (suc room) (All-head IsValue x xs are))
    ∙ ap (in_value (suc room) (32 - length x)) kind-comma)
    ∙ run-commas xs v room (All-tail IsValue x xs are) (omega arith)

-- a name, `(` and some values with a comma behind each
pub run-opened : (name : List ℕ) (values : List (List ℕ)) → IsName name → All IsValue values → length values < 4 → run start (opened name values) ≡ expecting (3 - length values)
run-opened name values is are few =
    let commas : List ℕ = flat_map (λ value. value ++ 44 ∷ []) values in
    run-append start name (40 ∷ commas)
    ∙ ap (λ s. run s (40 ∷ commas)) (run-name name is)
    ∙ ap (λ k. run (in_name (32 - length name) k) commas) kind-opens
    ∙ run-commas values (3 - length values) 3 are (omega arith)

-- the same, and one more value
pub run-begun : (name : List ℕ) (values : List (List ℕ)) (value : List ℕ) → IsName name → All IsValue values → length values < 4 → IsValue value → run start (opened name values ++ value) ≡ valued (3 - length values) (32 - length value)
run-begun name values value is are few one =
    run-append start (opened name values) value
    ∙ ap (λ s. run s value) (run-opened name values is are few)
    ∙ run-value value (3 - length values) one

-- the rest of an action's text, behind a value
run-rest : (values : List (List ℕ)) (v r room : ℕ) → All IsValue values → room ≡ length values + v → run (valued room r) (text_of_rest values) ≡ closed
run-rest [] v r room are e = ap (in_value room r) kind-closes
run-rest (x ∷ xs) v r zero are e = absurd (omega arith)
run-rest (x ∷ xs) v r (suc room) are e =
    ap (λ k. run (in_value (suc room) r k) (x ++ text_of_rest xs)) kind-comma
    ∙ run-append (expecting room) x (text_of_rest xs)
    ∙ ap (λ s. run s (text_of_rest xs)) (run-value x room (All-head IsValue x xs are))
    ∙ run-rest xs v (32 - length x) room (All-tail IsValue x xs are) (omega arith)

closed_values : (r : ℕ) (values : List (List ℕ)) → All IsValue values → length values ≤ 4 → 0 < length values → run (named r) (text_of_values values) ≡ closed
closed_values r [] are few some = absurd (omega arith)
closed_values r (x ∷ xs) are few some =
    ap (λ k. run (in_name r k) (x ++ text_of_rest xs)) kind-opens
    ∙ run-append (expecting 3) x (text_of_rest xs)
    ∙ ap (λ s. run s (text_of_rest xs)) (run-value x 3 (All-head IsValue x xs are))
    ∙ run-rest xs (3 - length xs) (32 - length x) 3 (All-tail IsValue x xs are) (omega arith)

run-text : (action : PlainAction) → IsAction action → run start (text_of action) ≡ run (named (32 - length action.name)) (text_of_values action.values)
run-text action is =
    run-append start action.name (text_of_values action.values)
    ∙ ap (λ s. run s (text_of_values action.values)) (run-name action.name is.name)

run-values : (r : ℕ) (values : List (List ℕ)) → All IsValue values → length values ≤ 4 → may_end (run (named r) (text_of_values values)) ≡ true
run-values r [] are few = refl
run-values r (x ∷ xs) are few = ap may_end (closed_values r (x ∷ xs) are few (omega arith))

-- the text of an action
pub run-action : (action : PlainAction) → IsAction action → may_end (run start (text_of action)) ≡ true
run-action action is = ap may_end (run-text action is) ∙ run-values (32 - length action.name) action.values is.values is.few

-- the text of an action with values
pub run-closed : (action : PlainAction) → IsAction action → 0 < length action.values → run start (text_of action) ≡ closed
run-closed action is some = run-text action is ∙ closed_values (32 - length action.name) action.values is.values is.few some
