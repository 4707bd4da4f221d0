-- A text and a piece behind it, cut.
use Rattle.std.proofs.Common.{◌||◌, ◌≡◌, ℕ, Bool, true, false, cond, eqb, leb, List, [], ◌∷◌, ◌++◌, length, refl, sym, ◌∙◌, ap, append-nil, arith, length-append}
use Rattle.std.proofs.lemmas.Bool.{leb-false, lt-leb}
use Rattle.std.specs.List.{list_any}
use Rattle.std.specs.Io.BufRead.{drop_through}
use Rattle.ix_lines.specs.Items.{Cut, in_front, cut}

-- parts, and the parts of a piece behind them
abbrev pub joined : List (List ℕ) → List ℕ → List (List ℕ) → List ℕ → Cut
joined parts last [] later = record { ended = parts; last = last ++ later }
joined parts last (part ∷ others) later = record { ended = parts ++ (last ++ part) ∷ others; last = later }

joined_empty : (others : List (List ℕ)) (later : List ℕ) → joined [] [] others later ≡ record { ended = others; last = later }
joined_empty [] later = refl
joined_empty (part ∷ others) later = refl

-- a byte before parts, by the test whether it ends a line
abbrev pub before : Bool → ℕ → Cut → Cut
before test byte c = cond test (record { ended = [] ∷ c.ended; last = c.last }) (in_front byte c.ended c.last)

before-joined : (test : Bool) (byte : ℕ) (parts : List (List ℕ)) (last : List ℕ) (others : List (List ℕ)) (later : List ℕ)
    → before test byte (joined parts last others later)
    ≡ joined (before test byte (record { ended = parts; last = last })).ended (before test byte (record { ended = parts; last = last })).last others later
before-joined true byte parts last [] later = refl
before-joined true byte parts last (part ∷ others) later = refl
before-joined false byte [] last [] later = refl
before-joined false byte [] last (part ∷ others) later = refl
before-joined false byte (first ∷ parts) last [] later = refl
before-joined false byte (first ∷ parts) last (part ∷ others) later = refl

pub cut-append : (text piece : List ℕ)
    → cut (text ++ piece) ≡ joined (cut text).ended (cut text).last (cut piece).ended (cut piece).last
cut-append [] piece = sym (joined_empty (cut piece).ended (cut piece).last)
cut-append (byte ∷ text) piece =
    ap (before (eqb byte 10) byte) (cut-append text piece)
    ∙ before-joined (eqb byte 10) byte (cut text).ended (cut text).last (cut piece).ended (cut piece).last

-- the test that a byte ends a line
abbrev pub is_end : ℕ → Bool
is_end byte = eqb byte 10

pub or_false : (a b : Bool) → (a || b) ≡ false → (a ≡ false) × (b ≡ false)
or_false true b h = cc
or_false false b h = (refl, h)

plain_step : (test : Bool) (byte : ℕ) (text : List ℕ) (c : Cut) → c ≡ record { ended = []; last = text }
    → test ≡ false → before test byte c ≡ record { ended = []; last = byte ∷ text }
plain_step true byte text c same none = cc
plain_step false byte text c same none = ap (before false byte) same

-- a text with no end in it is one part
pub cut_plain : (text : List ℕ) → list_any is_end text ≡ false → cut text ≡ record { ended = []; last = text }
cut_plain [] none = refl
cut_plain (byte ∷ text) none =
    let parts = or_false (is_end byte) (list_any is_end text) none in
    plain_step (is_end byte) byte text (cut text) (cut_plain text parts.1) parts.0

-- a line's end behind a text with none in it
pub cut_line : (text rest : List ℕ) → list_any is_end text ≡ false
    → cut (text ++ 10 ∷ rest) ≡ record { ended = text ∷ (cut rest).ended; last = (cut rest).last }
cut_line text rest none =
    cut-append text (10 ∷ rest) ∙ ap (λ (c : Cut). joined c.ended c.last ([] ∷ (cut rest).ended) (cut rest).last) (cut_plain text none)
    ∙ ap (λ (part : List ℕ). record { ended = part ∷ (cut rest).ended; last = (cut rest).last }) (append-nil text)

-- what stands behind the first end, by the parts of a text
abbrev pub Behind : List (List ℕ) → List ℕ → List ℕ → Type 0
Behind [] last text = (list_any is_end text ≡ false) × (drop_through 10 text ≡ [])
Behind (part ∷ parts) last text = (list_any is_end text ≡ true) × (cut (drop_through 10 text) ≡ record { ended = parts; last = last })

behind_step : (test : Bool) (byte : ℕ) (text : List ℕ) (parts : List (List ℕ)) (last : List ℕ) → is_end byte ≡ test
    → cut text ≡ record { ended = parts; last = last } → Behind parts last text
    → Behind (before test byte (record { ended = parts; last = last })).ended (before test byte (record { ended = parts; last = last })).last (byte ∷ text)
behind_step true byte text parts last is same before_it = (ap (λ t. t || list_any is_end text) is, ap (λ t. cut (cond t text (drop_through 10 text))) is ∙ same)
behind_step false byte text [] last is same before_it = (ap (λ t. t || list_any is_end text) is ∙ before_it.0, ap (λ t. cond t text (drop_through 10 text)) is ∙ before_it.1)
behind_step false byte text (part ∷ parts) last is same before_it = (ap (λ t. t || list_any is_end text) is ∙ before_it.0, ap (λ t. cut (cond t text (drop_through 10 text))) is ∙ before_it.1)

pub behind : (text : List ℕ) → Behind (cut text).ended (cut text).last text
behind [] = (refl, refl)
behind (byte ∷ text) = behind_step (is_end byte) byte text (cut text).ended (cut text).last refl refl (behind text)

-- a part that is too long stays so
pub long-append : (part others : List ℕ) → leb (length part) 512 ≡ false → leb (length (part ++ others)) 512 ≡ false
long-append part others long = lt-leb _ _ (omega (arith, leb-false _ _ long, length-append part others))

-- the last part has no end in it
last_step : (test : Bool) (byte : ℕ) (parts : List (List ℕ)) (last : List ℕ) → is_end byte ≡ test
    → list_any is_end last ≡ false → list_any is_end (before test byte (record { ended = parts; last = last })).last ≡ false
last_step true byte parts last is none = none
last_step false byte [] last is none = ap (λ t. t || list_any is_end last) is ∙ none
last_step false byte (part ∷ parts) last is none = none

pub last_plain : (text : List ℕ) → list_any is_end (cut text).last ≡ false
last_plain [] = refl
last_plain (byte ∷ text) = last_step (is_end byte) byte (cut text).ended (cut text).last refl (last_plain text)

-- what stands behind the first end of two texts
after_step : (test : Bool) (byte : ℕ) (front back : List ℕ) → is_end byte ≡ test
    → (test ≡ false → drop_through 10 (front ++ back) ≡ drop_through 10 front ++ back)
    → drop_through 10 (byte ∷ front ++ back) ≡ drop_through 10 (byte ∷ front) ++ back
after_step true byte front back is later =
    ap (λ t. cond t (front ++ back) (drop_through 10 (front ++ back))) is ∙ sym (ap (λ t. cond t front (drop_through 10 front) ++ back) is)
after_step false byte front back is later =
    ap (λ t. cond t (front ++ back) (drop_through 10 (front ++ back))) is ∙ later refl ∙ sym (ap (λ t. cond t front (drop_through 10 front) ++ back) is)

or_true : (a b : Bool) → (a || b) ≡ true → a ≡ false → b ≡ true
or_true true b h isnt = cc
or_true false b h isnt = h

pub drop_through-some : (front back : List ℕ) → list_any is_end front ≡ true
    → drop_through 10 (front ++ back) ≡ drop_through 10 front ++ back
drop_through-some [] back some = cc
drop_through-some (byte ∷ front) back some =
    after_step (is_end byte) byte front back refl (λ isnt. drop_through-some front back (or_true (is_end byte) (list_any is_end front) some isnt))

pub drop_through-none : (front back : List ℕ) → list_any is_end front ≡ false
    → drop_through 10 (front ++ back) ≡ drop_through 10 back
drop_through-none [] back none = refl
drop_through-none (byte ∷ front) back none =
    let parts = or_false (is_end byte) (list_any is_end front) none in
    ap (λ t. cond t (front ++ back) (drop_through 10 (front ++ back))) parts.0 ∙ drop_through-none front back parts.1
