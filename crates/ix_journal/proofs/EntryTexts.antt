-- A text is one record's at most.
use Rattle.std.proofs.Common.{◌≡◌, ℕ, ◌||◌, Bool, true, false, List, [], ◌∷◌, ◌++◌, Option, Some, None, refl, sym, ◌∙◌, ap, arith, true≢false, codes, decimal}
use Rattle.std.specs.Prelude.{All}
use Rattle.std.specs.List.{list_all, list_any}
use Rattle.std.proofs.lemmas.Bool.Decides.{nat_tests}
use Rattle.std.proofs.lemmas.Fmt.{decimal_injective}
use Rattle.std.proofs.lemmas.List.{append-nil}
use Rattle.std.proofs.lemmas.List.Elements.{All-head, All-tail}
use Rattle.std.proofs.lemmas.List.Folds.{list_any-append}
use Rattle.ix_lines.proofs.NumberCuts.{cut_same, decimal-avoids, decimal-plain, number_same, or_false, some_same}
use Rattle.ix_lines.proofs.WordLemmas.{is_byte, is_space}
use Rattle.ix_lines.specs.inside.WordsBehind.{behind_word, HasNoSpace}
use Rattle.ix_values.proofs.Machine.{and-left, and-right}
use Rattle.ix_values.proofs.TextsApart.{texts_apart}
use Rattle.ix_lines.specs.Bytes.{is_word_byte}
use Rattle.ix_values.specs.PlainAction.{PlainAction, text_of, text_of_rest, text_of_values}
use Rattle.ix_values.specs.Texts.{IsAction, IsValue}
use Rattle.ix_values.specs.Tickets.{IsTicket, ticket_text}
use Rattle.ix_values.specs.declared.tickets.Ticket.{Ticket}
use Rattle.ix_journal.specs.Entries.{IsEntry, entry_text}
use Rattle.ix_journal.specs.declared.entries.Entry.{Entry}
use Rattle.ix_journal.specs.declared.entries.Entry.TheVariants as entry

-- the word in front of the first space of a record's text, and what stands behind that space
abbrev pub first_word : Entry → List ℕ
first_word (entry.Renewed actions boots) = codes "renewed"
first_word (entry.Boot number) = codes "boot"
first_word (entry.Spent ticket action) = ticket_text ticket
first_word (entry.Plain action) = text_of action

abbrev pub later_text : Entry → Option (List ℕ)
later_text (entry.Renewed actions boots) = Some (decimal actions ++ 32 ∷ decimal boots)
later_text (entry.Boot number) = Some (decimal number)
later_text (entry.Spent ticket action) = Some (text_of action)
later_text (entry.Plain action) = None

pub cut-of : (e : Entry) → entry_text e ≡ first_word e ++ behind_word (later_text e)
cut-of (entry.Renewed actions boots) = refl
cut-of (entry.Boot number) = refl
cut-of (entry.Spent ticket action) = refl
cut-of (entry.Plain action) = sym (append-nil (text_of action))

both_false : (p q : Bool) → p ≡ false → q ≡ false → (p || q) ≡ false
both_false p q e f = rw (e, f) refl

plain-append : (xs ys : List ℕ) → HasNoSpace xs → HasNoSpace ys → HasNoSpace (xs ++ ys)
plain-append xs ys p q =
    list_any-append is_space xs ys ∙ both_false (list_any is_space xs) (list_any is_space ys) p q

-- no byte of a word is a space
word-plain : (xs : List ℕ) → list_all is_word_byte xs ≡ true → HasNoSpace xs
word-plain [] h = refl
word-plain (x ∷ xs) h =
    both_false (is_space x) (list_any is_space xs)
    (no_space (is_space x) refl)
    (word-plain xs (and-right (is_word_byte x) (list_all is_word_byte xs) h))
  where
    no_space : (b : Bool) → is_space x ≡ b → b ≡ false
    no_space false e = refl
    no_space true e =
        let same : x ≡ 32 = grind (arith, nat_tests) in
        absurd (true≢false (sym (and-left (is_word_byte x) (list_all is_word_byte xs) h) ∙ ap is_word_byte same))

rest-plain : (values : List (List ℕ)) → All IsValue values → HasNoSpace (text_of_rest values)
rest-plain [] valid = refl
rest-plain (value ∷ values) valid =
    let first : IsValue value = All-head IsValue value values valid in
    plain-append value (text_of_rest values) (word-plain value first.word)
    (rest-plain values (All-tail IsValue value values valid))

values-plain : (values : List (List ℕ)) → All IsValue values → HasNoSpace (text_of_values values)
values-plain [] valid = refl
values-plain (value ∷ values) valid = rest-plain (value ∷ values) valid

-- no byte of an action's text is a space
pub action-plain : (action : PlainAction) → IsAction action → HasNoSpace (text_of action)
action-plain action valid =
    plain-append action.name (text_of_values action.values) (word-plain action.name valid.name.word)
    (values-plain action.values valid.values)

-- no byte of a ticket's text is a space
pub ticket-plain : (ticket : Ticket) → IsTicket ticket → HasNoSpace (ticket_text ticket)
ticket-plain ticket valid =
    plain-append (decimal ticket.boot) (45 ∷ decimal ticket.seq) (decimal-plain ticket.boot valid.boot)
    (decimal-plain ticket.seq valid.seq)

pub first-plain : (e : Entry) → IsEntry e → HasNoSpace (first_word e)
first-plain (entry.Renewed actions boots) valid = refl
first-plain (entry.Boot number) valid = refl
first-plain (entry.Spent ticket action) valid = ticket-plain ticket valid.0
first-plain (entry.Plain action) valid = action-plain action valid

abbrev is_dash : ℕ → Bool
is_dash byte = is_byte 45 byte

dash_first : (d : ℕ) (later : Bool) → (is_dash d || later) ≡ false → 45 ≡ d → ⊥
dash_first d later none same =
    true≢false (ap is_dash same ∙ (or_false (is_dash d) later none).0)

-- a word without a dash is no ticket's text
without_dash : (word : List ℕ) → list_any (is_byte 45) word ≡ false → (ticket : Ticket)
    → word ≡ ticket_text ticket → ⊥
without_dash word none ticket e =
    true≢false
    (sym (has_dash (decimal ticket.boot)) ∙ ap (list_any (is_byte 45)) (sym e) ∙ none)
  where
    has_dash : (front : List ℕ) → list_any (is_byte 45) (front ++ 45 ∷ decimal ticket.seq) ≡ true
    has_dash [] = refl
    has_dash (x ∷ front) = or_right (is_byte 45 x) (list_any (is_byte 45) (front ++ 45 ∷ decimal ticket.seq)) (has_dash front)
      where
        or_right : (p q : Bool) → q ≡ true → (p || q) ≡ true
        or_right true q h = refl
        or_right false q h = h

-- so are `boot` and `renewed`
pub boot_apart : (ticket : Ticket) → codes "boot" ≡ ticket_text ticket → ⊥
boot_apart ticket e = without_dash (codes "boot") refl ticket e

pub renewed_apart : (ticket : Ticket) → codes "renewed" ≡ ticket_text ticket → ⊥
renewed_apart ticket e = without_dash (codes "renewed") refl ticket e

-- the words of one text are those of one record
words-same : (x y : Entry) → IsEntry x → IsEntry y → entry_text x ≡ entry_text y
    → (first_word x ≡ first_word y) × (later_text x ≡ later_text y)
words-same x y valid also e =
    cut_same (first_word x) (first_word y) (later_text x) (later_text y) (first-plain x valid)
    (first-plain y also) (sym (cut-of x) ∙ e ∙ cut-of y)

-- a text is cut at its first dash in one way
cut_dash : (a b x y : List ℕ) → list_any is_dash a ≡ false → list_any is_dash b ≡ false
    → a ++ 45 ∷ x ≡ b ++ 45 ∷ y → (a ≡ b) × (x ≡ y)
cut_dash [] [] x y p q e = (refl, cc)
cut_dash [] (d ∷ b) x y p q e = absurd (dash_first d (list_any is_dash b) q cc)
cut_dash (c ∷ a) [] x y p q e = absurd (dash_first c (list_any is_dash a) p cc)
cut_dash (c ∷ a) (d ∷ b) x y p q e =
    let first : c ≡ d = cc in
    let rest = cut_dash a b x y (or_false (is_dash c) (list_any is_dash a) p).1
    (or_false (is_dash d) (list_any is_dash b) q).1 cc in
    ((λ i. first i ∷ rest.0 i), rest.1)

-- a ticket has one text
tickets-same : (s t : Ticket) → IsTicket s → IsTicket t → ticket_text s ≡ ticket_text t → s ≡ t
tickets-same s t valid also e =
    let cut = cut_dash (decimal s.boot) (decimal t.boot) (decimal s.seq) (decimal t.seq)
    (decimal-avoids 45 (omega arith) s.boot valid.boot)
    (decimal-avoids 45 (omega arith) t.boot also.boot) e in
    let boots : s.boot ≡ t.boot = decimal_injective s.boot t.boot valid.boot also.boot cut.0 in
    let seqs : s.seq ≡ t.seq = decimal_injective s.seq t.seq valid.seq also.seq cut.1 in
    λ i. record { boot = boots i; seq = seqs i }

kinds-same : (x y : Entry) → IsEntry x → IsEntry y
    → (first_word x ≡ first_word y) → (later_text x ≡ later_text y) → x ≡ y
kinds-same (entry.Renewed a b) (entry.Renewed c d) valid also first later =
    let actions = number_same a c (decimal b) (decimal d) (omega (arith, valid.0)) (omega (arith, also.0))
    (some_same later) in
    let boots : b ≡ d = decimal_injective b d (omega (arith, valid.1)) (omega (arith, also.1)) actions.1 in
    λ i. entry.Renewed (actions.0 i) (boots i)
kinds-same (entry.Renewed a b) (entry.Boot n) valid also first later = absurd cc
kinds-same (entry.Renewed a b) (entry.Spent t c) valid also first later = absurd (renewed_apart t first)
kinds-same (entry.Renewed a b) (entry.Plain c) valid also first later = absurd cc
kinds-same (entry.Boot m) (entry.Renewed a b) valid also first later = absurd cc
kinds-same (entry.Spent s c) (entry.Renewed a b) valid also first later = absurd (renewed_apart s (sym first))
kinds-same (entry.Plain c) (entry.Renewed a b) valid also first later = absurd cc
kinds-same (entry.Boot m) (entry.Boot n) valid also first later =
    ap entry.Boot (decimal_injective m n valid also (some_same later))
kinds-same (entry.Boot m) (entry.Spent t b) valid also first later = absurd (boot_apart t first)
kinds-same (entry.Boot m) (entry.Plain b) valid also first later = absurd cc
kinds-same (entry.Spent s a) (entry.Boot n) valid also first later = absurd (boot_apart s (sym first))
kinds-same (entry.Spent s a) (entry.Spent t b) valid also first later =
    let tickets = tickets-same s t valid.0 also.0 first in
    let actions = texts_apart a b valid.1 also.1 (some_same later) in
    λ i. entry.Spent (tickets i) (actions i)
kinds-same (entry.Spent s a) (entry.Plain b) valid also first later = absurd cc
kinds-same (entry.Plain a) (entry.Boot n) valid also first later = absurd cc
kinds-same (entry.Plain a) (entry.Spent t b) valid also first later = absurd cc
kinds-same (entry.Plain a) (entry.Plain b) valid also first later =
    ap entry.Plain (texts_apart a b valid also first)

-- two records with one text say the same
pub entries-same : (x y : Entry) → IsEntry x → IsEntry y → entry_text x ≡ entry_text y → x ≡ y
entries-same x y valid also e =
    let words = words-same x y valid also e in kinds-same x y valid also words.0 words.1
