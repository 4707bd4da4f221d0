-- A request's line is one item, and a reply has no byte 10.
use Rattle.std.proofs.Common.{◌≡◌, ℕ, ◌^◌, ◌<◌, ◌≤◌, false, cond, leb, List, [], ◌∷◌, ◌++◌, length, map, decimal, refl, sym, ◌∙◌, ap, subst, arith}
use Rattle.std.specs.List.{list_any}
use Rattle.std.proofs.lemmas.Bool.{le-leb}
use Rattle.ix_lines.specs.Items.{Cut, line, too_long, item_of, item_of_last, items}
use Rattle.ix_lines.specs.Feeding.{held, skipping, unfinished}
use Rattle.ix_lines.specs.Cutting.{HasNoEnd}
use Rattle.ix_lines.proofs.CutLemmas.{cut_line, is_end, or_false}
use Rattle.ix_lines.proofs.NumberCuts.{decimal-avoids}
use Rattle.ix_lines.proofs.WindowLemmas.{no_end-append}
use Rattle.ix_values.specs.Tickets.{IsTicket, ticket_text}
use Rattle.ix_values.specs.declared.tickets.Ticket.{Ticket}

-- a text and a byte 10 at its end alone are one item, behind which nothing is held
pub one_line : (text : List ℕ) → HasNoEnd text → length text ≤ 512
    → (items (text ++ 10 ∷ []) ≡ line text ∷ []) × (held (text ++ 10 ∷ []) ≡ unfinished [])
one_line text none short =
    let whole = cut_line text [] none in
    let test = le-leb (length text) 512 short in (
      ap (λ (c : Cut). map item_of c.ended ++ item_of_last c.last) whole ∙ ap (λ t. cond t (line text) too_long ∷ []) test,
      ap (λ (c : Cut). cond (leb (length c.last) 512) (unfinished c.last) skipping) whole,
    )

pub number_plain : (n : ℕ) → n < 2 ^ 64 → HasNoEnd (decimal n)
number_plain n below = decimal-avoids 10 (omega arith) n below

pub ticket_plain : (ticket : Ticket) → IsTicket ticket → HasNoEnd (ticket_text ticket)
ticket_plain ticket is =
    no_end-append (decimal ticket.boot) (45 ∷ decimal ticket.seq) (number_plain ticket.boot is.boot) (number_plain ticket.seq is.seq)

-- a text that goes on with a byte 10 within another and the byte 10 behind it goes on to its end
pub ends_there : (front rest text : List ℕ) → HasNoEnd text → front ++ 10 ∷ rest ≡ text ++ 10 ∷ [] → front ≡ text
ends_there [] rest [] none same = refl
ends_there [] rest (byte ∷ text) none same =
    absurd (let first : 10 ≡ byte = cons_head 10 byte rest (text ++ 10 ∷ []) same in
    let no = (or_false (is_end byte) (list_any is_end text) none).0 in
    ten_ends (subst (λ b. is_end b ≡ false) (sym first) no))
  where
    cons_head : (x y : ℕ) (xs ys : List ℕ) → x ∷ xs ≡ y ∷ ys → x ≡ y
    cons_head x y xs ys e = cc

    ten_ends : is_end 10 ≡ false → ⊥
    ten_ends e = cc
ends_there (byte ∷ front) rest [] none same = absurd (nil_cons front rest (cons_tail byte 10 (front ++ 10 ∷ rest) [] same))
  where
    cons_tail : (x y : ℕ) (xs ys : List ℕ) → x ∷ xs ≡ y ∷ ys → xs ≡ ys
    cons_tail x y xs ys e = cc

    nil_cons : (xs ys : List ℕ) → xs ++ 10 ∷ ys ≡ [] → ⊥
    nil_cons [] ys e = cc
    nil_cons (x ∷ xs) ys e = cc
ends_there (byte ∷ front) rest (other ∷ text) none same =
    let first : byte ≡ other = cons_head byte other (front ++ 10 ∷ rest) (text ++ 10 ∷ []) same in
    let later = ends_there front rest text (or_false (is_end other) (list_any is_end text) none).1
    (cons_tail byte other (front ++ 10 ∷ rest) (text ++ 10 ∷ []) same) in
    λ i. first i ∷ later i
  where
    cons_head : (x y : ℕ) (xs ys : List ℕ) → x ∷ xs ≡ y ∷ ys → x ≡ y
    cons_head x y xs ys e = cc

    cons_tail : (x y : ℕ) (xs ys : List ℕ) → x ∷ xs ≡ y ∷ ys → xs ≡ ys
    cons_tail x y xs ys e = cc
