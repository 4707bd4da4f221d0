-- Tickets beside the actions that they were spent on.
use Rattle.std.proofs.Common.{◌≡◌, ℕ, zero, suc, ◌<◌, ◌==◌, Bool, cond, nat_lt, if◌then◌else◌, true, false, List, [], ◌∷◌, ◌++◌, length, map}
use Rattle.std.proofs.Common.{get_or, Option, Some, None, refl, sym, ◌∙◌, ap, true≢false, arith}
use Rattle.std.specs.List.{position, position_or_len, zip}
use Rattle.std.proofs.lemmas.Bool.Decides.{nat_tests}
use Rattle.std.proofs.lemmas.List.Quantifiers.{position-Some}
use Rattle.std.proofs.lemmas.List.Sums.{fails_before_first}
use Rattle.ix_words.specs.Each.{no_item, item}
use Rattle.ix_values.specs.PlainAction.{PlainAction, Word}
use Rattle.ix_values.specs.declared.tickets.Ticket.{Ticket}
use Rattle.ix_journal.specs.History.{PlainHistory, Spent, actions_of}
use Rattle.ix_manager.specs.Machine.{IsAbsent}
use Rattle.ix_manager.specs.inside.Ready.{has_ticket}

-- the pair with a ticket, with what stands before it and behind it
pub record KeptAt (ticket : Ticket) (history : PlainHistory) (index : ℕ) : Type 0 where
  pub before : PlainHistory
  pub behind : PlainHistory
  pub action : PlainAction
  pub same : history ≡ before ++ (Some ticket, action) ∷ behind
  pub place : length before ≡ index

pairs_at : (ticket : Ticket) (tickets : List (Option Ticket)) (w : Word) (index : ℕ) → length tickets ≡ length w
    → index < length tickets → get_or tickets index None ≡ Some ticket → KeptAt ticket (zip tickets w) index
pairs_at ticket [] w index each within is = absurd (omega arith)
pairs_at ticket (kept ∷ tickets) [] index each within is = absurd (omega arith)
pairs_at ticket (kept ∷ tickets) (a ∷ w) zero each within is = record {
  before = [];
  behind = zip tickets w;
  action = a;
  same = ap (λ k. (k, a) ∷ zip tickets w) is;
  place = refl;
}
pairs_at ticket (kept ∷ tickets) (a ∷ w) (suc index) each within is =
    let rest = pairs_at ticket tickets w index (omega arith) (omega arith) is in record {
      before = (kept, a) ∷ rest.before;
      behind = rest.behind;
      action = rest.action;
      same = ap (λ h. (kept, a) ∷ h) rest.same;
      place = ap suc rest.place;
    }

both_true : (a b : Bool) → (if a then b else false) ≡ true → (a ≡ true) × (b ≡ true)
both_true true true e = (refl, refl)
both_true true false e = absurd (true≢false (sym e))
both_true false b e = absurd (true≢false (sym e))

same_number : (m n : ℕ) → (m == n) ≡ true → m ≡ n
same_number m n e = grind (arith, nat_tests)

itself : (n : ℕ) → (n == n) ≡ true
itself n = grind (arith, nat_tests)

has_is : (ticket : Ticket) (kept : Option Ticket) → has_ticket ticket kept ≡ true → kept ≡ Some ticket
has_is ticket None e = absurd (true≢false (sym e))
has_is ticket (Some kept) e =
    let both = both_true (kept.boot == ticket.boot) (kept.seq == ticket.seq) e in
    let boot = same_number kept.boot ticket.boot both.0 in
    let seq = same_number kept.seq ticket.seq both.1 in
    λ i. Some (record { boot = boot i; seq = seq i })

has_itself : (ticket : Ticket) → has_ticket ticket (Some ticket) ≡ true
has_itself ticket = rw (itself ticket.boot, itself ticket.seq) refl

-- the first ticket that is this one
pub kept_at : (ticket : Ticket) (tickets : List (Option Ticket)) (w : Word) (index : ℕ) → length tickets ≡ length w
    → position (has_ticket ticket) tickets ≡ Some index → KeptAt ticket (zip tickets w) index
kept_at ticket tickets w index each found =
    let at = position-Some (has_ticket ticket) tickets index None found in
    pairs_at ticket tickets w index each at.0 (has_is ticket (get_or tickets index None) at.1)

absent_from : (ticket : Ticket) (tickets : List (Option Ticket)) (w : Word)
    → ((k : ℕ) → k < length tickets → has_ticket ticket (get_or tickets k None) ≡ false)
    → IsAbsent ticket (zip tickets w)
absent_from ticket [] w fails = no_item
absent_from ticket (kept ∷ tickets) [] fails = no_item
absent_from ticket (kept ∷ tickets) (a ∷ w) fails =
    item (λ is. true≢false (sym (ap (has_ticket ticket) is ∙ has_itself ticket) ∙ fails 0 (omega arith)))
    (absent_from ticket tickets w (λ k within. fails (suc k) (omega arith)))

none_before : (n m k : ℕ) → cond (nat_lt n m) (Some n) None ≡ None → k < m → k < n
none_before n m k e l = grind (arith, nat_tests)

-- no ticket is this one
pub not_kept : (ticket : Ticket) (tickets : List (Option Ticket)) (w : Word) → position (has_ticket ticket) tickets ≡ None
    → IsAbsent ticket (zip tickets w)
not_kept ticket tickets w none = absent_from ticket tickets w
    (λ k within. fails_before_first (has_ticket ticket) tickets k None
    (none_before (position_or_len (has_ticket ticket) tickets) (length tickets) k none within))

-- a history, from its tickets and its actions
pub zipped : (h : PlainHistory) (tickets : List (Option Ticket)) (w : Word) → tickets ≡ map (λ (spent : Spent). spent.0) h
    → w ≡ actions_of h → zip tickets w ≡ h
zipped h tickets w first second = ap (λ ts. zip ts w) first ∙ ap (zip (map (λ (spent : Spent). spent.0) h)) second ∙ whole h
  where
    whole : (h : PlainHistory) → zip (map (λ (spent : Spent). spent.0) h) (actions_of h) ≡ h
    whole [] = refl
    whole (spent ∷ h) = ap (λ rest. spent ∷ rest) (whole h)
