-- Tickets beside actions, in two lists of one length.
use Rattle.std.proofs.Common.{◌≡◌, List, [], ◌∷◌, ◌++◌, length, map, Option, suc, refl, ap, arith}
use Rattle.std.specs.List.{zip}
use Rattle.ix_values.specs.PlainAction.{Word}
use Rattle.ix_values.specs.declared.tickets.Ticket.{Ticket}
use Rattle.ix_journal.specs.History.{Spent, actions_of}

-- one more of both
pub zip-push : {K X : Type 0} (ks : List K) (xs : List X) (k : K) (x : X) → length ks ≡ length xs
    → zip (ks ++ k ∷ []) (xs ++ x ∷ []) ≡ zip ks xs ++ (k, x) ∷ []
zip-push [] [] k x same = refl
zip-push [] (y ∷ xs) k x same = absurd (omega arith)
zip-push (j ∷ ks) [] k x same = absurd (omega arith)
zip-push (j ∷ ks) (y ∷ xs) k x same = ap (λ ps. (j, y) ∷ ps) (zip-push ks xs k x (omega arith))

-- the tickets of the pairs
pub tickets-zip : (tickets : List (Option Ticket)) (w : Word) → length tickets ≡ length w
    → map (λ (spent : Spent). spent.0) (zip tickets w) ≡ tickets
tickets-zip [] [] same = refl
tickets-zip [] (a ∷ w) same = absurd (omega arith)
tickets-zip (t ∷ tickets) [] same = absurd (omega arith)
tickets-zip (t ∷ tickets) (a ∷ w) same = ap (λ rest. t ∷ rest) (tickets-zip tickets w (omega arith))

-- the actions of the pairs
pub actions-zip : (tickets : List (Option Ticket)) (w : Word) → length tickets ≡ length w
    → actions_of (zip tickets w) ≡ w
actions-zip [] [] same = refl
actions-zip [] (a ∷ w) same = absurd (omega arith)
actions-zip (t ∷ tickets) [] same = absurd (omega arith)
actions-zip (t ∷ tickets) (a ∷ w) same = ap (λ rest. a ∷ rest) (actions-zip tickets w (omega arith))

-- how many pairs there are
pub length-pairs : (tickets : List (Option Ticket)) (w : Word) → length tickets ≡ length w
    → length w ≡ length (zip tickets w)
length-pairs [] [] same = refl
length-pairs [] (a ∷ w) same = absurd (omega arith)
length-pairs (t ∷ tickets) [] same = absurd (omega arith)
length-pairs (t ∷ tickets) (a ∷ w) same = ap suc (length-pairs tickets w (omega arith))
