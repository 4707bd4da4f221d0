-- The words of a line tell its request.
use Rattle.std.proofs.Common.{◌≡◌, ℕ, ◌+◌, List, [], ◌∷◌, codes, get_or, refl, sym, ◌∙◌, ap, arith}
use Rattle.std.proofs.lemmas.Fmt.{decimal_injective}
use Rattle.std.specs.Fmt.{decimal}
use Rattle.ix_values.specs.Laws.{TextsTellTicketsApart}
use Rattle.ix_values.specs.PlainAction.{PlainAction, text_of}
use Rattle.ix_values.specs.Tickets.{ticket_text}
use Rattle.ix_values.specs.declared.tickets.Ticket.{Ticket}
use Rattle.ix_values.proofs.TextsApart.{texts_apart}
use Rattle.ix_proto.specs.Requests.{PlainRequest, IsRequest, request_words, ask, confirm, cancel, outcome, may, watch, drop_watch, poll, status, log, stop}

abbrev first_word : PlainRequest → List ℕ
first_word (ask a lease) = codes "ask"
first_word (confirm ticket) = codes "confirm"
first_word (cancel ticket) = codes "cancel"
first_word (outcome ticket) = codes "outcome"
first_word (may a) = codes "may"
first_word (watch name a) = codes "watch"
first_word (drop_watch name a) = codes "drop"
first_word (poll name) = codes "poll"
first_word status = codes "status"
first_word (log number) = codes "log"
first_word stop = codes "stop"

-- the first words differ in the sum of their first three bytes
abbrev number_of : PlainRequest → ℕ
number_of (ask a lease) = 319
number_of (confirm ticket) = 320
number_of (cancel ticket) = 306
number_of (outcome ticket) = 344
number_of (may a) = 327
number_of (watch name a) = 332
number_of (drop_watch name a) = 325
number_of (poll name) = 331
number_of status = 328
number_of (log number) = 322
number_of stop = 342

sum_of : List ℕ → ℕ
sum_of word = get_or word 0 0 + get_or word 1 0 + get_or word 2 0

sum_is : (request : PlainRequest) → sum_of (first_word request) ≡ number_of request
unfolding sum_of
sum_is (ask a lease) = refl
sum_is (confirm ticket) = refl
sum_is (cancel ticket) = refl
sum_is (outcome ticket) = refl
sum_is (may a) = refl
sum_is (watch name a) = refl
sum_is (drop_watch name a) = refl
sum_is (poll name) = refl
sum_is status = refl
sum_is (log number) = refl
sum_is stop = refl

abbrev words_behind : PlainRequest → List (List ℕ)
words_behind (ask a lease) = text_of a ∷ decimal lease ∷ []
words_behind (confirm ticket) = ticket_text ticket ∷ []
words_behind (cancel ticket) = ticket_text ticket ∷ []
words_behind (outcome ticket) = ticket_text ticket ∷ []
words_behind (may a) = text_of a ∷ []
words_behind (watch name a) = name ∷ text_of a ∷ []
words_behind (drop_watch name a) = name ∷ text_of a ∷ []
words_behind (poll name) = name ∷ []
words_behind status = []
words_behind (log number) = decimal number ∷ []
words_behind stop = []

in_two : (request : PlainRequest) → request_words request ≡ first_word request ∷ words_behind request
in_two (ask a lease) = refl
in_two (confirm ticket) = refl
in_two (cancel ticket) = refl
in_two (outcome ticket) = refl
in_two (may a) = refl
in_two (watch name a) = refl
in_two (drop_watch name a) = refl
in_two (poll name) = refl
in_two status = refl
in_two (log number) = refl
in_two stop = refl

cons_head : (x y : List ℕ) (xs ys : List (List ℕ)) → x ∷ xs ≡ y ∷ ys → x ≡ y
cons_head x y xs ys e = cc

cons_tail : (x y : List ℕ) (xs ys : List (List ℕ)) → x ∷ xs ≡ y ∷ ys → xs ≡ ys
cons_tail x y xs ys e = cc

-- a request whose first word is this
only_ask : (P : PlainRequest → Type 0) → ((a : PlainAction) (lease : ℕ) → P (ask a lease)) → (q : PlainRequest) → number_of q ≡ 319 → P q
only_ask P p (ask a lease) is = p a lease
only_ask P p _ is = absurd (omega (arith, is))

only_confirm : (P : PlainRequest → Type 0) → ((ticket : Ticket) → P (confirm ticket)) → (q : PlainRequest) → number_of q ≡ 320 → P q
only_confirm P p (confirm ticket) is = p ticket
only_confirm P p _ is = absurd (omega (arith, is))

only_cancel : (P : PlainRequest → Type 0) → ((ticket : Ticket) → P (cancel ticket)) → (q : PlainRequest) → number_of q ≡ 306 → P q
only_cancel P p (cancel ticket) is = p ticket
only_cancel P p _ is = absurd (omega (arith, is))

only_outcome : (P : PlainRequest → Type 0) → ((ticket : Ticket) → P (outcome ticket)) → (q : PlainRequest) → number_of q ≡ 344 → P q
only_outcome P p (outcome ticket) is = p ticket
only_outcome P p _ is = absurd (omega (arith, is))

only_log : (P : PlainRequest → Type 0) → ((number : ℕ) → P (log number)) → (q : PlainRequest) → number_of q ≡ 322 → P q
only_log P p (log number) is = p number
only_log P p _ is = absurd (omega (arith, is))

module _ (p q : PlainRequest) (same : request_words p ≡ request_words q) where
  split : first_word p ∷ words_behind p ≡ first_word q ∷ words_behind q
  split = sym (in_two p) ∙ same ∙ in_two q

  one_word : number_of q ≡ number_of p
  one_word =
      sym (sum_is q) ∙ sym (ap sum_of (cons_head (first_word p) (first_word q) (words_behind p) (words_behind q) split)) ∙ sum_is p

  same_behind : words_behind p ≡ words_behind q
  same_behind = cons_tail (first_word p) (first_word q) (words_behind p) (words_behind q) split

-- the words of the request are no other one's
abbrev pub IsAlone : PlainRequest → Type 0
IsAlone p = (q : PlainRequest) → IsRequest q → request_words p ≡ request_words q → p ≡ q

pub asks_alone : (a : PlainAction) (lease : ℕ) → IsRequest (ask a lease) → IsAlone (ask a lease)
asks_alone a lease valid q others same =
    only_ask (λ r. IsRequest r → words_behind (ask a lease) ≡ words_behind r → ask a lease ≡ r) (λ b other w e.
    let actions = texts_apart a b valid.0 w.0 (cons_head (text_of a) (text_of b) (decimal lease ∷ []) (decimal other ∷ []) e) in
    let rest = cons_tail (text_of a) (text_of b) (decimal lease ∷ []) (decimal other ∷ []) e in
    let leases =
    decimal_injective lease other (let high = valid.1.high in omega (arith, high)) (let high = w.1.high in omega (arith, high))
    (cons_head (decimal lease) (decimal other) [] [] rest) in
    λ i. ask (actions i) (leases i))
    q (one_word (ask a lease) q same) others (same_behind (ask a lease) q same)

module _ (apart : TextsTellTicketsApart) where
  pub confirms_alone : (t : Ticket) → IsRequest (confirm t) → IsAlone (confirm t)
  confirms_alone t valid q others same =
      only_confirm (λ r. IsRequest r → words_behind (confirm t) ≡ words_behind r → confirm t ≡ r)
      (λ u w e. ap confirm (apart t u valid w (cons_head (ticket_text t) (ticket_text u) [] [] e)))
      q (one_word (confirm t) q same) others (same_behind (confirm t) q same)

  pub cancels_alone : (t : Ticket) → IsRequest (cancel t) → IsAlone (cancel t)
  cancels_alone t valid q others same =
      only_cancel (λ r. IsRequest r → words_behind (cancel t) ≡ words_behind r → cancel t ≡ r)
      (λ u w e. ap cancel (apart t u valid w (cons_head (ticket_text t) (ticket_text u) [] [] e)))
      q (one_word (cancel t) q same) others (same_behind (cancel t) q same)

  pub outcomes_alone : (t : Ticket) → IsRequest (outcome t) → IsAlone (outcome t)
  outcomes_alone t valid q others same =
      only_outcome (λ r. IsRequest r → words_behind (outcome t) ≡ words_behind r → outcome t ≡ r)
      (λ u w e. ap outcome (apart t u valid w (cons_head (ticket_text t) (ticket_text u) [] [] e)))
      q (one_word (outcome t) q same) others (same_behind (outcome t) q same)

pub logs_alone : (n : ℕ) → IsRequest (log n) → IsAlone (log n)
logs_alone n valid q others same =
    only_log (λ r. IsRequest r → words_behind (log n) ≡ words_behind r → log n ≡ r)
    (λ m w e. ap log (decimal_injective n m valid w (cons_head (decimal n) (decimal m) [] [] e)))
    q (one_word (log n) q same) others (same_behind (log n) q same)
