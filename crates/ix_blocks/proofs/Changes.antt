-- Changes of the register: each is made from the revision that the one before it made.
use Rattle.std.proofs.Common.{◌≡◌, ◌≢◌, ◌⊎◌, inl, inr, ℕ, ◌<◌, ◌≤◌, ◌==◌, Bool, true, false, if◌then◌else◌, List, [], ◌∷◌, Some, refl, sym, ap, ◌∙◌, subst, true≢false, arith, eq-eqb}
use Rattle.std.specs.Bool.{⊤}
use Rattle.std.proofs.lemmas.Bool.{eqb-true}
use Rattle.ix_words.specs.Each.{Each, no_item, item, Member, here, there}
use Rattle.ix_words.proofs.Canon.{Member-cases, Member-same}
use Rattle.ix_words.proofs.Each.{Each-weaker}
use Rattle.ix_blocks.specs.Owners.{Sent, number, Change}
use Rattle.ix_blocks.specs.Laws.{last_owner, numbers_of, transactions_of, Descends}

abbrev pub guard : Sent → ℕ
guard sent = sent.transaction.guard

-- the changes lead to this revision, the newest first: each made its revision from its guard
abbrev pub Leads : ℕ → List Change → Type 0
Leads r [] = r ≡ 0
Leads r (c ∷ cs) = (c.revision ≡ r) × (guard c.sent < r) × Leads (guard c.sent) cs

pub no_later : (r : ℕ) (cs : List Change) (c : Change) → Leads r cs → Member c cs → (c.revision ≤ r) × (guard c.sent < c.revision)
no_later r [] c l m = elim m [ ]
no_later r (x ∷ cs) c l m = elim (Member-cases m) [
  | inl e ↦
      let P : Change → Type 0 = λ d. (d.revision ≤ r) × (guard d.sent < d.revision) in
      subst P (sym e) (omega (arith, l.0), omega (arith, l.0, l.1))
  | inr k ↦ let h = no_later (guard x.sent) cs c l.2 k in (omega (arith, h.0, l.1), h.1)
]

-- a revision is that of one change
pub made_once : (r : ℕ) (cs : List Change) (c d : Change) → Leads r cs → Member c cs → Member d cs → c.revision ≡ d.revision → c ≡ d
made_once r [] c d l m k e = elim m [ ]
made_once r (x ∷ cs) c d l m k e = elim (Member-cases m) [
  | inl p ↦ elim (Member-cases k) [
    | inl q ↦ p ∙ sym q
    | inr q ↦ absurd (not_first d q (sym e ∙ ap (λ (z : Change). z.revision) p ∙ l.0))
  ]
  | inr p ↦ elim (Member-cases k) [
    | inl q ↦ absurd (not_first c p (e ∙ ap (λ (z : Change). z.revision) q ∙ l.0))
    | inr q ↦ made_once (guard x.sent) cs c d l.2 p q e
  ]
]
  where
    not_first : (z : Change) → Member z cs → z.revision ≡ r → ⊥
    not_first z n f = let h = no_later (guard x.sent) cs z l.2 n in omega (arith, h.0, l.1, f)

-- what made the revision to which the changes lead is the newest of them
pub made_last : (r : ℕ) (cs : List Change) (c : Change) → Leads r cs → Member c cs → c.revision ≡ r → (rest : List Change) × (cs ≡ c ∷ rest)
made_last r [] c l m e = elim m [ ]
made_last r (x ∷ cs) c l m e = elim (Member-cases m) [
  | inl p ↦ (cs, ap (λ (z : Change). z ∷ cs) (sym p))
  | inr k ↦ absurd (let h = no_later (guard x.sent) cs c l.2 k in omega (arith, h.0, l.1, e))
]

-- each change that is no attach is of the owner that attached last before it
abbrev pub ByLast : List Change → Type 0
ByLast [] = ⊤
ByLast (c ∷ cs) = ((number c.sent ≡ 0) ⊎ (last_owner cs ≡ Some c.sent.owner)) × ByLast cs

-- so the newest change is of the owner that attached last
pub newest_owner : (c : Change) (cs : List Change) → ByLast (c ∷ cs) → last_owner (c ∷ cs) ≡ Some c.sent.owner
newest_owner c cs h = chosen (number c.sent == 0) refl
  where
    chosen : (b : Bool) → (number c.sent == 0) ≡ b → (if b then Some c.sent.owner else last_owner cs) ≡ Some c.sent.owner
    chosen true e = refl
    chosen false e = elim h.0 [ inl z ↦ absurd (true≢false (sym (eq-eqb _ _ z) ∙ e)) | inr l ↦ l ]

-- who sent none of these has no numbers
pub no_numbers : (who : ℕ) (xs : List Sent) → ((x : Sent) → Member x xs → x.owner ≢ who) → numbers_of who xs ≡ []
no_numbers who [] h = refl
no_numbers who (x ∷ xs) h = chosen (no_numbers who xs (λ y m. h y (there m))) (x.owner == who) refl
  where
    chosen : numbers_of who xs ≡ [] → (b : Bool) → (x.owner == who) ≡ b → (if b then number x ∷ numbers_of who xs else numbers_of who xs) ≡ []
    chosen later true e = absurd (h x here (eqb-true _ _ e))
    chosen later false e = later

-- the numbers of whoever sent these are below one that is above all of them
pub all_below : (who n : ℕ) (xs : List Sent) → ((x : Sent) → Member x xs → x.owner ≡ who → number x < n) → Each (λ m. m < n) (numbers_of who xs)
all_below who n [] h = no_item
all_below who n (x ∷ xs) h = chosen (all_below who n xs (λ y m. h y (there m))) (x.owner == who) refl
  where
    chosen : Each (λ m. m < n) (numbers_of who xs) → (b : Bool) → (x.owner == who) ≡ b → Each (λ m. m < n) (if b then number x ∷ numbers_of who xs else numbers_of who xs)
    chosen later true e = item (h x here (eqb-true _ _ e)) later
    chosen later false e = later

-- and back
pub one_below : (who n : ℕ) (xs : List Sent) (x : Sent) → Each (λ m. m < n) (numbers_of who xs) → Member x xs → x.owner ≡ who → number x < n
one_below who n [] x h m o = elim m [ ]
one_below who n (y ∷ xs) x h m o = elim (Member-cases m) [
  | inl e ↦ is_first (y.owner == who) refl h e
  | inr k ↦ one_below who n xs x (later (y.owner == who) h) k o
]
  where
    is_first : (b : Bool) → (y.owner == who) ≡ b → Each (λ m. m < n) (if b then number y ∷ numbers_of who xs else numbers_of who xs) → x ≡ y → number x < n
    is_first true e (item g k) f = subst (λ (z : Sent). number z < n) (sym f) g
    is_first false e k f = absurd (true≢false (sym (eq-eqb _ _ (sym (ap (λ (z : Sent). z.owner) f) ∙ o)) ∙ e))

    later : (b : Bool) → Each (λ m. m < n) (if b then number y ∷ numbers_of who xs else numbers_of who xs) → Each (λ m. m < n) (numbers_of who xs)
    later true (item g k) = k
    later false k = k

-- the numbers of whoever sent the first of these, in descending order, are below one that is above its number
pub first_highest : (who : ℕ) (x : Sent) (xs : List Sent) (n : ℕ) → x.owner ≡ who → number x < n → Descends (numbers_of who (x ∷ xs)) → Each (λ m. m < n) (numbers_of who (x ∷ xs))
first_highest who x xs n o l = chosen (x.owner == who) refl
  where
    chosen : (b : Bool) → (x.owner == who) ≡ b → Descends (if b then number x ∷ numbers_of who xs else numbers_of who xs) → Each (λ m. m < n) (if b then number x ∷ numbers_of who xs else numbers_of who xs)
    chosen true e d = item l (Each-weaker (λ m k. omega (arith, k, l)) d.0)
    chosen false e d = absurd (true≢false (sym (eq-eqb _ _ o) ∙ e))

-- and those behind the first are below its number
pub rest_below : (who : ℕ) (x : Sent) (xs : List Sent) → x.owner ≡ who → Descends (numbers_of who (x ∷ xs)) → Each (λ m. m < number x) (numbers_of who xs)
rest_below who x xs o = chosen (x.owner == who) refl
  where
    chosen : (b : Bool) → (x.owner == who) ≡ b → Descends (if b then number x ∷ numbers_of who xs else numbers_of who xs) → Each (λ m. m < number x) (numbers_of who xs)
    chosen true e d = d.0
    chosen false e d = absurd (true≢false (sym (eq-eqb _ _ o) ∙ e))

-- one more, whose number is above those of its owner
pub descends_more : (who : ℕ) (x : Sent) (xs : List Sent) → Descends (numbers_of who xs) → (x.owner ≡ who → Each (λ m. m < number x) (numbers_of who xs)) → Descends (numbers_of who (x ∷ xs))
descends_more who x xs d h = chosen (x.owner == who) refl
  where
    chosen : (b : Bool) → (x.owner == who) ≡ b → Descends (if b then number x ∷ numbers_of who xs else numbers_of who xs)
    chosen true e = (h (eqb-true _ _ e), d)
    chosen false e = d

-- what changed something is among what was written
pub among_written : (cs : List Change) (c : Change) → Member c cs → Member c.sent (transactions_of cs)
among_written [] c m = elim m [ ]
among_written (x ∷ cs) c m = elim (Member-cases m) [ inl e ↦ Member-same (transactions_of cs) (ap (λ (z : Change). z.sent) e) | inr k ↦ there (among_written cs c k) ]

-- and back
pub written_by : (cs : List Change) (x : Sent) → Member x (transactions_of cs) → (c : Change) × Member c cs × (c.sent ≡ x)
written_by [] x m = elim m [ ]
written_by (c ∷ cs) x m = elim (Member-cases m) [ inl e ↦ (c, here, sym e) | inr k ↦ (let h = written_by cs x k in (h.0, there h.1, h.2)) ]
