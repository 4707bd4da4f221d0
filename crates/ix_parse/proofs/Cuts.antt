-- Cuts of the grammar: levels, cuts inside cuts, and operands put in their places.
use Rattle.std.proofs.Common.{◌≡◌, ℕ, suc, zero, ◌+◌, ◌-◌, ◌≤◌, List, [], ◌∷◌, ◌++◌, sym, ap, ◌∙◌, subst, arith, append_assoc}
use Rattle.std.proofs.lemmas.List.{append-nil}
use Rattle.ix_parse.specs.Symbols.{Symbol, word, param, opening, closing, before, between, level, Meaning, joined_meaning, prefixed, quantified, counted}
use Rattle.ix_parse.specs.Grammar.{Stands, CutAtOperand, CanGoOn}

-- what binds tightly may stand where something looser may
loosen-by : (j n : ℕ) (ts : List Symbol) (x : Meaning) → n + j ≤ 6 → Stands (n + j) ts x → Stands n ts x
loosen-by zero n ts x low stands = subst (λ m. Stands m ts x) (omega arith) stands
loosen-by (suc j) n ts x low stands =
    let same : n + suc j ≡ suc n + j = omega arith in
    Stands.tighter n ts x (omega arith) (loosen-by j (suc n) ts x (omega arith) (subst (λ m. Stands m ts x) same stands))

pub Stands-loosen : (m n : ℕ) (ts : List Symbol) (x : Meaning) → n ≤ m → m ≤ 6 → Stands m ts x → Stands n ts x
Stands-loosen m n ts x below low stands =
    let same : m ≡ n + (m - n) = omega arith in
    loosen-by (m - n) n ts x (omega arith) (subst (λ k. Stands k ts x) same stands)

cut-loosen-by : (j n m d : ℕ) (ts : List Symbol) → n + j ≤ 6 → CutAtOperand (n + j) m d ts → CutAtOperand n m d ts
cut-loosen-by zero n m d ts low cut = subst (λ k. CutAtOperand k m d ts) (omega arith) cut
cut-loosen-by (suc j) n m d ts low cut =
    let same : n + suc j ≡ suc n + j = omega arith in
    CutAtOperand.tighter n m d ts (omega arith) (cut-loosen-by j (suc n) m d ts (omega arith) (subst (λ k. CutAtOperand k m d ts) same cut))

pub Cut-loosen : (k n m d : ℕ) (ts : List Symbol) → n ≤ k → k ≤ 6 → CutAtOperand k m d ts → CutAtOperand n m d ts
Cut-loosen k n m d ts below low cut =
    let same : k ≡ n + (k - n) = omega arith in
    cut-loosen-by (k - n) n m d ts (omega arith) (subst (λ i. CutAtOperand i m d ts) same cut)

-- a cut inside a cut
pub Cut-then : (n m k d e : ℕ) (ts us : List Symbol) → CutAtOperand n m d ts → CutAtOperand m k e us → CutAtOperand n k (d + e) (ts ++ us)
Cut-then _ _ k _ e _ us (CutAtOperand.here n) inner = let same : e ≡ 0 + e = omega arith in subst (λ i. CutAtOperand n k i us) same inner
Cut-then _ _ k _ e _ us (CutAtOperand.tighter n m d ts low cut) inner = CutAtOperand.tighter n k (d + e) (ts ++ us) low (Cut-then (suc n) m k d e ts us cut inner)
Cut-then _ _ k _ e _ us (CutAtOperand.binary at o m d ts vs x stands cut) inner =
    subst (CutAtOperand (level o) k (d + e)) (sym (append_assoc ts (between at o ∷ vs) us)) (CutAtOperand.binary at o k (d + e) ts (vs ++ us) x stands (Cut-then (suc (level o)) m k d e vs us cut inner))
Cut-then _ _ k _ e _ us (CutAtOperand.prefixes at p m d ts cut) inner =
    let same : suc (d + e) ≡ suc d + e = omega arith in
    subst (λ i. CutAtOperand 6 k i (before at p ∷ ts ++ us)) same (CutAtOperand.prefixes at p k (d + e) (ts ++ us) (Cut-then 6 m k d e ts us cut inner))
Cut-then _ _ k _ e _ us (CutAtOperand.quantifies at w q p m d ts is cut) inner =
    let same : suc (d + e) ≡ suc d + e = omega arith in
    subst (λ i. CutAtOperand 6 k i (word at w ∷ param p ∷ ts ++ us)) same (CutAtOperand.quantifies at w q p k (d + e) (ts ++ us) is (Cut-then 6 m k d e ts us cut inner))
Cut-then _ _ k _ e _ us (CutAtOperand.counts at at' w v n m d ts is number cut) inner =
    let same : suc (d + e) ≡ suc d + e = omega arith in
    subst (λ i. CutAtOperand 6 k i (word at w ∷ word at' v ∷ ts ++ us)) same (CutAtOperand.counts at at' w v n k (d + e) (ts ++ us) is number (Cut-then 6 m k d e ts us cut inner))
Cut-then _ _ k _ e _ us (CutAtOperand.group m d ts cut) inner =
    let same : suc (d + e) ≡ suc d + e = omega arith in
    subst (λ i. CutAtOperand 6 k i (opening ∷ ts ++ us)) same (CutAtOperand.group k (d + e) (ts ++ us) (Cut-then 1 m k d e ts us cut inner))

-- some symbols after these make them stand for something at level n
pub record Goes (n : ℕ) (ts : List Symbol) : Type 0 where
  pub rest : List Symbol
  pub meaning : Meaning
  pub stands : Stands n (ts ++ rest) meaning

-- an operand in the place of a cut
pub fill : (n m d : ℕ) (ts us : List Symbol) (x : Meaning) → CutAtOperand n m d ts → Stands m us x → Goes n (ts ++ us)
fill _ _ _ _ us x (CutAtOperand.here n) stands = record { rest = []; meaning = x; stands = subst (λ l. Stands n l x) (sym (append-nil us)) stands }
fill _ _ _ _ us x (CutAtOperand.tighter n m d ts low cut) stands =
    let g = fill (suc n) m d ts us x cut stands in
    record { rest = g.rest; meaning = g.meaning; stands = Stands.tighter n ((ts ++ us) ++ g.rest) g.meaning low g.stands }
fill _ _ _ _ us x (CutAtOperand.binary at o m d ts vs y first cut) stands =
    let g = fill (suc (level o)) m d vs us x cut stands in
    let same : ts ++ between at o ∷ ((vs ++ us) ++ g.rest) ≡ ((ts ++ between at o ∷ vs) ++ us) ++ g.rest = sym (append_assoc ts (between at o ∷ (vs ++ us)) g.rest) ∙ ap (λ l. l ++ g.rest) (sym (append_assoc ts (between at o ∷ vs) us)) in
    record { rest = g.rest; meaning = joined_meaning o at y g.meaning; stands = subst (λ l. Stands (level o) l (joined_meaning o at y g.meaning)) same (Stands.binary at o ts ((vs ++ us) ++ g.rest) y g.meaning first g.stands) }
fill _ _ _ _ us x (CutAtOperand.prefixes at p m d ts cut) stands =
    let g = fill 6 m d ts us x cut stands in
    record { rest = g.rest; meaning = prefixed p at g.meaning; stands = Stands.prefixes at p ((ts ++ us) ++ g.rest) g.meaning g.stands }
fill _ _ _ _ us x (CutAtOperand.quantifies at w q p m d ts is cut) stands =
    let g = fill 6 m d ts us x cut stands in
    record { rest = g.rest; meaning = quantified q at p g.meaning; stands = Stands.quantifies at w q p ((ts ++ us) ++ g.rest) g.meaning is g.stands }
fill _ _ _ _ us x (CutAtOperand.counts at at' w v n m d ts is number cut) stands =
    let g = fill 6 m d ts us x cut stands in
    record { rest = g.rest; meaning = counted n at g.meaning; stands = Stands.counts at at' w v n ((ts ++ us) ++ g.rest) g.meaning is number g.stands }
fill _ _ _ _ us x (CutAtOperand.group m d ts cut) stands =
    let g = fill 1 m d ts us x cut stands in
    record { rest = g.rest ++ closing ∷ []; meaning = g.meaning; stands = subst (λ l. Stands 6 (opening ∷ l) g.meaning) (append_assoc (ts ++ us) g.rest (closing ∷ [])) (Stands.group ((ts ++ us) ++ g.rest) g.meaning g.stands) }

-- what begins something that can go on can go on
pub CanGoOn-front : (ts us : List Symbol) → CanGoOn (ts ++ us) → CanGoOn ts
CanGoOn-front ts us can = record { rest = us ++ can.rest; meaning = can.meaning; stands = subst (λ l. Stands 1 l can.meaning) (append_assoc ts us can.rest) can.stands }
