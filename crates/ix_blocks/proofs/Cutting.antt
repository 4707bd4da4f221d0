-- Blocks of a file, and what a sync makes of them.
use Rattle.std.proofs.Common.{◌≡◌, ◌⊎◌, inl, inr, ℕ, zero, suc, ◌+◌, ◌-◌, ◌*◌, ◌/◌, ◌<◌, ◌≤◌, ◌==◌, min, max, nat_lt, Bool, true, false, ◌||◌, if◌then◌else◌, List, [], ◌∷◌, ◌++◌, length, take, drop, map, filter, refl, sym, ap, ap₂, ◌∙◌, subst, true≢false, arith, eq-eqb, drop-drop, take-take, take_all, append_assoc, length-take, length-append, length-drop}
use Rattle.std.proofs.lemmas.Bool.{eqb-true, ltb-true, ltb-false, lt-ltb}
use Rattle.std.proofs.lemmas.Map.Views.{any-filter_same}
use Rattle.std.proofs.Math.Seq.{take-add}
use Rattle.std.proofs.lemmas.List.{drop-take, take-append-le, length-take-le, take_min}
use Rattle.std.proofs.lemmas.Slice.{drop-append-drop}
use Rattle.std.specs.Int.{div_ceil}
use Rattle.ix_blocks.specs.Register.{Register, changed, apply, image, put_block, put_blocks, first_blocks}
use Rattle.ix_blocks.specs.declared.claim.Claim.{Claim}
use Rattle.ix_blocks.specs.Owners.{sync_of}
use Rattle.ix_blocks.specs.FileBlocks.{block_of, block_count, is_among, DiffersIn, changed_blocks, brings, HoldsFile}

-- a block begins before the file's end exactly if it is one of the first so many

pub counted : (n x : ℕ) → n * 4096 < x → n < div_ceil x 4096
counted n x h = omega (arith, h)

pub begins : (n x : ℕ) → n < div_ceil x 4096 → n * 4096 < x
begins n x h = omega (arith, h)

-- a block's bytes are those up to its end or the file's
pub block_cut : (file : List ℕ) (n count : ℕ) → count ≡ min (length file - n * 4096) 4096 → take (n * 4096 + count - n * 4096) (drop (n * 4096) file) ≡ block_of file n
block_cut file n count e =
    let k = length-drop (n * 4096) file in
    ap (λ m. take m (drop (n * 4096) file)) (omega (arith, e, k)) ∙ take_min 4096 (drop (n * 4096) file)

-- a block is told by what stands before its end, and by what stands from its beginning on

pub same_before : (at n : ℕ) (file other : List ℕ) → n * 4096 + 4096 ≤ at → take at file ≡ take at other → block_of file n ≡ block_of other n
same_before at n file other h e =
    sym (drop-take (n * 4096) 4096 file)
    ∙ ap (drop (n * 4096)) (sym (shorter file) ∙ ap (take (n * 4096 + 4096)) e ∙ shorter other)
    ∙ drop-take (n * 4096) 4096 other
  where
    shorter : (xs : List ℕ) → take (n * 4096 + 4096) (take at xs) ≡ take (n * 4096 + 4096) xs
    shorter xs = take-take (n * 4096 + 4096) at xs h

same_behind : (end n : ℕ) (file other : List ℕ) → end ≤ n * 4096 → drop end file ≡ drop end other → block_of file n ≡ block_of other n
same_behind end n file other h e = ap (take 4096) (sym (later file) ∙ ap (drop (n * 4096 - end)) e ∙ later other)
  where
    later : (xs : List ℕ) → drop (n * 4096 - end) (drop end xs) ≡ drop (n * 4096) xs
    later xs = drop-drop (n * 4096 - end) end xs ∙ ap (λ m. drop m xs) (omega (arith, h))

side : (m n : ℕ) → (m < n) ⊎ (n ≤ m)
side m n = chosen (nat_lt m n) refl
  where
    chosen : (b : Bool) → nat_lt m n ≡ b → (m < n) ⊎ (n ≤ m)
    chosen true e = inl (ltb-true m n e)
    chosen false e = inr (ltb-false m n e)

-- a number that isn't among more isn't among fewer
fewer : (changes more : List ℕ) (n : ℕ) → (is_among changes n ≡ true → is_among more n ≡ true) → is_among more n ≡ false → is_among changes n ≡ false
fewer changes more n keeps out = chosen (is_among changes n) refl
  where
    chosen : (b : Bool) → is_among changes n ≡ b → b ≡ false
    chosen true e = absurd (true≢false (sym (keeps e) ∙ out))
    chosen false e = refl

-- where the bytes from one place to another may have changed
pub differs-more : (changes more synced old new : List ℕ) (at end : ℕ) → DiffersIn changes synced old → ((n : ℕ) → is_among changes n ≡ true → is_among more n ≡ true) → ((n : ℕ) → at / 4096 ≤ n → n < div_ceil end 4096 → is_among more n ≡ true) → at ≤ length old → take at new ≡ take at old → (end < length new → drop end new ≡ drop end old) → length new ≤ max (length old) end → DiffersIn more synced new
differs-more changes more synced old new at end d keeps has low before behind long n k out =
    elim (side n (at / 4096)) [
      | inl f ↦ same_before at n new old (omega (arith, f)) before ∙ d n (counted n (length old) (omega (arith, f, low))) (fewer changes more n (keeps n) out)
      | inr f ↦ elim (side n (div_ceil end 4096)) [
        | inl g ↦ absurd (true≢false (sym (has n f g) ∙ out))
        | inr g ↦
            let b : n * 4096 < length new = begins n (length new) k in
            let e : end ≤ n * 4096 = omega (arith, g) in
            same_behind end n new old e (behind (omega (arith, b, e))) ∙ d n (counted n (length old) (omega (arith, b, e, long))) (fewer changes more n (keeps n) out)
      ]
    ]

-- after a write
pub write-differs : (changes more synced old bytes : List ℕ) (at : ℕ) → DiffersIn changes synced old → ((n : ℕ) → is_among changes n ≡ true → is_among more n ≡ true) → ((n : ℕ) → at / 4096 ≤ n → n < div_ceil (at + length bytes) 4096 → is_among more n ≡ true) → at ≤ length old → DiffersIn more synced (take at old ++ (bytes ++ drop (at + length bytes) old))
write-differs changes more synced old bytes at d keeps has low = differs-more changes more synced old (take at old ++ (bytes ++ drop (at + length bytes) old)) at (at + length bytes) d keeps has low before (λ _. behind) long
  where
    as_long : length (take at old) ≡ at
    as_long = length-take-le at old low

    before : take at (take at old ++ (bytes ++ drop (at + length bytes) old)) ≡ take at old
    before = take-append-le at (take at old) (bytes ++ drop (at + length bytes) old) (omega (arith, as_long)) ∙ take-take at at old (omega arith)

    behind : drop (at + length bytes) (take at old ++ (bytes ++ drop (at + length bytes) old)) ≡ drop (at + length bytes) old
    behind =
        ap (drop (at + length bytes)) (sym (append_assoc (take at old) bytes (drop (at + length bytes) old)))
        ∙ drop-append-drop (at + length bytes) old (take at old ++ bytes) (at + length bytes) (omega arith) (let k = length-append (take at old) bytes in omega (arith, k, as_long))

    long : length (take at old ++ (bytes ++ drop (at + length bytes) old)) ≤ max (length old) (at + length bytes)
    long =
        let a = length-append (take at old) (bytes ++ drop (at + length bytes) old) in
        let b = length-append bytes (drop (at + length bytes) old) in
        let c = length-drop (at + length bytes) old in
        omega (arith, a, b, c, as_long)

-- after a cut
pub cut-differs : (changes more synced old : List ℕ) (count : ℕ) → DiffersIn changes synced old → ((n : ℕ) → is_among changes n ≡ true → is_among more n ≡ true) → ((n : ℕ) → count / 4096 ≤ n → n < div_ceil count 4096 → is_among more n ≡ true) → count ≤ length old → DiffersIn more synced (take count old)
cut-differs changes more synced old count d keeps has low =
    let k : length (take count old) ≡ count = length-take-le count old low in
    differs-more changes more synced old (take count old) count count d keeps has low
    (take-take count count old (omega arith))
    (λ g. absurd (omega (arith, g, k)))
    (omega (arith, k))

-- each block that is put is the file's, and the others stay
puts : (file : List ℕ) (numbers : List ℕ) (blocks : ℕ → List ℕ) (n : ℕ) → put_blocks blocks (map (λ m. (m, block_of file m)) numbers) n ≡ (if is_among numbers n then block_of file n else blocks n)
puts file [] blocks n = refl
puts file (m ∷ numbers) blocks n = puts file numbers (put_block blocks (m, block_of file m)) n ∙ chosen (is_among numbers n) (m == n) refl (n == m) refl
  where
    chosen : (b c : Bool) → (m == n) ≡ c → (d : Bool) → (n == m) ≡ d → (if b then block_of file n else (if d then block_of file m else blocks n)) ≡ (if (c || b) then block_of file n else blocks n)
    chosen true true e d f = refl
    chosen true false e d f = refl
    chosen false true e true f = ap (block_of file) (eqb-true m n e)
    chosen false true e false f = absurd (true≢false (sym (eq-eqb n m (sym (eqb-true m n e))) ∙ f))
    chosen false false e true f = absurd (true≢false (sym (eq-eqb m n (sym (eqb-true n m f))) ∙ e))
    chosen false false e false f = refl

among_kept : (changes : List ℕ) (n count : ℕ) → n < count → is_among (filter (λ m. nat_lt m count) changes) n ≡ is_among changes n
among_kept changes n count h = any-filter_same (λ m. m == n) (λ m. nat_lt m count) true (λ m e. lt-ltb m count (subst (λ x. x < count) (sym (eqb-true m n e)) h)) changes

-- what is one with a block of the file is a block too
has_block : (file other : List ℕ) (n : ℕ) → n < block_count file → block_of file n ≡ block_of other n → n < block_count other
has_block file other n h e =
    let a = length-drop (n * 4096) file in
    let b = length-drop (n * 4096) other in
    let c : length (block_of file n) ≡ min 4096 (length (drop (n * 4096) file)) = length-take 4096 (drop (n * 4096) file) in
    let d : length (block_of other n) ≡ min 4096 (length (drop (n * 4096) other)) = length-take 4096 (drop (n * 4096) other) in
    let f : length (block_of file n) ≡ length (block_of other n) = ap length e in
    counted n (length other) (omega (arith, begins n (length file) h, a, b, c, d, f))

module _ (claim : Claim) (changes synced file : List ℕ) (register : Register) (holds : HoldsFile synced register) (d : DiffersIn changes synced file) where
  abbrev made : Register
  made = changed (sync_of claim (brings changes file)) register

  block-made : (n : ℕ) → n < block_count file → made.blocks n ≡ block_of file n
  block-made n low = chosen (nat_lt n (block_count file)) refl
    where
      kept : n < block_count file → (b : Bool) → is_among changes n ≡ b → (if b then block_of file n else register.blocks n) ≡ block_of file n
      kept h true e = refl
      kept h false e = holds.blocks n (has_block file synced n h (d n h e)) ∙ sym (d n h e)

      put : n < block_count file → put_blocks register.blocks (changed_blocks changes file) n ≡ block_of file n
      put h =
          puts file (filter (λ m. nat_lt m (block_count file)) changes) register.blocks n
          ∙ ap (λ b. if b then block_of file n else register.blocks n) (among_kept changes n (block_count file) h)
          ∙ kept h (is_among changes n) refl

      chosen : (b : Bool) → nat_lt n (block_count file) ≡ b → (if b then put_blocks register.blocks (changed_blocks changes file) n else []) ≡ block_of file n
      chosen true e = put (ltb-true _ _ e)
      chosen false e = absurd (omega (arith, low, ltb-false n (block_count file) e))

  pub made-holds : HoldsFile file (changed (sync_of claim (brings changes file)) register)
  made-holds = record { length = refl; blocks = block-made }

pub syncs_make : (claim : Claim) (changes synced file : List ℕ) (register : Register) → HoldsFile synced register → DiffersIn changes synced file → claim.revision ≡ register.revision → HoldsFile file (apply (sync_of claim (brings changes file)) register)
syncs_make claim changes synced file register holds d e = chosen (claim.revision == register.revision) refl
  where
    chosen : (b : Bool) → (claim.revision == register.revision) ≡ b → HoldsFile file (if b then changed (sync_of claim (brings changes file)) register else register)
    chosen true f = made-holds claim changes synced file register holds d
    chosen false f = absurd (true≢false (sym (eq-eqb _ _ e) ∙ f))

-- the image of what is held

fronts : (file : List ℕ) (blocks : ℕ → List ℕ) → ((n : ℕ) → n < block_count file → blocks n ≡ block_of file n) → (count : ℕ) → count ≤ block_count file → first_blocks count blocks ≡ take (count * 4096) file
fronts file blocks h zero low = refl
fronts file blocks h (suc count) low =
    ap₂ (λ xs ys. xs ++ ys) (fronts file blocks h count (omega (arith, low))) (h count (omega (arith, low)))
    ∙ sym (take-add (count * 4096) 4096 file)
    ∙ ap (λ m. take m file) (omega arith)

pub held_image : (file : List ℕ) (register : Register) → HoldsFile file register → image register ≡ file
held_image file register h =
    ap (λ n. take n (first_blocks (div_ceil n 4096) register.blocks)) h.length
    ∙ ap (take (length file)) (fronts file register.blocks h.blocks (block_count file) (omega arith))
    ∙ take-take (length file) (block_count file * 4096) file (omega arith)
    ∙ take_all (length file) file (omega arith)

pub syncs_whole : (claim : Claim) (changes synced file : List ℕ) (register : Register) → HoldsFile synced register → DiffersIn changes synced file → (image (apply (sync_of claim (brings changes file)) register) ≡ synced) ⊎ (image (apply (sync_of claim (brings changes file)) register) ≡ file)
syncs_whole claim changes synced file register holds d = chosen (claim.revision == register.revision)
  where
    chosen : (b : Bool) → (image (if b then changed (sync_of claim (brings changes file)) register else register) ≡ synced) ⊎ (image (if b then changed (sync_of claim (brings changes file)) register else register) ≡ file)
    chosen true = inr (held_image file _ (made-holds claim changes synced file register holds d))
    chosen false = inl (held_image synced register holds)
