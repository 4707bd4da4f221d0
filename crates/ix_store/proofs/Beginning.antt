-- What the steps that make a journal anew may leave.
use Rattle.std.proofs.Common.{◌≡◌, ℕ, ◌+◌, ◌<◌, ◌≤◌, Bool, true, false, List, [], ◌∷◌, ◌++◌, length}
use Rattle.std.proofs.Common.{get_or, take, drop, Option, Some, Result, Ok, Err}
use Rattle.std.proofs.Common.{refl, sym, ◌∙◌, ap, subst, arith, inl, inr}
use Rattle.std.proofs.lemmas.List.{append-nil, drop_all, drop_more, length-append, length-take}
use Rattle.std.proofs.lemmas.List.{length-drop}
use Rattle.std.proofs.lemmas.Bool.Decides.{Decides-eqb}
use Rattle.std.proofs.lemmas.Slice.Eq.{starts_is}
use Rattle.std.specs.Prelude.{slice_get, nat_eq, unwrap_or}
use Rattle.std.specs.List.{starts_with}
use Rattle.ix_outside.specs.Crashes.{LeavesBy, LeavesTheFile}
use Rattle.ix_outside.specs.Disk.{Disk, Torn, MaybeCut, Overwrites}
use Rattle.ix_journal.specs.Format.{IsVersion, header}
use Rattle.ix_journal.specs.Kinds.{IsUnfinished}
use Rattle.ix_journal.proofs.WritingLaws.{begun}
use Rattle.ix_store.specs.Opening.{IsNew}
use Rattle.ix_store.specs.inside.Reading.{IsHeadOf}
use Rattle.ix_store.specs.inside.Steps.{IsBegun}
use Rattle.ix_store.proofs.Calls.{torn_now}
use Rattle.ix_store.proofs.Told.{just}

-- a header and one closed gate behind any head gate
begun_behind : (head version : ℕ) (text : List ℕ) (gate : ℕ) → IsVersion version → length text < 65536
    → (gate ≡ 165 → ⊥) → IsBegun text (head ∷ (header version text ++ gate ∷ []))
begun_behind head version text gate known short closed =
    elim (begun head version text gate known short closed) [
      | inl unfinished ↦ inl (inl unfinished)
      | inr more ↦ elim more [
        | inl unopened ↦ inl (inr unopened)
        | inr journal ↦ inr (record { entries = []; journal = journal; pairs = refl; marked = refl })
      ]
    ]

-- the bytes behind another first byte
first_torn : (file image : List ℕ) → 0 < length file → Torn 0 1 file image
    → image ≡ get_or image 0 0 ∷ drop 1 file
first_torn file image some torn =
    drop_more image 0 0 (let long = torn.no_shorter in omega arith)
    ∙ ap (λ (l : List ℕ). get_or image 0 0 ∷ l) torn.behind

-- with 00 in the place of the first byte
begins_closed : (image : List ℕ) → take 1 image ≡ 0 ∷ [] → IsUnfinished image
begins_closed [] is = inl (omega arith)
begins_closed (x ∷ image) is = inr (ap (λ (l : List ℕ). slice_get l 0) is)

module _ (text : List ℕ) (short : length text < 65536) where
  -- a new journal whose first byte isn't 00, while 00 is written there
  pub closing : (file image : List ℕ) → IsNew file text → (slice_get file 0 ≡ Some 0 → ⊥)
      → Torn 0 1 file image
      → IsBegun text image
  closing file image (inl (inl few)) other torn =
      inl (inl (inl (let long = torn.no_longer in omega arith)))
  closing file image (inl (inr first)) other torn = absurd (other first)
  closing file image (inr unopened) other torn =
      let is = unopened.header.spells in
      let whole : image ≡ get_or image 0 0 ∷ (header unopened.header.version text ++ unopened.gate ∷ []) =
      first_torn file image (omega (arith, ap length is)) torn
      ∙ ap (λ (l : List ℕ). get_or image 0 0 ∷ drop 1 l) is in
      subst (IsBegun text) (sym whole)
      (begun_behind (get_or image 0 0) unopened.header.version text unopened.gate unopened.header.known short
      unopened.closed)

module _ (version : ℕ) (known : IsVersion version) (text : List ℕ) (short : length text < 65536) where
  -- the header is written behind 00
  pub heading : (count : ℕ) (image : List ℕ) → Torn 1 count (0 ∷ []) image → IsBegun text image
  heading count image torn = inl (inl (begins_closed image torn.before))

  -- the file with the header behind 00
  pub headed : (bytes before file : List ℕ) → before ≡ 0 ∷ [] → bytes ≡ header version text ++ 0 ∷ []
      → Overwrites 1 bytes before file → file ≡ 0 ∷ (header version text ++ 0 ∷ [])
  headed bytes before file cleared spelled writes =
      writes ∙ ap (λ (f : List ℕ). take 1 f ++ bytes ++ drop (1 + length bytes) f) cleared
      ∙ ap (λ (l : List ℕ). (0 ∷ bytes) ++ l) (drop_all (1 + length bytes) (0 ∷ []) (omega arith))
      ∙ append-nil (0 ∷ bytes) ∙ ap (λ (l : List ℕ). 0 ∷ l) spelled

  -- any byte is in the place of the head gate
  pub opening : (image : List ℕ) → Torn 0 1 (0 ∷ (header version text ++ 0 ∷ [])) image → IsBegun text image
  opening image torn =
      let whole = first_torn (0 ∷ (header version text ++ 0 ∷ [])) image (omega arith) torn in
      subst (IsBegun text) (sym whole) (begun_behind (get_or image 0 0) version text 0 known short (omega arith))

-- the front tells whether the file begins with 00
module _ (bytes file : List ℕ) (r : Bool) (starts : r ≡ starts_with nat_eq bytes (0 ∷ []))
    (head : IsHeadOf bytes file) where
  -- it does
  pub closed_there : r ≡ true → file ≡ 0 ∷ drop 1 file
  closed_there passed =
      let begins : bytes ≡ 0 ∷ drop 1 bytes =
      (starts_is Decides-eqb bytes (0 ∷ []) r starts).0 passed in
      let whole : file ≡ 0 ∷ (drop 1 bytes ++ head.rest) =
      head.whole ∙ ap (λ (b : List ℕ). b ++ head.rest) begins in
      whole ∙ ap (λ (b : List ℕ). 0 ∷ b) (ap (drop 1) (sym whole))

  -- it doesn't
  pub other_there : r ≡ false → slice_get file 0 ≡ Some 0 → ⊥
  other_there failed first =
      let passed : r ≡ true =
      (starts_is Decides-eqb bytes (0 ∷ []) r starts).1 (drop 1 bytes)
      (begins bytes head.rest head.all
      (ap (λ (f : List ℕ). slice_get f 0) (sym head.whole) ∙ first)) in
      absurd cc
    where
      begins : (b rest : List ℕ) → (length b ≤ 1 → rest ≡ []) → slice_get (b ++ rest) 0 ≡ Some 0
          → b ≡ 0 ∷ drop 1 b
      begins [] rest all e =
          absurd (let none : slice_get [] 0 ≡ Some 0 =
          ap (λ (l : List ℕ). slice_get l 0) (sym (all (omega arith))) ∙ e in cc)
      begins (x ∷ b) rest all e =
          ap (λ (n : ℕ). n ∷ b) (ap (λ (o : Option ℕ). unwrap_or o 0) e)

-- a file of whose front no more than a byte was told has no more
pub longer_read : (bytes file : List ℕ) → IsHeadOf bytes file → length bytes ≤ 1
    → length file ≤ 1
longer_read bytes file head few =
    omega (arith, ap length head.whole, length-append bytes head.rest, ap length (head.all few))

-- nor has it once its first byte is closed
pub longer_closed : (bytes before file : List ℕ) → IsHeadOf bytes before
    → file ≡ 0 ∷ drop 1 before
    → length bytes ≤ 1 → length file ≤ 1
longer_closed bytes before file head closed few =
    let short = longer_read bytes before head few in
    omega (arith, ap length closed, length-drop 1 before)

module _ (text : List ℕ) (short : length text < 65536) (disk : Option Disk) (told : Disk)
    (is : disk ≡ Some told)
    (was : List ℕ → Type 0) (settled : LeavesTheFile disk was) (new : IsNew told.file text) where
  -- a new journal, and nothing pending
  pub new_now : (image : List ℕ) → was image → IsBegun text image
  new_now image now = subst (IsBegun text) (sym (just disk told was is settled image now)) (inl new)

  -- and then while 00 is written at its first byte
  pub close_now : {T E : Type 0} (result : Result T E) (now : List ℕ → Type 0)
      → (slice_get told.file 0 ≡ Some 0 → ⊥) → LeavesBy (Torn 0 1) result was now
      → (image : List ℕ) → now image → IsBegun text image
  close_now result now other leaves image here =
      elim (torn_now 0 1 result was now leaves image here) [
        | inl before ↦ new_now image before
        | inr torn ↦ closing text short told.file image new other
            (subst (λ (f : List ℕ). Torn 0 1 f image)
            (just disk told was is settled torn.0 torn.1) torn.2)
      ]

-- where a new or begun journal might have been left, and then it is cut behind its head gate
cut_begun : (text before image : List ℕ) → IsBegun text before → MaybeCut 1 before image
    → IsBegun text image
cut_begun text before image begun (inl same) = subst (IsBegun text) (sym same) begun
cut_begun text before image begun (inr short) =
    let counted = ap length short in
    let taken = length-take 1 before in inl (inl (inl (omega arith)))

pub cut_now : {T E : Type 0} (text : List ℕ) (result : Result T E) (was is : List ℕ → Type 0)
    → LeavesBy (MaybeCut 1) result was is → ((image : List ℕ) → was image → IsBegun text image)
    → (image : List ℕ) → is image → IsBegun text image
cut_now text (Ok done) was is leaves begun image now =
    let left = (leaves image).0 now in cut_begun text left.0 image (begun left.0 left.1) left.2
cut_now text (Err fault) was is leaves begun image now =
    let left = leaves.0 image now in cut_begun text left.0 image (begun left.0 left.1) left.2
