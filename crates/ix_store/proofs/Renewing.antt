-- What is left while a renewed journal is made, once its header is there.
use Rattle.std.proofs.Common.{◌≡◌, ◌⊎◌, ℕ, ◌+◌, ◌-◌, ◌<◌, List, [], ◌∷◌, ◌++◌, length, take, drop, get_or, Option, None, Some}
use Rattle.std.proofs.Common.{refl, sym, ◌∙◌, ap, subst, arith, inl, inr}
use Rattle.std.proofs.lemmas.Bool.{cases_eq}
use Rattle.std.proofs.lemmas.List.{append_assoc, append-nil, drop_all, drop_at, drop_more, length-append, length-drop, take-append-drop, take_all, take_at}
use Rattle.ix_outside.specs.Crashes.{Crashes, AreLawful, LeavesTheFile}
use Rattle.ix_outside.specs.Disk.{Disk, MakesFile, OfFile, Overwrites, Stays, Torn}
use Rattle.ix_outside.specs.SiteState.{SiteState}
use Rattle.ix_outside.specs.inside.DiskCalls.{DiskCalls, LeavesOnly, span}
use Rattle.ix_values.specs.PlainAction.{Word}
use Rattle.ix_journal.specs.Format.{header, open_records, renewed_journal, renewed_records}
use Rattle.ix_journal.proofs.WritingLaws.{opened}
use Rattle.ix_outside.proofs.Passing.{DiskCalls-join}
use Rattle.ix_store.specs.inside.Reading.{IsHeadOf}
use Rattle.ix_store.specs.inside.Renewing.{IsRenewing}
use Rattle.ix_store.specs.inside.Steps.{IsBegun, MaybeTorn}
use Rattle.ix_store.proofs.Calls.{now_has, calls_more, torn_has}
use Rattle.ix_store.proofs.Told.{made, just}

module _ (text : List ℕ) (short : length text < 65536) where
  abbrev head : List ℕ
  head = 165 ∷ header 51 text

  abbrev gate : ℕ
  gate = 7 + length text

  -- the file without records
  abbrev empty : List ℕ
  empty = head ++ 0 ∷ []

  long : length empty ≡ gate + 1
  long = omega (arith, length-append head (0 ∷ []))

  -- whatever stands behind a gate that isn't open
  closed_there : (byte : ℕ) (rest : List ℕ) → (byte ≡ 165 → ⊥) → IsBegun text (head ++ byte ∷ rest)
  closed_there byte rest closed = inr (record {
    entries = [];
    journal = opened 51 text byte rest (inr (inr refl)) short closed;
    pairs = refl;
    marked = refl;
  })

  pub still_empty : (image : List ℕ) → image ≡ empty → IsBegun text image
  still_empty image same = subst (IsBegun text) (sym same) (closed_there 0 [] (omega arith))

  -- while the records are written
  pub filling : (count : ℕ) (image : List ℕ) → Torn (gate + 1) count empty image → IsBegun text image
  filling count image torn =
      let front : take (gate + 1) image ≡ empty = torn.before ∙ ap (take (gate + 1)) (sym (append-nil empty)) ∙ take_at empty [] (gate + 1) long in
      let whole : image ≡ empty ++ drop (gate + 1) image =
      sym (take-append-drop (gate + 1) image) ∙ ap (λ (f : List ℕ). f ++ drop (gate + 1) image) front in
      subst (IsBegun text) (sym (whole ∙ append_assoc head (0 ∷ []) (drop (gate + 1) image)))
      (closed_there 0 (drop (gate + 1) image) (omega arith))

  -- they are written
  pub filled : (bytes file : List ℕ) → Overwrites (gate + 1) bytes empty file → file ≡ head ++ 0 ∷ bytes
  filled bytes file writes =
      let front : take (gate + 1) empty ≡ empty = ap (take (gate + 1)) (sym (append-nil empty)) ∙ take_at empty [] (gate + 1) long in
      let none : drop (gate + 1 + length bytes) empty ≡ [] = drop_all (gate + 1 + length bytes) empty (omega (arith, long)) in
      writes ∙ ap (λ (f : List ℕ). f ++ bytes ++ drop (gate + 1 + length bytes) empty) front
      ∙ ap (λ (r : List ℕ). (empty ++ bytes) ++ r) none ∙ append-nil (empty ++ bytes)
      ∙ append_assoc head (0 ∷ []) bytes

  -- while their gate is opened
  pub revealing : (bytes image : List ℕ) → Torn gate 1 (head ++ 0 ∷ bytes) image
      → IsRenewing text (head ++ 165 ∷ bytes) image
  revealing bytes image torn =
      let count = length-append head (0 ∷ bytes) in
      let front : take gate image ≡ head = torn.before ∙ take_at head (0 ∷ bytes) gate (omega arith) in
      let behind : drop (gate + 1) image ≡ bytes =
      torn.behind ∙ ap (drop (gate + 1)) (sym (append_assoc head (0 ∷ []) bytes)) ∙ drop_at empty bytes (gate + 1) long in
      let within : gate < length image = let least = torn.no_shorter in omega (arith, least, count) in
      let whole : image ≡ head ++ get_or image gate 0 ∷ bytes =
      sym (take-append-drop gate image)
      ∙ ap (λ (f : List ℕ). f ++ drop gate image) front
      ∙ ap (λ (r : List ℕ). head ++ r) (drop_more image gate 0 within)
      ∙ ap (λ (r : List ℕ). head ++ get_or image gate 0 ∷ r) behind in
      elim (cases_eq (get_or image gate 0) 165) [
        | inl is_open ↦ inr (whole ∙ ap (λ (b : ℕ). head ++ b ∷ bytes) is_open)
        | inr shut ↦ inl (subst (IsBegun text) (sym whole) (closed_there (get_or image gate 0) bytes shut))
      ]

  -- it is open
  pub revealed : (bytes file : List ℕ) → Overwrites gate (165 ∷ []) (head ++ 0 ∷ bytes) file → file ≡ head ++ 165 ∷ bytes
  revealed bytes file writes =
      let front : take gate (head ++ 0 ∷ bytes) ≡ head = take_at head (0 ∷ bytes) gate (omega arith) in
      let behind : drop (gate + 1) (head ++ 0 ∷ bytes) ≡ bytes =
      ap (drop (gate + 1)) (sym (append_assoc head (0 ∷ []) bytes)) ∙ drop_at empty bytes (gate + 1) long in
      writes ∙ ap (λ (f : List ℕ). f ++ (165 ∷ []) ++ drop (gate + 1) (head ++ 0 ∷ bytes)) front
      ∙ append_assoc head (165 ∷ []) (drop (gate + 1) (head ++ 0 ∷ bytes))
      ∙ ap (λ (r : List ℕ). head ++ 165 ∷ r) behind

  -- of the file without records
  pub made_filled : (bytes : List ℕ) (old mid new : Option Disk) → OfFile (λ file. file ≡ empty) old
      → MakesFile (Overwrites (gate + 1) bytes) old mid → MakesFile (Overwrites gate (165 ∷ [])) mid new
      → MakesFile (λ _ file. file ≡ head ++ 165 ∷ bytes) old new
  made_filled bytes None mid new begun first second =
      subst (λ (d : Option Disk). MakesFile (Overwrites gate (165 ∷ [])) d new) first second
  made_filled bytes (Some old) None new begun first second = absurd first
  made_filled bytes (Some old) (Some mid) None begun first second = absurd second
  made_filled bytes (Some old) (Some mid) (Some new) begun first second =
      let between = filled bytes mid.file (subst (λ (f : List ℕ). Overwrites (gate + 1) bytes f mid.file) begun first.0) in (
        revealed bytes new.file (subst (λ (f : List ℕ). Overwrites gate (165 ∷ []) f new.file) between second.0),
        second.1 ∙ first.1,
      )

  module _ (bytes : List ℕ) (old mid : SiteState) (was then : Crashes) (calls : DiskCalls (span old mid was then))
      (settled : LeavesTheFile old.disk was.now) (disk : Disk) (told : old.disk ≡ Some disk) (begun : disk.file ≡ empty)
      (images : LeavesOnly (MaybeTorn (gate + 1) (length bytes) was.now) (span old mid was then))
    where
      abbrev P : List ℕ → Type 0
      P image = IsRenewing text (head ++ 165 ∷ bytes) image

      -- while the records are written
      pub filling_images : LeavesOnly P (span old mid was then)
      filling_images image left =
          torn_has P (gate + 1) (length bytes) old.disk disk was.now told settled
          (λ before now. inl (still_empty before (just old.disk disk was.now told settled before now ∙ begun)))
          (λ after torn. inl (filling (length bytes) after (subst (λ (f : List ℕ). Torn (gate + 1) (length bytes) f after) begun torn)))
          image (images image left)

      -- while their gate is opened
      pub revealing_images : AreLawful mid then → MakesFile (Overwrites (gate + 1) bytes) old.disk mid.disk
          → LeavesTheFile mid.disk then.now → (new : SiteState) (is : Crashes) → DiskCalls (span mid new then is)
          → ((disk : Disk) → mid.disk ≡ Some disk → LeavesOnly (MaybeTorn gate 1 then.now) (span mid new then is))
          → LeavesOnly P (span old new was is)
      revealing_images lawful written settled' new is calls' images' =
          let there = made (Overwrites (gate + 1) bytes) old.disk mid.disk disk told written in
          let file : there.disk.file ≡ head ++ 0 ∷ bytes =
          filled bytes there.disk.file (subst (λ (f : List ℕ). Overwrites (gate + 1) bytes f there.disk.file) begun there.makes) in
          calls_more P old mid was then calls filling_images new is calls' (λ image left.
          torn_has P gate 1 mid.disk there.disk then.now there.told settled'
          (now_has P old mid was then calls filling_images lawful)
          (λ after torn. revealing bytes after (subst (λ (f : List ℕ). Torn gate 1 f after) file torn))
          image (images' there.disk there.told image left))

-- all behind the first byte
pub whole_rest : (bytes : List ℕ) → take (length bytes - 1) (drop 1 bytes) ≡ drop 1 bytes
whole_rest bytes = take_all (length bytes - 1) (drop 1 bytes) (omega (arith, length-drop 1 bytes))

pub nothing : (bytes : List ℕ) → length bytes ≡ 0 → bytes ≡ []
nothing [] none = refl
nothing (x ∷ bytes) none = absurd (omega (arith, none))

-- a file whose front has no byte has none
pub no_byte : (head file : List ℕ) → IsHeadOf head file → length head ≡ 0 → file ≡ []
no_byte head file is none =
    is.whole ∙ ap (λ (h : List ℕ). h ++ is.rest) (nothing head none) ∙ is.all (omega (arith, none))

-- the records of a renewed journal begin with an open gate
pub opens : (carried : Word) (actions boots : ℕ) → let records = open_records (renewed_records carried actions boots) ++ 0 ∷ [] in
    records ≡ 165 ∷ drop 1 records
opens [] actions boots = refl
opens (a ∷ carried) actions boots = refl

-- the bytes of a renewed journal
pub journal_spelled : (text records : List ℕ) (carried : Word) (actions boots : ℕ)
    → records ≡ open_records (renewed_records carried actions boots) ++ 0 ∷ []
    → 165 ∷ header 51 text ++ records ≡ renewed_journal text carried actions boots
journal_spelled text records carried actions boots spelled =
    ap (λ (r : List ℕ). 165 ∷ header 51 text ++ r) spelled
    ∙ ap (λ (r : List ℕ). 165 ∷ r) (sym (append_assoc (header 51 text) (open_records (renewed_records carried actions boots)) (0 ∷ [])))

-- a file that was empty, read, begun and filled
pub made_renewed : (text records : List ℕ) (carried : Word) (actions boots : ℕ) (old read begun new : Option Disk)
    → OfFile (IsHeadOf []) old → records ≡ open_records (renewed_records carried actions boots) ++ 0 ∷ []
    → MakesFile Stays old read → MakesFile (λ before file. file ≡ 165 ∷ header 51 text ++ 0 ∷ []) read begun
    → MakesFile (λ before file. file ≡ 165 ∷ header 51 text ++ records) begun new
    → MakesFile (λ before file. (before ≡ []) × (file ≡ renewed_journal text carried actions boots)) old new
made_renewed text records carried actions boots None read begun new none spelled first second third =
    let two = subst (λ (d : Option Disk). MakesFile (λ before file. file ≡ 165 ∷ header 51 text ++ 0 ∷ []) d begun) first second in
    subst (λ (d : Option Disk). MakesFile (λ before file. file ≡ 165 ∷ header 51 text ++ records) d new) two third
made_renewed text records carried actions boots (Some old) None begun new none spelled first second third = absurd first
made_renewed text records carried actions boots (Some old) (Some read) None new none spelled first second third = absurd second
made_renewed text records carried actions boots (Some old) (Some read) (Some begun) None none spelled first second third = absurd third
made_renewed text records carried actions boots (Some old) (Some read) (Some begun) (Some new) none spelled first second third = (
  (
    none.whole ∙ none.all (omega arith),
    third.0 ∙ journal_spelled text records carried actions boots spelled,
  ),
  third.1 ∙ second.1 ∙ first.1,
)

-- what is left all along
module _ (text whole : List ℕ) (old read : SiteState) (was then : Crashes) (calls : DiskCalls (span old read was then))
    (images : LeavesOnly was.now (span old read was then)) (begun : SiteState) (then' : Crashes)
    (lawful' : AreLawful begun then') (calls' : DiskCalls (span read begun then then'))
    (images' : LeavesOnly (IsBegun text) (span read begun then then'))
  where
    abbrev Q : List ℕ → Type 0
    Q image = was.now image ⊎ IsRenewing text whole image

    pub begun_so_far : LeavesOnly Q (span old begun was then')
    begun_so_far =
        calls_more Q old read was then calls (λ image left. inl (images image left)) begun then' calls'
        (λ image left. inr (inl (images' image left)))

    pub filled_so_far : (new : SiteState) (is : Crashes) → DiskCalls (span begun new then' is)
        → LeavesOnly (IsRenewing text whole) (span begun new then' is) → LeavesOnly Q (span old new was is)
    filled_so_far new is calls'' images'' =
        calls_more Q old begun was then' (DiskCalls-join old read begun was then then' lawful' calls calls') begun_so_far new is calls''
        (λ image left. inr (images'' image left))
