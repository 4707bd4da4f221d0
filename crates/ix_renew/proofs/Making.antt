-- What is left of a file that was attached, in which a renewed journal is made.
use Rattle.std.proofs.Common.{◌≡◌, ◌≢◌, ◌⊎◌, inl, inr, ℕ, ◌≤◌, List, [], length, Option, None, Some, refl, sym, ◌∙◌, ap, subst, arith}
use Rattle.std.specs.Option.{ForSome}
use Rattle.std.proofs.lemmas.Option.{none-some}
use Rattle.ix_expr.specs.CanonicalText.{canonical_text}
use Rattle.ix_expr.specs.Form.{Form}
use Rattle.ix_expr.proofs.LawsOfMeaning.{empty-partial}
use Rattle.ix_can.specs.TreeOf.{tree_size}
use Rattle.ix_journal.specs.Entries.{fresh, renewed_of}
use Rattle.ix_journal.specs.Kinds.{IsUnfinished}
use Rattle.ix_journal.specs.Recovery as recovery
use Rattle.ix_journal.specs.Recovery.{IsJournalWith, KeepsRecords}
use Rattle.ix_journal.specs.declared.entries.Marks.{Marks}
use Rattle.ix_outside.specs.Crashes.{Crashes, LeavesTheFile}
use Rattle.ix_outside.specs.Disk.{Disk, HasNothingOpened, IsOpened, MakesFile, Opened, Stays}
use Rattle.ix_outside.specs.SiteState.{SiteState, OnlyDisk}
use Rattle.ix_outside.specs.inside.DiskCalls.{DiskCalls, KeepsOpened, LeavesOnly, span}
use Rattle.ix_store.specs.Opening.{IsNew}
use Rattle.ix_store.specs.inside.Renewing.{IsRenewing}
use Rattle.ix_manager.specs.Images as image
use Rattle.ix_manager.specs.Images.{IsWithin}
use Rattle.ix_manager.proofs.RecoverLemmas.{none_within}
use Rattle.ix_renew.specs.Renewal.{IfNewFile, IfOpenedAs, IsRenewed, OfNewFile, StartsAnew}
use Rattle.ix_renew.specs.inside.Renewing.{LeavesFile}

-- where the file was attached, how it read then
pub opened_at : (name : List ℕ) (tick : ℕ) (before at : Option Disk) → IsOpened name tick before at
    → (d : Disk) → at ≡ Some d → d.opened ≡ Some (record { name = name; tick = tick; file = d.file })
opened_at name tick None at is d told = absurd (none-some d (sym is ∙ told))
opened_at name tick (Some old) None is d told = absurd is
opened_at name tick (Some old) (Some new) is d told =
    let same : new ≡ d = cc in
    subst (λ (e : Disk). e.opened ≡ Some (record { name = name; tick = tick; file = e.file })) same is

-- what the file was attached as stays
pub kept_opened : (one two : Option Disk) → KeepsOpened one two → (e : Disk) → two ≡ Some e
    → (d : Disk) × (one ≡ Some d) × (e.opened ≡ d.opened)
kept_opened None two keeps e told = absurd (none-some e (sym keeps ∙ told))
kept_opened (Some d) None keeps e told = absurd keeps
kept_opened (Some d) (Some f) keeps e told =
    let same : f ≡ e = cc in (d, refl, subst (λ (x : Disk). x.opened ≡ d.opened) same keeps.1)

-- how the file reads before and behind a call
file_made : (R : List ℕ → List ℕ → Type 0) (one two : Option Disk) (d e : Disk) → one ≡ Some d → two ≡ Some e
    → MakesFile R one two → R d.file e.file
file_made R one two d e was now makes =
    let First : Option Disk → Type 0 = λ disk. MakesFile R disk two in
    let Second : Option Disk → Type 0 = λ disk. MakesFile R (Some d) disk in
    (subst Second now (subst First was makes)).0

-- where only the file may be left, an image is that file
pub only_left : (disk : Option Disk) (now : List ℕ → Type 0) → LeavesTheFile disk now → (d : Disk) → disk ≡ Some d
    → (image : List ℕ) → now image → image ≡ d.file
only_left disk now leaves d told image left =
    let Only : Option Disk → Type 0 = λ known. LeavesTheFile known now in
    (subst Only told leaves image).0 left

-- calls of the disk were made, an attach among them, and then more
pub disk_calls_then : (old mid new : SiteState) → OnlyDisk old mid → OnlyDisk mid new → OnlyDisk old new
disk_calls_then old mid new first second = record {
  disk = let one = first.disk in let two = second.disk in omega arith;
  wire = second.wire ∙ first.wire;
  send = second.send ∙ first.send;
  contents = second.contents ∙ first.contents;
  held = second.held ∙ first.held;
}

-- no file was opened
pub none_opened_file : (name : List ℕ) (P : Opened → List ℕ → Type 0) (disk : Option Disk)
    → HasNothingOpened disk → IfNewFile name P disk
none_opened_file name P None none = tt
none_opened_file name P (Some d) none =
    let family : Option Opened → Type 0 = λ o. if_opened o in subst family (sym none) tt
  where
    if_opened : Option Opened → Type 0
    if_opened o = IfNewFile name P (Some (record { file = d.file; opened = o }))

-- what holds of a file that was opened, if one was, leads to more
pub if_new_file : (name : List ℕ) (P Q : Opened → List ℕ → Type 0) (disk : Option Disk)
    → ((opened : Opened) (now : List ℕ) → P opened now → Q opened now) → IfNewFile name P disk → IfNewFile name Q disk
if_new_file name P Q None leads it = tt
if_new_file name P Q (Some disk) leads it = by disk.opened it
  where
    by : (opened : Option Opened) → IfOpenedAs name P opened disk.file → IfOpenedAs name Q opened disk.file
    by None it = tt
    by (Some opened) it = (it.0, leads opened disk.file it.1)

module _ (name : List ℕ) (old mid new : SiteState) (then is : Crashes)
    (opened : IsOpened name mid.tick old.disk mid.disk) (calls : DiskCalls (span mid new then is))
  where
    -- what holds of the file that was opened and of how it reads now
    if_file : (P : Opened → List ℕ → Type 0)
        → ((d e : Disk) → mid.disk ≡ Some d → new.disk ≡ Some e
        → P (record { name = name; tick = mid.tick; file = d.file }) e.file)
        → (disk : Option Disk) → new.disk ≡ disk → IfNewFile name P disk
    if_file P holds None told = tt
    if_file P holds (Some e) told =
        let from = kept_opened mid.disk new.disk calls.opened e told in
        let is_opened = from.2 ∙ opened_at name mid.tick old.disk mid.disk opened from.0 from.1 in
        let family : Option Opened → Type 0 = λ o. IfNewFile name P (Some (record { file = e.file; opened = o })) in
        subst family (sym is_opened) (refl, holds from.0 e from.1 told)

    of_file : (P : Opened → List ℕ → Type 0)
        → ((d e : Disk) → mid.disk ≡ Some d → new.disk ≡ Some e
        → P (record { name = name; tick = mid.tick; file = d.file }) e.file)
        → (disk : Option Disk) → new.disk ≡ disk → OfNewFile name P disk
    of_file P holds None told = tt
    of_file P holds (Some e) told =
        let from = kept_opened mid.disk new.disk calls.opened e told in
        let is_opened = from.2 ∙ opened_at name mid.tick old.disk mid.disk opened from.0 from.1 in
        let family : Option Opened → Type 0 = λ o. OfNewFile name P (Some (record { file = e.file; opened = o })) in
        subst family (sym is_opened) (refl, holds from.0 e from.1 told)

    -- the file has a byte
    pub new_file_there : ForSome mid.disk (λ disk. disk.file ≢ [])
        → OfNewFile name (λ opened now. opened.file ≢ []) new.disk
    new_file_there some = of_file (λ opened now. opened.file ≢ []) (λ d e was now. some d was) new.disk refl

    -- the journal was made
    pub new_file_made : (whole : List ℕ)
        → MakesFile (λ before file. (before ≡ []) × (file ≡ whole)) mid.disk new.disk
        → OfNewFile name (λ opened now. (opened.file ≡ []) × (now ≡ whole)) new.disk
    new_file_made whole makes =
        of_file (λ opened now. (opened.file ≡ []) × (now ≡ whole))
        (λ d e was now.
        file_made (λ before file. (before ≡ []) × (file ≡ whole)) mid.disk new.disk d e was now makes)
        new.disk refl

    -- what is left of it
    pub new_file_left : (text whole : List ℕ) → LeavesTheFile mid.disk then.now
        → ForSome mid.disk (λ disk. disk.file ≢ []
        → MakesFile Stays mid.disk new.disk × LeavesOnly then.now (span mid new then is))
        → ForSome mid.disk (λ _. LeavesOnly (λ image. then.now image ⊎ IsRenewing text whole image)
        (span mid new then is))
        → IfNewFile name (LeavesFile text whole is) new.disk
    new_file_left text whole settled stays images =
        if_file (LeavesFile text whole is)
        (λ d e was now. record {
          stays = λ some. file_made Stays mid.disk new.disk d e was now (stays d was some).0;
          stays_left = λ some image left. only_left mid.disk then.now settled d was image ((stays d was some).1 image left);
          leaves = λ none image left. elim (images d was image left) [
            | inl before ↦ inl (only_left mid.disk then.now settled d was image before ∙ none)
            | inr renewing ↦ inr renewing
          ];
        })
        new.disk refl

-- the empty word is within the limit
pub initial_within : (x : Form) (limit : ℕ) → tree_size x [] ≤ limit → IsWithin x limit []
initial_within x limit small = record { partial = empty-partial x []; size = small }

module _ (x : Form) (limit : ℕ) (small : tree_size x [] ≤ limit) where
  -- a file that is to be made anew, or has no record, is that of a new journal
  anew : (at : List ℕ) → KeepsRecords at [] → image.IsOwn x at → StartsAnew x limit at
  anew at keeps own = record {
    own = own;
    recovers = record { entries = []; keeps = keeps; pairs = refl };
    within = none_within x limit (initial_within x limit small);
    boots = 0;
    holds = record { entries = []; keeps = keeps; said = refl; number = refl };
    few = omega arith;
    next = refl;
  }

  unmade : (at : List ℕ) → IsNew at (canonical_text x) → StartsAnew x limit at
  unmade at (inl unfinished) = anew at (recovery.unfinished at unfinished) (image.new (inl unfinished))
  unmade at (inr unopened) = anew at (recovery.unopened at (canonical_text x) unopened) (image.new (inr unopened))

  begun : (at : List ℕ) (gate : ℕ) → IsJournalWith at (canonical_text x) [] fresh gate → StartsAnew x limit at
  begun at gate is = record {
    own = image.ready [] fresh gate is;
    recovers = record {
      entries = is.entries;
      keeps = recovery.ready at (canonical_text x) is.entries gate is.journal;
      pairs = is.pairs;
    };
    within = none_within x limit (initial_within x limit small);
    boots = 0;
    holds = record {
      entries = is.entries;
      keeps = recovery.ready at (canonical_text x) is.entries gate is.journal;
      said = ap renewed_of is.marked;
      number = ap (λ (m : Marks). m.boots) is.marked;
    };
    few = omega arith;
    next = refl;
  }

  -- what is left while the journal is made
  pub renewing : (file whole at : List ℕ) → IsRenewed x limit file whole
      → (at ≡ []) ⊎ IsRenewing (canonical_text x) whole at → StartsAnew x limit at ⊎ IsRenewed x limit file at
  renewing file whole at is (inl none) =
      let few : IsUnfinished at = inl (omega (arith, ap length none)) in inl (unmade at (inl few))
  renewing file whole at is (inr (inl (inl new))) = inl (unmade at new)
  renewing file whole at is (inr (inl (inr (journal)))) = inl (begun at _ journal)
  renewing file whole at is (inr (inr same)) = inr (subst (IsRenewed x limit file) (sym same) is)
