-- A site that tells neither its sends nor its disk needs to say nothing of crashes.
use Rattle.std.specs.Prelude.{◌≡◌, None, Some, Option}
use Rattle.std.proofs.Common.{sym, ◌∙◌, subst}
use Rattle.ix_outside.specs.Crashes.{AreLawful, nothing_left}
use Rattle.ix_outside.specs.Disk.{Disk, HasNothingOpened, OfFile}
use Rattle.ix_outside.specs.SiteState.{SiteState}

none_is_not_some : {A : Type 0} (P : Type 0) (o : Option A) (x : A) → o ≡ None → o ≡ Some x → P
none_is_not_some P o x none some = absurd (let e : None ≡ Some x = sym none ∙ some in cc)

pub untold_is_lawful : (site : SiteState) → site.disk ≡ None → site.contents.sends ≡ None
    → AreLawful site nothing_left
untold_is_lawful site disk sends = record {
  unattached = λ none. subst HasNothingOpened (sym disk) tt;
  file = let P : Option Disk → Type 0 = OfFile nothing_left.now in subst P (sym disk) tt;
  left_now = λ image. ((λ left. left), λ now. now);
  left_earlier = λ t u image le left. left;
  since_now = λ told some image sent. none_is_not_some _ site.contents.sends told sends some;
  since_earlier = λ t u left le since. since;
  since_left = λ t left since. since;
  left_since = λ told some t image left. absurd left;
}
