-- A site whose disk is that of another tells of crashes what the other does.
use Rattle.std.specs.Prelude.{◌≡◌, Option, None}
use Rattle.std.proofs.Common.{sym, ◌∙◌, subst}
use Rattle.std.proofs.lemmas.Option.{none-some}
use Rattle.ix_outside.specs.Crashes.{Crashes, AreLawful}
use Rattle.ix_outside.specs.Disk.{Disk, HasNothingOpened, OfFile}
use Rattle.ix_outside.specs.SiteState.{SiteState}
use Rattle.ix_script.specs.inside.WithoutSends.{without_sends}

pub lawful_without_sends : (other site : SiteState) (crashes : Crashes) → site.tick ≡ other.tick
    → site.attached ≡ other.attached → site.disk ≡ other.disk → site.contents.sends ≡ None
    → AreLawful other crashes
    → AreLawful site (without_sends crashes)
lawful_without_sends other site crashes tick attached disk none lawful = record {
  unattached = λ away. subst HasNothingOpened (sym disk) (lawful.unattached (sym attached ∙ away));
  file = let P : Option Disk → Type 0 = OfFile crashes.now in subst P (sym disk) lawful.file;
  left_now = λ image. (
    (λ left. (lawful.left_now image).0 (subst (λ t. crashes.left t image) tick left)),
    (λ now. subst (λ t. crashes.left t image) (sym tick) ((lawful.left_now image).1 now)),
  );
  left_earlier = lawful.left_earlier;
  since_now = λ sends told image sent. absurd (none-some sends (sym none ∙ told));
  since_earlier = λ t u left le since. since;
  since_left = λ t left since. absurd since;
  left_since = λ sends told t image left. absurd (none-some sends (sym none ∙ told));
}
