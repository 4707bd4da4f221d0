-- What a renewal comes to, by what was made of the new file.
use Rattle.std.proofs.Common.{◌≡◌, ◌⊎◌, ℕ, ◌≤◌, List, [], Option, Result, Ok, Err, IfErr, IsErrAnd, refl, sym, ◌∙◌, ap, subst}
use Rattle.ix_expr.specs.CanonicalText.{canonical_text}
use Rattle.ix_expr.specs.Form.{Form}
use Rattle.ix_can.specs.TreeOf.{tree_size}
use Rattle.ix_outside.specs.Crashes.{Crashes}
use Rattle.ix_outside.specs.Disk.{Disk}
use Rattle.ix_store.specs.declared.making.RenewFault.{RenewFault}
use Rattle.ix_store.specs.declared.making.RenewFault.TheVariants as making
use Rattle.ix_store.specs.inside.Renewing.{IsRenewing}
use Rattle.ix_renew.specs.Renewal.{IsRenewed, LeavesNewFile}
use Rattle.ix_renew.specs.declared.fault.RenewalFault.{RenewalFault}
use Rattle.ix_renew.specs.declared.fault.RenewalFault.TheVariants as fault
use Rattle.ix_renew.specs.inside.Faults.{making_fault_of}
use Rattle.ix_renew.specs.inside.Renewing.{IsOfTheJournal, LeavesBytes, LeavesFile, LeavesNew, PreventsRenewal}
use Rattle.ix_renew.proofs.Making.{if_new_file, renewing}

-- what is left of the new file
pub leaves_new : (x : Form) (limit : ℕ) (file name text whole : List ℕ) (disk : Option Disk) (is : Crashes)
    → tree_size x [] ≤ limit → text ≡ canonical_text x → IsRenewed x limit file whole
    → LeavesBytes text whole name disk is → LeavesNew x limit file name disk is
leaves_new x limit file name text whole disk is small same renewed left =
    if_new_file name (LeavesFile text whole is) (λ opened now. LeavesNewFile x limit file opened now is) disk
    (λ opened now it. record {
      stays = it.stays;
      stays_left = it.stays_left;
      leaves = λ none image here. renewing x limit small file whole image renewed
          (subst (λ (t : List ℕ). (image ≡ []) ⊎ IsRenewing t whole image) same (it.leaves none image here));
    })
    left

-- nothing was made
module _ {T : Type 0} (r : Result T RenewalFault) (f : RenewFault) (handed : IsErrAnd r (λ e. e ≡ making_fault_of f)) where
  on : (Q : RenewalFault → Type 0) → Q (making_fault_of f) → IfErr r Q
  on Q it = by r handed
    where
      by : (s : Result T RenewalFault) → IsErrAnd s (λ e. e ≡ making_fault_of f) → IfErr s Q
      by (Ok t) same = absurd same
      by (Err e) same = subst Q (sym same) it

  handed_is : r ≡ Err (making_fault_of f)
  handed_is = by r handed
    where
      by : (s : Result T RenewalFault) → IsErrAnd s (λ e. e ≡ making_fault_of f) → s ≡ Err (making_fault_of f)
      by (Ok t) same = absurd same
      by (Err e) same = ap Err same

  pub unmade_refused : (x : Form) (limit : ℕ) (file : List ℕ) → tree_size x [] ≤ limit → IfErr r (PreventsRenewal x limit file)
  unmade_refused x limit file small = on (PreventsRenewal x limit file) (told f)
    where
      told : (g : RenewFault) → PreventsRenewal x limit file (making_fault_of g)
      told making.There = (small, tt)
      told making.Disk = (small, tt)
      told making.Memory = tt

  pub unmade_rests : (P : Type 0) → IfErr r (λ why. IsOfTheJournal why → P)
  unmade_rests P = on (λ why. IsOfTheJournal why → P) (told f)
    where
      told : (g : RenewFault) → IsOfTheJournal (making_fault_of g) → P
      told making.There is = absurd is
      told making.Disk is = absurd is
      told making.Memory is = absurd is

  pub unmade_there : r ≡ Err fault.There → f ≡ making.There
  unmade_there is = by f (let e = sym handed_is ∙ is in cc)
    where
      by : (g : RenewFault) → making_fault_of g ≡ fault.There → g ≡ making.There
      by making.There same = refl
      by making.Disk same = absurd cc
      by making.Memory same = absurd cc

  pub unmade_disk : r ≡ Err fault.Disk → f ≡ making.Disk
  unmade_disk is = by f (let e = sym handed_is ∙ is in cc)
    where
      by : (g : RenewFault) → making_fault_of g ≡ fault.Disk → g ≡ making.Disk
      by making.There same = absurd cc
      by making.Disk same = refl
      by making.Memory same = absurd cc
