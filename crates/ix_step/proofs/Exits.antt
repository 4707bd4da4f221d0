-- What a function tells where it passes on the fault of a part.
use Rattle.std.proofs.Common.{◌≡◌, ℕ, ◌<◌, ◌≤◌, Result, Ok, Err, MatchResult, sym, ap, ◌∙◌, subst, arith}
use Rattle.std.specs.Result.{IsErrAnd}
use Rattle.std.proofs.lemmas.Result.{err_from_is_err_and}
use Rattle.ix_tree.specs.Plain.{Plain}
use Rattle.ix_tree.specs.Size.{size_of}
use Rattle.ix_step.specs.declared.fault.Unbuilt.{Unbuilt}
use Rattle.ix_step.specs.declared.fault.Unbuilt.TheVariants.{Over}
use Rattle.ix_step.specs.inside.Makes.{Makes, IsAboveLimit}

-- where the part is above the limit, the whole is
pub exit_over : {T : Type 0} (P : T → Type 0) {A B : Type 0} (r : Result T Unbuilt) (fault : Unbuilt) → IsErrAnd r (λ e. e ≡ fault) → (fault ≡ Over → A) → (A → B) → MatchResult r P (λ e. e ≡ Over → B)
exit_over {T} P {A} {B} r fault h part whole =
    let k = err_from_is_err_and r h in
    subst (λ s. MatchResult s P (λ e. e ≡ Over → B)) (sym k.1) (λ e. whole (part (sym k.2 ∙ e)))

-- what a function makes, where it is told of a whole that the tree is a part of
pub made_as : (limit : ℕ) (x tree whole : Plain) (r : Result Plain Unbuilt) → x ≡ tree → (limit < size_of x → limit < size_of whole) → Makes limit x r → MatchResult r (λ made. (made ≡ tree) × (size_of tree ≤ limit)) (IsAboveLimit limit whole)
made_as limit x tree whole (Ok made) same over m = (m.0 ∙ same, omega (arith, ap size_of same, m.1))
made_as limit x tree whole (Err fault) same over m = λ e. over (m e)
