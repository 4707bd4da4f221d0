-- What a link tells of a manager that goes on, or was started again.
use Rattle.std.proofs.Common.{◌≡◌, ℕ, ◌&&◌, Bool, true, false, List, Option, Some, None, refl, sym, ◌∙◌, ap, subst}
use Rattle.std.proofs.lemmas.Bool.{and_from}
use Rattle.ix_expr.specs.Form.{Form}
use Rattle.ix_memory.specs.inside.MemorySiteState.{MemorySiteState}
use Rattle.ix_parse.specs.Laws.{TextsStandForOneExpression}
use Rattle.ix_proto.specs.Requests.{PlainRequest}
use Rattle.ix_manager.specs.Handled.{ManagerState}
use Rattle.ix_manager.specs.Later.{Later}
use Rattle.ix_manager.specs.Machine.{MachineState}
use Rattle.ix_client.specs.Links.{Answers, GoesOn, IsLineWith, TellsBy, Told}
use Rattle.ix_client.specs.inside.ManagerLinks.{IsManagerOf, IsRunEnded, is_sound, told_by, told_of, told_where}
use Rattle.ix_manager.specs.Images.{IsStartable}
use Rattle.ix_manager.specs.Runs.{opening_of}
use Rattle.ix_client.specs.inside.Passing.{AnswersOver, StartedFrom, StartsAgain}
use Rattle.ix_client.proofs.JournalSound.{fits_sound, sound_test}

tells_none : (C : Form → ℕ → MachineState → MachineState → Type 0) (old : Option Told) → TellsBy C old None
tells_none C None = refl
tells_none C (Some told) = tt

-- a manager over a site that tells its contents is told
pub is_told : (m : ManagerState) (site : MemorySiteState) → IsRunEnded m site → site.told ≡ true → told_of (Some m) site ≡ Some (told_by m)
is_told m site over told =
    ap (λ t. told_where t (told_by m)) (and_from site.told (is_sound m.machine) told (sound_test m.machine (fits_sound m site over.fits told)))

not_told : (m : ManagerState) (site : MemorySiteState) → site.told ≡ false → told_of (Some m) site ≡ None
not_told m site untold = ap (λ t. told_where (t && is_sound m.machine) (told_by m)) untold

-- the manager behind is told as it goes on
both_told : (C : Form → ℕ → MachineState → MachineState → Type 0) (m n : ManagerState) (before after : MemorySiteState) → IsRunEnded m before → IsRunEnded n after
    → (after.told ≡ true → before.told ≡ true) → n.form ≡ m.form → n.limit ≡ m.limit
    → (after.told ≡ true → C m.form m.limit m.machine n.machine) → TellsBy C (told_of (Some m) before) (told_of (Some n) after)
both_told C m n before after over also still form limit comes = by after.told refl
  where
    by : (t : Bool) → after.told ≡ t → TellsBy C (told_of (Some m) before) (told_of (Some n) after)
    by true told =
        let goes : GoesOn C (told_by m) (told_by n) = record { form = form; limit = limit; machine = comes told } in
        subst (λ o. TellsBy C o (told_of (Some n) after)) (sym (is_told m before over (still told)))
        (subst (λ o. TellsBy C (Some (told_by m)) o) (sym (is_told n after also told)) goes)
    by false untold = subst (λ o. TellsBy C (told_of (Some m) before) o) (sym (not_told n after untold)) (tells_none C (told_of (Some m) before))

-- it answered
pub answered_tells : (asked : PlainRequest) (line : List ℕ) (m n : ManagerState) (before after : MemorySiteState) → IsRunEnded m before
    → (after.told ≡ true → before.told ≡ true) → AnswersOver asked line m n after
    → TellsBy (λ x limit s u. IsLineWith (λ told. Answers asked told x limit s u) line) (told_of (Some m) before) (told_of (Some n) after)
answered_tells asked line m n before after over still is =
    both_told (λ x limit s u. IsLineWith (λ told. Answers asked told x limit s u) line) m n before after over is.over still is.form is.limit is.reply

-- it was started again, or couldn't be
pub again_tells : (C : Form → ℕ → MachineState → MachineState → Type 0) (text : List ℕ) (limit : ℕ) (m : ManagerState)
    (before mid after : MemorySiteState) (kept : Option ManagerState) → TextsStandForOneExpression
    → IsManagerOf text limit m before → (mid.told ≡ true → before.told ≡ true) → after.told ≡ mid.told
    → ((n : ManagerState) → kept ≡ Some n → StartedFrom text limit n mid after)
    → (mid.told ≡ true → StartsAgain m.form m.machine mid.image)
    → ((u : MachineState) → mid.told ≡ true → Later m.form m.machine u → C m.form m.limit m.machine u)
    → TellsBy C (told_of (Some m) before) (told_of kept after)
again_tells C text limit m before mid after None one manages still same started again comes = tells_none C (told_of (Some m) before)
again_tells C text limit m before mid after (Some n) one manages still same started again comes =
    let is = started n refl in
    let form = one text n.form m.form is.manages.stands manages.stands in
    both_told C m n before after manages.over is.manages.over (λ told. still (sym same ∙ told))
    form (is.manages.limit_is ∙ sym manages.limit_is)
    (λ told.
    let was : mid.told ≡ true = sym same ∙ told in
    comes n.machine was
    (subst (Later m.form m.machine) (sym is.machine)
    (again was n.limit n.machine.history n.machine.renewed n.machine.boot
    (subst (λ x. IsStartable (opening_of x n.limit n.machine.history n.machine.renewed n.machine.boot) mid.image) form (is.startable was)))))
