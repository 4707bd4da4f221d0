-- What is kept of a manager in a link, and what the link tells then.
use Rattle.std.proofs.Common.{◌≡◌, ◌⊎◌, inl, inr, ℕ, ◌≤◌, true, List, Option, Some, None, Result, Ok, Err, true≢false, refl, sym, ◌∙◌, subst, arith}
use Rattle.std.specs.Prelude.{is_some}
use Rattle.ix_outside.specs.Counts.{one_more}
use Rattle.ix_memory.specs.inside.MemorySiteState.{MemorySiteState}
use Rattle.ix_outside.specs.Counts.{Rose}
use Rattle.ix_expr.specs.Form.{Form}
use Rattle.ix_parse.specs.Faults.{StandsFor}
use Rattle.ix_parse.specs.Laws.{TextsStandForOneExpression}
use Rattle.ix_proto.specs.Requests.{PlainRequest}
use Rattle.ix_manager.specs.Handled.{ManagerState}
use Rattle.ix_manager.specs.Later.{Later}
use Rattle.ix_manager.specs.Machine.{MachineState}
use Rattle.ix_manager.proofs.LaterLemmas.{later_join}
use Rattle.ix_client.specs.Links.{Answers, Calls, Fails, GivesLine, IsExpected, IsLineWith, TellsBy, failed}
use Rattle.ix_client.specs.inside.ManagerLinks.{IsManagerOf, IsManagerWhere, ManagerLinkState, link_state, call_noted, told_of}
use Rattle.ix_client.specs.inside.Passing.{AnswersOver, ExchangesOver, KeepsAsked, StartedFrom, StartsAgain, TellsDisk}
use Rattle.ix_client.specs.declared.link.LinkFailed.{LinkFailed}
use Rattle.ix_client.specs.declared.manager_link.Passed.{Passed}
use Rattle.ix_client.specs.declared.manager_link.Passed.TheVariants.{Answered, Ended, Lost}
use Rattle.ix_client.proofs.OverLemmas.{fits_again}
use Rattle.ix_client.proofs.TellLemmas.{again_tells, answered_tells}

-- no manager is one of any text
none_manages : (text : List ℕ) (limit : ℕ) (kept : Option ManagerState) (site : MemorySiteState) → kept ≡ None → IsManagerWhere text limit kept site
none_manages text limit kept site is = subst (λ o. IsManagerWhere text limit o site) (sym is) tt

-- a manager that is kept is of the same text and limit
pub kept_manages : (text : List ℕ) (limit : ℕ) (m : ManagerState) (before after : MemorySiteState) (asked : PlainRequest) (passed : Passed)
    (kept : Option ManagerState) (line : List ℕ) → IsManagerOf text limit m before → KeepsAsked asked passed kept line m after → IsManagerWhere text limit kept after
kept_manages text limit m before after asked Answered (Some new) line manages is = record {
  stands = subst (StandsFor text) (sym is.form) manages.stands;
  limit_is = is.limit ∙ manages.limit_is;
  over = is.over;
}
kept_manages text limit m before after asked Answered None line manages is = absurd is
kept_manages text limit m before after asked Ended kept line manages is = none_manages text limit kept after is.0
kept_manages text limit m before after asked Lost kept line manages is = none_manages text limit kept after is.0

-- the manager of a link that has one
pub there_manages : (text : List ℕ) (limit : ℕ) (manager : Option ManagerState) (m : ManagerState) (site : MemorySiteState) → manager ≡ Some m
    → IsManagerWhere text limit manager site → IsManagerOf text limit m site
there_manages text limit manager m site is manages = subst (λ o. IsManagerWhere text limit o site) is manages

-- behind a manager that answered
answered_again : (asked : PlainRequest) (line : List ℕ) (m n : ManagerState) (after : MemorySiteState) → AnswersOver asked line m n after
    → after.told ≡ true → StartsAgain m.form m.machine after.image
answered_again asked line m n after is told = λ limit history renewed boot starts.
    later_join (is.later told)
    (subst (λ x. StartsAgain x n.machine after.image) is.form (fits_again n after is.over.fits told) limit history renewed boot starts)

-- what starts from the file of the site comes later than the manager's state, however a request went
kept_again : (asked : PlainRequest) (passed : Passed) (kept : Option ManagerState) (line : List ℕ) (m : ManagerState) (after : MemorySiteState)
    → KeepsAsked asked passed kept line m after → after.told ≡ true → StartsAgain m.form m.machine after.image
kept_again asked Answered (Some n) line m after keeps told = answered_again asked line m n after keeps told
kept_again asked Answered None line m after keeps told = absurd keeps
kept_again asked Ended kept line m after keeps told = keeps.2 told
kept_again asked Lost kept line m after keeps told = keeps.1 told

-- the link was started again
module _ (one : TextsStandForOneExpression) (asked : PlainRequest) (passed : Passed) (line : List ℕ) (m : ManagerState)
    (old mid started : ManagerLinkState) (there : old.manager ≡ Some m) (over : ExchangesOver asked passed line m old mid)
    (text : mid.text ≡ old.text) (limit : mid.limit ≡ old.limit) (told : started.site.told ≡ mid.site.told)
    (starts : (n : ManagerState) → started.manager ≡ Some n → StartedFrom mid.text mid.limit n mid.site started.site) where
  again_told : (C : Form → ℕ → MachineState → MachineState → Type 0)
      → ((u : MachineState) → mid.site.told ≡ true → Later m.form m.machine u → C m.form m.limit m.machine u)
      → TellsBy C (told_of old.manager old.site) (told_of started.manager started.site)
  again_told C comes =
      subst (λ o. TellsBy C (told_of o old.site) (told_of started.manager started.site)) (sym there)
      (again_tells C old.text old.limit m old.site mid.site started.site started.manager one over.manages over.told told
      (λ n is.
      subst (λ t. StartedFrom t old.limit n mid.site started.site) text
      (subst (λ l. StartedFrom mid.text l n mid.site started.site) limit (starts n is)))
      (kept_again asked passed mid.manager line m mid.site over.keeps) comes)

  -- and the call failed
  pub fails_again : (new : ManagerLinkState) → mid.faults ≡ old.faults → mid.faults ≤ started.faults
      → new ≡ record started { faults = one_more started.faults } → Fails (link_state old) (link_state new)
  fails_again new same more is =
      subst (λ (l : ManagerLinkState). Fails (link_state old) (link_state l)) (sym is) (record {
        counted = omega (arith, same, more);
        told = again_told (λ x most s u. Later x s u) (λ u is_told later. later);
      })

  -- and the call gave the line that the disk failed
  pub ends_in_disk : (new : ManagerLinkState) → passed ≡ Ended → new.manager ≡ started.manager → new.site ≡ started.site
      → IsLineWith (IsExpected asked) line ⊎ Rose old.balks new.balks → GivesLine asked line (link_state old) (link_state new)
  ends_in_disk new ended manager site expected = record {
    expected = expected;
    told =
        subst (λ o. TellsBy C (told_of old.manager old.site) (told_of o new.site)) (sym manager)
        (subst (λ v. TellsBy C (told_of old.manager old.site) (told_of started.manager v)) (sym site) (again_told C comes));
  }
    where
      C : Form → ℕ → MachineState → MachineState → Type 0
      C x most s u = IsLineWith (λ first. Answers asked first x most s u) line

      tells : mid.site.told ≡ true → TellsDisk asked line
      tells is = let keeps : KeepsAsked asked Ended mid.manager line m mid.site = subst (λ p. KeepsAsked asked p mid.manager line m mid.site) ended over.keeps in keeps.1 is

      comes : (u : MachineState) → mid.site.told ≡ true → Later m.form m.machine u → C m.form m.limit m.machine u
      comes u is later =
          let disk_line = tells is in record {
            told = disk_line.told;
            valid = disk_line.valid;
            text = disk_line.text;
            holds = failed disk_line.holds.1 disk_line.holds.2 later;
          }

-- the manager answered, and goes on
goes_on : (asked : PlainRequest) (kept : Option ManagerState) (line : List ℕ) (m : ManagerState) (old new : ManagerLinkState) (after : MemorySiteState)
    → old.manager ≡ Some m → IsManagerOf old.text old.limit m old.site → (after.told ≡ true → old.site.told ≡ true)
    → KeepsAsked asked Answered kept line m after → new.manager ≡ kept → new.site ≡ after
    → TellsBy (λ x limit s u. IsLineWith (λ told. Answers asked told x limit s u) line) (told_of old.manager old.site) (told_of new.manager new.site)
goes_on asked (Some n) line m old new after there manages still keeps manager site =
    subst (λ o. TellsBy C (told_of o old.site) (told_of new.manager new.site)) (sym there)
    (subst (λ o. TellsBy C (told_of (Some m) old.site) (told_of o new.site)) (sym manager)
    (subst (λ v. TellsBy C (told_of (Some m) old.site) (told_of (Some n) v)) (sym site)
    (answered_tells asked line m n old.site after manages.over still keeps)))
  where
    C : Form → ℕ → MachineState → MachineState → Type 0
    C x most s u = IsLineWith (λ told. Answers asked told x most s u) line
goes_on asked None line m old new after there manages still keeps manager site = absurd keeps

pub answers_line : (asked : PlainRequest) (passed : Passed) (line : List ℕ) (m : ManagerState) (old mid new : ManagerLinkState) → passed ≡ Answered
    → old.manager ≡ Some m → ExchangesOver asked passed line m old mid → new.manager ≡ mid.manager → new.site ≡ mid.site
    → IsLineWith (IsExpected asked) line ⊎ Rose old.balks new.balks → GivesLine asked line (link_state old) (link_state new)
answers_line asked passed line m old mid new answered there over manager site expected = record {
  expected = expected;
  told =
      goes_on asked mid.manager line m old new mid.site there over.manages over.told
      (subst (λ p. KeepsAsked asked p mid.manager line m mid.site) answered over.keeps) manager site;
}

-- what was expected of the reply, or counted
pub expected_of : (asked : PlainRequest) (reply line : List ℕ) (before old new : ℕ) → reply ≡ line → before ≡ old
    → IsLineWith (IsExpected asked) reply ⊎ Rose before new → IsLineWith (IsExpected asked) line ⊎ Rose old new
expected_of asked reply line before old new is same (inl expected) = inl (subst (IsLineWith (IsExpected asked)) is expected)
expected_of asked reply line before old new is same (inr rose) = inr (subst (λ n. Rose n new) same rose)

-- a call that failed in front of its step, and the link was started again
pub fails_in_front : TextsStandForOneExpression → (m : ManagerState) (old started new : ManagerLinkState) → old.manager ≡ Some m
    → IsManagerWhere old.text old.limit old.manager old.site → started.site.told ≡ old.site.told
    → ((n : ManagerState) → started.manager ≡ Some n → StartedFrom old.text old.limit n old.site started.site)
    → old.faults ≤ started.faults → new ≡ record started { faults = one_more started.faults } → Fails (link_state old) (link_state new)
fails_in_front one m old started new there where_ told starts more is =
    let manages = there_manages old.text old.limit old.manager m old.site there where_ in
    let tells : TellsBy (λ x most. Later x) (told_of (Some m) old.site) (told_of started.manager started.site) =
    again_tells (λ x most. Later x) old.text old.limit m old.site old.site started.site started.manager one manages (λ t. t) told starts
    (fits_again m old.site manages.over.fits) (λ u is_told later. later) in
    subst (λ (l : ManagerLinkState). Fails (link_state old) (link_state l)) (sym is) (record {
      counted = omega (arith, more);
      told = subst (λ o. TellsBy (λ x most. Later x) (told_of o old.site) (told_of started.manager started.site)) (sym there) tells;
    })

-- the manager of a link that has one
pub some_manager : (manager : Option ManagerState) → is_some manager ≡ true → (m : ManagerState) × (manager ≡ Some m)
some_manager (Some m) some = (m, refl)
some_manager None some = absurd (true≢false (sym some))

-- a call that was noted before
pub calls_noted : (asked : PlainRequest) (result : Result (Unit {0}) LinkFailed) (sent line : List ℕ) (old before new : ManagerLinkState)
    → before ≡ call_noted sent old → Calls asked result line (link_state before) (link_state new) → Calls asked result line (link_state old) (link_state new)
calls_noted asked result sent line old before new is calls =
    by result (subst (λ b. Calls asked result line (link_state b) (link_state new)) is calls)
  where
    by : (result : Result (Unit {0}) LinkFailed) → Calls asked result line (link_state (call_noted sent old)) (link_state new)
        → Calls asked result line (link_state old) (link_state new)
    by (Ok done) gives = record { expected = gives.expected; told = gives.told }
    by (Err fault) fails = record { counted = fails.counted; told = fails.told }
