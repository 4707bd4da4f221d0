-- How a `why`, a `next` and a `stuck` may end.
use Rattle.std.specs.Prelude.{◌≡◌, ℕ, ◌<◌, List, ◌++◌, Option, length, true, false, ⊤}
use Rattle.ix_next.specs.declared.menu.TheConstants.{CANDIDATE_LIMIT, MOVE_LIMIT}
use Rattle.ix_values.specs.PlainAction.{Word}
use Rattle.ix_expr.specs.Form.{Form}
use Rattle.ix_outside.specs.FilesState.{FilesState}
use Rattle.ix_outside.specs.SiteState.{SiteState}
use Rattle.ix_cli.specs.Words.{why, next, stuck}
use Rattle.ix_next.specs.Given.{PlainGiven}
use Rattle.ix_next.specs.Candidates.{PlainCandidate, candidates}
use Rattle.ix_next.specs.Menu.{IsMenu}
use Rattle.ix_desk.specs.MenuLines.{menu_lines}
use Rattle.ix_desk.specs.StuckLines.{stuck_lines}
use Rattle.ix_parse.specs.Symbols.{Meaning}
use Rattle.ix_stuck.specs.Answers.{IsAnswer}
use Rattle.ix_stuck.specs.declared.answer.Answer.{Answer}
use Rattle.ix_manage.specs.Around.{around_of}
use Rattle.ix_manage.specs.Ends.{JobEnds}
use Rattle.ix_manage.specs.Session.{Session}
use Rattle.ix_manage.specs.Trace.{Verdict}
use Rattle.ix_manage.specs.declared.job.HistoryWords.{HistoryWords}
use Rattle.ix_manage.specs.declared.job.StuckWords.{StuckWords}
use Rattle.ix_manage.specs.declared.refusal.Refusal.{Refusal}
use Rattle.ix_manage.specs.declared.refusal.Refusal.TheVariants.{Candidates, Memory}

-- how each may end, whatever the site, which it leaves as it is
abbrev pub WhyEnds : FilesState → FilesState → HistoryWords → List ℕ
    → ℕ → List ℕ → List ℕ → Option Session → Type 0
WhyEnds files later names action status whole part session = (site : SiteState)
    → JobEnds (around_of files later site site)
    (why names.expression.now names.actions.now action names.limit) status whole part session

abbrev pub NextEnds : FilesState → FilesState → HistoryWords → List (List ℕ)
    → ℕ → List ℕ → List ℕ → Option Session → Type 0
NextEnds files later names values status whole part session = (site : SiteState)
    → JobEnds (around_of files later site site)
    (next names.expression.now names.actions.now values names.limit) status whole part session

abbrev pub StuckEnds : FilesState → FilesState → StuckWords
    → ℕ → List ℕ → List ℕ → Option Session → Type 0
StuckEnds files later names status whole part session = (site : SiteState)
    → JobEnds (around_of files later site site)
    (stuck names.expression.now names.values.now names.limit names.states)
    status whole part session

-- the lines of the menu behind a history, and the last line
pub record IsOffer (x : Form) (w : Word) (given : List PlainGiven) (lines : List ℕ) : Type 0 where
  pub menu : List PlainCandidate
  pub is_menu : IsMenu x w given menu
  pub last : List ℕ
  pub verdict : Verdict x w last
  pub same : lines ≡ menu_lines menu ++ last

-- why there is no menu
abbrev pub RefusesOffer : Form → List PlainGiven → Refusal → Type 0
RefusesOffer x given Candidates = CANDIDATE_LIMIT < length (candidates true x given)
RefusesOffer x given Memory = ⊤
RefusesOffer x given _ = ⊥

-- the lines of what the moves can lead to
pub record IsSearch (x : Meaning) (moves : Word) (limit states : ℕ) (lines : List ℕ) : Type 0 where
  pub answer : Answer
  pub is_answer : IsAnswer x.form moves limit answer
  pub same : lines ≡ stuck_lines states x.places x.form answer

-- why there are no moves
abbrev pub RefusesMoves : Form → List PlainGiven → Refusal → Type 0
RefusesMoves x given Candidates = MOVE_LIMIT < length (candidates false x given)
RefusesMoves x given Memory = ⊤
RefusesMoves x given _ = ⊥
