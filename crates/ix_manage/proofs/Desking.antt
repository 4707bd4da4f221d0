-- How a `why`, a `next` and a `stuck` end, by what their parts say.
use Rattle.std.proofs.Common.{◌≡◌, ℕ, ◌<◌, ◌≤◌, List, [], length, None, Result, Ok, Err, IfOk, IfErr, refl, sym, ◌∙◌, subst}
use Rattle.std.proofs.lemmas.Option.{none-some}
use Rattle.ix_expr.specs.Form.{Form}
use Rattle.ix_values.specs.PlainAction.{PlainAction, Word, text_of}
use Rattle.ix_values.specs.Texts.{IsAction}
use Rattle.ix_outside.specs.FilesState.{FilesState, OnlyFaults}
use Rattle.ix_outside.proofs.Counting.{Rose-earlier}
use Rattle.ix_parse.specs.Symbols.{Meaning}
use Rattle.ix_can.specs.Laws.{IsProper}
use Rattle.ix_can.specs.TreeOf.{tree_of}
use Rattle.ix_can.proofs.Proper.{proper}
use Rattle.ix_tree.specs.Plain.{Plain}
use Rattle.ix_why.specs.Blames.{refusals}
use Rattle.ix_next.specs.Menu as spec
use Rattle.ix_next.specs.Given.{PlainGiven}
use Rattle.ix_desk.specs.WhyLines.{why_lines}
use Rattle.ix_cli.specs.Words.{Job, stuck}
use Rattle.ix_lines.specs.TextLines.{lines_of}
use Rattle.ix_outside.specs.Files.{HasFile}
use Rattle.ix_next.specs.Lists.{AreGiven, AreGood, HasBadLine}
use Rattle.ix_manage.specs.Desk.{HasBadValues, ReadsValues, bad_line, bad_values, lost_values, many, many_moves, menu, reasons, searched}
use Rattle.ix_manage.specs.Ends.{no_memory, told, unread}
use Rattle.ix_manage.specs.Puts.{LastLine}
use Rattle.ix_manage.specs.Trace.{ReadsPlaced}
use Rattle.ix_manage.specs.declared.job.HistoryWords.{HistoryWords}
use Rattle.ix_manage.specs.declared.job.StuckWords.{StuckWords}
use Rattle.ix_manage.specs.declared.past.Past.{Past}
use Rattle.ix_manage.specs.declared.refusal.Refusal.{Refusal}
use Rattle.ix_manage.specs.declared.refusal.Refusal.TheVariants.{Bad, Candidates, Lost, Memory}
use Rattle.ix_manage.specs.declared.refusal.Input.TheVariants.{Values}
use Rattle.ix_manage.specs.inside.Desks.{IsOffer, IsSearch, NextEnds, RefusesMoves, RefusesOffer, StuckEnds, WhyEnds}
use Rattle.ix_manage.specs.inside.Pasts.{HasPast}
use Rattle.ix_manage.specs.inside.Refusal.{refusal_line, refusal_status}
use Rattle.ix_manage.specs.inside.Values.{RefusesBytes, RefusesValues}
use Rattle.ix_manage.proofs.Ending.{reads_placed}

-- the tree of a history is proper
pub proper_tree : (x : Form) (w : Word) (t : Plain) → t ≡ tree_of x [] w → IsProper x t
proper_tree x w t is = subst (IsProper x) (sym is) (proper x [] w)

-- a why that has its history
pub why_told : (files later : FilesState) (names : HistoryWords) (action line : List ℕ) (past : Past)
    (a : PlainAction) → HasPast files.contents names past → IsAction a → text_of a ≡ action
    → line ≡ why_lines past.places.items past.engine.form
    (refusals past.engine.form (tree_of past.engine.form [] past.engine.history) a)
    → (status : ℕ) (whole part : List ℕ) → LastLine 0 [] line status whole part
    → WhyEnds files later names action status whole part None
why_told files later names action line past a has valid same lines status whole part last site =
    told refl has.reads (λ actions is. has.small) (reasons a has.actions has.allowed valid same)
    (subst (λ l. LastLine 0 [] l status whole part) lines last)

-- a next that has its history and its given values
module _ (files later : FilesState) (names : HistoryWords) (values : List (List ℕ)) (past : Past)
    (given : List PlainGiven) (has : HasPast files.contents names past) (are : AreGiven values given)
  where
    pub next_told : (line lines : List ℕ) → IsOffer past.engine.form past.engine.history given lines
        → line ≡ lines → (status : ℕ) (whole part : List ℕ) → LastLine 0 [] line status whole part
        → NextEnds files later names values status whole part None
    next_told line lines offer same status whole part last site =
        told refl has.reads (λ actions is. has.small)
        (menu given offer.menu has.actions has.allowed are offer.is_menu offer.verdict)
        (subst (λ l. LastLine 0 [] l status whole part) (same ∙ offer.same) last)

    pub next_refused : (refusal : Refusal) → RefusesOffer past.engine.form given refusal
        → (status : ℕ) (whole part : List ℕ)
        → LastLine (refusal_status refusal) [] (refusal_line refusal) status whole part
        → NextEnds files later names values status whole part None
    next_refused Candidates above status whole part last site =
        told refl has.reads (λ actions is. has.small) (many given has.actions has.allowed are above) last
    next_refused Memory short status whole part last site = no_memory last
    next_refused _ why status whole part last site = absurd why

-- what refuses given values behind another load refuses them from the start on
pub values_refused_later : (files mid later : FilesState) (name : List ℕ) (refusal : Refusal) → OnlyFaults files mid
    → RefusesValues mid later name refusal → RefusesValues files later name refusal
values_refused_later files mid later name (Bad Values code at) only why =
    subst (λ known. HasBadValues known name code at) only.contents why
values_refused_later files mid later name (Lost Values) only why = Rose-earlier files.faults mid.faults later.faults only.faults why
values_refused_later files mid later name Memory only why = why
values_refused_later files mid later name _ only why = absurd why

-- given values that are read are those of the file
pub values_ok : (files : FilesState) (name bytes passed : List ℕ) → passed ≡ bytes
    → HasFile files.contents name bytes → length bytes ≤ 67108864
    → {V : Type 0} (items : V → List PlainGiven) (r : Result V Refusal)
    → IfOk r (λ given. AreGood (lines_of passed) (items given)) → IfOk r (λ given. 0 < length (items given))
    → IfOk r (λ given. ReadsValues files.contents name (items given))
values_ok files name bytes passed same file few items (Ok given) good some = record {
  bytes = bytes;
  file = file;
  short = few;
  good = subst (λ b. AreGood (lines_of b) (items given)) same good;
  some = some;
}
values_ok files name bytes passed same file few items (Err refusal) good some = tt

-- and what refuses its bytes refuses it
pub values_err : (files later : FilesState) (name bytes passed : List ℕ) → passed ≡ bytes
    → HasFile files.contents name bytes → length bytes ≤ 67108864
    → {V : Type 0} (r : Result V Refusal)
    → IfErr r (RefusesBytes passed) → IfErr r (RefusesValues files later name)
values_err files later name bytes passed same file few (Ok given) why = tt
values_err files later name bytes passed same file few (Err (Bad Values code at)) why =
    bad_line bytes file few (subst (λ b. HasBadLine b code at) same why)
values_err files later name bytes passed same file few (Err Memory) why = why
values_err files later name bytes passed same file few (Err _) why = absurd why

-- a stuck that has its expression
module _ (files later : FilesState) (names : StuckWords) (x : Meaning)
    (reads : ReadsPlaced files.contents names.expression.now x)
  where
    abbrev job : Job
    job = stuck names.expression.now names.values.now names.limit names.states

    pub values_refused : (refusal : Refusal) → RefusesValues files later names.values.now refusal
        → (status : ℕ) (whole part : List ℕ)
        → LastLine (refusal_status refusal) [] (refusal_line refusal) status whole part
        → StuckEnds files later names status whole part None
    values_refused (Bad Values code at) why status whole part last site =
        unread refl (reads_placed files.contents names.expression.now x reads)
        (λ actions is. absurd (none-some actions is)) (bad_values refl why) last
    values_refused (Lost Values) why status whole part last site =
        unread refl (reads_placed files.contents names.expression.now x reads)
        (λ actions is. absurd (none-some actions is)) (lost_values refl why) last
    values_refused Memory why status whole part last site = no_memory last
    values_refused _ why status whole part last site = absurd why

    module _ (given : List PlainGiven) (has : ReadsValues files.contents names.values.now given) where
      pub moves_refused : (refusal : Refusal) → RefusesMoves x.form given refusal
          → (status : ℕ) (whole part : List ℕ)
          → LastLine (refusal_status refusal) [] (refusal_line refusal) status whole part
          → StuckEnds files later names status whole part None
      moves_refused Candidates above status whole part last site =
          told refl reads (λ actions is. absurd (none-some actions is)) (many_moves given has above) last
      moves_refused Memory short status whole part last site = no_memory last
      moves_refused _ why status whole part last site = absurd why

      pub stuck_told : (moves : Word) (line lines : List ℕ) → moves ≡ spec.moves x.form given
          → IsSearch x moves names.limit names.states lines → line ≡ lines
          → (status : ℕ) (whole part : List ℕ) → LastLine 0 [] line status whole part
          → StuckEnds files later names status whole part None
      stuck_told moves line lines same search is status whole part last site =
          let of_moves = subst (λ m. IsSearch x m names.limit names.states lines) same search in
          told refl reads (λ actions is. absurd (none-some actions is))
          (searched given of_moves.answer has of_moves.is_answer)
          (subst (λ l. LastLine 0 [] l status whole part) (is ∙ of_moves.same) last)
