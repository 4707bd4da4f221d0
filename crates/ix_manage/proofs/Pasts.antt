-- How a job ends that takes the actions of a file as its history, where it can't.
use Rattle.std.proofs.Common.{◌≡◌, ℕ, ◌≤◌, ◌<◌, List, [], length, Some, codes, refl, sym, ◌∙◌, subst}
use Rattle.ix_expr.specs.Form.{Form}
use Rattle.ix_values.specs.PlainAction.{Word}
use Rattle.ix_outside.specs.FilesState.{FilesState}
use Rattle.ix_outside.specs.Files.{HasFile}
use Rattle.ix_parse.specs.Symbols.{Meaning}
use Rattle.ix_can.specs.TreeOf.{tree_size}
use Rattle.ix_engine.specs.Histories.{StopsAt}
use Rattle.ix_engine.specs.declared.faults.PrepareFault.{PrepareFault}
use Rattle.ix_engine.specs.declared.faults.PrepareFault.TheVariants as why
use Rattle.ix_engine.specs.declared.faults.ResumeFault.{ResumeFault}
use Rattle.ix_cli.specs.Words.{Job}
use Rattle.ix_manage.specs.ActionLines.{HasActions}
use Rattle.ix_manage.specs.Command.{history_file_of, limit_of}
use Rattle.ix_manage.specs.Desk.{IsHistoryCode, IsAnswered, bad_actions, lost_actions, not_allowed}
use Rattle.ix_manage.specs.Ends.{large, no_memory, told, unread}
use Rattle.ix_manage.specs.Puts.{LastLine}
use Rattle.ix_manage.specs.Trace.{ReadsForm, ReadsPlaced, fault_line, large_line}
use Rattle.ix_manage.specs.declared.job.HistoryWords.{HistoryWords}
use Rattle.ix_manage.specs.declared.refusal.Refusal.{Refusal}
use Rattle.ix_manage.specs.declared.refusal.Refusal.TheVariants.{Bad, Large, Lost, Memory}
use Rattle.ix_manage.specs.declared.refusal.Input.TheVariants.{Actions}
use Rattle.ix_manage.specs.inside.Pasts.{EndsBefore, RefusesPast, refusal_by, short, stops}
use Rattle.ix_manage.specs.inside.Refusal.{RefusesActions, RefusesExpression, RefusesForm}
use Rattle.ix_manage.proofs.Ending.{expression_refused, reads_placed}

module _ (files later : FilesState) (names : HistoryWords) where
  -- no expression is read
  pub expression_ends : (refusal : Refusal) → RefusesExpression files later names.expression.now refusal
      → EndsBefore files later names refusal
  expression_ends refusal why job expression history limit rest =
      expression_refused files later job names.expression.now expression refusal why

  -- its initial tree is above the limit
  pub form_ends : (x : Form) → ReadsForm files.contents names.expression.now x → (refusal : Refusal)
      → RefusesForm x names.limit refusal → EndsBefore files later names refusal
  form_ends x reads (Large most) why job expression history limit rest status whole part last site =
      large expression rest
      (record { form = x; reads = reads; above = subst (λ n. n < tree_size x []) (sym limit) why.1 })
      (subst (λ n. LastLine 3 [] (large_line n) status whole part) (why.0 ∙ sym limit) last)
  form_ends x reads Memory why job expression history limit rest status whole part last site = no_memory last
  form_ends x reads _ why job expression history limit rest status whole part last site = absurd why

  module _ (x : Meaning) (reads : ReadsPlaced files.contents names.expression.now x)
      (small : tree_size x.form [] ≤ names.limit)
    where
      within : (job : Job) → limit_of job ≡ names.limit → (actions : List ℕ) → history_file_of job ≡ Some actions
          → tree_size x.form [] ≤ limit_of job
      within job limit actions is = subst (λ n. tree_size x.form [] ≤ n) (sym limit) small

      -- no actions are read
      pub actions_end : (refusal : Refusal) → RefusesActions files later names.actions.now refusal
          → EndsBefore files later names refusal
      actions_end (Bad Actions code at) why job expression history limit rest status whole part last site =
          unread expression (reads_placed files.contents names.expression.now x reads) (within job limit)
          (bad_actions history why) last
      actions_end (Lost Actions) why job expression history limit rest status whole part last site =
          unread expression (reads_placed files.contents names.expression.now x reads) (within job limit)
          (lost_actions history why) last
      actions_end Memory why job expression history limit rest status whole part last site = no_memory last
      actions_end _ why job expression history limit rest status whole part last site = absurd why

      -- an action isn't allowed
      module _ (bytes : List ℕ) (file : HasFile files.contents names.actions.now bytes)
          (few : length bytes ≤ 67108864)
        where
          at_code : {word : Word} (fault : ResumeFault) (code : ℕ) → HasActions bytes word
              → StopsAt x.form names.limit word fault → IsHistoryCode fault.why code
              → (job : Job) → history_file_of job ≡ Some names.actions.now → limit_of job ≡ names.limit
              → IsAnswered files.contents x job 11 (fault_line (codes "history") code fault.number)
          at_code {word = word} fault code has stopped coded job history limit =
              not_allowed code fault history
              (record { bytes = bytes; file = file; short = few; has = has })
              (subst (λ n. StopsAt x.form n word fault) (sym limit) stopped) coded

          of_fault : {word : Word} (fault : ResumeFault) (cause : PrepareFault) → fault.why ≡ cause
              → HasActions bytes word → StopsAt x.form names.limit word fault
              → EndsBefore files later names (refusal_by cause fault.number)
          of_fault fault why.NotPartial is has stopped job expression history limit rest status whole part last site =
              told expression reads (within job limit)
              (at_code fault 62 has stopped (subst (λ w. IsHistoryCode w 62) (sym is) refl) job history limit) last
          of_fault fault why.Full is has stopped job expression history limit rest status whole part last site =
              told expression reads (within job limit)
              (at_code fault 63 has stopped (subst (λ w. IsHistoryCode w 63) (sym is) refl) job history limit) last
          of_fault fault (why.Over most) is has stopped job expression history limit rest status whole part last site =
              told expression reads (within job limit)
              (at_code fault 64 has stopped (subst (λ w. IsHistoryCode w 64) (sym is) refl) job history limit) last
          of_fault fault why.Memory is has stopped job expression history limit rest status whole part last site =
              no_memory last

          pub past_ends : (refusal : Refusal) → RefusesPast x.form names.limit bytes refusal
              → EndsBefore files later names refusal
          past_ends refusal (stops fault has stopped same) =
              subst (EndsBefore files later names) (sym same) (of_fault fault fault.why refl has stopped)
          past_ends refusal (short same) = subst (EndsBefore files later names) (sym same)
              (λ job expression history limit rest status whole part last site. no_memory last)
