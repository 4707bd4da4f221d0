-- What `work` asks for, and what it puts.
use Rattle.std.specs.Prelude.{ℕ, suc, ◌<◌, ◌≤◌, List, [], ◌∷◌, ◌++◌, length, map, codes}
use Rattle.std.specs.Prelude.{decimal}
use Rattle.ix_values.specs.PlainAction.{Word}
use Rattle.ix_expr.specs.Form.{Form}
use Rattle.ix_parse.specs.Faults.{StandsFor}
use Rattle.ix_can.specs.TreeOf.{tree_size}
use Rattle.ix_engine.specs.Allowed.{IsAllowed}
use Rattle.ix_generate.specs.Workload.{Ask, asked_action, examinations}
use Rattle.ix_generate.specs.History.{ask_behind, number_behind}
use Rattle.ix_manage.specs.ActionLines.{line}
use Rattle.ix_manage.specs.Puts.{LastLine}
use Rattle.ix_manage.specs.Trace.{large_line}

-- what is asked for behind so many asks, of which these were granted
abbrev pub next_ask : ℕ → ℕ → List Ask → Ask
next_ask seed count granted = ask_behind granted (number_behind seed count)

-- the history of granted asks: their actions
abbrev pub history_of : List Ask → Word
history_of granted = map asked_action granted

-- So many asks of the workload of a seed, with their answers: these were granted, and so many were
-- refused. An ask is granted exactly where its action is allowed behind those granted before.
pub data Asked (x : Form) (limit seed : ℕ) : ℕ → List Ask → ℕ → Type 0 where
  none : Asked x limit seed 0 [] 0
  grant : {count refused : ℕ} {granted : List Ask} → Asked x limit seed count granted refused
      → IsAllowed x limit (history_of granted) (asked_action (next_ask seed count granted))
      → Asked x limit seed (suc count) (granted ++ next_ask seed count granted ∷ []) refused
  refuse : {count refused : ℕ} {granted : List Ask} → Asked x limit seed count granted refused
      → ¬ IsAllowed x limit (history_of granted) (asked_action (next_ask seed count granted))
      → Asked x limit seed (suc count) granted (suc refused)

-- the line at the end: how many asks there were, were granted and were refused, and the Size of the
-- tree of the history
abbrev pub work_line : ℕ → ℕ → ℕ → ℕ → List ℕ
work_line asked granted refused nodes = line (codes "asked " ++ decimal asked
    ++ codes " granted " ++ decimal granted ++ codes " refused " ++ decimal refused
    ++ codes " nodes " ++ decimal nodes)

-- What `work` may put for so many asks of the workload of a seed, where memory doesn't run out, by
-- the status. The expression is the one that the text of the workload stands for.
pub data Works (count seed limit : ℕ) : ℕ → List ℕ → List ℕ → Type 0 where
  above : {x : Form} {status : ℕ} {whole part : List ℕ}
      → StandsFor examinations x → limit < tree_size x []
      → LastLine 3 [] (large_line limit) status whole part
      → Works count seed limit status whole part
  asked : {x : Form} {granted : List Ask} {refused status : ℕ} {whole part : List ℕ}
      → StandsFor examinations x → tree_size x [] ≤ limit
      → Asked x limit seed count granted refused
      → LastLine 0 []
      (work_line count (length granted) refused (tree_size x (history_of granted)))
      status whole part
      → Works count seed limit status whole part
