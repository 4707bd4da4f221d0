-- How a work ends, by what its parts say.
use Rattle.std.proofs.Common.{◌≡◌, ◌∙◌, ◌≤◌, ℕ, List, [], None, length, subst}
use Rattle.ix_expr.specs.Form.{Form}
use Rattle.ix_parse.specs.Faults.{StandsFor}
use Rattle.ix_can.specs.TreeOf.{tree_size}
use Rattle.ix_generate.specs.Workload.{examinations}
use Rattle.ix_manage.specs.Ends.{no_memory, worked}
use Rattle.ix_manage.specs.Puts.{LastLine}
use Rattle.ix_manage.specs.Trace.{large_line}
use Rattle.ix_manage.specs.Work.{above, asked, history_of, work_line}
use Rattle.ix_manage.specs.inside.Refusal.{RefusesWorkload, refusal_line, refusal_status}
use Rattle.ix_manage.specs.inside.Working.{Sums, WorkEnds}
use Rattle.ix_manage.specs.declared.job.WorkWords.{WorkWords}
use Rattle.ix_manage.specs.declared.refusal.Refusal.{Refusal}
use Rattle.ix_manage.specs.declared.refusal.Refusal.TheVariants.{Large, Memory}
use Rattle.ix_manage.specs.declared.work.Summary.{Summary}

-- no engine was made
pub refused_work : (names : WorkWords) (refusal : Refusal) → RefusesWorkload names.limit refusal
    → (status : ℕ) (whole part : List ℕ)
    → LastLine (refusal_status refusal) [] (refusal_line refusal) status whole part
    → WorkEnds names status whole part None
refused_work names (Large most) why status whole part last files site =
    worked (above why.1.1 why.1.2
    (subst (λ l. LastLine 3 [] (large_line l) status whole part) why.0 last))
refused_work names Memory why status whole part last files site = no_memory last
refused_work names _ why _ _ _ _ _ _ = absurd why

-- memory ran out at an ask
pub short_work : (names : WorkWords) (status : ℕ) (whole part : List ℕ)
    → LastLine (refusal_status Memory) [] (refusal_line Memory) status whole part
    → WorkEnds names status whole part None
short_work names status whole part last files site = no_memory last

-- the asks were made
module _ (names : WorkWords) (x : Form) (summary : Summary) (stands : StandsFor examinations x)
    (small : tree_size x [] ≤ names.limit) (sums : Sums x names summary)
  where
    same_line : work_line summary.asked summary.granted summary.refused summary.nodes
        ≡ work_line names.count (length sums.asks) summary.refused
        (tree_size x (history_of sums.asks))
    same_line = λ i.
        work_line (sums.asked_is i) (sums.granted_is i) summary.refused (sums.nodes_is i)

    pub work_ends : (line : List ℕ)
        → line ≡ work_line summary.asked summary.granted summary.refused summary.nodes
        → (status : ℕ) (whole part : List ℕ) → LastLine 0 [] line status whole part
        → WorkEnds names status whole part None
    work_ends line is status whole part last files site =
        worked (asked stands small sums.made
        (subst (λ l. LastLine 0 [] l status whole part) (is ∙ same_line) last))
