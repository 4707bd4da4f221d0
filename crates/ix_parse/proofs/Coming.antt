-- Whether a symbol may come is whether the machine makes a step of it.
use Rattle.std.proofs.Common.{◌≡◌, ℕ, suc, ◌≤◌, Bool, true, false, ltb, leb, cond, List, [], ◌∷◌, ◌++◌, length, Option, Some, None, refl, sym, ap, ◌∙◌, arith, lt-ltb}
use Rattle.std.specs.Prelude.{is_some}
use Rattle.ix_expr.specs.declared.arg.Arg.{Arg}
use Rattle.ix_parse.specs.declared.signs.WordClass.{WordClass}
use Rattle.ix_parse.specs.declared.signs.WordClass.TheVariants.{Quantifies, Counts, Names, Other}
use Rattle.ix_parse.specs.Symbols.{Symbol, word, param, opening, closing, comma, before, between, class_of, level, Meaning, joined_meaning, named, argument_of}
use Rattle.ix_parse.specs.Grammar.{Stands}
use Rattle.ix_parse.specs.inside.StackMachine.{Entry, group, sign, binder, counter, left, Config, WithOperand, operand_held, closed, reduced, left_group, step_operand, step_word, step_wanted, step_name, step_argument, step_quantifier, step_times, with_argument, times_with_number, number_of, step, groups}
use Rattle.ix_parse.specs.inside.Judged.{begins_operand, may_begin, may_follow, may_follow_name, may_follow_argument, is_argument, is_param, is_number, may_come}
use Rattle.ix_parse.proofs.Runs.{hole, level-some}
use Rattle.ix_parse.proofs.Holding.{Holds, hole-low, Reads, Ended, Ended-closed, Reads-reduced}

groups-closed : (s : List Entry) (x : Meaning) → groups (closed s x).stack ≡ groups s
groups-closed [] x = refl
groups-closed (group ∷ s) x = refl
groups-closed (sign at p ∷ s) x = groups-closed s _
groups-closed (binder at q p ∷ s) x = groups-closed s _
groups-closed (counter at n ∷ s) x = groups-closed s _
groups-closed (left at o y ∷ s) x = refl

groups-by : (v : Bool) (h g : WithOperand) (n : ℕ) → groups h.stack ≡ n → groups g.stack ≡ n → groups (cond v h g).stack ≡ n
groups-by true h g n first second = first
groups-by false h g n first second = second

groups-reduced : (k : ℕ) (s : List Entry) (x : Meaning) → groups (reduced k s x).stack ≡ groups s
groups-reduced k [] x = refl
groups-reduced k (group ∷ s) x = refl
groups-reduced k (sign at p ∷ s) x = refl
groups-reduced k (binder at q p ∷ s) x = refl
groups-reduced k (counter at n ∷ s) x = refl
groups-reduced k (left at o y ∷ s) x = groups-by (leb k (level o)) (reduced k s (joined_meaning o at y x)) (operand_held (left at o y ∷ s) x) (groups s) (groups-reduced k s (joined_meaning o at y x)) refl

-- a group is inmost where nothing is left to join and one is open
inmost : (s : List Entry) (x : Meaning) → hole s ≤ 1 → ltb 0 (groups s) ≡ is_some (left_group s x)
inmost [] x fits = refl
inmost (group ∷ s) x fits = lt-ltb 0 (suc (groups s)) (omega arith)
inmost (sign at p ∷ s) x fits = absurd (omega arith)
inmost (binder at q p ∷ s) x fits = absurd (omega arith)
inmost (counter at n ∷ s) x fits = absurd (omega arith)
inmost (left at o y ∷ s) x fits = let some = level-some o in absurd (omega arith)

closes : (all : List Symbol) (h : WithOperand) → Ended all h → ltb 0 (groups h.stack) ≡ is_some (step_operand h.stack h.operand closing)
closes all h e =
    let r = Reads-reduced 1 6 e.front e.operand h.stack h.operand (omega arith) (omega arith) (omega arith) (hole-low h.stack) e.clear e.stands e.holds in
    ap (λ n. ltb 0 n) (sym (groups-reduced 1 h.stack h.operand)) ∙ inmost (reduced 1 h.stack h.operand).stack (reduced 1 h.stack h.operand).operand r.fits

comes-word : (s : List Entry) (at : ℕ) (w : List ℕ) (k : WordClass) → begins_operand k ≡ is_some (step_word s at w k)
comes-word s at w (Quantifies q) = refl
comes-word s at w Counts = refl
comes-word s at w Names = refl
comes-word s at w Other = refl

comes-wanted : (s : List Entry) (t : Symbol) → may_begin t ≡ is_some (step_wanted s t)
comes-wanted s (word at w) = comes-word s at w (class_of w)
comes-wanted s (param p) = refl
comes-wanted s opening = refl
comes-wanted s closing = refl
comes-wanted s comma = refl
comes-wanted s (before at p) = refl
comes-wanted s (between at o) = refl

comes-name : (ts : List Symbol) (s : List Entry) (at : ℕ) (w : List ℕ) (t : Symbol) → class_of w ≡ Names → Holds ts s → may_follow_name (ltb 0 (groups s)) t ≡ is_some (step_name s at w t)
comes-name ts s at w (word at' w') is h = refl
comes-name ts s at w (param p) is h = refl
comes-name ts s at w opening is h = refl
comes-name ts s at w closing is h = ap (λ n. ltb 0 n) (sym (groups-closed s (named at w []))) ∙ closes (ts ++ word at w ∷ []) (closed s (named at w [])) (Ended-closed ts (word at w ∷ []) s (named at w []) h (Stands.bare at w is))
comes-name ts s at w comma is h = refl
comes-name ts s at w (before at' p) is h = refl
comes-name ts s at w (between at' o) is h = refl

comes-argument : (s : List Entry) (at : ℕ) (w : List ℕ) (args : List Arg) (t : Symbol) → is_argument t ≡ is_some (with_argument s at w args (argument_of t))
comes-argument s at w args (word at' w') = refl
comes-argument s at w args (param p) = refl
comes-argument s at w args opening = refl
comes-argument s at w args closing = refl
comes-argument s at w args comma = refl
comes-argument s at w args (before at' p) = refl
comes-argument s at w args (between at' o) = refl

some-by : (v : Bool) (c : Config) → v ≡ is_some (cond v (Some c) None)
some-by true c = refl
some-by false c = refl

comes-behind_argument : (s : List Entry) (at : ℕ) (w : List ℕ) (args : List Arg) (t : Symbol) → may_follow_argument (length args) t ≡ is_some (step_argument s at w args t)
comes-behind_argument s at w args (word at' w') = refl
comes-behind_argument s at w args (param p) = refl
comes-behind_argument s at w args opening = refl
comes-behind_argument s at w args closing = refl
comes-behind_argument s at w args comma = some-by (ltb (length args) 4) _
comes-behind_argument s at w args (before at' p) = refl
comes-behind_argument s at w args (between at' o) = refl

comes-quantifier : (s : List Entry) (at : ℕ) (q : _) (t : Symbol) → is_param t ≡ is_some (step_quantifier s at q t)
comes-quantifier s at q (word at' w) = refl
comes-quantifier s at q (param p) = refl
comes-quantifier s at q opening = refl
comes-quantifier s at q closing = refl
comes-quantifier s at q comma = refl
comes-quantifier s at q (before at' p) = refl
comes-quantifier s at q (between at' o) = refl

comes-number : (s : List Entry) (at : ℕ) (o : Option ℕ) → is_some o ≡ is_some (times_with_number s at o)
comes-number s at None = refl
comes-number s at (Some n) = refl

comes-times : (s : List Entry) (at : ℕ) (t : Symbol) → is_number t ≡ is_some (step_times s at t)
comes-times s at (word at' w) = comes-number s at (number_of w)
comes-times s at (param p) = refl
comes-times s at opening = refl
comes-times s at closing = refl
comes-times s at comma = refl
comes-times s at (before at' p) = refl
comes-times s at (between at' o) = refl

comes-operand : (all : List Symbol) (s : List Entry) (x : Meaning) (t : Symbol) → Ended all (operand_held s x) → may_follow (ltb 0 (groups s)) t ≡ is_some (step_operand s x t)
comes-operand all s x (word at w) e = refl
comes-operand all s x (param p) e = refl
comes-operand all s x opening e = refl
comes-operand all s x closing e = closes all (operand_held s x) e
comes-operand all s x comma e = refl
comes-operand all s x (before at p) e = refl
comes-operand all s x (between at o) e = refl

-- a symbol may come exactly where the machine makes a step of it
pub may_come-step : (ts : List Symbol) (c : Config) (t : Symbol) → Reads ts c → may_come c t ≡ is_some (step c t)
may_come-step _ _ t (Reads.at_operand ts s h) = comes-wanted s t
may_come-step _ _ t (Reads.at_name ts s at w is h) = comes-name ts s at w t is h
may_come-step _ _ t (Reads.at_argument ts us s at w args is listed few h) = comes-argument s at w args t
may_come-step _ _ t (Reads.behind_argument ts us s at w args is listed few h) = comes-behind_argument s at w args t
may_come-step _ _ t (Reads.behind_quantifier ts s at w q is h) = comes-quantifier s at q t
may_come-step _ _ t (Reads.behind_times ts s at w is h) = comes-times s at t
may_come-step _ _ t (Reads.behind_operand ts us s x clear stands h) = comes-operand (ts ++ us) s x t (record { front = ts; operand = us; split = refl; clear = clear; stands = stands; holds = h })
