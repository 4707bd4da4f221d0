-- The tests of a fault tell whether it is met.
use Rattle.std.proofs.Common.{◌≡◌, ℕ, suc, Bool, true, false, not, leb, List, [], ◌∷◌, ◌++◌, length, Option, Some, None, refl, sym, ap, ◌∙◌, subst, arith, lt-ltb, ltb-true, leb-true, eqb-true, eq-eqb, ◌&&◌}
use Rattle.std.specs.Prelude.{is_some}
use Rattle.ix_lex.specs.Lexing.{PlainToken, Piece, token, bad_byte}
use Rattle.ix_lex.proofs.PiecesOf.{both_true}
use Rattle.ix_parse.specs.declared.faults.Fault.{Fault}
use Rattle.ix_parse.specs.declared.faults.Fault.TheVariants as faults
use Rattle.ix_parse.specs.declared.signs.WordClass.{WordClass}
use Rattle.ix_parse.specs.declared.signs.WordClass.TheVariants.{Quantifies, Counts, Names, Other}
use Rattle.ix_parse.specs.Symbols.{Symbol, word, param, opening, closing, comma, before, between, symbol_of, class_of, IsNumberWord}
use Rattle.ix_parse.specs.Grammar.{CanGoOn, Wanted, AfterTimes, AfterArgument}
use Rattle.ix_parse.specs.Faults.{ParamNext, WordNext, BeginsNoOperand, TakesOperand, OpensLevel, IsNode, Nodes, IsLong, Met}
use Rattle.ix_parse.specs.inside.StackMachine.{Mode, Config, config, step, step_some, run, start, levels, number_of}
use Rattle.ix_parse.specs.inside.Judged.{is_wanted, is_param_next, is_word_next, begins_nothing, is_reserved_word, is_times, is_no_number, is_comma, has_four, may_come, is_long, takes_operand, opens_level, is_node, meets, as_follower, follower_of}
use Rattle.ix_parse.proofs.Runs.{run-append, run-wanted, run-after_times, run-after_argument, run-can}
use Rattle.ix_parse.proofs.Numbers.{number-is, number-when}
use Rattle.ix_parse.proofs.Holding.{Reads, Holds-cut}
use Rattle.ix_parse.proofs.Steps.{Reads-step, Reads-start, Reads-can, some_is}
use Rattle.ix_parse.proofs.Coming.{may_come-step}

both : (a b : Bool) → a ≡ true → b ≡ true → a && b ≡ true
both a b e f = rw (e, f) refl

not_both : {A : Type 0} (v : Bool) → v ≡ true → v ≡ false → A
not_both v e f = absurd cc

-- a parameter is next
param-is : (t : PlainToken) (rest : List Piece) (u : Symbol) → symbol_of t ≡ u → is_param_next (as_follower u) ≡ true → ParamNext (token t ∷ rest)
param-is t rest (word at w) is e = absurd cc
param-is t rest (param p) is e = ParamNext.param_next t p rest is
param-is t rest opening is e = absurd cc
param-is t rest closing is e = absurd cc
param-is t rest comma is e = absurd cc
param-is t rest (before at p) is e = absurd cc
param-is t rest (between at o) is e = absurd cc

ParamNext-when : (rest : List Piece) → is_param_next (follower_of rest) ≡ true → ParamNext rest
ParamNext-when [] e = absurd cc
ParamNext-when (token t ∷ rest) e = param-is t rest (symbol_of t) refl e
ParamNext-when (bad_byte at ∷ rest) e = absurd cc

ParamNext-is : (rest : List Piece) → ParamNext rest → is_param_next (follower_of rest) ≡ true
ParamNext-is _ (ParamNext.param_next t p rest is) = ap (λ u. is_param_next (as_follower u)) is

-- a word is next
word-is : (t : PlainToken) (rest : List Piece) (u : Symbol) → symbol_of t ≡ u → is_word_next (as_follower u) ≡ true → WordNext (token t ∷ rest)
word-is t rest (word at w) is e = WordNext.word_next t at w rest is
word-is t rest (param p) is e = absurd cc
word-is t rest opening is e = absurd cc
word-is t rest closing is e = absurd cc
word-is t rest comma is e = absurd cc
word-is t rest (before at p) is e = absurd cc
word-is t rest (between at o) is e = absurd cc

WordNext-when : (rest : List Piece) → is_word_next (follower_of rest) ≡ true → WordNext rest
WordNext-when [] e = absurd cc
WordNext-when (token t ∷ rest) e = word-is t rest (symbol_of t) refl e
WordNext-when (bad_byte at ∷ rest) e = absurd cc

WordNext-is : (rest : List Piece) → WordNext rest → is_word_next (follower_of rest) ≡ true
WordNext-is _ (WordNext.word_next t at w rest is) = ap (λ u. is_word_next (as_follower u)) is

-- a word that begins nothing
begins-when : (w : List ℕ) (rest : List Piece) (k : WordClass) → class_of w ≡ k → begins_nothing k (follower_of rest) ≡ true → BeginsNoOperand w rest
begins-when w rest (Quantifies q) is e = BeginsNoOperand.no_param w q rest is (λ next. not_both (not (is_param_next (follower_of rest))) e (ap not (ParamNext-is rest next)))
begins-when w rest Counts is e = BeginsNoOperand.no_word w rest is (λ next. not_both (not (is_word_next (follower_of rest))) e (ap not (WordNext-is rest next)))
begins-when w rest Names is e = absurd cc
begins-when w rest Other is e = absurd cc

not-true : (v : Bool) → (v ≡ true → ⊥) → not v ≡ true
not-true true never = absurd (never refl)
not-true false never = refl

begins-is : (w : List ℕ) (rest : List Piece) → BeginsNoOperand w rest → begins_nothing (class_of w) (follower_of rest) ≡ true
begins-is _ _ (BeginsNoOperand.no_word w rest is none) = ap (λ k. begins_nothing k (follower_of rest)) is ∙ not-true (is_word_next (follower_of rest)) (λ e. none (WordNext-when rest e))
begins-is _ _ (BeginsNoOperand.no_param w q rest is none) = ap (λ k. begins_nothing k (follower_of rest)) is ∙ not-true (is_param_next (follower_of rest)) (λ e. none (ParamNext-when rest e))

-- of the symbols behind others, so many are nodes' tokens and no other number
pub Nodes-unique : (ts us : List Symbol) (n m : ℕ) → Nodes ts us n → Nodes ts us m → n ≡ m
Nodes-unique _ _ _ m (Nodes.none ts) second = empty m second
  where
    empty : (m : ℕ) → Nodes ts [] m → 0 ≡ m
    empty _ (Nodes.none _) = refl
Nodes-unique _ _ _ m (Nodes.node ts us t n is more) second = on-node m second (λ k others. Nodes-unique (ts ++ t ∷ []) us n k more others)
  where
    on-node : (m : ℕ) → Nodes ts (t ∷ us) m → ((k : ℕ) → Nodes (ts ++ t ∷ []) us k → n ≡ k) → suc n ≡ m
    on-node _ (Nodes.node _ _ _ k is' others) same = ap suc (same k others)
    on-node _ (Nodes.other _ _ _ k not_one others) same = absurd (not_one is)
Nodes-unique _ _ _ m (Nodes.other ts us t n not_one more) second = on-other m second (λ k others. Nodes-unique (ts ++ t ∷ []) us n k more others)
  where
    on-other : (m : ℕ) → Nodes ts (t ∷ us) m → ((k : ℕ) → Nodes (ts ++ t ∷ []) us k → n ≡ k) → n ≡ m
    on-other _ (Nodes.node _ _ _ k is others) same = absurd (not_one is)
    on-other _ (Nodes.other _ _ _ k not_one' others) same = same k others

pub long-when : (u : Symbol) → is_long u ≡ true → IsLong u
long-when (word at w) e = ltb-true 32 (length w) e
long-when (param p) e = ltb-true 32 (length p) e
long-when opening e = absurd cc
long-when closing e = absurd cc
long-when comma e = absurd cc
long-when (before at p) e = absurd cc
long-when (between at o) e = absurd cc

long-is : (u : Symbol) → IsLong u → is_long u ≡ true
long-is (word at w) long = lt-ltb 32 (length w) long
long-is (param p) long = lt-ltb 32 (length p) long
long-is opening long = absurd long
long-is closing long = absurd long
long-is comma long = absurd long
long-is (before at p) long = absurd long
long-is (between at o) long = absurd long

takes-when : (k : WordClass) → takes_operand k ≡ true → TakesOperand k
takes-when (Quantifies q) e = tt
takes-when Counts e = tt
takes-when Names e = absurd cc
takes-when Other e = absurd cc

takes-is : (k : WordClass) → TakesOperand k → takes_operand k ≡ true
takes-is (Quantifies q) takes = refl
takes-is Counts takes = refl
takes-is Names takes = absurd takes
takes-is Other takes = absurd takes

opens-when : (u : Symbol) → opens_level u ≡ true → OpensLevel u
opens-when (word at w) e = takes-when (class_of w) e
opens-when (param p) e = absurd cc
opens-when opening e = tt
opens-when closing e = absurd cc
opens-when comma e = absurd cc
opens-when (before at p) e = tt
opens-when (between at o) e = absurd cc

opens-is : (u : Symbol) → OpensLevel u → opens_level u ≡ true
opens-is (word at w) opens = takes-is (class_of w) opens
opens-is (param p) opens = absurd opens
opens-is opening opens = refl
opens-is closing opens = absurd opens
opens-is comma opens = absurd opens
opens-is (before at p) opens = refl
opens-is (between at o) opens = absurd opens

wanted-by : (ts : List Symbol) (d : Config) → Reads ts d → is_wanted d.mode ≡ true → Wanted (levels d.stack) ts
wanted-by _ _ (Reads.at_operand ts s h) e = record { hole = _; cut = Holds-cut ts s h }
wanted-by _ _ (Reads.at_name ts s at w is h) e = absurd cc
wanted-by _ _ (Reads.at_argument ts us s at w args is listed few h) e = absurd cc
wanted-by _ _ (Reads.behind_argument ts us s at w args is listed few h) e = absurd cc
wanted-by _ _ (Reads.behind_quantifier ts s at w q is h) e = absurd cc
wanted-by _ _ (Reads.behind_times ts s at w is h) e = absurd cc
wanted-by _ _ (Reads.behind_operand ts us s x clear stands h) e = absurd cc

four-by : (ts : List Symbol) (d : Config) → Reads ts d → has_four d.mode ≡ true → AfterArgument 4 ts
four-by _ _ (Reads.at_operand ts s h) e = absurd cc
four-by _ _ (Reads.at_name ts s at w is h) e = absurd cc
four-by _ _ (Reads.at_argument ts us s at w args is listed few h) e = absurd cc
four-by _ _ (Reads.behind_argument ts us s at w args is listed few h) e =
    let at_least = leb-true 4 (length args) e in
    let same : length args ≡ 4 = omega arith in
    subst (λ n. AfterArgument n (ts ++ word at w ∷ opening ∷ us)) same (AfterArgument.after (levels s) at w ts us args (record { hole = _; cut = Holds-cut ts s h }) is listed)
four-by _ _ (Reads.behind_quantifier ts s at w q is h) e = absurd cc
four-by _ _ (Reads.behind_times ts s at w is h) e = absurd cc
four-by _ _ (Reads.behind_operand ts us s x clear stands h) e = absurd cc

times-by : (ts : List Symbol) (d : Config) → Reads ts d → is_times d.mode ≡ true → AfterTimes ts
times-by _ _ (Reads.at_operand ts s h) e = absurd cc
times-by _ _ (Reads.at_name ts s at w is h) e = absurd cc
times-by _ _ (Reads.at_argument ts us s at w args is listed few h) e = absurd cc
times-by _ _ (Reads.behind_argument ts us s at w args is listed few h) e = absurd cc
times-by _ _ (Reads.behind_quantifier ts s at w q is h) e = absurd cc
times-by _ _ (Reads.behind_times ts s at w is h) e = AfterTimes.behind (levels s) at w ts (record { hole = _; cut = Holds-cut ts s h }) is
times-by _ _ (Reads.behind_operand ts us s x clear stands h) e = absurd cc

-- a word that stands for no number
no-number-when : (w : List ℕ) → not (is_some (number_of w)) ≡ true → (n : ℕ) → ¬ IsNumberWord w n
no-number-when w e n is = not_both (not (is_some (number_of w))) e (ap (λ (o : Option ℕ). not (is_some o)) (number-is w n is))

no-number-is : (w : List ℕ) → ((n : ℕ) → ¬ IsNumberWord w n) → not (is_some (number_of w)) ≡ true
no-number-is w none = by-option (number_of w) refl
  where
    by-option : (o : Option ℕ) → number_of w ≡ o → not (is_some o) ≡ true
    by-option None e = refl
    by-option (Some n) e = absurd (none n (number-when w n e))

-- where the machine stands after the symbols ts
module _ (ts : List Symbol) (c : Config) (ran : run (Some start) ts ≡ Some c) where
  reads : Reads ts c
  reads = Reads-start ts c ran

  pub wanted-when : is_wanted c.mode ≡ true → Wanted (levels c.stack) ts
  wanted-when e = wanted-by ts c reads e

  pub wanted-is : (d : ℕ) → Wanted d ts → (is_wanted c.mode ≡ true) × (levels c.stack ≡ d)
  wanted-is d wants =
      let r = run-wanted d ts wants in
      let same : config r.stack Mode.wanted ≡ c = some_is _ c (sym r.is ∙ ran) in
      (ap (λ (b : Config). is_wanted b.mode) (sym same), ap (λ (b : Config). levels b.stack) (sym same) ∙ (let deeper = r.deeper in omega arith))

  pub four-when : has_four c.mode ≡ true → AfterArgument 4 ts
  four-when e = four-by ts c reads e

  pub four-is : AfterArgument 4 ts → has_four c.mode ≡ true
  four-is four =
      let r = run-after_argument 4 ts (omega arith) four in
      let same : config r.stack (Mode.argument_read r.at r.name r.args) ≡ c = some_is _ c (sym r.is ∙ ran) in
      ap (λ (b : Config). has_four b.mode) (sym same) ∙ ap (λ n. leb 4 n) r.count

  pub times-when : is_times c.mode ≡ true → AfterTimes ts
  times-when e = times-by ts c reads e

  pub times-is : AfterTimes ts → is_times c.mode ≡ true
  times-is after =
      let r = run-after_times ts after in
      let same : config r.stack (Mode.times_read r.at) ≡ c = some_is _ c (sym r.is ∙ ran) in
      ap (λ (b : Config). is_times b.mode) (sym same)

  -- a symbol can come only where the machine makes a step
  pub comes-when : (u : Symbol) → may_come c u ≡ true → CanGoOn (ts ++ u ∷ [])
  comes-when u e = by-step (step c u) refl (sym e ∙ may_come-step ts c u reads)
    where
      by-step : (o : Option Config) → step c u ≡ o → true ≡ is_some (step c u) → CanGoOn (ts ++ u ∷ [])
      by-step None is come = absurd (let h : is_some (step c u) ≡ false = ap is_some is in not_both (is_some (step c u)) (sym come) h)
      by-step (Some d) is come = Reads-can (ts ++ u ∷ []) d (Reads-step ts c d u reads is)

  pub comes-is : (u : Symbol) → CanGoOn (ts ++ u ∷ []) → may_come c u ≡ false → ⊥
  comes-is u can e =
      let none : is_some (step c u) ≡ false = sym (may_come-step ts c u reads) ∙ e in
      run-can (ts ++ u ∷ []) can (run-append (Some start) ts (u ∷ []) ∙ ap (λ (o : Option Config). step_some o u) ran ∙ stuck (step c u) none)
    where
      stuck : (o : Option Config) → is_some o ≡ false → o ≡ None
      stuck None e = refl
      stuck (Some d) e = absurd cc

  pub node-when : (u : Symbol) → is_node (is_wanted c.mode) u ≡ true → IsNode ts u
  node-when (word at w) e = (levels c.stack, wanted-when e)
  node-when (param p) e = absurd cc
  node-when opening e = absurd cc
  node-when closing e = absurd cc
  node-when comma e = absurd cc
  node-when (before at p) e = tt
  node-when (between at o) e = tt

  pub node-is : (u : Symbol) → IsNode ts u → is_node (is_wanted c.mode) u ≡ true
  node-is (word at w) one = (wanted-is one.0 one.1).0
  node-is (param p) one = absurd one
  node-is opening one = absurd one
  node-is closing one = absurd one
  node-is comma one = absurd one
  node-is (before at p) one = refl
  node-is (between at o) one = refl

  module _ (n : ℕ) (counted : Nodes [] ts n) (t : PlainToken) (rest : List Piece) where
    reserved-when : (u : Symbol) → symbol_of t ≡ u → is_wanted c.mode ≡ true → is_reserved_word u (follower_of rest) ≡ true → Met ts (token t ∷ rest) faults.Reserved
    reserved-when (word at w) is wants e = Met.reserved t rest at (levels c.stack) w is (wanted-when wants) (begins-when w rest (class_of w) refl e)
    reserved-when (param p) is wants e = absurd cc
    reserved-when opening is wants e = absurd cc
    reserved-when closing is wants e = absurd cc
    reserved-when comma is wants e = absurd cc
    reserved-when (before at p) is wants e = absurd cc
    reserved-when (between at o) is wants e = absurd cc

    number-met : (u : Symbol) → symbol_of t ≡ u → is_times c.mode ≡ true → is_no_number u ≡ true → Met ts (token t ∷ rest) faults.NoNumber
    number-met (word at w) is times e = Met.no_number t rest at w is (times-when times) (no-number-when w e)
    number-met (param p) is times e = absurd cc
    number-met opening is times e = absurd cc
    number-met closing is times e = absurd cc
    number-met comma is times e = absurd cc
    number-met (before at p) is times e = absurd cc
    number-met (between at o) is times e = absurd cc

    fifth-when : (u : Symbol) → symbol_of t ≡ u → has_four c.mode ≡ true → is_comma u ≡ true → Met ts (token t ∷ rest) faults.FifthArgument
    fifth-when (word at w) is four e = absurd cc
    fifth-when (param p) is four e = absurd cc
    fifth-when opening is four e = absurd cc
    fifth-when closing is four e = absurd cc
    fifth-when comma is four e = Met.fifth_argument t rest is (four-when four)
    fifth-when (before at p) is four e = absurd cc
    fifth-when (between at o) is four e = absurd cc

    not_true : (v : Bool) → not v ≡ true → v ≡ false
    not_true true e = cc
    not_true false e = refl

    -- where the test holds, the fault is met
    pub Met-when : (f : Fault) → meets c n (symbol_of t) (follower_of rest) f ≡ true → Met ts (token t ∷ rest) f
    Met-when faults.NoToken e = absurd cc
    Met-when faults.Reserved e = let parts = both_true _ _ e in reserved-when (symbol_of t) refl parts.0 parts.1
    Met-when faults.NoNumber e = let parts = both_true _ _ e in number-met (symbol_of t) refl parts.0 parts.1
    Met-when faults.FifthArgument e = let parts = both_true _ _ e in fifth-when (symbol_of t) refl parts.0 parts.1
    Met-when faults.Unexpected e = Met.unexpected t rest (λ can. comes-is (symbol_of t) can (not_true (may_come c (symbol_of t)) e))
    Met-when faults.LongName e = Met.long_name t rest (long-when (symbol_of t) e)
    Met-when faults.TooDeep e =
        let parts = both_true _ _ e in
        let heads = both_true _ _ parts.0 in
        Met.too_deep t rest (subst (λ d. Wanted d ts) (eqb-true (levels c.stack) 64 parts.1) (wanted-when heads.0)) (opens-when (symbol_of t) heads.1)
    Met-when faults.TooManyNodes e =
        let parts = both_true _ _ e in
        Met.too_many_nodes t rest (subst (Nodes [] ts) (eqb-true n 512 parts.1) counted) (node-when (symbol_of t) parts.0)
    Met-when faults.Ended e = absurd cc

    -- where it doesn't, the fault isn't met
    pub Met-is : (f : Fault) → Met ts (token t ∷ rest) f → meets c n (symbol_of t) (follower_of rest) f ≡ true
    Met-is _ (Met.reserved _ _ at d w is wants begins) = both _ _ (wanted-is d wants).0 (ap (λ u. is_reserved_word u (follower_of rest)) is ∙ begins-is w rest begins)
    Met-is _ (Met.no_number _ _ at w is after none) = both _ _ (times-is after) (ap is_no_number is ∙ no-number-is w none)
    Met-is _ (Met.fifth_argument _ _ is four) = both _ _ (four-is four) (ap is_comma is)
    Met-is _ (Met.unexpected _ _ cannot) = by-test (may_come c (symbol_of t)) refl
      where
        by-test : (v : Bool) → may_come c (symbol_of t) ≡ v → not v ≡ true
        by-test true e = absurd (cannot (comes-when (symbol_of t) e))
        by-test false e = refl
    Met-is _ (Met.long_name _ _ long) = long-is (symbol_of t) long
    Met-is _ (Met.too_deep _ _ wants opens) = let found = wanted-is 64 wants in both _ _ (both _ _ found.0 (opens-is (symbol_of t) opens)) (eq-eqb (levels c.stack) 64 found.1)
    Met-is _ (Met.too_many_nodes _ _ full one) = both _ _ (node-is (symbol_of t) one) (eq-eqb n 512 (Nodes-unique [] ts n 512 counted full))
