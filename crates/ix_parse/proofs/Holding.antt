-- What the machine holds stands for what it read, and what it read can go on.
use Rattle.std.proofs.Common.{◌≡◌, ℕ, suc, ◌+◌, ◌<◌, ◌≤◌, Bool, true, false, leb, cond, List, [], ◌∷◌, ◌++◌, length, Some, refl, sym, ap, ◌∙◌, subst, arith, append_assoc, leb-true, leb-false}
use Rattle.ix_expr.specs.declared.arg.Arg.{Arg}
use Rattle.ix_parse.specs.declared.signs.Operator.{Operator}
use Rattle.ix_parse.specs.declared.signs.Prefix.{Prefix}
use Rattle.ix_parse.specs.declared.signs.Quantifier.{Quantifier}
use Rattle.ix_parse.specs.declared.signs.WordClass.TheVariants.{Quantifies, Counts, Names}
use Rattle.ix_parse.specs.Symbols.{Symbol, word, param, opening, closing, comma, before, between, class_of, IsNumberWord, level, Meaning, joined_meaning, prefixed, quantified, counted, argument_of}
use Rattle.ix_parse.specs.Grammar.{Arguments, Stands, CutAtOperand, CanGoOn}
use Rattle.ix_parse.specs.inside.StackMachine.{Entry, group, sign, binder, counter, left, wanted, name_read, argument_wanted, argument_read, quantifier_read, times_read, operand_read, Config, WithOperand, operand_held, config, closed, reduced, with_operand, left_group, with_left, step_operand, levels}
use Rattle.ix_parse.proofs.Runs.{hole, level-low, level-some}
use Rattle.ix_parse.proofs.Cuts.{Stands-loosen, Cut-loosen, Cut-then, fill}

-- the symbols that led to what is open, where an operand is wanted
pub data Holds : List Symbol → List Entry → Type 0 where
  nothing_open : Holds [] []
  open_group : (ts : List Symbol) (s : List Entry) → Holds ts s → Holds (ts ++ opening ∷ []) (group ∷ s)
  open_sign : (ts : List Symbol) (s : List Entry) (at : ℕ) (p : Prefix) → Holds ts s → Holds (ts ++ before at p ∷ []) (sign at p ∷ s)
  open_binder : (ts : List Symbol) (s : List Entry) (at : ℕ) (w : List ℕ) (q : Quantifier) (p : List ℕ) → class_of w ≡ Quantifies q → Holds ts s → Holds (ts ++ word at w ∷ param p ∷ []) (binder at q p ∷ s)
  open_counter : (ts : List Symbol) (s : List Entry) (at at' : ℕ) (w v : List ℕ) (n : ℕ) → class_of w ≡ Counts → IsNumberWord v n → Holds ts s → Holds (ts ++ word at w ∷ word at' v ∷ []) (counter at n ∷ s)
  open_left : (ts us : List Symbol) (s : List Entry) (at : ℕ) (o : Operator) (x : Meaning) → hole s ≤ level o → Stands (level o) us x → Holds ts s → Holds (ts ++ us ++ between at o ∷ []) (left at o x ∷ s)

pub hole-low : (s : List Entry) → hole s ≤ 6
hole-low [] = omega arith
hole-low (group ∷ s) = omega arith
hole-low (sign at p ∷ s) = omega arith
hole-low (binder at q p ∷ s) = omega arith
hole-low (counter at n ∷ s) = omega arith
hole-low (left at o x ∷ s) = let low = level-low o in omega arith

-- a level that is opened in the place of an operand
open-level : (n d : ℕ) (ts us : List Symbol) (m : ℕ) → n ≤ 6 → CutAtOperand 1 n d ts → CutAtOperand 6 m 1 us → CutAtOperand 1 m (suc d) (ts ++ us)
open-level n d ts us m low cut inner =
    let same : d + 1 ≡ suc d = omega arith in
    subst (λ i. CutAtOperand 1 m i (ts ++ us)) same (Cut-then 1 n m d 1 ts us cut (Cut-loosen 6 n m 1 us low (omega arith) inner))

-- where the machine wants an operand, so does the grammar, with as many levels
pub Holds-cut : (ts : List Symbol) (s : List Entry) → Holds ts s → CutAtOperand 1 (hole s) (levels s) ts
Holds-cut _ _ Holds.nothing_open = CutAtOperand.here 1
Holds-cut _ _ (Holds.open_group ts s h) = open-level (hole s) (levels s) ts (opening ∷ []) 1 (hole-low s) (Holds-cut ts s h) (CutAtOperand.group 1 0 [] (CutAtOperand.here 1))
Holds-cut _ _ (Holds.open_sign ts s at p h) = open-level (hole s) (levels s) ts (before at p ∷ []) 6 (hole-low s) (Holds-cut ts s h) (CutAtOperand.prefixes at p 6 0 [] (CutAtOperand.here 6))
Holds-cut _ _ (Holds.open_binder ts s at w q p is h) = open-level (hole s) (levels s) ts (word at w ∷ param p ∷ []) 6 (hole-low s) (Holds-cut ts s h) (CutAtOperand.quantifies at w q p 6 0 [] is (CutAtOperand.here 6))
Holds-cut _ _ (Holds.open_counter ts s at at' w v n is number h) = open-level (hole s) (levels s) ts (word at w ∷ word at' v ∷ []) 6 (hole-low s) (Holds-cut ts s h) (CutAtOperand.counts at at' w v n 6 0 [] is number (CutAtOperand.here 6))
Holds-cut _ _ (Holds.open_left ts us s at o x fits stands h) =
    let low = level-low o in
    let same : levels s + 0 ≡ levels s = omega arith in
    subst (CutAtOperand 1 (suc (level o)) (levels s)) (sym (append_assoc ts us (between at o ∷ [])))
    (subst (λ i. CutAtOperand 1 (suc (level o)) i (ts ++ (us ++ between at o ∷ []))) same
    (Cut-then 1 (hole s) (suc (level o)) (levels s) 0 ts (us ++ between at o ∷ []) (Holds-cut ts s h)
    (Cut-loosen (level o) (hole s) (suc (level o)) 0 (us ++ between at o ∷ []) fits (omega arith) (CutAtOperand.binary at o (suc (level o)) 0 us [] x stands (CutAtOperand.here (suc (level o)))))))

-- an operand in the place where one is wanted can go on
pub Holds-fill : (ts us : List Symbol) (s : List Entry) (x : Meaning) → Holds ts s → Stands 6 us x → CanGoOn (ts ++ us)
Holds-fill ts us s x h stands =
    let g = fill 1 (hole s) (levels s) ts us x (Holds-cut ts s h) (Stands-loosen 6 (hole s) us x (hole-low s) (omega arith) stands) in
    record { rest = g.rest; meaning = g.meaning; stands = g.stands }

-- arguments with a comma behind each
pub data Listed : List Symbol → List Arg → Type 0 where
  none_listed : Listed [] []
  one_more : (t : Symbol) (a : Arg) (us : List Symbol) (args : List Arg) → argument_of t ≡ Some a → Listed us args → Listed (t ∷ comma ∷ us) (a ∷ args)

-- one argument behind those
pub Listed-argument : (us : List Symbol) (args : List Arg) (t : Symbol) (a : Arg) → Listed us args → argument_of t ≡ Some a → Arguments (us ++ t ∷ []) (args ++ a ∷ [])
Listed-argument _ _ t a Listed.none_listed is = Arguments.one t a is
Listed-argument _ _ t a (Listed.one_more u b us args is_b listed) is = Arguments.more u b (us ++ t ∷ []) (args ++ a ∷ []) is_b (Listed-argument us args t a listed is)

-- a comma behind arguments
pub Arguments-comma : (us : List Symbol) (args : List Arg) → Arguments us args → Listed (us ++ comma ∷ []) args
Arguments-comma _ _ (Arguments.one t a is) = Listed.one_more t a [] [] is Listed.none_listed
Arguments-comma _ _ (Arguments.more t a ts args is others) = Listed.one_more t a (ts ++ comma ∷ []) args is (Arguments-comma ts args others)

-- no prefix is inmost
abbrev pub IsClear : List Entry → Type 0
IsClear [] = Unit {0}
IsClear (group ∷ s) = Unit {0}
IsClear (sign at p ∷ s) = ⊥
IsClear (binder at q p ∷ s) = ⊥
IsClear (counter at n ∷ s) = ⊥
IsClear (left at o x ∷ s) = Unit {0}

pub hole-clear : (s : List Entry) → hole s ≤ 5 → IsClear s
hole-clear [] low = tt
hole-clear (group ∷ s) low = tt
hole-clear (sign at p ∷ s) low = absurd (omega arith)
hole-clear (binder at q p ∷ s) low = absurd (omega arith)
hole-clear (counter at n ∷ s) low = absurd (omega arith)
hole-clear (left at o x ∷ s) low = tt

-- the symbols that led to a configuration
pub data Reads : List Symbol → Config → Type 0 where
  at_operand : (ts : List Symbol) (s : List Entry) → Holds ts s → Reads ts (config s wanted)
  at_name : (ts : List Symbol) (s : List Entry) (at : ℕ) (w : List ℕ) → class_of w ≡ Names → Holds ts s → Reads (ts ++ word at w ∷ []) (config s (name_read at w))
  at_argument : (ts us : List Symbol) (s : List Entry) (at : ℕ) (w : List ℕ) (args : List Arg) → class_of w ≡ Names → Listed us args → length args < 4 → Holds ts s → Reads (ts ++ word at w ∷ opening ∷ us) (config s (argument_wanted at w args))
  behind_argument : (ts us : List Symbol) (s : List Entry) (at : ℕ) (w : List ℕ) (args : List Arg) → class_of w ≡ Names → Arguments us args → length args ≤ 4 → Holds ts s → Reads (ts ++ word at w ∷ opening ∷ us) (config s (argument_read at w args))
  behind_quantifier : (ts : List Symbol) (s : List Entry) (at : ℕ) (w : List ℕ) (q : Quantifier) → class_of w ≡ Quantifies q → Holds ts s → Reads (ts ++ word at w ∷ []) (config s (quantifier_read at q))
  behind_times : (ts : List Symbol) (s : List Entry) (at : ℕ) (w : List ℕ) → class_of w ≡ Counts → Holds ts s → Reads (ts ++ word at w ∷ []) (config s (times_read at))
  behind_operand : (ts us : List Symbol) (s : List Entry) (x : Meaning) → IsClear s → Stands 6 us x → Holds ts s → Reads (ts ++ us) (config s (operand_read x))

-- an operand that no prefix takes, behind what is open
pub record Ended (all : List Symbol) (h : WithOperand) : Type 0 where
  pub front : List Symbol
  pub operand : List Symbol
  pub split : all ≡ front ++ operand
  pub clear : IsClear h.stack
  pub stands : Stands 6 operand h.operand
  pub holds : Holds front h.stack

-- the symbols at the end of an operand, seen from its front
regroup : (ts us vs : List Symbol) (h : WithOperand) → Ended (ts ++ (us ++ vs)) h → Ended ((ts ++ us) ++ vs) h
regroup ts us vs h r = subst (λ l. Ended l h) (sym (append_assoc ts us vs)) r

-- the operand takes the prefixes in front of it
pub Ended-closed : (ts us : List Symbol) (s : List Entry) (x : Meaning) → Holds ts s → Stands 6 us x → Ended (ts ++ us) (closed s x)
Ended-closed _ us _ x Holds.nothing_open stands = record { front = []; operand = us; split = refl; clear = tt; stands = stands; holds = Holds.nothing_open }
Ended-closed _ us _ x (Holds.open_group ts s h) stands = record { front = ts ++ opening ∷ []; operand = us; split = refl; clear = tt; stands = stands; holds = Holds.open_group ts s h }
Ended-closed _ us _ x (Holds.open_sign ts s at p h) stands = regroup ts (before at p ∷ []) us _ (Ended-closed ts (before at p ∷ us) s (prefixed p at x) h (Stands.prefixes at p us x stands))
Ended-closed _ us _ x (Holds.open_binder ts s at w q p is h) stands = regroup ts (word at w ∷ param p ∷ []) us _ (Ended-closed ts (word at w ∷ param p ∷ us) s (quantified q at p x) h (Stands.quantifies at w q p us x is stands))
Ended-closed _ us _ x (Holds.open_counter ts s at at' w v n is number h) stands = regroup ts (word at w ∷ word at' v ∷ []) us _ (Ended-closed ts (word at w ∷ word at' v ∷ us) s (counted n at x) h (Stands.counts at at' w v n us x is number stands))
Ended-closed _ us _ x (Holds.open_left ts vs s at o y fits first h) stands = record { front = ts ++ vs ++ between at o ∷ []; operand = us; split = refl; clear = tt; stands = stands; holds = Holds.open_left ts vs s at o y fits first h }

pub Reads-ended : (all : List Symbol) (h : WithOperand) → Ended all h → Reads all (with_operand h)
Reads-ended all h r = subst (λ l. Reads l (with_operand h)) (sym r.split) (Reads.behind_operand r.front r.operand h.stack h.operand r.clear r.stands r.holds)

pub Reads-closed : (ts us : List Symbol) (s : List Entry) (x : Meaning) → Holds ts s → Stands 6 us x → Reads (ts ++ us) (with_operand (closed s x))
Reads-closed ts us s x h stands = Reads-ended (ts ++ us) (closed s x) (Ended-closed ts us s x h stands)

-- an operand of level k behind what is open, to which nothing of level k is left to join
pub record ReadTo (k : ℕ) (all : List Symbol) (h : WithOperand) : Type 0 where
  pub front : List Symbol
  pub operand : List Symbol
  pub split : all ≡ front ++ operand
  pub fits : hole h.stack ≤ k
  pub holds : Holds front h.stack
  pub stands : Stands k operand h.operand

-- joining operands to the left ones keeps what was read
pub Reads-reduced : (k j : ℕ) (ts us : List Symbol) (s : List Entry) (x : Meaning) → 1 ≤ k → k ≤ j → j ≤ 6 → hole s ≤ j → IsClear s → Stands j us x → Holds ts s → ReadTo k (ts ++ us) (reduced k s x)
Reads-reduced k j _ us _ x some below low fits clear stands Holds.nothing_open =
    record { front = []; operand = us; split = refl; fits = some; holds = Holds.nothing_open; stands = Stands-loosen j k us x below low stands }
Reads-reduced k j _ us _ x some below low fits clear stands (Holds.open_group ts s h) =
    record { front = ts ++ opening ∷ []; operand = us; split = refl; fits = some; holds = Holds.open_group ts s h; stands = Stands-loosen j k us x below low stands }
Reads-reduced k j _ us _ x some below low fits clear stands (Holds.open_sign ts s at p h) = absurd clear
Reads-reduced k j _ us _ x some below low fits clear stands (Holds.open_binder ts s at w q p is h) = absurd clear
Reads-reduced k j _ us _ x some below low fits clear stands (Holds.open_counter ts s at at' w v n is number h) = absurd clear
Reads-reduced k j _ us _ x some below low fits clear stands (Holds.open_left ts vs s at o y left_fits first h) =
    by-test (leb k (level o)) refl
    (λ tight.
    let o_low = level-low o in
    let y_x : Stands (level o) (vs ++ between at o ∷ us) (joined_meaning o at y x) = Stands.binary at o vs us y x first (Stands-loosen j (suc (level o)) us x fits low stands) in
    Reads-reduced k (level o) ts (vs ++ between at o ∷ us) s (joined_meaning o at y x) some tight (omega arith) left_fits (hole-clear s (omega arith)) y_x h)
  where
    by-test : (v : Bool) → leb k (level o) ≡ v → (k ≤ level o → ReadTo k (ts ++ (vs ++ between at o ∷ us)) (reduced k s (joined_meaning o at y x))) → ReadTo k ((ts ++ vs ++ between at o ∷ []) ++ us) (cond v (reduced k s (joined_meaning o at y x)) (operand_held (left at o y ∷ s) x))
    by-test true joins more =
        let r = more (leb-true k (level o) joins) in
        let same : (ts ++ vs ++ between at o ∷ []) ++ us ≡ ts ++ (vs ++ between at o ∷ us) = append_assoc (ts ++ vs) (between at o ∷ []) us ∙ append_assoc ts vs (between at o ∷ us) in
        record { front = r.front; operand = r.operand; split = same ∙ r.split; fits = r.fits; holds = r.holds; stands = r.stands }
    by-test false ends more =
        record { front = ts ++ vs ++ between at o ∷ []; operand = us; split = refl; fits = leb-false k (level o) ends; holds = Holds.open_left ts vs s at o y left_fits first h; stands = Stands-loosen j k us x below low stands }

-- an operator behind an operand
pub Reads-left : (at : ℕ) (o : Operator) (all : List Symbol) (h : WithOperand) → ReadTo (level o) all h → Reads (all ++ between at o ∷ []) (with_left at o h)
Reads-left at o all h r =
    let same : all ++ between at o ∷ [] ≡ r.front ++ r.operand ++ between at o ∷ [] = ap (λ l. l ++ between at o ∷ []) r.split in
    subst (λ l. Reads l (with_left at o h)) (sym same)
    (Reads.at_operand (r.front ++ r.operand ++ between at o ∷ []) (left at o h.operand ∷ h.stack) (Holds.open_left r.front r.operand h.stack at o h.operand r.fits r.stands r.holds))

-- a parenthesis behind an operand
pub Reads-group : (front us : List Symbol) (s : List Entry) (x : Meaning) (c : Config) → Holds front s → Stands 1 us x → left_group s x ≡ Some c → Reads ((front ++ us) ++ closing ∷ []) c
Reads-group _ us _ x c Holds.nothing_open stands e = absurd cc
Reads-group _ us _ x c (Holds.open_group ts s h) stands e =
    let is : with_operand (closed s x) ≡ c = cc in
    let same : ((ts ++ opening ∷ []) ++ us) ++ closing ∷ [] ≡ ts ++ (opening ∷ us ++ closing ∷ []) = append_assoc (ts ++ opening ∷ []) us (closing ∷ []) ∙ append_assoc ts (opening ∷ []) (us ++ closing ∷ []) in
    subst (λ d. Reads (((ts ++ opening ∷ []) ++ us) ++ closing ∷ []) d) is
    (subst (λ l. Reads l (with_operand (closed s x))) (sym same) (Reads-closed ts (opening ∷ us ++ closing ∷ []) s x h (Stands.group us x stands)))
Reads-group _ us _ x c (Holds.open_sign ts s at p h) stands e = absurd cc
Reads-group _ us _ x c (Holds.open_binder ts s at w q p is h) stands e = absurd cc
Reads-group _ us _ x c (Holds.open_counter ts s at at' w v n is number h) stands e = absurd cc
Reads-group _ us _ x c (Holds.open_left ts vs s at o y fits first h) stands e = absurd cc

-- a symbol behind an operand
pub Reads-operand : (ts us : List Symbol) (s : List Entry) (x : Meaning) (t : Symbol) (c : Config) → IsClear s → Stands 6 us x → Holds ts s → step_operand s x t ≡ Some c → Reads ((ts ++ us) ++ t ∷ []) c
Reads-operand ts us s x (word at w) c clear stands h e = absurd cc
Reads-operand ts us s x (param p) c clear stands h e = absurd cc
Reads-operand ts us s x opening c clear stands h e = absurd cc
Reads-operand ts us s x closing c clear stands h e =
    let r = Reads-reduced 1 6 ts us s x (omega arith) (omega arith) (omega arith) (hole-low s) clear stands h in
    subst (λ l. Reads (l ++ closing ∷ []) c) (sym r.split) (Reads-group r.front r.operand _ _ c r.holds r.stands e)
Reads-operand ts us s x comma c clear stands h e = absurd cc
Reads-operand ts us s x (before at p) c clear stands h e = absurd cc
Reads-operand ts us s x (between at o) c clear stands h e =
    let is : with_left at o (reduced (level o) s x) ≡ c = cc in
    let low = level-low o in
    let r = Reads-reduced (level o) 6 ts us s x (level-some o) (omega arith) (omega arith) (hole-low s) clear stands h in
    subst (λ d. Reads ((ts ++ us) ++ between at o ∷ []) d) is (Reads-left at o (ts ++ us) _ r)
