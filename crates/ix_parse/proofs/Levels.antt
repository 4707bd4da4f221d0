-- How many levels the symbols of an operand open, and how many a form's canonical text opens at
-- most.
use Rattle.std.proofs.Common.{◌≡◌, ◌≢◌, ℕ, suc, ◌+◌, ◌<◌, ◌≤◌, max, Bool, true, false, cond, ltb, List, [], ◌∷◌, ◌++◌, length, Option, Some, None, refl, sym, ap, ◌∙◌, subst, arith, append_assoc}
use Rattle.std.proofs.lemmas.Bool.Decides.{nat_tests}
use Rattle.ix_expr.specs.declared.arg.Arg.{Arg}
use Rattle.ix_expr.specs.Form as forms
use Rattle.ix_expr.specs.Form.{Form}
use Rattle.ix_expr.specs.CanonicalText.{binding}
use Rattle.ix_parse.specs.declared.signs.Operator.{Operator}
use Rattle.ix_parse.specs.declared.signs.Operator.TheVariants as operators
use Rattle.ix_parse.specs.declared.signs.Prefix.{Prefix}
use Rattle.ix_parse.specs.declared.signs.Prefix.TheVariants as prefixes
use Rattle.ix_parse.specs.declared.signs.Quantifier.{Quantifier}
use Rattle.ix_parse.specs.declared.signs.Quantifier.TheVariants as quantifiers
use Rattle.ix_parse.specs.declared.signs.WordClass.{WordClass}
use Rattle.ix_parse.specs.declared.signs.WordClass.TheVariants.{Quantifies, Counts, Names}
use Rattle.ix_parse.specs.Symbols.{Symbol, word, param, opening, closing, comma, before, between, class_of, IsNumberWord, level, Meaning, joined_form, prefixed_form, quantified_form, argument_of}
use Rattle.ix_parse.specs.Grammar.{Arguments, Stands}
use Rattle.ix_parse.specs.Faults.{TakesOperand, OpensLevel}
use Rattle.ix_parse.specs.inside.StackMachine.{Entry, group, sign, binder, counter, left, Mode, Config, config, wanted, name_read, argument_wanted, argument_read, times_read, step_word, with_argument, step_some, run, levels}
use Rattle.ix_parse.proofs.Runs.{hole, run-none, run-left, run-counts, run-stands, level-low}
use Rattle.ix_parse.proofs.Steps.{some_is}

-- the levels of an operand of level n that binds as tightly as b and opens d levels by itself: one
-- more where it stands in parentheses
abbrev pub opened_by : ℕ → ℕ → ℕ → ℕ
opened_by n b d = cond (ltb b n) (suc d) d

-- how many levels the canonical text of a form opens at most
abbrev pub opened : Form → ℕ
opened (forms.atom a) = 0
opened (forms.opt y) = suc (opened_by 6 (binding y) (opened y))
opened (forms.seq y z) =
    max (opened_by 5 (binding y) (opened y)) (opened_by 6 (binding z) (opened z))
opened (forms.star y) = suc (opened_by 6 (binding y) (opened y))
opened (forms.par y z) =
    max (opened_by 4 (binding y) (opened y)) (opened_by 5 (binding z) (opened z))
opened (forms.par_star y) = suc (opened_by 6 (binding y) (opened y))
opened (forms.or y z) =
    max (opened_by 1 (binding y) (opened y)) (opened_by 2 (binding z) (opened z))
opened (forms.and y z) =
    max (opened_by 2 (binding y) (opened y)) (opened_by 3 (binding z) (opened z))
opened (forms.couple y z) =
    max (opened_by 3 (binding y) (opened y)) (opened_by 4 (binding z) (opened z))
opened (forms.any p y) = suc (opened_by 6 (binding y) (opened y))
opened (forms.every p y) = suc (opened_by 6 (binding y) (opened y))
opened (forms.sync p y) = suc (opened_by 6 (binding y) (opened y))
opened (forms.all p y) = suc (opened_by 6 (binding y) (opened y))
opened (forms.times n y) = suc (opened_by 6 (binding y) (opened y))

-- the same as an operand of level n
abbrev pub opened_at : ℕ → Form → ℕ
opened_at n x = opened_by n (binding x) (opened x)

-- what parentheses add
pub opened_by-least : (n b d : ℕ) → d ≤ opened_by n b d
opened_by-least n b d = grind (arith, nat_tests)

pub opened_by-most : (n b d : ℕ) → opened_by n b d ≤ suc d
opened_by-most n b d = grind (arith, nat_tests)

pub opened_by-more : (n m b d : ℕ) → n ≤ m → opened_by n b d ≤ opened_by m b d
opened_by-more n m b d more = grind (arith, nat_tests)

pub opened_by-bare : (n b d : ℕ) → n ≤ b → opened_by n b d ≡ d
opened_by-bare n b d tight = grind (arith, nat_tests)

pub opened_by-enclosed : (n b d : ℕ) → b < n → opened_by n b d ≡ suc d
opened_by-enclosed n b d loose = grind (arith, nat_tests)

-- the levels of forms by those of their parts
pub opened-joined :
    (o : Operator) (x y : Form)
    → opened_at (level o) (joined_form o x y) ≡ max (opened_at (level o) x)
    (opened_at (suc (level o)) y)
opened-joined operators.Or x y = refl
opened-joined operators.And x y = refl
opened-joined operators.Couple x y = refl
opened-joined operators.Par x y = refl
opened-joined operators.Seq x y = refl

pub opened-prefixed :
    (sign : Prefix) (x : Form) → opened_at 6 (prefixed_form sign x) ≡ suc (opened_at 6 x)
opened-prefixed prefixes.Opt x = refl
opened-prefixed prefixes.Star x = refl
opened-prefixed prefixes.ParStar x = refl

pub opened-quantified :
    (q : Quantifier) (p : List ℕ) (x : Form)
    → opened_at 6 (quantified_form q p x) ≡ suc (opened_at 6 x)
opened-quantified quantifiers.Any p x = refl
opened-quantified quantifiers.Every p x = refl
opened-quantified quantifiers.Sync p x = refl
opened-quantified quantifiers.All p x = refl

-- read as an operand of level n, the symbols open at most d levels beside those that are open
abbrev pub OpensWithin : ℕ → List Symbol → ℕ → Type 0
OpensWithin n ts d =
    (s s' : List Entry) (us vs : List Symbol) (t : Symbol) → hole s ≤ n → ts ≡ us ++ t ∷ vs
    → run (Some (config s wanted)) us ≡ Some (config s' wanted) → OpensLevel t
    → levels s' < levels s + d

-- it holds of a looser operand and of more levels too
pub opens-loosen :
    (n m d e : ℕ) (ts : List Symbol) → n ≤ m → d ≤ e → OpensWithin m ts d → OpensWithin n ts e
opens-loosen n m d e ts below more within s s' us vs t fits split ran opens =
    let low = within s s' us vs t (omega arith) split ran opens in
    omega arith

-- an operand is wanted behind the same entries
same-levels :
    (s s' : List Entry) → Some (config s wanted) ≡ Some (config s' wanted) → levels s ≡ levels s'
same-levels s s' ran =
    ap (λ (c : Config). levels c.stack) (some_is (config s wanted) (config s' wanted) ran)

same-mode :
    (s s' : List Entry) (mode : Mode) → Some (config s mode) ≡ Some (config s' wanted)
    → mode ≡ wanted
same-mode s s' mode ran =
    ap (λ (c : Config). c.mode) (some_is (config s mode) (config s' wanted) ran)

not-opening : (u t : Symbol) → u ≡ t → ¬ OpensLevel u → ¬ OpensLevel t
not-opening u t same none opens =
    let P : Symbol → Type 0 = λ v. OpensLevel v in none (subst P (sym same) opens)

-- a list `ts ++ u ∷ us` is cut at a symbol t: t stands ahead of u, is u, or stands behind it
data CutAt (ts : List Symbol) (u : Symbol) (us front : List Symbol) (t : Symbol)
    (back : List Symbol) : Type 0 where
  ahead : (rest : List Symbol) → ts ≡ front ++ t ∷ rest → CutAt ts u us front t back
  here : u ≡ t → CutAt ts u us front t back
  behind :
      (more : List Symbol) → front ≡ ts ++ u ∷ more → us ≡ more ++ t ∷ back
      → CutAt ts u us front t back

cut-at :
    (ts : List Symbol) (u : Symbol) (us front : List Symbol) (t : Symbol) (back : List Symbol)
    → ts ++ u ∷ us ≡ front ++ t ∷ back → CutAt ts u us front t back
cut-at [] u us [] t back e = CutAt.here (let same : u ≡ t = cc in same)
cut-at [] u us (v ∷ front) t back e =
    let head : v ≡ u = cc in
    let tail : us ≡ front ++ t ∷ back = cc in
    CutAt.behind front (ap (λ w. w ∷ front) head) tail
cut-at (v ∷ ts) u us [] t back e = let head : v ≡ t = cc in CutAt.ahead ts (ap (λ w. w ∷ ts) head)
cut-at (v ∷ ts) u us (w ∷ front) t back e =
    let head : v ≡ w = cc in
    let tail : ts ++ u ∷ us ≡ front ++ t ∷ back = cc in
    with-head head (cut-at ts u us front t back tail)
  where
    with-head : v ≡ w → CutAt ts u us front t back → CutAt (v ∷ ts) u us (w ∷ front) t back
    with-head head (CutAt.ahead rest is) =
        CutAt.ahead rest (ap (λ l. v ∷ l) is ∙ ap (λ a. a ∷ front ++ t ∷ rest) head)
    with-head head (CutAt.here is) = CutAt.here is
    with-head head (CutAt.behind more fronts backs) =
        CutAt.behind more (ap (λ l. w ∷ l) fronts ∙ ap (λ a. a ∷ ts ++ u ∷ more) (sym head)) backs

no-cut : (us vs : List Symbol) (t : Symbol) → [] ≡ us ++ t ∷ vs → ⊥
no-cut [] vs t e = cc
no-cut (u ∷ us) vs t e = cc

-- an operator between two operands
pub opens-binary :
    (at : ℕ) (o : Operator) (ts us : List Symbol) (x : Meaning) (c d : ℕ) → Stands (level o) ts x
    → OpensWithin (level o) ts c → OpensWithin (suc (level o)) us d
    → OpensWithin (level o) (ts ++ between at o ∷ us) (max c d)
opens-binary at o ts us x c d stands first second s s' front back t fits split ran opens =
    by-cut (cut-at ts (between at o) us front t back split)
  where
    by-cut :
        CutAt ts (between at o) us front t back
        → levels s' < levels s + max c d
    by-cut (CutAt.ahead rest is) =
        let low = first s s' front rest t fits is ran opens in
        omega arith
    by-cut (CutAt.here is) = absurd (not-opening (between at o) t is (λ none. none) opens)
    by-cut (CutAt.behind more fronts backs) =
        let went = run-left at o ts more x s fits (run-stands (level o) ts x stands s fits) in
        let ran' = sym went ∙ ap (run (Some (config s wanted))) (sym fronts) ∙ ran in
        let low = second (left at o x ∷ s) s' more back t (omega arith) backs ran' opens in
        omega arith

-- a prefix in front of an operand
pub opens-prefixed :
    (at : ℕ) (p : Prefix) (ts : List Symbol) (d : ℕ) → OpensWithin 6 ts d
    → OpensWithin 6 (before at p ∷ ts) (suc d)
opens-prefixed at p ts d inner s s' [] vs t fits split ran opens =
    let same = same-levels s s' ran in omega arith
opens-prefixed at p ts d inner s s' (u ∷ us) vs t fits split ran opens =
    let head : before at p ≡ u = cc in
    let tail : ts ≡ us ++ t ∷ vs = cc in
    let ran' : run (Some (config (sign at p ∷ s) wanted)) us ≡ Some (config s' wanted) =
    ap (λ v. run (Some (config s wanted)) (v ∷ us)) head ∙ ran in
    let low = inner (sign at p ∷ s) s' us vs t (omega arith) tail ran' opens in
    omega arith

-- a quantifier in front of an operand
pub opens-quantified :
    (at : ℕ) (w : List ℕ) (q : Quantifier) (p : List ℕ) (ts : List Symbol) (d : ℕ)
    → class_of w ≡ Quantifies q → OpensWithin 6 ts d
    → OpensWithin 6 (word at w ∷ param p ∷ ts) (suc d)
opens-quantified at w q p ts d is inner s s' [] vs t fits split ran opens =
    let same = same-levels s s' ran in omega arith
opens-quantified at w q p ts d is inner s s' (u ∷ []) vs t fits split ran opens =
    let second : param p ≡ t = cc in absurd (not-opening (param p) t second (λ none. none) opens)
opens-quantified at w q p ts d is inner s s' (u ∷ v ∷ us) vs t fits split ran opens =
    let first : word at w ≡ u = cc in
    let second : param p ≡ v = cc in
    let tail : ts ≡ us ++ t ∷ vs = cc in
    let ran' : run (Some (config (binder at q p ∷ s) wanted)) us ≡ Some (config s' wanted) =
    sym (ap (λ (k : WordClass). run (step_some (step_word s at w k) (param p)) us) is)
    ∙ ap (λ a. run (Some (config s wanted)) (a ∷ param p ∷ us)) first
    ∙ ap (λ a. run (Some (config s wanted)) (u ∷ a ∷ us)) second ∙ ran in
    let low = inner (binder at q p ∷ s) s' us vs t (omega arith) tail ran' opens in
    omega arith

-- `times` and its number in front of an operand
pub opens-counted :
    (at at' : ℕ) (w v : List ℕ) (n : ℕ) (ts : List Symbol) (d : ℕ) → class_of w ≡ Counts
    → IsNumberWord v n → OpensWithin 6 ts d
    → OpensWithin 6 (word at w ∷ word at' v ∷ ts) (suc d)
opens-counted at at' w v n ts d is number inner s s' [] vs t fits split ran opens =
    let same = same-levels s s' ran in omega arith
opens-counted at at' w v n ts d is number inner s s' (u ∷ []) vs t fits split ran opens =
    let head : word at w ≡ u = cc in
    let h : Some (config s (times_read at)) ≡ Some (config s' wanted) =
    sym (ap (step_word s at w) is) ∙ ap (λ a. run (Some (config s wanted)) (a ∷ [])) head ∙ ran in
    let mode = same-mode s s' (times_read at) h in
    absurd cc
opens-counted at at' w v n ts d is number inner s s' (u ∷ u' ∷ us) vs t fits split ran opens =
    let first : word at w ≡ u = cc in
    let second : word at' v ≡ u' = cc in
    let tail : ts ≡ us ++ t ∷ vs = cc in
    let ran' : run (Some (config (counter at n ∷ s) wanted)) us ≡ Some (config s' wanted) =
    sym (run-counts s at at' w v n us is number)
    ∙ ap (λ a. run (Some (config s wanted)) (a ∷ word at' v ∷ us)) first
    ∙ ap (λ a. run (Some (config s wanted)) (u ∷ a ∷ us)) second ∙ ran in
    let low = inner (counter at n ∷ s) s' us vs t (omega arith) tail ran' opens in
    omega arith

-- parentheses around an operand
pub opens-group :
    (ts : List Symbol) (d : ℕ) → OpensWithin 1 ts d
    → OpensWithin 6 (opening ∷ ts ++ closing ∷ []) (suc d)
opens-group ts d inner s s' [] vs t fits split ran opens =
    let same = same-levels s s' ran in omega arith
opens-group ts d inner s s' (u ∷ us) vs t fits split ran opens =
    let head : opening ≡ u = cc in
    let tail : ts ++ closing ∷ [] ≡ us ++ t ∷ vs = cc in
    by-cut (ap (λ v. run (Some (config s wanted)) (v ∷ us)) head ∙ ran)
    (cut-at ts closing [] us t vs tail)
  where
    by-cut :
        run (Some (config (group ∷ s) wanted)) us ≡ Some (config s' wanted)
        → CutAt ts closing [] us t vs → levels s' < levels s + suc d
    by-cut ran' (CutAt.ahead rest is) =
        let low = inner (group ∷ s) s' us rest t (omega arith) is ran' opens in omega arith
    by-cut ran' (CutAt.here is) = absurd (not-opening closing t is (λ none. none) opens)
    by-cut ran' (CutAt.behind more fronts backs) = absurd (no-cut more vs t backs)

-- the name of an atom opens no level
names-open_none : (at : ℕ) (w : List ℕ) → class_of w ≡ Names → ¬ OpensLevel (word at w)
names-open_none at w is opens = subst TakesOperand is opens

-- an atom without arguments opens none
pub opens-bare : (at : ℕ) (w : List ℕ) → class_of w ≡ Names → OpensWithin 6 (word at w ∷ []) 0
opens-bare at w is s s' [] vs t fits split ran opens =
    let head : word at w ≡ t = cc in
    absurd (not-opening (word at w) t head (names-open_none at w is) opens)
opens-bare at w is s s' (u ∷ us) vs t fits split ran opens =
    let tail : [] ≡ us ++ t ∷ vs = cc in absurd (no-cut us vs t tail)

-- among the arguments of an atom no operand is wanted
arguments-stay :
    (s s' : List Entry) (at : ℕ) (w : List ℕ) (earlier : List Arg) (ts : List Symbol)
    (args : List Arg) → Arguments ts args → (us vs : List Symbol) (t : Symbol)
    → ts ++ closing ∷ [] ≡ us ++ t ∷ vs
    → run (Some (config s (argument_wanted at w earlier))) us ≡ Some (config s' wanted) → ⊥
arguments-stay s s' at w earlier _ _ (Arguments.one a arg is) [] vs t split ran =
    let h = same-mode s s' (argument_wanted at w earlier) ran in cc
arguments-stay s s' at w earlier _ _ (Arguments.one a arg is) (u ∷ []) vs t split ran =
    let head : a ≡ u = cc in
    let h : Some (config s (argument_read at w (earlier ++ arg ∷ []))) ≡ Some (config s' wanted) =
    sym (ap (with_argument s at w earlier) is)
    ∙ ap (λ v. with_argument s at w earlier (argument_of v)) head ∙ ran in
    let mode = same-mode s s' (argument_read at w (earlier ++ arg ∷ [])) h in
    cc
arguments-stay s s' at w earlier _ _ (Arguments.one a arg is) (u ∷ v ∷ us) vs t split ran =
    let tail : [] ≡ us ++ t ∷ vs = cc in no-cut us vs t tail
arguments-stay s s' at w earlier _ _ (Arguments.more a arg ts args is others) [] vs t split ran =
    let h = same-mode s s' (argument_wanted at w earlier) ran in cc
arguments-stay s s' at w earlier _ _ (Arguments.more a arg ts args is others)
    (u ∷ []) vs t split ran =
    let head : a ≡ u = cc in
    let h : Some (config s (argument_read at w (earlier ++ arg ∷ []))) ≡ Some (config s' wanted) =
    sym (ap (with_argument s at w earlier) is)
    ∙ ap (λ v. with_argument s at w earlier (argument_of v)) head ∙ ran in
    let mode = same-mode s s' (argument_read at w (earlier ++ arg ∷ [])) h in
    cc
arguments-stay s s' at w earlier _ _ (Arguments.more a arg ts args is others)
    (u ∷ v ∷ us) vs t split ran =
    let first : a ≡ u = cc in
    let second : comma ≡ v = cc in
    let tail : ts ++ closing ∷ [] ≡ us ++ t ∷ vs = cc in
    let now = earlier ++ arg ∷ [] in
    let ran' : run (cond (ltb (length now) 4) (Some (config s (argument_wanted at w now))) None) us
    ≡ Some (config s' wanted) =
    sym (ap (λ (o : Option Arg). run (step_some (with_argument s at w earlier o) comma) us) is)
    ∙ ap (λ b. run (Some (config s (argument_wanted at w earlier))) (b ∷ comma ∷ us)) first
    ∙ ap (λ b. run (Some (config s (argument_wanted at w earlier))) (u ∷ b ∷ us)) second ∙ ran in
    by-room s s' at w now us (ltb (length now) 4) ran'
    (λ more. arguments-stay s s' at w now ts args others us vs t tail more)
  where
    by-room :
        (s s' : List Entry) (at : ℕ) (w : List ℕ) (now : List Arg) (us : List Symbol) (room : Bool)
        → run (cond room (Some (config s (argument_wanted at w now))) None) us
        ≡ Some (config s' wanted)
        → (run (Some (config s (argument_wanted at w now))) us ≡ Some (config s' wanted) → ⊥) → ⊥
    by-room s s' at w now us true ran never = never ran
    by-room s s' at w now us false ran never =
        let stuck = run-none us in let h : None ≡ Some (config s' wanted) = sym stuck ∙ ran in cc

-- so an atom with arguments opens none either
pub opens-applied :
    (at : ℕ) (w : List ℕ) (ts : List Symbol) (args : List Arg) → class_of w ≡ Names
    → Arguments ts args → OpensWithin 6 (word at w ∷ opening ∷ ts ++ closing ∷ []) 0
opens-applied at w ts args is arguments s s' [] vs t fits split ran opens =
    let head : word at w ≡ t = cc in
    absurd (not-opening (word at w) t head (names-open_none at w is) opens)
opens-applied at w ts args is arguments s s' (u ∷ []) vs t fits split ran opens =
    let head : word at w ≡ u = cc in
    let h : Some (config s (name_read at w)) ≡ Some (config s' wanted) =
    sym (ap (step_word s at w) is) ∙ ap (λ v. run (Some (config s wanted)) (v ∷ [])) head ∙ ran in
    let mode = same-mode s s' (name_read at w) h in
    absurd cc
opens-applied at w ts args is arguments s s' (u ∷ v ∷ us) vs t fits split ran opens =
    let first : word at w ≡ u = cc in
    let second : opening ≡ v = cc in
    let tail : ts ++ closing ∷ [] ≡ us ++ t ∷ vs = cc in
    let ran' : run (Some (config s (argument_wanted at w []))) us ≡ Some (config s' wanted) =
    sym (ap (λ (k : WordClass). run (step_some (step_word s at w k) opening) us) is)
    ∙ ap (λ a. run (Some (config s wanted)) (a ∷ opening ∷ us)) first
    ∙ ap (λ a. run (Some (config s wanted)) (u ∷ a ∷ us)) second ∙ ran in
    absurd (arguments-stay s s' at w [] ts args arguments us vs t tail ran')

-- behind what is open, no symbol opens a level where l levels are open
abbrev pub Shallow : ℕ → List Entry → List Symbol → Type 0
Shallow l s ts =
    (us vs : List Symbol) (t : Symbol) (s' : List Entry) → ts ≡ us ++ t ∷ vs
    → run (Some (config s wanted)) us ≡ Some (config s' wanted) → OpensLevel t → levels s' ≢ l

-- what is read opens no fewer levels than the canonical text
pub stands-opened :
    (l n : ℕ) (ts : List Symbol) (x : Meaning) → Stands n ts x → (s : List Entry) → hole s ≤ n
    → levels s ≤ l → Shallow l s ts → levels s + opened_at n x.form ≤ l
stands-opened l _ _ _ (Stands.tighter n ts x low tight) s fits few shallow =
    let more = stands-opened l (suc n) ts x tight s (omega arith) few shallow in
    let fewer = opened_by-more n (suc n) (binding x.form) (opened x.form) (omega arith) in
    omega arith
stands-opened l _ _ _ (Stands.binary at o ts us x y first second) s fits few shallow =
    let low = level-low o in
    let one =
    stands-opened l (level o) ts x first s fits few
    (λ front back t s' split ran opens. shallow front (back ++ between at o ∷ us) t s'
    (ap (λ k. k ++ between at o ∷ us) split
    ∙ append_assoc front (t ∷ back) (between at o ∷ us)) ran opens) in
    let two =
    stands-opened l (suc (level o)) us y second (left at o x ∷ s) (omega arith) few
    (λ front back t s' split ran opens. shallow (ts ++ between at o ∷ front) back t s'
    (ap (λ k. ts ++ between at o ∷ k) split
    ∙ sym (append_assoc ts (between at o ∷ front) (t ∷ back)))
    (run-left at o ts front x s fits (run-stands (level o) ts x first s fits) ∙ ran) opens) in
    let is = opened-joined o x.form y.form in
    omega arith
stands-opened l _ _ _ (Stands.prefixes at p ts x operand) s fits few shallow =
    let room : levels s ≢ l = shallow [] ts (before at p) s refl refl tt in
    let more =
    stands-opened l 6 ts x operand (sign at p ∷ s) (omega arith) (omega arith)
    (λ front back t s' split ran opens. shallow (before at p ∷ front) back t s'
    (ap (λ k. before at p ∷ k) split) ran opens) in
    let is = opened-prefixed p x.form in
    omega arith
stands-opened l _ _ _ (Stands.quantifies at w q p ts x is operand) s fits few shallow =
    let room : levels s ≢ l = shallow [] (param p ∷ ts) (word at w) s refl refl
    (subst TakesOperand (sym is) tt) in
    let goes : (front : List Symbol) → run (Some (config s wanted)) (word at w ∷ param p ∷ front)
    ≡ run (Some (config (binder at q p ∷ s) wanted)) front =
    λ front. ap (λ (k : WordClass). run (step_some (step_word s at w k) (param p)) front) is in
    let more =
    stands-opened l 6 ts x operand (binder at q p ∷ s) (omega arith) (omega arith)
    (λ front back t s' split ran opens. shallow (word at w ∷ param p ∷ front) back t s'
    (ap (λ k. word at w ∷ param p ∷ k) split) (goes front ∙ ran) opens) in
    let same = opened-quantified q p x.form in
    omega arith
stands-opened l _ _ _ (Stands.counts at at' w v n ts x is number operand) s fits few shallow =
    let room : levels s ≢ l = shallow [] (word at' v ∷ ts) (word at w) s refl refl
    (subst TakesOperand (sym is) tt) in
    let more =
    stands-opened l 6 ts x operand (counter at n ∷ s) (omega arith) (omega arith)
    (λ front back t s' split ran opens. shallow (word at w ∷ word at' v ∷ front) back t s'
    (ap (λ k. word at w ∷ word at' v ∷ k) split)
    (run-counts s at at' w v n front is number ∙ ran) opens) in
    omega arith
stands-opened l _ _ _ (Stands.group ts x inner) s fits few shallow =
    let room : levels s ≢ l = shallow [] (ts ++ closing ∷ []) opening s refl refl tt in
    let more =
    stands-opened l 1 ts x inner (group ∷ s) (omega arith) (omega arith)
    (λ front back t s' split ran opens. shallow (opening ∷ front) (back ++ closing ∷ []) t s'
    (ap (λ k. opening ∷ k ++ closing ∷ []) split
    ∙ ap (λ k. opening ∷ k) (append_assoc front (t ∷ back) (closing ∷ []))) ran opens) in
    let least = opened_by-least 1 (binding x.form) (opened x.form) in
    let most = opened_by-most 6 (binding x.form) (opened x.form) in
    omega arith
stands-opened l _ _ _ (Stands.bare at w is) s fits few shallow = omega arith
stands-opened l _ _ _ (Stands.applied at w ts args is arguments _) s fits few shallow = omega arith
