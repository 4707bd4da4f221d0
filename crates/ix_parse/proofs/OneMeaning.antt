-- A text means one thing at most, or has one first fault, and never both.
use Rattle.std.proofs.Common.{◌≡◌, ℕ, ◌<◌, ◌≤◌, List, [], ◌∷◌, ◌++◌, length, map, Option, Some, None, refl, sym, ap, ◌∙◌, subst, arith}
use Rattle.std.specs.Prelude.{slice_get, IsSomeAnd}
use Rattle.ix_lex.specs.Lexing.{PlainToken, Piece, token, Pieces}
use Rattle.ix_lex.proofs.PiecesExist.{Pieces-are}
use Rattle.ix_expr.specs.Form.{Form}
use Rattle.ix_expr.specs.FormFaults.{Node, nodes_of, fault_at, IsFirstFormFault}
use Rattle.ix_parse.specs.declared.faults.Fault.{Fault}
use Rattle.ix_parse.specs.Symbols.{Symbol, Meaning}
use Rattle.ix_parse.specs.Grammar.{Stands}
use Rattle.ix_parse.specs.Faults.{order_of, code_of, Met, symbols_of, place_of, IsFirstSyntaxFault, HasMeaning, IsFirstFault}
use Rattle.ix_parse.specs.Laws.{TextsStandForOneExpression, FaultyTextsStandForNone, TextsHaveOneFirstFault, ExpressionsHaveOneFormFault}
use Rattle.ix_parse.proofs.Runs.{run-stands, whole-stands}
use Rattle.ix_parse.proofs.Steps.{some_is}
use Rattle.ix_parse.proofs.FirstFaults.{order-one}
use Rattle.ix_parse.proofs.Progressing.{same-cut}

-- symbols stand for one meaning
stands-one : (ts : List Symbol) (x y : Meaning) → Stands 1 ts x → Stands 1 ts y → x ≡ y
stands-one ts x y first second =
    let r = run-stands 1 ts x first [] (omega arith) in
    some_is x y (sym (whole-stands ts x first r.last r.is) ∙ whole-stands ts y second r.last r.is)

-- a text has one list of pieces
pub pieces-one :
    (text : List ℕ) (ps qs : List Piece) → Pieces 0 text ps → Pieces 0 text qs → ps ≡ qs
pieces-one text ps qs first second = Pieces-are 0 text ps first ∙ sym (Pieces-are 0 text qs second)

-- pieces are those of one list of tokens
pub tokens-one : (us vs : List PlainToken) → map token us ≡ map token vs → us ≡ vs
tokens-one [] [] e = refl
tokens-one [] (v ∷ vs) e = absurd cc
tokens-one (u ∷ us) [] e = absurd cc
tokens-one (u ∷ us) (v ∷ vs) e =
    let head : u ≡ v = cc in
    let tail : map token us ≡ map token vs = cc in
    let more = tokens-one us vs tail in
    cc

-- a text has one meaning
meaning-one : (text : List ℕ) (x y : Meaning) → HasMeaning text x → HasMeaning text y → x ≡ y
meaning-one text x y first second =
    let same =
    tokens-one first.tokens second.tokens
    (pieces-one text (map token first.tokens)
    (map token second.tokens) first.pieces second.pieces) in
    stands-one (symbols_of first.tokens) x y first.stands
    (subst (λ l. Stands 1 (symbols_of l) y) (sym same) second.stands)

-- a text stands for one expression
pub one-expression : TextsStandForOneExpression
one-expression text x y first second =
    ap (λ (m : Meaning). m.form)
    (meaning-one text (record { form = x; places = first.places })
    (record { form = y; places = second.places }) first.means second.means)

-- a front of tokens isn't longer than they are
front-short :
    (all us : List PlainToken) (after : List Piece) → map token all ≡ map token us ++ after
    → length us ≤ length all
front-short all [] after e = omega arith
front-short [] (u ∷ us) after e = absurd cc
front-short (t ∷ all) (u ∷ us) after e =
    let tail : map token all ≡ map token us ++ after = cc in
    let more = front-short all us after tail in
    omega arith

pub pieces-split : (us vs : List PlainToken) → map token (us ++ vs) ≡ map token us ++ map token vs
pieces-split [] vs = refl
pieces-split (u ∷ us) vs = ap (λ l. token u ∷ l) (pieces-split us vs)

-- at no token of a text that has a meaning a fault is met
pub nothing-at :
    (text : List ℕ) (x : Meaning) (means : HasMeaning text x) (us vs : List PlainToken)
    (t : PlainToken) (fault : Fault) → means.tokens ≡ us ++ t ∷ vs
    → ¬ Met (symbols_of us) (token t ∷ map token vs) fault
nothing-at text x means us vs t fault split met =
    let same : map token means.tokens ≡ map token us ++ token t ∷ map token vs =
    ap (map token) split ∙ pieces-split us (t ∷ vs) in
    let short = front-short means.tokens us (token t ∷ map token vs) same in
    means.nothing_met us (token t ∷ map token vs) fault same (omega arith) met

-- a text with a syntax fault has no meaning
no-meaning :
    (text : List ℕ) (pieces : List Piece) (code at : ℕ) (x : Meaning) → Pieces 0 text pieces
    → IsFirstSyntaxFault pieces (length text) code at → HasMeaning text x → ⊥
no-meaning text pieces code at x cut first means =
    let same : map token means.tokens ≡ map token first.before ++ first.after =
    pieces-one text (map token means.tokens) pieces means.pieces cut ∙ first.split in
    let short = front-short means.tokens first.before first.after same in
    means.nothing_met first.before first.after first.fault same (omega arith) first.met

-- what is there
some-node :
    (at : Option Node) (P : Node → Type 0) → IsSomeAnd at P
    → (node : Node) × (at ≡ Some node) × P node
some-node None P there = absurd there
some-node (Some node) P there = (node, refl, there)

-- the node of a first form fault
fault-of :
    (x : Form) (code number : ℕ) → IsFirstFormFault x code number
    → (node : Node) × (slice_get (nodes_of x) number ≡ Some node)
    × (fault_at number node ≡ Some code)
fault-of x code number first =
    some-node (slice_get (nodes_of x) number) (λ node. fault_at number node ≡ Some code) first.here

-- a text with a first fault stands for nothing
pub faulty-none : FaultyTextsStandForNone
faulty-none text _ _ x (IsFirstFault.too_long long) stands =
    let short = stands.means.short in omega arith
faulty-none text _ _ x (IsFirstFault.syntax_fault pieces code at short cut first) stands =
    no-meaning text pieces code at
    (record { form = x; places = stands.places }) cut first stands.means
faulty-none text _ _ x (IsFirstFault.form_fault m code number at means first placed) stands =
    let same : m.form ≡ x =
    ap (λ (k : Meaning). k.form)
    (meaning-one text m (record { form = x; places = stands.places }) means stands.means) in
    let here =
    fault-of x code number (subst (λ (f : Form). IsFirstFormFault f code number) same first) in
    let none = stands.well_formed.faultless.none number here.0 here.1 in
    let h : Some code ≡ None = sym here.2 ∙ none in
    cc

-- no first fault of pieces is met before another one, nor at its place with a lower order
module _ (pieces : List Piece) (end c a d b : ℕ) (first : IsFirstSyntaxFault pieces end c a)
    (second : IsFirstSyntaxFault pieces end d b) where
  not-earlier : ¬ (length first.before < length second.before)
  not-earlier low =
      second.nothing_before first.before first.after first.fault first.split low first.met

  not-lower :
      first.before ≡ second.before → first.after ≡ second.after
      → ¬ (order_of first.fault < order_of second.fault)
  not-lower fronts backs low =
      second.nothing_lower first.fault low
      (subst (λ l. Met (symbols_of l) second.after first.fault) fronts
      (subst (λ l. Met (symbols_of first.before) l first.fault) backs first.met))

-- pieces have one first syntax fault
syntax_fault-one :
    (pieces : List Piece) (end c a d b : ℕ) → IsFirstSyntaxFault pieces end c a
    → IsFirstSyntaxFault pieces end d b → (c ≡ d) × (a ≡ b)
syntax_fault-one pieces end c a d b first second =
    let after = not-earlier pieces end c a d b first second in
    let before = not-earlier pieces end d b c a second first in
    let same =
    same-cut first.before second.before first.after second.after (sym first.split ∙ second.split)
    (omega arith) in
    let no_lower = not-lower pieces end c a d b first second same.fronts same.backs in
    let no_higher = not-lower pieces end d b c a second first (sym same.fronts) (sym same.backs) in
    let fault : first.fault ≡ second.fault = order-one first.fault second.fault (omega arith) in
    let code = first.code_is ∙ ap code_of fault ∙ sym second.code_is in
    let place = first.place_is ∙ ap (λ l. place_of l end) same.backs ∙ sym second.place_is in
    (code, place)

-- no form fault is the first where another node before it has one
not-before : (x : Form) (c n d m : ℕ) → IsFirstFormFault x c n → IsFirstFormFault x d m → ¬ (n < m)
not-before x c n d m first second low =
    let here = fault-of x c n first in
    let none = second.before n here.0 low here.1 in
    let h : Some c ≡ None = sym here.2 ∙ none in
    cc

-- an expression has one first form fault
pub form_fault-one : ExpressionsHaveOneFormFault
form_fault-one x c n d m first second =
    let after = not-before x c n d m first second in
    let before = not-before x d m c n second first in
    let same : n ≡ m = omega arith in
    let here = fault-of x c n first in
    let there = fault-of x d m second in
    let node : here.0 ≡ there.0 =
    some_is here.0 there.0 (sym here.1 ∙ ap (slice_get (nodes_of x)) same ∙ there.1) in
    let faults = ap (λ k. fault_at k here.0) same ∙ ap (fault_at m) node in
    (some_is c d (sym here.2 ∙ faults ∙ there.2), same)

-- a text that is too long has no other first fault
long-one :
    (text : List ℕ) (d b : ℕ) → 16384 < length text → IsFirstFault text d b → (1 ≡ d) × (16384 ≡ b)
long-one text _ _ long (IsFirstFault.too_long _) = (refl, refl)
long-one text _ _ long (IsFirstFault.syntax_fault pieces code at short cut first) =
    absurd (omega arith)
long-one text _ _ long (IsFirstFault.form_fault x code number at means first placed) =
    absurd (let short = means.short in omega arith)

-- a text with a syntax fault has no other first fault
syntax-one :
    (text : List ℕ) (pieces : List Piece) (c a d b : ℕ) → length text ≤ 16384 → Pieces 0 text pieces
    → IsFirstSyntaxFault pieces (length text) c a → IsFirstFault text d b → (c ≡ d) × (a ≡ b)
syntax-one text pieces c a _ _ short cut first (IsFirstFault.too_long long) = absurd (omega arith)
syntax-one text pieces c a _ _ short cut first
    (IsFirstFault.syntax_fault others code at _ cut' second) =
    let same = pieces-one text others pieces cut' cut in
    syntax_fault-one pieces (length text) c a code at first
    (subst (λ l. IsFirstSyntaxFault l (length text) code at) same second)
syntax-one text pieces c a _ _ short cut first
    (IsFirstFault.form_fault x code number at means second placed) =
    absurd (no-meaning text pieces c a x cut first means)

-- a text with a form fault has no other first fault
form-one :
    (text : List ℕ) (x : Meaning) (c n a d b : ℕ) → HasMeaning text x → IsFirstFormFault x.form c n
    → slice_get x.places n ≡ Some a → IsFirstFault text d b → (c ≡ d) × (a ≡ b)
form-one text x c n a _ _ means first placed (IsFirstFault.too_long long) =
    absurd (let short = means.short in omega arith)
form-one text x c n a _ _ means first placed
    (IsFirstFault.syntax_fault pieces code at short cut second) =
    absurd (no-meaning text pieces code at x cut second means)
form-one text x c n a _ _ means first placed
    (IsFirstFault.form_fault y code m at means' second placed') =
    let same = meaning-one text y x means' means in
    let faults =
    form_fault-one x.form c n code m first
    (subst (λ (k : Meaning). IsFirstFormFault k.form code m) same second) in
    let there : slice_get x.places m ≡ Some at =
    subst (λ (k : Meaning). slice_get k.places m ≡ Some at) same placed' in
    (faults.0, some_is a at (sym placed ∙ ap (slice_get x.places) faults.1 ∙ there))

-- a text has one first fault
pub one-first_fault : TextsHaveOneFirstFault
one-first_fault text _ _ d b (IsFirstFault.too_long long) second = long-one text d b long second
one-first_fault text _ _ d b (IsFirstFault.syntax_fault pieces code at short cut first) second =
    syntax-one text pieces code at d b short cut first second
one-first_fault text _ _ d b (IsFirstFault.form_fault x code number at means first placed) second =
    form-one text x code number at d b means first placed second
