-- The canonical text of an expression is cut into tokens that stand for it.
use Rattle.std.proofs.Common.{◌≡◌, ℕ, suc, ◌+◌, ◌<◌, ◌≤◌, Bool, true, false, leb, ltb, List, [], ◌∷◌, ◌++◌, length, map, max, codes, decimal, Some, refl, sym, ap, ◌∙◌, subst, arith, append_assoc, leb-false, leb-true, ltb-false, ltb-true}
use Rattle.std.specs.Prelude.{All}
use Rattle.std.specs.List.{list_all}
use Rattle.std.proofs.lemmas.List.{append-nil}
use Rattle.std.proofs.lemmas.List.Elements.{All-head, All-tail}
use Rattle.ix_values.specs.Texts.{IsName, begins_with_letter}
use Rattle.ix_expr.specs.declared.arg.Arg.{Arg}
use Rattle.ix_expr.specs.declared.arg.Arg.TheVariants.{Fixed, Param}
use Rattle.ix_expr.specs.Form as forms
use Rattle.ix_expr.specs.Form.{Form, atom_of}
use Rattle.ix_expr.specs.FormFaults.{IsTimesNumber, HasNumbers}
use Rattle.ix_expr.specs.Spelling.{IsArgument, IsAtom, IsSpelled}
use Rattle.ix_expr.specs.CanonicalText.{binding, enclosed, argument_text, more_arguments_text, arguments_text, operand_text, canonical_text}
use Rattle.ix_lex.specs.declared.TokenKind.{TokenKind}
use Rattle.ix_lex.specs.declared.TokenKind.TheVariants as kinds
use Rattle.ix_lex.specs.WordBytes.{sign_of, begins}
use Rattle.ix_lines.specs.Bytes.{is_letter, is_word_byte}
use Rattle.ix_lex.specs.Lexing.{PlainToken, token, Pieces}
use Rattle.ix_parse.specs.declared.signs.Operator.{Operator}
use Rattle.ix_parse.specs.declared.signs.Operator.TheVariants as operators
use Rattle.ix_parse.specs.declared.signs.Prefix.{Prefix}
use Rattle.ix_parse.specs.declared.signs.Prefix.TheVariants as prefixes
use Rattle.ix_parse.specs.declared.signs.Quantifier.{Quantifier}
use Rattle.ix_parse.specs.declared.signs.Quantifier.TheVariants as quantifiers
use Rattle.ix_parse.specs.declared.signs.WordClass.TheVariants.{Quantifies, Counts}
use Rattle.ix_parse.specs.Symbols.{Symbol, word, opening, closing, before, between, symbol_by, symbol_of, class_of, level, Meaning, joined_form, prefixed_form, quantified_form, argument_of}
use Rattle.ix_parse.specs.Grammar.{Arguments, Stands}
use Rattle.ix_parse.specs.Faults.{IsLong, symbols_of}
use Rattle.ix_parse.proofs.Classes.{named-class}
use Rattle.ix_parse.proofs.Cuts.{Stands-loosen}
use Rattle.ix_parse.proofs.Numbers.{decimal-word, decimal-some, decimal-short}
use Rattle.ix_parse.proofs.Levels.{opened, opened_at, opened_by-bare, opened_by-least, opened_by-enclosed, OpensWithin, opens-loosen, opens-binary, opens-prefixed, opens-quantified, opens-counted, opens-group, opens-bare, opens-applied}
use Rattle.ix_parse.proofs.Cutting.{token_at, CutsEnded, any-ended, any-then, any-any, ended-any, ended-ended, cuts-blank, cuts-sign, cuts-word, cuts-param}

abbrev pub meaning : Form → List ℕ → Meaning
meaning x places = record { form = x; places = places }

-- no name among the tokens is long
abbrev pub NoneLong : List PlainToken → Type 0
NoneLong [] = Unit {0}
NoneLong (t ∷ ts) = (¬ IsLong (symbol_of t)) × NoneLong ts

none_long-append : (ts us : List PlainToken) → NoneLong ts → NoneLong us → NoneLong (ts ++ us)
none_long-append [] us first second = second
none_long-append (t ∷ ts) us first second = (first.0, none_long-append ts us first.1 second)

symbols-append : (ts us : List PlainToken) → symbols_of (ts ++ us) ≡ symbols_of ts ++ symbols_of us
symbols-append [] us = refl
symbols-append (t ∷ ts) us = ap (λ l. symbol_of t ∷ l) (symbols-append ts us)

-- the text at this place is cut into tokens that stand for the form at level n, and open at most d
-- levels
pub record Printed (at : ℕ) (text : List ℕ) (n : ℕ) (x : Form) (d : ℕ) : Type 0 where
  pub tokens : List PlainToken
  pub places : List ℕ
  pub cuts : CutsEnded at text tokens
  pub short : NoneLong tokens
  pub stands : Stands n (symbols_of tokens) (meaning x places)
  pub opens : OpensWithin n (symbols_of tokens) d

-- no more levels than the canonical text does at that level
abbrev PrintedOf : ℕ → List ℕ → ℕ → Form → Type 0
PrintedOf at text n x = Printed at text n x (opened_at n x)

pub binding-some : (x : Form) → 1 ≤ binding x
binding-some (forms.atom a) = omega arith
binding-some (forms.opt y) = omega arith
binding-some (forms.seq y z) = omega arith
binding-some (forms.star y) = omega arith
binding-some (forms.par y z) = omega arith
binding-some (forms.par_star y) = omega arith
binding-some (forms.or y z) = omega arith
binding-some (forms.and y z) = omega arith
binding-some (forms.couple y z) = omega arith
binding-some (forms.any p y) = omega arith
binding-some (forms.every p y) = omega arith
binding-some (forms.sync p y) = omega arith
binding-some (forms.all p y) = omega arith
binding-some (forms.times n y) = omega arith

pub binding-low : (x : Form) → binding x ≤ 6
binding-low (forms.atom a) = omega arith
binding-low (forms.opt y) = omega arith
binding-low (forms.seq y z) = omega arith
binding-low (forms.star y) = omega arith
binding-low (forms.par y z) = omega arith
binding-low (forms.par_star y) = omega arith
binding-low (forms.or y z) = omega arith
binding-low (forms.and y z) = omega arith
binding-low (forms.couple y z) = omega arith
binding-low (forms.any p y) = omega arith
binding-low (forms.every p y) = omega arith
binding-low (forms.sync p y) = omega arith
binding-low (forms.all p y) = omega arith
binding-low (forms.times n y) = omega arith

-- an operand in parentheses
pub printed-group :
    (x : Form) (text : List ℕ) (at d : ℕ) → Printed (at + 1) text 1 x d
    → Printed at ((40 ∷ text) ++ 41 ∷ []) 6 x (suc d)
printed-group x text at d p =
    let open_token = token_at kinds.Open (40 ∷ []) at in
    let close_token = token_at kinds.Close (41 ∷ []) (at + length (40 ∷ text)) in
    let symbols : symbols_of (open_token ∷ p.tokens ++ close_token ∷ []) ≡ opening ∷ symbols_of p.tokens ++ closing ∷ [] = ap (λ l. opening ∷ l) (symbols-append p.tokens (close_token ∷ [])) in
    record {
      tokens = open_token ∷ p.tokens ++ close_token ∷ [];
      places = p.places;
      cuts =
          any-ended at ((40 ∷ text) ++ 41 ∷ []) (open_token ∷ p.tokens ++ close_token ∷ [])
          (ended-any at 41 (40 ∷ text) [] (open_token ∷ p.tokens) (close_token ∷ []) refl
          (any-then at (40 ∷ []) text (open_token ∷ []) p.tokens (cuts-sign at 40 kinds.Open refl) p.cuts)
          (cuts-sign (at + length (40 ∷ text)) 41 kinds.Close refl));
      short = (λ long. long, none_long-append p.tokens (close_token ∷ []) p.short (λ long. long, tt));
      stands =
          subst (λ l. Stands 6 l (meaning x p.places)) (sym symbols)
          (Stands.group (symbols_of p.tokens) (meaning x p.places) p.stands);
      opens =
          subst (λ l. OpensWithin 6 l (suc d)) (sym symbols)
          (opens-group (symbols_of p.tokens) d p.opens);
    }

-- at a looser level, with more levels
pub printed-loosen :
    (n m : ℕ) (x : Form) (text : List ℕ) (at c d : ℕ) → n ≤ m → m ≤ 6 → c ≤ d
    → Printed at text m x c → Printed at text n x d
printed-loosen n m x text at c d loose low more p = record {
  tokens = p.tokens;
  places = p.places;
  cuts = p.cuts;
  short = p.short;
  stands = Stands-loosen m n (symbols_of p.tokens) (meaning x p.places) loose low p.stands;
  opens = opens-loosen n m c d (symbols_of p.tokens) loose more p.opens;
}

-- an operand, in parentheses where it binds too weakly
printed-enclosed :
    (test : Bool) (k : ℕ) (x : Form) (text : List ℕ) (at : ℕ) → k ≤ 6
    → ((from : ℕ) → PrintedOf from text (binding x) x) → (test ≡ false → k ≤ binding x)
    → (test ≡ true → binding x < k) → PrintedOf at (enclosed test text) k x
printed-enclosed false k x text at low inner tight loose =
    let bare = opened_by-bare (binding x) (binding x) (opened x) (omega arith) in
    let least = opened_by-least k (binding x) (opened x) in
    printed-loosen k (binding x) x text at (opened_at (binding x) x) (opened_at k x) (tight refl)
    (binding-low x) (omega arith) (inner at)
printed-enclosed true k x text at low inner tight loose =
    let bare = opened_by-bare (binding x) (binding x) (opened x) (omega arith) in
    let one_more = opened_by-enclosed k (binding x) (opened x) (loose refl) in
    printed-loosen k 6 x ((40 ∷ text) ++ 41 ∷ []) at (suc (opened x)) (opened_at k x) low
    (omega arith) (omega arith)
    (printed-group x text at (opened x)
    (printed-loosen 1 (binding x) x text (at + 1) (opened_at (binding x) x) (opened x)
    (binding-some x) (binding-low x) (omega arith) (inner (at + 1))))

-- an operator between two operands
printed-binary : (o : Operator) (b : ℕ) (kind : TokenKind) (x y : Form) (at : ℕ) (t u : List ℕ) (c d : ℕ) → sign_of b ≡ Some kind → ((n : ℕ) → symbol_by kind n (b ∷ []) ≡ between n o) → Printed at t (level o) x c → ((from : ℕ) → Printed from u (suc (level o)) y d) → Printed at ((t ++ (32 ∷ b ∷ 32 ∷ [])) ++ u) (level o) (joined_form o x y) (max c d)
printed-binary o b kind x y at t u c d is_sign is_between l right =
    let place = at + length t + 1 in
    let sign_token = token_at kind (b ∷ []) place in
    let r = right (at + length (t ++ (32 ∷ b ∷ 32 ∷ []))) in
    let all = (l.tokens ++ sign_token ∷ []) ++ r.tokens in
    let symbols : symbols_of all ≡ symbols_of l.tokens ++ between place o ∷ symbols_of r.tokens =
    symbols-append (l.tokens ++ sign_token ∷ []) r.tokens ∙ ap (λ s. s ++ symbols_of r.tokens) (symbols-append l.tokens (sign_token ∷ []))
    ∙ append_assoc (symbols_of l.tokens) (symbol_of sign_token ∷ []) (symbols_of r.tokens) ∙ ap (λ s. symbols_of l.tokens ++ s ∷ symbols_of r.tokens) (is_between place) in
    let not_long : ¬ IsLong (symbol_of sign_token) = λ long. (let P : Symbol → Type 0 = λ s. IsLong s in subst P (is_between place) long) in
    record {
      tokens = all;
      places = place ∷ l.places ++ r.places;
      cuts =
          any-then at (t ++ (32 ∷ b ∷ 32 ∷ [])) u (l.tokens ++ sign_token ∷ []) r.tokens
          (ended-any at 32 t (b ∷ 32 ∷ []) l.tokens (sign_token ∷ []) refl l.cuts
          (any-any (at + length t) (32 ∷ []) (b ∷ 32 ∷ []) [] (sign_token ∷ []) (cuts-blank (at + length t))
          (any-any place (b ∷ []) (32 ∷ []) (sign_token ∷ []) [] (cuts-sign place b kind is_sign) (cuts-blank (place + 1)))))
          r.cuts;
      short = none_long-append (l.tokens ++ sign_token ∷ []) r.tokens (none_long-append l.tokens (sign_token ∷ []) l.short (not_long, tt)) r.short;
      stands =
          subst (λ s. Stands (level o) s (meaning (joined_form o x y) (place ∷ l.places ++ r.places))) (sym symbols)
          (Stands.binary place o (symbols_of l.tokens) (symbols_of r.tokens) (meaning x l.places) (meaning y r.places) l.stands r.stands);
      opens =
          subst (λ s. OpensWithin (level o) s (max c d)) (sym symbols)
          (opens-binary place o (symbols_of l.tokens) (symbols_of r.tokens) (meaning x l.places) c d
          l.stands l.opens r.opens);
    }

-- a prefix in front of an operand
printed-prefix : (sign : Prefix) (b : ℕ) (kind : TokenKind) (x : Form) (at : ℕ) (t : List ℕ) (d : ℕ) → sign_of b ≡ Some kind → ((n : ℕ) → symbol_by kind n (b ∷ []) ≡ before n sign) → Printed (at + 1) t 6 x d → Printed at (b ∷ t) 6 (prefixed_form sign x) (suc d)
printed-prefix sign b kind x at t d is_sign is_before p =
    let sign_token = token_at kind (b ∷ []) at in
    let not_long : ¬ IsLong (symbol_of sign_token) = λ long. (let P : Symbol → Type 0 = λ s. IsLong s in subst P (is_before at) long) in
    record {
      tokens = sign_token ∷ p.tokens;
      places = at ∷ p.places;
      cuts = any-then at (b ∷ []) t (sign_token ∷ []) p.tokens (cuts-sign at b kind is_sign) p.cuts;
      short = (not_long, p.short);
      stands =
          subst (λ s. Stands 6 (s ∷ symbols_of p.tokens) (meaning (prefixed_form sign x) (at ∷ p.places))) (sym (is_before at))
          (Stands.prefixes at sign (symbols_of p.tokens) (meaning x p.places) p.stands);
      opens =
          subst (λ s. OpensWithin 6 (s ∷ symbols_of p.tokens) (suc d)) (sym (is_before at))
          (opens-prefixed at sign (symbols_of p.tokens) d p.opens);
    }

not_long : (n : ℕ) → n ≤ 32 → ¬ (32 < n)
not_long n short long = omega arith

begins-letter : (p : List ℕ) → begins_with_letter p ≡ true → begins is_letter p ≡ true
begins-letter [] e = e
begins-letter (b ∷ bs) e = e

-- a quantifier in front of an operand
printed-quantifier : (q : Quantifier) (w p : List ℕ) (x : Form) (at : ℕ) (t : List ℕ) (d : ℕ) → class_of w ≡ Quantifies q → 0 < length w → list_all is_word_byte w ≡ true → length w ≤ 32 → IsName p → ((from : ℕ) → Printed from t 6 x d) → Printed at ((w ++ (32 ∷ 36 ∷ p)) ++ (32 ∷ t)) 6 (quantified_form q p x) (suc d)
printed-quantifier q w p x at t d is some all few name inner =
    let word_token = token_at kinds.Word w at in
    let param_token = token_at kinds.Param (36 ∷ p) (at + length w + 1) in
    let from = at + length (w ++ (32 ∷ 36 ∷ p)) in
    let r = inner (from + 1) in
    record {
      tokens = word_token ∷ param_token ∷ r.tokens;
      places = at ∷ r.places;
      cuts =
          ended-ended at 32 (w ++ (32 ∷ 36 ∷ p)) t (word_token ∷ param_token ∷ []) r.tokens refl
          (ended-ended at 32 w (36 ∷ p) (word_token ∷ []) (param_token ∷ []) refl (cuts-word at w some all)
          (any-then (at + length w) (32 ∷ []) (36 ∷ p) [] (param_token ∷ []) (cuts-blank (at + length w)) (cuts-param (at + length w + 1) p (begins-letter p name.begins) name.word)))
          (any-then from (32 ∷ []) t [] r.tokens (cuts-blank from) r.cuts);
      short = (not_long (length w) few, (not_long (length p) name.short, r.short));
      stands = Stands.quantifies at w q p (symbols_of r.tokens) (meaning x r.places) is r.stands;
      opens = opens-quantified at w q p (symbols_of r.tokens) d is r.opens;
    }

times_class : class_of (codes "times") ≡ Counts
unfolding class_of
times_class = refl

-- `times` and its number in front of an operand
printed-counted : (n : ℕ) (x : Form) (at : ℕ) (t : List ℕ) (d : ℕ) → IsTimesNumber n → ((from : ℕ) → Printed from t 6 x d) → Printed at ((codes "times" ++ (32 ∷ decimal n)) ++ (32 ∷ t)) 6 (forms.times n x) (suc d)
printed-counted n x at t d number inner =
    let w = codes "times" in
    let word_token = token_at kinds.Word w at in
    let number_at = at + length w + 1 in
    let number_token = token_at kinds.Word (decimal n) number_at in
    let from = at + length (w ++ (32 ∷ decimal n)) in
    let r = inner (from + 1) in
    let digits = decimal-short n number in
    record {
      tokens = word_token ∷ number_token ∷ r.tokens;
      places = at ∷ r.places;
      cuts =
          ended-ended at 32 (w ++ (32 ∷ decimal n)) t (word_token ∷ number_token ∷ []) r.tokens refl
          (ended-ended at 32 w (decimal n) (word_token ∷ []) (number_token ∷ []) refl (cuts-word at w (omega arith) refl)
          (any-then (at + length w) (32 ∷ []) (decimal n) [] (number_token ∷ []) (cuts-blank (at + length w)) (cuts-word number_at (decimal n) (decimal-some n number) (decimal-word n number))))
          (any-then from (32 ∷ []) t [] r.tokens (cuts-blank from) r.cuts);
      short = (not_long (length w) (omega arith), (not_long (length (decimal n)) (omega arith), r.short));
      stands = Stands.counts at number_at w (decimal n) n (symbols_of r.tokens) (meaning x r.places) times_class (record { same = refl; number = number }) r.stands;
      opens = opens-counted at number_at w (decimal n) n (symbols_of r.tokens) d times_class (record { same = refl; number = number }) r.opens;
    }

-- an argument
pub record PrintedArgument (at : ℕ) (a : Arg) : Type 0 where
  pub the_token : PlainToken
  pub cuts : CutsEnded at (argument_text a) (the_token ∷ [])
  pub short : ¬ IsLong (symbol_of the_token)
  pub is : argument_of (symbol_of the_token) ≡ Some a

printed-argument : (at : ℕ) (a : Arg) → IsArgument a → PrintedArgument at a
printed-argument at (Fixed v) value = record { the_token = token_at kinds.Word v at; cuts = cuts-word at v value.begins value.word; short = not_long (length v) value.short; is = refl }
printed-argument at (Param p) name = record { the_token = token_at kinds.Param (36 ∷ p) at; cuts = cuts-param at p (begins-letter p name.begins) name.word; short = not_long (length p) name.short; is = refl }

-- arguments with commas between them
pub record PrintedArguments (at : ℕ) (text : List ℕ) (args : List Arg) : Type 0 where
  pub tokens : List PlainToken
  pub cuts : CutsEnded at text tokens
  pub short : NoneLong tokens
  pub list : Arguments (symbols_of tokens) args

printed-arguments : (at : ℕ) (a : Arg) (args : List Arg) → IsArgument a → All IsArgument args → PrintedArguments at (argument_text a ++ more_arguments_text args) (a ∷ args)
printed-arguments at a [] is_a are =
    let p = printed-argument at a is_a in
    record {
      tokens = p.the_token ∷ [];
      cuts = subst (λ l. CutsEnded at l (p.the_token ∷ [])) (sym (append-nil (argument_text a))) p.cuts;
      short = (p.short, tt);
      list = Arguments.one (symbol_of p.the_token) a p.is;
    }
printed-arguments at a (b ∷ args) is_a are =
    let p = printed-argument at a is_a in
    let from = at + length (argument_text a) in
    let r = printed-arguments (from + 1) b args (All-head IsArgument b args are) (All-tail IsArgument b args are) in
    let comma_token = token_at kinds.Comma (44 ∷ []) from in
    record {
      tokens = p.the_token ∷ comma_token ∷ r.tokens;
      cuts =
          ended-ended at 44 (argument_text a) (argument_text b ++ more_arguments_text args) (p.the_token ∷ []) (comma_token ∷ r.tokens) refl p.cuts
          (any-then from (44 ∷ []) (argument_text b ++ more_arguments_text args) (comma_token ∷ []) r.tokens (cuts-sign from 44 kinds.Comma refl) r.cuts);
      short = (p.short, (λ long. long, r.short));
      list = Arguments.more (symbol_of p.the_token) a (symbols_of r.tokens) (b ∷ args) p.is r.list;
    }

letter-some : (w : List ℕ) → begins_with_letter w ≡ true → 0 < length w
letter-some [] e = absurd cc
letter-some (b ∷ bs) e = omega arith

printed-atom : (at : ℕ) (w : List ℕ) (args : List Arg) → IsAtom (atom_of w args) → Printed at (w ++ arguments_text args) 6 (forms.atom (atom_of w args)) 0
printed-atom at w [] a =
    let name_token = token_at kinds.Word w at in
    record {
      tokens = name_token ∷ [];
      places = at ∷ [];
      cuts = subst (λ l. CutsEnded at l (name_token ∷ [])) (sym (append-nil w)) (cuts-word at w (letter-some w a.name.begins) a.name.word);
      short = (not_long (length w) a.name.short, tt);
      stands = Stands.bare at w (named-class w a.unreserved a.name.begins);
      opens = opens-bare at w (named-class w a.unreserved a.name.begins);
    }
printed-atom at w (b ∷ args) a =
    let name_token = token_at kinds.Word w at in
    let from = at + length w in
    let inner = argument_text b ++ more_arguments_text args in
    let r = printed-arguments (from + 1) b args (All-head IsArgument b args a.arguments) (All-tail IsArgument b args a.arguments) in
    let open_token = token_at kinds.Open (40 ∷ []) from in
    let close_token = token_at kinds.Close (41 ∷ []) (from + length (40 ∷ inner)) in
    let symbols : symbols_of (name_token ∷ open_token ∷ r.tokens ++ close_token ∷ []) ≡ word at w ∷ opening ∷ symbols_of r.tokens ++ closing ∷ [] = ap (λ l. word at w ∷ opening ∷ l) (symbols-append r.tokens (close_token ∷ [])) in
    record {
      tokens = name_token ∷ open_token ∷ r.tokens ++ close_token ∷ [];
      places = at ∷ [];
      cuts =
          any-ended at (w ++ arguments_text (b ∷ args)) (name_token ∷ open_token ∷ r.tokens ++ close_token ∷ [])
          (ended-any at 40 w (inner ++ 41 ∷ []) (name_token ∷ []) (open_token ∷ r.tokens ++ close_token ∷ []) refl (cuts-word at w (letter-some w a.name.begins) a.name.word)
          (ended-any from 41 (40 ∷ inner) [] (open_token ∷ r.tokens) (close_token ∷ []) refl
          (any-then from (40 ∷ []) inner (open_token ∷ []) r.tokens (cuts-sign from 40 kinds.Open refl) r.cuts)
          (cuts-sign (from + length (40 ∷ inner)) 41 kinds.Close refl)));
      short = (not_long (length w) a.name.short, (λ long. long, none_long-append r.tokens (close_token ∷ []) r.short (λ long. long, tt)));
      stands =
          subst (λ l. Stands 6 l (meaning (forms.atom (atom_of w (b ∷ args))) (at ∷ []))) (sym symbols)
          (Stands.applied at w (symbols_of r.tokens) (b ∷ args) (named-class w a.unreserved a.name.begins) r.list a.few);
      opens =
          subst (λ l. OpensWithin 6 l 0) (sym symbols)
          (opens-applied at w (symbols_of r.tokens) (b ∷ args)
          (named-class w a.unreserved a.name.begins) r.list);
    }

-- operands of an operator and of a prefix
left-operand : (k : ℕ) (x : Form) (text : List ℕ) (at : ℕ) → k ≤ 5 → ((from : ℕ) → PrintedOf from text (binding x) x) → PrintedOf at (enclosed (ltb (binding x) k) text) k x
left-operand k x text at low inner =
    printed-enclosed (ltb (binding x) k) k x text at (omega arith) inner
    (λ e. ltb-false (binding x) k e) (λ e. ltb-true (binding x) k e)

right-operand : (k : ℕ) (x : Form) (text : List ℕ) (at : ℕ) → k ≤ 5 → ((from : ℕ) → PrintedOf from text (binding x) x) → PrintedOf at (enclosed (leb (binding x) k) text) (suc k) x
right-operand k x text at low inner =
    printed-enclosed (leb (binding x) k) (suc k) x text at (omega arith) inner
    (λ e. leb-false (binding x) k e) (λ e. let low = leb-true (binding x) k e in omega arith)

operand : (x : Form) (text : List ℕ) (at : ℕ) → ((from : ℕ) → PrintedOf from text (binding x) x) → PrintedOf at (operand_text (binding x, text)) 6 x
operand x text at inner =
    printed-enclosed (leb (binding x) 5) 6 x text at (omega arith) inner
    (λ e. leb-false (binding x) 5 e) (λ e. let low = leb-true (binding x) 5 e in omega arith)

any_class : class_of (codes "any") ≡ Quantifies quantifiers.Any
unfolding class_of
any_class = refl

every_class : class_of (codes "every") ≡ Quantifies quantifiers.Every
unfolding class_of
every_class = refl

sync_class : class_of (codes "sync") ≡ Quantifies quantifiers.Sync
unfolding class_of
sync_class = refl

all_class : class_of (codes "all") ≡ Quantifies quantifiers.All
unfolding class_of
all_class = refl

-- the canonical text of an expression is cut into tokens that stand for it
pub printed : (x : Form) → IsSpelled x → HasNumbers x → (at : ℕ) → Printed at (canonical_text x) (binding x) x (opened_at (binding x) x)
printed (forms.atom a) spelled numbers at = printed-atom at a.name a.arguments spelled
printed (forms.opt y) spelled numbers at = printed-prefix prefixes.Opt 63 kinds.Question y at _ _ refl (λ n. refl) (operand y (canonical_text y) (at + 1) (printed y spelled numbers))
printed (forms.star y) spelled numbers at = printed-prefix prefixes.Star 42 kinds.Star y at _ _ refl (λ n. refl) (operand y (canonical_text y) (at + 1) (printed y spelled numbers))
printed (forms.par_star y) spelled numbers at = printed-prefix prefixes.ParStar 35 kinds.Hash y at _ _ refl (λ n. refl) (operand y (canonical_text y) (at + 1) (printed y spelled numbers))
printed (forms.or y z) spelled numbers at = printed-binary operators.Or 124 kinds.Bar y z at _ _ _ _ refl (λ n. refl) (left-operand 1 y (canonical_text y) at (omega arith) (printed y spelled.0 numbers.0)) (λ from. right-operand 1 z (canonical_text z) from (omega arith) (printed z spelled.1 numbers.1))
printed (forms.and y z) spelled numbers at = printed-binary operators.And 38 kinds.Amp y z at _ _ _ _ refl (λ n. refl) (left-operand 2 y (canonical_text y) at (omega arith) (printed y spelled.0 numbers.0)) (λ from. right-operand 2 z (canonical_text z) from (omega arith) (printed z spelled.1 numbers.1))
printed (forms.couple y z) spelled numbers at = printed-binary operators.Couple 64 kinds.At y z at _ _ _ _ refl (λ n. refl) (left-operand 3 y (canonical_text y) at (omega arith) (printed y spelled.0 numbers.0)) (λ from. right-operand 3 z (canonical_text z) from (omega arith) (printed z spelled.1 numbers.1))
printed (forms.par y z) spelled numbers at = printed-binary operators.Par 43 kinds.Plus y z at _ _ _ _ refl (λ n. refl) (left-operand 4 y (canonical_text y) at (omega arith) (printed y spelled.0 numbers.0)) (λ from. right-operand 4 z (canonical_text z) from (omega arith) (printed z spelled.1 numbers.1))
printed (forms.seq y z) spelled numbers at = printed-binary operators.Seq 45 kinds.Minus y z at _ _ _ _ refl (λ n. refl) (left-operand 5 y (canonical_text y) at (omega arith) (printed y spelled.0 numbers.0)) (λ from. right-operand 5 z (canonical_text z) from (omega arith) (printed z spelled.1 numbers.1))
printed (forms.any p y) spelled numbers at = printed-quantifier quantifiers.Any (codes "any") p y at _ _ any_class (omega arith) refl (omega arith) spelled.0 (λ from. operand y (canonical_text y) from (printed y spelled.1 numbers))
printed (forms.every p y) spelled numbers at = printed-quantifier quantifiers.Every (codes "every") p y at _ _ every_class (omega arith) refl (omega arith) spelled.0 (λ from. operand y (canonical_text y) from (printed y spelled.1 numbers))
printed (forms.sync p y) spelled numbers at = printed-quantifier quantifiers.Sync (codes "sync") p y at _ _ sync_class (omega arith) refl (omega arith) spelled.0 (λ from. operand y (canonical_text y) from (printed y spelled.1 numbers))
printed (forms.all p y) spelled numbers at = printed-quantifier quantifiers.All (codes "all") p y at _ _ all_class (omega arith) refl (omega arith) spelled.0 (λ from. operand y (canonical_text y) from (printed y spelled.1 numbers))
printed (forms.times n y) spelled numbers at = printed-counted n y at _ _ numbers.0 (λ from. operand y (canonical_text y) from (printed y spelled numbers.1))

-- a text that is cut into tokens is cut into these alone
pub printed-pieces :
    (text : List ℕ) (n d : ℕ) (x : Form) (p : Printed 0 text n x d)
    → Pieces 0 text (map token p.tokens)
printed-pieces text n d x p =
    subst (λ l. Pieces 0 l (map token p.tokens)) (append-nil text)
    (subst (Pieces 0 (text ++ [])) (append-nil (map token p.tokens))
    (p.cuts [] [] refl (Pieces.done (0 + length text))))

-- canonical text is, at the level of a whole text
pub canonical-printed : (x : Form) → IsSpelled x → HasNumbers x → Printed 0 (canonical_text x) 1 x (opened_at (binding x) x)
canonical-printed x spelled numbers =
    printed-loosen 1 (binding x) x (canonical_text x) 0 (opened_at (binding x) x)
    (opened_at (binding x) x) (binding-some x) (binding-low x) (omega arith) (printed x spelled numbers 0)

-- `*`, `all` and `@` of texts that may have more parentheses than canonical ones
pub printed-star : (x : Form) (text : List ℕ) (at d : ℕ) → Printed (at + 1) text 6 x d → Printed at (42 ∷ text) 6 (forms.star x) (suc d)
printed-star x text at d = printed-prefix prefixes.Star 42 kinds.Star x at text d refl (λ n. refl)

pub printed-all : (p : List ℕ) (x : Form) (text : List ℕ) (at d : ℕ) → IsName p → ((from : ℕ) → Printed from text 6 x d) → Printed at ((codes "all" ++ (32 ∷ 36 ∷ p)) ++ (32 ∷ text)) 6 (forms.all p x) (suc d)
printed-all p x text at d = printed-quantifier quantifiers.All (codes "all") p x at text d all_class (omega arith) refl (omega arith)

pub printed-couple : (x y : Form) (t u : List ℕ) (at c d : ℕ) → Printed at t 3 x c → ((from : ℕ) → Printed from u 4 y d) → Printed at ((t ++ (32 ∷ 64 ∷ 32 ∷ [])) ++ u) 3 (forms.couple x y) (max c d)
printed-couple x y t u at c d = printed-binary operators.Couple 64 kinds.At x y at t u c d refl (λ n. refl)
