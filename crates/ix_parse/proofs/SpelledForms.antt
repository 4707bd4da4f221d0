-- What a text stands for is spelled: its names and values are such.
use Rattle.std.proofs.Common.{◌≡◌, ℕ, suc, ◌≤◌, Bool, true, false, List, [], ◌∷◌, ◌++◌, length, map, Some, refl, sym, ap, ◌∙◌, subst, arith, append_assoc}
use Rattle.std.specs.Prelude.{All}
use Rattle.std.proofs.lemmas.List.Elements.{All-nil, All-cons}
use Rattle.ix_values.specs.Texts.{IsName, IsValue}
use Rattle.ix_lex.specs.Lexing.{PlainToken, token}
use Rattle.ix_expr.specs.declared.arg.Arg.{Arg}
use Rattle.ix_expr.specs.declared.arg.Arg.TheVariants.{Fixed, Param}
use Rattle.ix_expr.specs.Form.{Form, atom_of}
use Rattle.ix_expr.specs.Spelling.{IsArgument, IsAtom, IsSpelled}
use Rattle.ix_parse.specs.declared.faults.Fault.TheVariants as faults
use Rattle.ix_parse.specs.declared.signs.Operator.{Operator}
use Rattle.ix_parse.specs.declared.signs.Operator.TheVariants as operators
use Rattle.ix_parse.specs.declared.signs.Prefix.{Prefix}
use Rattle.ix_parse.specs.declared.signs.Prefix.TheVariants as prefixes
use Rattle.ix_parse.specs.declared.signs.Quantifier.{Quantifier}
use Rattle.ix_parse.specs.declared.signs.Quantifier.TheVariants as quantifiers
use Rattle.ix_parse.specs.declared.signs.WordClass.TheVariants.{Names}
use Rattle.ix_parse.specs.Symbols.{Symbol, word, param, opening, closing, comma, before, between, symbol_of, class_of, level, Meaning, joined_form, prefixed_form, quantified_form, argument_of}
use Rattle.ix_parse.specs.Grammar.{Arguments, Stands}
use Rattle.ix_parse.specs.Faults.{Met, symbols_of, HasMeaning}
use Rattle.ix_parse.specs.inside.Configs.{IsReadable}
use Rattle.ix_parse.specs.inside.Judged.{is_long}
use Rattle.ix_parse.proofs.Classes.{named-unreserved, named-letter}
use Rattle.ix_parse.proofs.Spelled.{token-readable}
use Rattle.ix_parse.proofs.Meeting.{long-when}
use Rattle.ix_parse.proofs.OneMeaning.{nothing-at, pieces-split}

-- each symbol can be taken
abbrev pub AllReadable : List Symbol → Type 0
AllReadable [] = Unit {0}
AllReadable (t ∷ ts) = IsReadable t × AllReadable ts

readable-front : (ts us : List Symbol) → AllReadable (ts ++ us) → AllReadable ts
readable-front [] us all = tt
readable-front (t ∷ ts) us all = (all.0, readable-front ts us all.1)

readable-back : (ts us : List Symbol) → AllReadable (ts ++ us) → AllReadable us
readable-back [] us all = all
readable-back (t ∷ ts) us all = readable-back ts us all.1

-- forms whose parts are spelled
joined-spelled :
    (o : Operator) (x y : Form) → IsSpelled x → IsSpelled y → IsSpelled (joined_form o x y)
joined-spelled operators.Or x y first second = (first, second)
joined-spelled operators.And x y first second = (first, second)
joined-spelled operators.Couple x y first second = (first, second)
joined-spelled operators.Par x y first second = (first, second)
joined-spelled operators.Seq x y first second = (first, second)

prefixed-spelled : (sign : Prefix) (x : Form) → IsSpelled x → IsSpelled (prefixed_form sign x)
prefixed-spelled prefixes.Opt x spelled = spelled
prefixed-spelled prefixes.Star x spelled = spelled
prefixed-spelled prefixes.ParStar x spelled = spelled

quantified-spelled :
    (q : Quantifier) (p : List ℕ) (x : Form) → IsName p → IsSpelled x
    → IsSpelled (quantified_form q p x)
quantified-spelled quantifiers.Any p x name spelled = (name, spelled)
quantified-spelled quantifiers.Every p x name spelled = (name, spelled)
quantified-spelled quantifiers.Sync p x name spelled = (name, spelled)
quantified-spelled quantifiers.All p x name spelled = (name, spelled)

-- arguments and atoms of readable symbols
argument-spelled : (t : Symbol) (a : Arg) → argument_of t ≡ Some a → IsReadable t → IsArgument a
argument-spelled (word at v) a is readable =
    let same : Fixed v ≡ a = cc in let P : Arg → Type 0 = λ b. IsArgument b in subst P same readable
argument-spelled (param p) a is readable =
    let same : Param p ≡ a = cc in let P : Arg → Type 0 = λ b. IsArgument b in subst P same readable
argument-spelled opening a is readable = absurd cc
argument-spelled closing a is readable = absurd cc
argument-spelled comma a is readable = absurd cc
argument-spelled (before at p) a is readable = absurd cc
argument-spelled (between at o) a is readable = absurd cc

arguments-spelled :
    (ts : List Symbol) (args : List Arg) → Arguments ts args → AllReadable ts → All IsArgument args
arguments-spelled _ _ (Arguments.one t a is) all =
    All-cons IsArgument a [] (argument-spelled t a is all.0) (All-nil IsArgument)
arguments-spelled _ _ (Arguments.more t a ts args is others) all =
    All-cons IsArgument a args (argument-spelled t a is all.0)
    (arguments-spelled ts args others all.1.1)

atom-spelled :
    (w : List ℕ) (args : List Arg) → class_of w ≡ Names → IsValue w → All IsArgument args
    → length args ≤ 4 → IsAtom (atom_of w args)
atom-spelled w args is value all few =
    record {
      name = record { begins = named-letter w is; word = value.word; short = value.short };
      unreserved = named-unreserved w is;
      arguments = all;
      few = few;
    }

-- what readable symbols stand for is spelled
pub stands-spelled :
    (n : ℕ) (ts : List Symbol) (x : Meaning) → Stands n ts x → AllReadable ts → IsSpelled x.form
stands-spelled _ _ _ (Stands.tighter n ts x low tight) all = stands-spelled (suc n) ts x tight all
stands-spelled _ _ _ (Stands.binary at o ts us x y first second) all =
    joined-spelled o x.form y.form
    (stands-spelled (level o) ts x first (readable-front ts (between at o ∷ us) all))
    (stands-spelled (suc (level o)) us y second (readable-back ts (between at o ∷ us) all).1)
stands-spelled _ _ _ (Stands.prefixes at sign ts x operand) all =
    prefixed-spelled sign x.form (stands-spelled 6 ts x operand all.1)
stands-spelled _ _ _ (Stands.quantifies at w q p ts x is operand) all =
    quantified-spelled q p x.form all.1.0 (stands-spelled 6 ts x operand all.1.1)
stands-spelled _ _ _ (Stands.counts at at' w v n ts x is number operand) all =
    stands-spelled 6 ts x operand all.1.1
stands-spelled _ _ _ (Stands.group ts x inner) all =
    stands-spelled 1 ts x inner (readable-front ts (closing ∷ []) all.1)
stands-spelled _ _ _ (Stands.bare at w is) all =
    atom-spelled w [] is all.0 (All-nil IsArgument) (omega arith)
stands-spelled _ _ _ (Stands.applied at w ts args is arguments few) all =
    atom-spelled w args is all.0
    (arguments-spelled ts args arguments (readable-front ts (closing ∷ []) all.1.1)) few

-- the symbols of a text that has a meaning are readable
module _ (text : List ℕ) (x : Meaning) (means : HasMeaning text x) where
  not-long :
      (us vs : List PlainToken) (t : PlainToken) → means.tokens ≡ us ++ t ∷ vs
      → is_long (symbol_of t) ≡ false
  not-long us vs t split = by-test (is_long (symbol_of t)) refl
    where
      by-test : (v : Bool) → is_long (symbol_of t) ≡ v → v ≡ false
      by-test true long =
          let met = Met.long_name t (map token vs) (long-when (symbol_of t) long) in
          absurd (nothing-at text x means us vs t faults.LongName split met)
      by-test false short = refl

  all-readable : (us vs : List PlainToken) → means.tokens ≡ us ++ vs → AllReadable (symbols_of vs)
  all-readable us [] split = tt
  all-readable us (t ∷ vs) split = (
    token-readable text (map token means.tokens) (map token vs) us t means.pieces
        (ap (map token) split ∙ pieces-split us (t ∷ vs)) (not-long us vs t split),
    all-readable (us ++ t ∷ []) vs (split ∙ sym (append_assoc us (t ∷ []) vs)),
  )

  pub meaning-spelled : IsSpelled x.form
  meaning-spelled =
      stands-spelled 1 (symbols_of means.tokens) x means.stands (all-readable [] means.tokens refl)
