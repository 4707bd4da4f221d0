-- A meaning has as many places as nodes, and each of its numbers may stand behind `times`.
use Rattle.std.proofs.Common.{◌≡◌, ℕ, suc, ◌+◌, List, [], length, refl, sym, ap, ◌∙◌, arith, length-append}
use Rattle.ix_expr.specs.Form.{Form}
use Rattle.ix_expr.specs.FormFaults.{Binder, nodes_below, HasNumbers}
use Rattle.ix_parse.specs.declared.signs.Operator.{Operator}
use Rattle.ix_parse.specs.declared.signs.Operator.TheVariants as operators
use Rattle.ix_parse.specs.declared.signs.Prefix.{Prefix}
use Rattle.ix_parse.specs.declared.signs.Prefix.TheVariants as prefixes
use Rattle.ix_parse.specs.declared.signs.Quantifier.{Quantifier}
use Rattle.ix_parse.specs.declared.signs.Quantifier.TheVariants as quantifiers
use Rattle.ix_parse.specs.Symbols.{Symbol, Meaning, joined_form, prefixed_form, quantified_form}
use Rattle.ix_parse.specs.Grammar.{Stands}
use Rattle.ix_parse.specs.inside.Outcomes.{HasPlaces}

joined-count : (o : Operator) (d : ℕ) (around : List Binder) (x y : Form) → length (nodes_below d around (joined_form o x y)) ≡ suc (length (nodes_below (suc d) around x) + length (nodes_below (suc d) around y))
joined-count operators.Or d around x y = ap suc (length-append (nodes_below (suc d) around x) (nodes_below (suc d) around y))
joined-count operators.And d around x y = ap suc (length-append (nodes_below (suc d) around x) (nodes_below (suc d) around y))
joined-count operators.Couple d around x y = ap suc (length-append (nodes_below (suc d) around x) (nodes_below (suc d) around y))
joined-count operators.Par d around x y = ap suc (length-append (nodes_below (suc d) around x) (nodes_below (suc d) around y))
joined-count operators.Seq d around x y = ap suc (length-append (nodes_below (suc d) around x) (nodes_below (suc d) around y))

prefixed-count : (p : Prefix) (d : ℕ) (around : List Binder) (x : Form) → length (nodes_below d around (prefixed_form p x)) ≡ suc (length (nodes_below (suc d) around x))
prefixed-count prefixes.Opt d around x = refl
prefixed-count prefixes.Star d around x = refl
prefixed-count prefixes.ParStar d around x = refl

quantified-count : (q : Quantifier) (p : List ℕ) (d n : ℕ) (around : List Binder) (x : Form) → ((inner : List Binder) → n ≡ length (nodes_below (suc d) inner x)) → suc n ≡ length (nodes_below d around (quantified_form q p x))
quantified-count quantifiers.Any p d n around x counts = ap suc (counts _)
quantified-count quantifiers.Every p d n around x counts = ap suc (counts _)
quantified-count quantifiers.Sync p d n around x counts = ap suc (counts _)
quantified-count quantifiers.All p d n around x counts = ap suc (counts _)

places-count : (n : ℕ) (ts : List Symbol) (x : Meaning) → Stands n ts x → (d : ℕ) (around : List Binder) → length x.places ≡ length (nodes_below d around x.form)
places-count _ _ _ (Stands.tighter n ts x low stands) d around = places-count (suc n) ts x stands d around
places-count _ _ _ (Stands.binary at o ts us x y first second) d around =
    let left = places-count _ ts x first (suc d) around in
    let right = places-count _ us y second (suc d) around in
    let both = joined-count o d around x.form y.form in
    let all = length-append x.places y.places in
    omega arith
places-count _ _ _ (Stands.prefixes at p ts x operand) d around = ap suc (places-count 6 ts x operand (suc d) around) ∙ sym (prefixed-count p d around x.form)
places-count _ _ _ (Stands.quantifies at w q p ts x is operand) d around = quantified-count q p d (length x.places) around x.form (λ inner. places-count 6 ts x operand (suc d) inner)
places-count _ _ _ (Stands.counts at at' w v n ts x is number operand) d around = ap suc (places-count 6 ts x operand (suc d) around)
places-count _ _ _ (Stands.group ts x inner) d around = places-count 1 ts x inner d around
places-count _ _ _ (Stands.bare at w is) d around = refl
places-count _ _ _ (Stands.applied at w ts args is arguments few) d around = refl

pub Stands-places : (ts : List Symbol) (x : Meaning) → Stands 1 ts x → HasPlaces x
Stands-places ts x stands = places-count 1 ts x stands 1 []

joined-numbers : (o : Operator) (x y : Form) → HasNumbers x → HasNumbers y → HasNumbers (joined_form o x y)
joined-numbers operators.Or x y first second = (first, second)
joined-numbers operators.And x y first second = (first, second)
joined-numbers operators.Couple x y first second = (first, second)
joined-numbers operators.Par x y first second = (first, second)
joined-numbers operators.Seq x y first second = (first, second)

prefixed-numbers : (p : Prefix) (x : Form) → HasNumbers x → HasNumbers (prefixed_form p x)
prefixed-numbers prefixes.Opt x inner = inner
prefixed-numbers prefixes.Star x inner = inner
prefixed-numbers prefixes.ParStar x inner = inner

quantified-numbers : (q : Quantifier) (p : List ℕ) (x : Form) → HasNumbers x → HasNumbers (quantified_form q p x)
quantified-numbers quantifiers.Any p x inner = inner
quantified-numbers quantifiers.Every p x inner = inner
quantified-numbers quantifiers.Sync p x inner = inner
quantified-numbers quantifiers.All p x inner = inner

pub Stands-numbers : (n : ℕ) (ts : List Symbol) (x : Meaning) → Stands n ts x → HasNumbers x.form
Stands-numbers _ _ _ (Stands.tighter n ts x low stands) = Stands-numbers (suc n) ts x stands
Stands-numbers _ _ _ (Stands.binary at o ts us x y first second) = joined-numbers o x.form y.form (Stands-numbers _ ts x first) (Stands-numbers _ us y second)
Stands-numbers _ _ _ (Stands.prefixes at p ts x operand) = prefixed-numbers p x.form (Stands-numbers 6 ts x operand)
Stands-numbers _ _ _ (Stands.quantifies at w q p ts x is operand) = quantified-numbers q p x.form (Stands-numbers 6 ts x operand)
Stands-numbers _ _ _ (Stands.counts at at' w v n ts x is number operand) = (number.number, Stands-numbers 6 ts x operand)
Stands-numbers _ _ _ (Stands.group ts x inner) = Stands-numbers 1 ts x inner
Stands-numbers _ _ _ (Stands.bare at w is) = tt
Stands-numbers _ _ _ (Stands.applied at w ts args is arguments few) = tt
