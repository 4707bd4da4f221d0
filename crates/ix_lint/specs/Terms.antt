-- Whether two atoms can match one action with one parameter given different values: by unifying
-- their arguments.
use Rattle.std.specs.Prelude.{Bool, true, false, not, ◌&&◌, List, [], ◌∷◌, if◌then◌else◌}
use Rattle.std.specs.List.{list_any}
use Rattle.ix_values.specs.Order.{text_eq}
use Rattle.ix_expr.specs.declared.arg.Arg.{Arg}
use Rattle.ix_expr.specs.declared.arg.Arg.TheVariants.{Fixed, Param}
use Rattle.ix_expr.specs.Form.{Form}
use Rattle.ix_lint.specs.declared.terms.Term.{Term}
use Rattle.ix_lint.specs.declared.terms.Term.TheVariants.{Value, Shared, OfFirst, OfSecond}
use Rattle.ix_lint.specs.Nodes.{binds}

-- an argument of the first atom below these nodes: a value, a parameter that one of them binds,
-- which is the first atom's own, or a parameter that both atoms share
abbrev pub first_term : List Form → Arg → Term
first_term above (Fixed v) = Value v
first_term above (Param q) = if list_any (binds q) above then OfFirst q else Shared q

-- the same of the second atom
abbrev pub second_term : List Form → Arg → Term
second_term above (Fixed v) = Value v
second_term above (Param q) = if list_any (binds q) above then OfSecond q else Shared q

-- whether the terms are the same
abbrev pub same_term : Term → Term → Bool
same_term (Value u) (Value v) = text_eq u v
same_term (Shared p) (Shared q) = text_eq p q
same_term (OfFirst p) (OfFirst q) = text_eq p q
same_term (OfSecond p) (OfSecond q) = text_eq p q
same_term t u = false

-- whether the term is a value
abbrev pub is_value_term : Term → Bool
is_value_term (Value v) = true
is_value_term t = false

-- the term, where the first of each of these pairs was replaced by the second, the last pair first
abbrev pub resolved : List (Term × Term) → Term → Term
resolved [] t = t
resolved (pair ∷ before) t =
    if same_term (resolved before t) pair.0 then pair.1 else resolved before t

-- whether the terms of each of these pairs can be made equal and those of the last pair different,
-- where parameters can be given any values: a parameter is replaced by the term that it has to
-- equal
abbrev pub can_differ : List (Term × Term) → List (Term × Term) → Term × Term → Bool
can_differ replaced [] last = not (same_term (resolved replaced last.0) (resolved replaced last.1))
can_differ replaced (pair ∷ pairs) last =
    if same_term (resolved replaced pair.0) (resolved replaced pair.1)
    then can_differ replaced pairs last
    else (if is_value_term (resolved replaced pair.0)
    then not (is_value_term (resolved replaced pair.1))
    && can_differ ((resolved replaced pair.1, resolved replaced pair.0) ∷ replaced) pairs last
    else can_differ ((resolved replaced pair.0, resolved replaced pair.1) ∷ replaced) pairs last)
