-- The candidates of an expression: which actions are tried, with new values by their numbers.
use Rattle.std.specs.Prelude.{ℕ, ◌+◌, max, Bool, not, List, [], ◌∷◌, ◌++◌, map, filter}
use Rattle.std.specs.Prelude.{Option, Some, None, if◌then◌else◌, decimal, ◌==◌, ◌&&◌, false}
use Rattle.std.specs.Cmp.Lexicographic.{pointwise}
use Rattle.std.specs.List.{flat_map, range_with_len}
use Rattle.ix_words.specs.Canon.{when}
use Rattle.ix_values.specs.Order.{text_eq}
use Rattle.ix_values.specs.PlainAction.{PlainAction, text_of}
use Rattle.ix_expr.specs.declared.arg.Arg.{Arg}
use Rattle.ix_expr.specs.declared.arg.Arg.TheVariants.{Fixed, Param}
use Rattle.ix_expr.specs.Form.{PlainAtom, Form}
use Rattle.ix_next.specs.Given.{PlainGiven}
use Rattle.ix_next.specs.declared.term.Term.{Term}
use Rattle.ix_next.specs.declared.term.Term.TheVariants.{Known, New}
use Rattle.ix_expr.specs.Atoms.{atoms_of}
use Rattle.ix_next.specs.Fixed.{fixed_in}
use Rattle.ix_next.specs.Given.{given_for}

-- a candidate: the name of an action, and a term in each place
pub record PlainCandidate : Type 0 where
  pub name : List ℕ
  pub terms : List Term

-- the candidate of a name and terms
abbrev pub candidate_of : List ℕ → List Term → PlainCandidate
candidate_of name terms = record { name = name; terms = terms }

-- whether terms are the same
abbrev pub term_eq : Term → Term → Bool
term_eq (Known u) (Known v) = text_eq u v
term_eq (Known u) (New j) = false
term_eq (New i) (Known v) = false
term_eq (New i) (New j) = i == j

-- whether candidates are the same
abbrev pub candidate_eq : PlainCandidate → PlainCandidate → Bool
candidate_eq c d = text_eq c.name d.name && pointwise term_eq c.terms d.terms

-- the value of a term, where `new` gives the new values
abbrev pub value_of : (ℕ → List ℕ) → Term → List ℕ
value_of new (Known v) = v
value_of new (New n) = new n

-- the action of a candidate, where `new` gives the new values
abbrev pub action_with : (ℕ → List ℕ) → PlainCandidate → PlainAction
action_with new c = record { name = c.name; values = map (value_of new) c.terms }

-- the text of a term: its value, or `$` and its number
abbrev pub term_text : Term → List ℕ
term_text = value_of (λ n. 36 ∷ decimal n)

-- the text of a candidate: that of an action, with `$1`, `$2`, .. for the new values
abbrev pub candidate_text : PlainCandidate → List ℕ
candidate_text c = text_of (record { name = c.name; values = map term_text c.terms })

-- each item once, at its first place
abbrev pub once : {A : Type 0} → (A → A → Bool) → List A → List A
once same [] = []
once same (a ∷ w) = a ∷ filter (λ b. not (same a b)) (once same w)

-- the values that the parameter p gets: those given for it, in the order given, then those fixed in
-- the expression, ascending; each once
abbrev pub values_for : Form → List PlainGiven → List ℕ → List (List ℕ)
values_for x given p = once text_eq (given_for p given ++ fixed_in x)

-- the terms that a parameter gets where n new values stand before it: known values, and, where new
-- ones are wanted, each of those n, and one more
abbrev pub terms_for : Bool → List (List ℕ) → ℕ → List Term
terms_for new values n = map Known values ++ when new (map New (range_with_len 1 (n + 1)))

-- how many new values there are behind the term of a parameter, where n stand before it: more only
-- if it has no term of its own yet
abbrev pub new_behind : Option Term → ℕ → Term → ℕ
new_behind (Some own) n t = n
new_behind None n (Known v) = n
new_behind None n (New k) = max n k

-- the term that a parameter has, if it has one
abbrev pub term_of : List ℕ → List (List ℕ × Term) → Option Term
term_of p [] = None
term_of p (entry ∷ terms) = if text_eq entry.0 p then Some entry.1 else term_of p terms

-- the terms to choose from in a place of the parameter p: its own where it has one
abbrev pub choices : Option Term → List Term → List Term
choices None terms = terms
choices (Some t) terms = t ∷ []

-- the ways to put terms into the places of arguments, `chosen` being the terms of the parameters
-- before them, with n new values; the first parameter varies slowest
abbrev pub fillings : Bool → (List ℕ → List (List ℕ)) → List Arg → List (List ℕ × Term) → ℕ
    → List (List Term)
fillings new values [] chosen n = [] ∷ []
fillings new values (Fixed v ∷ arguments) chosen n =
    map (λ terms. Known v ∷ terms) (fillings new values arguments chosen n)
fillings new values (Param p ∷ arguments) chosen n =
    flat_map (λ t. map (λ terms. t ∷ terms)
    (fillings new values arguments ((p, t) ∷ chosen) (new_behind (term_of p chosen) n t)))
    (choices (term_of p chosen) (terms_for new (values p) n))

-- the candidates of an atom
abbrev pub candidates_at : Bool → Form → List PlainGiven → PlainAtom → List PlainCandidate
candidates_at new x given s = map (candidate_of s.name)
    (fillings new (values_for x given) s.arguments [] 0)

-- the candidates of all atoms of the expression, in pre-order, repeats among them; with new values
-- or without
abbrev pub candidates : Bool → Form → List PlainGiven → List PlainCandidate
candidates new x given = flat_map (candidates_at new x given) (atoms_of x)
