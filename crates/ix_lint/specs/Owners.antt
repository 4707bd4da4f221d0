-- `owners`: an `all` under which two values can own one action.
use Rattle.std.specs.Prelude.{ℕ, ◌+◌, Bool, ◌&&◌, ◌==◌, List, [], ◌∷◌, map, length, Option, Some}
use Rattle.std.specs.Prelude.{None, if◌then◌else◌}
use Rattle.std.specs.List.{flat_map, zip}
use Rattle.ix_values.specs.Order.{text_eq}
use Rattle.ix_expr.specs.declared.arg.Arg.{Arg}
use Rattle.ix_expr.specs.Form.{PlainAtom, Form, atom, all}
use Rattle.ix_lint.specs.declared.finding.FindingKind.{FindingKind}
use Rattle.ix_lint.specs.declared.finding.FindingKind.TheVariants.{Owners}
use Rattle.ix_lint.specs.declared.terms.Term.{Term}
use Rattle.ix_lint.specs.declared.terms.Term.TheVariants.{OfFirst, OfSecond}
use Rattle.ix_lint.specs.Nodes.{Spot, spots, numbered, first}
use Rattle.ix_lint.specs.Terms.{first_term, second_term, can_differ}

-- the arguments of two atoms, place by place
abbrev pub owner_pairs : List Form → List Arg → List Form → List Arg → List (Term × Term)
owner_pairs above arguments other_above others =
    zip (map (first_term above) arguments) (map (second_term other_above) others)

-- an atom below some nodes
pub record Held : Type 0 where
  pub above : List Form
  pub atom : PlainAtom

-- whether one action is matched by the first atom with the parameter p given one value and by the
-- second with p given another: a parameter that a node above an atom binds is its own, and all
-- others are the same for both
abbrev pub can_share : List ℕ → Held → Held → Bool
can_share p s t = text_eq s.atom.name t.atom.name
    && (length s.atom.arguments == length t.atom.arguments)
    && can_differ [] (owner_pairs s.above s.atom.arguments t.above t.atom.arguments)
    (OfFirst p, OfSecond p)

-- the number of the node, if it is an atom that can share an action with s
abbrev pub partner_at : List ℕ → Held → ℕ → List Form → Form → List ℕ
partner_at p s n above (atom x) =
    if can_share p s (record { above = above; atom = x }) then n ∷ [] else []
partner_at p s n above x = []

-- the numbers of these nodes that are such atoms
abbrev pub partners : List ℕ → Held → List (ℕ × Spot) → List ℕ
partners p s nodes = flat_map (λ node. partner_at p s node.0 node.1.above node.1.form) nodes

-- the number of the node beside that of each of the other nodes with which it can share an action
abbrev pub pairs_at : List ℕ → List (ℕ × Spot) → ℕ → List Form → Form → List (ℕ × ℕ)
pairs_at p others n above (atom x) =
    map (λ other. (n, other)) (partners p (record { above = above; atom = x }) others)
pairs_at p others n above x = []

-- the pairs of such atoms in the order of the first and then of the second
abbrev pub pairs : List ℕ → List (ℕ × Spot) → List (ℕ × Spot) → List (ℕ × ℕ)
pairs p others nodes = flat_map
    (λ node. pairs_at p others node.0 node.1.above node.1.form) nodes

-- the nodes of the body of an `all` at the node n, below it
abbrev pub body : ℕ → List ℕ → Form → List (ℕ × Spot)
body n p y = numbered (n + 1) (spots (all p y ∷ []) y)

-- the finding for a pair
abbrev pub owners_for : Option (ℕ × ℕ) → Option FindingKind
owners_for None = None
owners_for (Some pair) = Some (Owners pair.0 pair.1)

-- the finding at the node n
abbrev pub owners : ℕ → Form → Option FindingKind
owners n (all p y) = owners_for (first (pairs p (body n p y) (body n p y)))
owners n x = None
