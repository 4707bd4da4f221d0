-- All that looks wrong in an expression's form.
use Rattle.std.specs.Prelude.{ℕ, List, [], ◌∷◌, Option, Some, None}
use Rattle.std.specs.List.{flat_map}
use Rattle.ix_expr.specs.Form.{Form}
use Rattle.ix_lint.specs.declared.finding.Finding.{Finding}
use Rattle.ix_lint.specs.declared.finding.FindingKind.{FindingKind}
use Rattle.ix_lint.specs.declared.places.Place.{Place}
use Rattle.ix_lint.specs.Nodes.{Spot, spots, numbered}
use Rattle.ix_lint.specs.Atoms.{places}
use Rattle.ix_lint.specs.Counts.{counts}
use Rattle.ix_lint.specs.Never.{never}
use Rattle.ix_lint.specs.Owners.{owners}
use Rattle.ix_lint.specs.Names.{unused}
use Rattle.ix_lint.specs.Values.{value}
use Rattle.ix_lint.specs.Apart.{apart}
use Rattle.ix_lint.specs.Keeps.{keeps}

-- the finding of this kind at the node n, if there is one
abbrev pub told : ℕ → Option FindingKind → List Finding
told n None = []
told n (Some kind) = record { node = n; kind = kind } ∷ []

-- what each rule finds at the node n, in the order of the rules; `value` looks at each argument
abbrev pub kinds_at : List Place → ℕ → List Form → Form → List (Option FindingKind)
kinds_at atoms n above x =
    counts atoms n x
    ∷ never above x
    ∷ owners n x
    ∷ unused x
    ∷ value above x 0
    ∷ value above x 1
    ∷ value above x 2
    ∷ value above x 3
    ∷ apart x
    ∷ keeps above x
    ∷ []

-- the findings at the node n
abbrev pub findings_at : List Place → ℕ → List Form → Form → List Finding
findings_at atoms n above x = flat_map (told n) (kinds_at atoms n above x)

-- the findings at these nodes
abbrev pub findings_among : List Place → List (ℕ × Spot) → List Finding
findings_among atoms nodes =
    flat_map (λ node. findings_at atoms node.0 node.1.above node.1.form) nodes

-- the findings in an expression: node by node in pre-order, and at a node rule by rule
abbrev pub findings : Form → List Finding
findings x = findings_among (places 0 x) (numbered 0 (spots [] x))
