-- The first among the action's values, then among those that have an entry, and last outside.
use Rattle.std.proofs.Common.{Bool, ℕ, List, [], ◌∷◌, ◌++◌, Option, Some, None, map, sym, ap, ◌∙◌, if◌then◌else◌}
use Rattle.ix_expr.specs.inside.FormOf.{form_of}
use Rattle.ix_tree.specs.Order.{key}
use Rattle.ix_why.specs.inside.Held.{kept_tree, refuses_for, entries_held}
use Rattle.ix_why.proofs.Listed.{first_left, first_right}
use Rattle.ix_why.proofs.values.first_refusing.Goals as goal

pub returns-in-Some : goal.returns-in-Some
returns-in-Some c =
    let test : Option (List ℕ) → Bool = refuses_for c.args.body.own c.args.body.parameter.now (form_of c.args.body.expr.now) c.args.scope.now (kept_tree c.args.state) c.args.action.now in
    let own : List (Option (List ℕ)) = map Some c.args.action.now.values in
    let entered : List (Option (List ℕ)) = map (λ x. Some (key x)) (entries_held (kept_tree c.args.state)) in
    sym (first_left test own (entered ++ None ∷ []) (sym c.in-Some.ensures))

pub returns-in-Some-first_entry : goal.returns-in-Some-first_entry
returns-in-Some-first_entry c =
    let test : Option (List ℕ) → Bool = refuses_for c.args.body.own c.args.body.parameter.now (form_of c.args.body.expr.now) c.args.scope.now (kept_tree c.args.state) c.args.action.now in
    let own : List (Option (List ℕ)) = map Some c.args.action.now.values in
    let entered : List (Option (List ℕ)) = map (λ x. Some (key x)) (entries_held (kept_tree c.args.state)) in
    sym (first_right test own (entered ++ None ∷ []) (sym c.in_default.ensures) ∙ first_left test entered (None ∷ []) (sym c.in-Some-first_entry.ensures))

pub returns-then-refuses_for : goal.returns-then-refuses_for
returns-then-refuses_for c =
    let test : Option (List ℕ) → Bool = refuses_for c.args.body.own c.args.body.parameter.now (form_of c.args.body.expr.now) c.args.scope.now (kept_tree c.args.state) c.args.action.now in
    let own : List (Option (List ℕ)) = map Some c.args.action.now.values in
    let entered : List (Option (List ℕ)) = map (λ x. Some (key x)) (entries_held (kept_tree c.args.state)) in
    sym
    (first_right test own (entered ++ None ∷ []) (sym c.in_default.ensures)
    ∙ first_right test entered (None ∷ []) (sym c.in_default-first_entry.ensures)
    ∙ ap (λ (b : Bool). if b then Some None else None) (sym c.refuses_for.ensures ∙ c.if-refuses_for.true))

pub returns-else-refuses_for : goal.returns-else-refuses_for
returns-else-refuses_for c =
    let test : Option (List ℕ) → Bool = refuses_for c.args.body.own c.args.body.parameter.now (form_of c.args.body.expr.now) c.args.scope.now (kept_tree c.args.state) c.args.action.now in
    let own : List (Option (List ℕ)) = map Some c.args.action.now.values in
    let entered : List (Option (List ℕ)) = map (λ x. Some (key x)) (entries_held (kept_tree c.args.state)) in
    sym
    (first_right test own (entered ++ None ∷ []) (sym c.in_default.ensures)
    ∙ first_right test entered (None ∷ []) (sym c.in_default-first_entry.ensures)
    ∙ ap (λ (b : Bool). if b then Some None else None) (sym c.refuses_for.ensures ∙ c.if-refuses_for.false))
