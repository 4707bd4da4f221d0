-- The findings of a node and of its two operands.
use Rattle.std.proofs.Common.{◌≡◌, ℕ, ◌+◌, List, ◌∷◌, ◌++◌, length, refl, ap, subst}
use Rattle.ix_expr.specs.declared.expr.Expr.{Expr}
use Rattle.ix_expr.specs.Form.{Form}
use Rattle.ix_expr.specs.inside.FormOf.{form_of}
use Rattle.ix_lint.specs.declared.finding.Finding.{Finding}
use Rattle.ix_lint.specs.declared.places.Place.{Place}
use Rattle.ix_lint.specs.Findings.{findings_among, findings_at}
use Rattle.ix_lint.specs.Nodes.{Spot, spots, numbered}
use Rattle.ix_lint.specs.inside.Above.{forms_of}
use Rattle.ix_lint.proofs.Numbers.{two, made_of_two, put_both}
use Rattle.ix_lint.proofs.walk.+walk.Goals as goal

-- what is found in an operand
found_in : List Place → ℕ → List Form → Expr → List Finding
found_in places n above x = findings_among places (numbered n (spots above (form_of x)))

behind : (places : List Place) (n m : ℕ) (above : List Form) (x : Form) (ys zs : List Spot) → m ≡ n + 1 + length ys →
    findings_at places n above x ++ findings_among places (numbered (n + 1) (ys ++ zs)) ≡ findings_at places n above x ++ (findings_among places (numbered (n + 1) ys) ++ findings_among places (numbered m zs))
behind places n m above x ys zs e = ap (λ w. findings_at places n above x ++ w) (made_of_two _ (n + 1) m ys zs e)

pub returns-in_ok-walk-in-Seq-clause-all : goal.returns-in_ok-walk-in-Seq-clause-all
unfolding found_in
returns-in_ok-walk-in-Seq-clause-all t c =
    let places : List Place = c.args.places.now in
    let n : ℕ = c.args.node in
    let m : ℕ = c.in_ok-next-in-Seq.next in
    let above : List Form = forms_of c.args.above.now in
    let x : Expr = c.args.expr.now in
    let inside : List Form = form_of x ∷ above in
    let y : Expr = c.in-Seq.y.value in
    let z : Expr = c.in-Seq.z.value in
    let here : List Finding = findings_at places n above (form_of x) in
    let left : List Finding = found_in places (n + 1) inside y in
    let right : List Finding = found_in places m inside z in
    let next : m ≡ n + 1 + length (spots inside (form_of y)) = subst (λ o. m ≡ n + 1 + length (spots inside (form_of o))) c.deref.ensures c.in_ok-next-in-Seq.ensures.next in
    let rest : c.walk-in-Seq.new.found.items ≡ c.look.new.found.items ++ (left ++ right) =
    put_both c.look.new.found.items c.walk.new.found.items c.walk-in-Seq.new.found.items left right (left ++ right)
    (subst (λ o. c.walk.new.found.items ≡ c.look.new.found.items ++ found_in places (n + 1) inside o) c.deref.ensures c.in_ok-next-in-Seq.ensures.all)
    (subst (λ o. c.walk-in-Seq.new.found.items ≡ c.walk.new.found.items ++ found_in places m inside o) c.deref-in-Seq.ensures c.in_ok-walk-in-Seq.ensures.all)
    refl in
    let step = λ (w : Form). behind places n m above w (spots (w ∷ above) (form_of y)) (spots (w ∷ above) (form_of z)) in
    let whole : found_in places n above x ≡ here ++ (left ++ right) =
    two (λ o. m ≡ n + 1 + length (spots (form_of o ∷ above) (form_of y)) → found_in places n above o ≡ findings_at places n above (form_of o) ++ (found_in places (n + 1) (form_of o ∷ above) y ++ found_in places m (form_of o ∷ above) z))
    (step _) (step _) (step _) (step _) (step _) c.in-Seq.is next in
    put_both c.args.found.now.items c.look.new.found.items c.walk-in-Seq.new.found.items here (left ++ right) (found_in places n above x) c.in_ok-look.ensures rest whole
