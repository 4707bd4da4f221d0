-- The tree of one action that comes first: of `y | z` and `y - z` by their parts, of another form whole.
use Rattle.std.proofs.Common.{◌≡◌, refl, sym, ap, ◌∙◌, subst, arith, [], ◌∷◌, ◌++◌, map}
use Rattle.ix_words.specs.Canon.{canon, when}
use Rattle.ix_expr.specs.inside.FormOf.{form_of}
use Rattle.ix_expr.specs.FormFaults.{Fits}
use Rattle.ix_expr.specs.Form.{seq, or, any}
use Rattle.ix_tree.specs.Plain.{any as any_of, none}
use Rattle.ix_tree.specs.PlainOf.{plain_entry, plain_entries}
use Rattle.ix_step.specs.inside.MovedNode.{moved_node}
use Rattle.ix_step.specs.inside.Pruned.{pruned}
use Rattle.ix_step.specs.inside.ValueTrees.{ReadyInside}
use Rattle.ix_step.proofs.Quantifying.{any_ready}
use Rattle.ix_tree.specs.Order.{tree_cmp}
use Rattle.ix_tree.specs.Size.{size_of}
use Rattle.ix_can.specs.Nodes.{is_done, unless_done}
use Rattle.ix_expr.specs.Tests.{accepts_empty}
use Rattle.ix_can.specs.TreeOf.{is_final}
use Rattle.ix_can.specs.inside.Moved.{moved}
use Rattle.ix_step.specs.inside.Initial.{initial_tree}
use Rattle.ix_step.specs.inside.Makes.{Makes}
use Rattle.ix_step.specs.inside.Moves.{if_open, begun, begun_again}
use Rattle.ix_expr.proofs.Parts.{fits-operands}
use Rattle.ix_step.proofs.Arms.{first_ready, asked, or_first, or_second}
use Rattle.ix_step.proofs.Beginnings.{initial_is}
use Rattle.ix_step.proofs.Exits.{exit_over}
use Rattle.ix_step.proofs.Gathered.{open_over}
use Rattle.ix_step.proofs.Gathering.{front_of_set}
use Rattle.ix_step.proofs.Measure.{form_size}
use Rattle.ix_step.proofs.MovedIs.{begun_any, begun_dead, begun_or, begun_seq_is}
use Rattle.ix_step.proofs.Overs.{unless_over, seq_over}
use Rattle.ix_step.proofs.+advance.Goals as goal

pub beginning::advance_again-returns : goal.beginning::advance_again-returns
beginning::advance_again-returns t c =
    subst (λ p. Makes c.args.step.limit p c.advance_first.result)
    (ap (λ b. begun_again b (form_of c.args.expr.now) c.args.step.env.now c.args.step.action.now) (sym c.if-not-again.false)) c.advance_first.ensures

pub beginning::advance_first-advance_either-requires : goal.beginning::advance_first-advance_either-requires
beginning::advance_first-advance_either-requires t c =
    let is : form_of c.args.expr.now ≡ or (form_of c.deref.result.now) (form_of c.deref-in-Or.result.now) = ap form_of c.in-Or.is ∙ ap (λ v. or (form_of v) (form_of c.in-Or.z.value)) (sym c.deref.ensures) ∙ ap (λ v. or (form_of c.deref.result.now) (form_of v)) (sym c.deref-in-Or.ensures) in
    let size = ap form_size is in
    let ready = asked is refl (ap initial_tree is) c.requires in (
      omega (arith, size),
      (or_first ready, or_second ready),
    )

pub beginning::advance_first-returns-in-Or : goal.beginning::advance_first-returns-in-Or
beginning::advance_first-returns-in-Or t c =
    let is : form_of c.args.expr.now ≡ or (form_of c.deref.result.now) (form_of c.deref-in-Or.result.now) = ap form_of c.in-Or.is ∙ ap (λ v. or (form_of v) (form_of c.in-Or.z.value)) (sym c.deref.ensures) ∙ ap (λ v. or (form_of c.deref.result.now) (form_of v)) (sym c.deref-in-Or.ensures) in
    subst (λ p. Makes c.args.step.limit p c.advance_either.result)
    (sym (begun_or (form_of c.deref.result.now) (form_of c.deref-in-Or.result.now) c.args.step.env.now c.args.step.action.now (subst (λ x. Fits x c.args.step.env.now) is c.requires.fits))
    ∙ ap (λ x. begun x c.args.step.env.now c.args.step.action.now) (sym is)) c.advance_either.ensures

pub beginning::advance_first_seq-advance_first-requires : goal.beginning::advance_first_seq-advance_first-requires
beginning::advance_first_seq-advance_first-requires t c =
    (omega arith, c.requires.first)

pub beginning::advance_first_seq-advance_again-requires : goal.beginning::advance_first_seq-advance_again-requires
beginning::advance_first_seq-advance_again-requires t c =
    (omega arith, c.requires.second)

pub beginning::advance_first_seq-returns-in_err-first : goal.beginning::advance_first_seq-returns-in_err-first
beginning::advance_first_seq-returns-in_err-first t c =
    let y = form_of c.args.y.now in
    let z = form_of c.args.z.now in
    let first = begun y c.args.step.env.now c.args.step.action.now in
    let second = begun_again (accepts_empty y) z c.args.step.env.now c.args.step.action.now in
    exit_over _ c.from_residual.result _ c.from_residual.ensures.1 c.in_err-first.ensures (λ lt.
    seq_over c.args.step.limit c.args.step.positive (unless_done first) (is_done second) (canon tree_cmp (if_open second ++ when (is_final y first) (initial_tree z ∷ []))) (omega (arith, unless_over c.args.step.limit c.args.step.positive first lt)))

pub beginning::advance_first_seq-returns-in_err-second : goal.beginning::advance_first_seq-returns-in_err-second
beginning::advance_first_seq-returns-in_err-second t c =
    let y = form_of c.args.y.now in
    let z = form_of c.args.z.now in
    let first = begun y c.args.step.env.now c.args.step.action.now in
    let second = begun_again (accepts_empty y) z c.args.step.env.now c.args.step.action.now in
    let begins = when (is_final y first) (initial_tree z ∷ []) in
    let same = ap (λ b. size_of (begun_again b z c.args.step.env.now c.args.step.action.now)) c.accepts_empty.ensures.test in
    exit_over _ c.from_residual-in_err-second.result _ c.from_residual-in_err-second.ensures.1 c.in_err-second.ensures (λ lt.
    let k = open_over c.args.step.limit second [] c.args.step.positive (omega (arith, same, lt)) in
    seq_over c.args.step.limit c.args.step.positive (unless_done first) (is_done second) (canon tree_cmp (if_open second ++ begins)) (omega (arith, front_of_set (if_open second) begins, k)))

pub beginning::advance_whole-returns-then-is_refused : goal.beginning::advance_whole-returns-then-is_refused
beginning::advance_whole-returns-then-is_refused t c =
    subst (λ p. Makes c.args.step.limit p c.dead_knot.result)
    (sym (begun_dead (form_of c.args.expr.now) c.args.step.env.now c.args.step.action.now c.requires.fits (c.is_refused.ensures c.if-is_refused.true))) c.dead_knot.ensures

pub beginning::advance_whole-advance_first_seq-requires : goal.beginning::advance_whole-advance_first_seq-requires
beginning::advance_whole-advance_first_seq-requires t c =
    let is : form_of c.args.expr.now ≡ seq (form_of c.deref.result.now) (form_of c.deref-in-Seq.result.now) = ap form_of c.in-Seq.is ∙ ap (λ v. seq (form_of v) (form_of c.in-Seq.z.value)) (sym c.deref.ensures) ∙ ap (λ v. seq (form_of c.deref.result.now) (form_of v)) (sym c.deref-in-Seq.ensures) in
    let size = ap form_size is in
    let fits = fits-operands (seq (form_of c.deref.result.now) (form_of c.deref-in-Seq.result.now)) c.args.step.env.now (subst (λ x. Fits x c.args.step.env.now) is c.requires.fits) in (
      omega (arith, size),
      (first_ready fits.0, first_ready fits.1),
    )

pub beginning::advance_whole-returns-in-Seq : goal.beginning::advance_whole-returns-in-Seq
beginning::advance_whole-returns-in-Seq t c =
    let is : form_of c.args.expr.now ≡ seq (form_of c.deref.result.now) (form_of c.deref-in-Seq.result.now) = ap form_of c.in-Seq.is ∙ ap (λ v. seq (form_of v) (form_of c.in-Seq.z.value)) (sym c.deref.ensures) ∙ ap (λ v. seq (form_of c.deref.result.now) (form_of v)) (sym c.deref-in-Seq.ensures) in
    subst (λ p. Makes c.args.step.limit p c.advance_first_seq.result)
    (sym (begun_seq_is (form_of c.deref.result.now) (form_of c.deref-in-Seq.result.now) c.args.step.env.now c.args.step.action.now (subst (λ x. Fits x c.args.step.env.now) is c.requires.fits))
    ∙ ap (λ x. begun x c.args.step.env.now c.args.step.action.now) (sym is)) c.advance_first_seq.ensures

pub beginning::advance_first_any-first_tree-requires : goal.beginning::advance_first_any-first_tree-requires
beginning::advance_first_any-first_tree-requires t c =
    omega (arith, c.requires.small)

pub beginning::advance_first_any-advance_any-requires : goal.beginning::advance_first_any-advance_any-requires
beginning::advance_first_any-advance_any-requires t c =
    let p = c.args.body.parameter.now in
    let y = form_of c.args.body.expr.now in
    let e = c.args.step.env.now in
    let ready : ReadyInside p y e (initial_tree y) (map plain_entry []) = any_ready [] c.requires in
    (omega arith, subst (λ es. ReadyInside p y e c.in_ok-common.common (map plain_entry es)) (sym c.new-entries.ensures) (subst (λ t. ReadyInside p y e t []) (sym c.in_ok-common.ensures) ready))

pub beginning::advance_first_any-returns : goal.beginning::advance_first_any-returns
beginning::advance_first_any-returns t c =
    let p = c.args.body.parameter.now in
    let y = form_of c.args.body.expr.now in
    let e = c.args.step.env.now in
    let a = c.args.step.action.now in
    let node : pruned (moved_node (any p y) e (any_of c.in_ok-common.common (plain_entries c.new-entries.result)) a) ≡ pruned (moved_node (any p y) e (any_of (initial_tree y) none) a) =
    (λ i. pruned (moved_node (any p y) e (any_of (c.in_ok-common.ensures i) (plain_entries (c.new-entries.ensures i))) a)) in
    subst (λ t. Makes c.args.step.limit t c.advance_any.result) (node ∙ sym (begun_any p y e a c.requires.fits)) c.advance_any.ensures

pub beginning::advance_whole-advance_first_any-requires : goal.beginning::advance_whole-advance_first_any-requires
beginning::advance_whole-advance_first_any-requires t c =
    let is : form_of c.args.expr.now ≡ any c.in-Any.parameter (form_of c.deref-in-Any.result.now) = ap form_of c.in-Any.is ∙ ap (λ v. any c.in-Any.parameter (form_of v)) (sym c.deref-in-Any.ensures) in
    let size = ap form_size is in (
      omega (arith, size),
      asked is refl (ap initial_tree is) c.requires,
    )

pub beginning::advance_whole-returns-in-Any : goal.beginning::advance_whole-returns-in-Any
beginning::advance_whole-returns-in-Any t c =
    let is : form_of c.args.expr.now ≡ any c.in-Any.parameter (form_of c.deref-in-Any.result.now) = ap form_of c.in-Any.is ∙ ap (λ v. any c.in-Any.parameter (form_of v)) (sym c.deref-in-Any.ensures) in
    subst (λ p. Makes c.args.step.limit p c.advance_first_any.result)
    (ap (λ x. begun x c.args.step.env.now c.args.step.action.now) (sym is)) c.advance_first_any.ensures

pub beginning::advance_built-returns : goal.beginning::advance_built-returns
beginning::advance_built-returns t c =
    let x = form_of c.args.expr.now in
    subst (λ p. Makes c.args.step.limit p c.advance.result)
    (ap (λ p. moved x c.args.step.env.now p c.args.step.action.now) (c.in_ok-tree.ensures ∙ sym (initial_is x []))) c.advance.ensures
