use Rattle.std.proofs.Common.{◌≡◌, ◌≤◌, List, length, sym, ap, ◌∙◌, subst, arith}
use Rattle.ix_lint.specs.Nodes.{forms}
use Rattle.ix_lint.proofs.Lengths.{few_forms}
use Rattle.ix_values.specs.PlainAction.{Word}
use Rattle.ix_stuck.specs.Gone.{numbered_atoms, AreGone}
use Rattle.ix_stuck.specs.declared.graph.Edge.{Edge}
use Rattle.ix_stuck.specs.inside.Coming.{AreComing}
use Rattle.ix_stuck.specs.inside.Matching.{gone_of}
use Rattle.ix_stuck.specs.inside.Ruled.{form}
use Rattle.ix_stuck.proofs.Coming.{gone_are}
use Rattle.ix_stuck.proofs.Steps.{fits_of, led_tree}
use Rattle.ix_stuck.proofs.whole.gone_behind.Goals as goal

pub explore-requires : goal.explore-requires
explore-requires c =
    let r = c.args.rules in
    let ready = c.requires.ready in
    let led = c.requires.led in
    record {
      formed = ready.formed;
      empty = ready.empty;
      least = ready.least;
      most = ready.most;
      tree = led_tree (form r) r.moves.now r.limits.nodes r.start.now (fits_of (form r) ready.formed) ready.tree c.args.tree.now led;
      live = led.live;
      small = led.small;
    }

pub gone-requires : goal.gone-requires
gone-requires c = let few : length (forms (form c.args.rules)) ≤ 512 = few_forms (form c.args.rules) c.requires.ready.formed in omega arith

pub returns-clause-gone : goal.returns-clause-gone
returns-clause-gone c = λ w is.
    let r = c.args.rules in
    let x = form r in
    let g = c.in-Ok.graph in
    let coming : AreComing r.moves.now g.edges.items c.in_ok-coming.coming.items = subst (λ (es : List Edge). AreComing r.moves.now es c.in_ok-coming.coming.items) c.deref.ensures.value c.in_ok-coming.ensures in
    let nodes : c.in_ok-gone.gone.items ≡ gone_of c.in_ok-coming.coming.items (numbered_atoms 0 x) = c.in_ok-gone.ensures ∙ ap (λ (u : Word). gone_of u (numbered_atoms 0 x)) c.deref-2.ensures.value in
    subst (AreGone x r.moves.now w) (sym nodes)
    (gone_are x (fits_of x c.requires.ready.formed) r.moves.now r.limits.nodes c.args.tree.now g.states.items g.edges.items c.in-Ok.ensures.whole w is c.in_ok-coming.coming.items coming)
