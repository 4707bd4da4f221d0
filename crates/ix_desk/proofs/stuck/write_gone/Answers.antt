use Rattle.std.proofs.Common.{◌∙◌, ◌++◌, [], ◌∷◌, ap, sym, take, get_or, append-nil, append_assoc}
use Rattle.std.specs.List.{flat_map}
use Rattle.std.proofs.lemmas.List.{take_more}
use Rattle.ix_words.proofs.Canon.{flat_map-append}
use Rattle.ix_desk.specs.StuckLines.{gone_line}
use Rattle.ix_desk.proofs.stuck.write_gone.Goals as goal

pub loop-node-preserved : goal.loop-node-preserved
loop-node-preserved c =
    let gone = c.args.gone.now in
    let i = c.loop-node.node-index in
    let line = gone_line c.args.places.now c.args.expression.now in
    let told = c.args.out.now.items in
    let taken = ap (flat_map line) (take_more gone i 0 c.loop-node-test.true)
    ∙ flat_map-append line (take i gone) (get_or gone i 0 ∷ [])
    ∙ ap (λ l. flat_map line (take i gone) ++ l) (append-nil (line (get_or gone i 0))) in
    c.in_ok-write_atom.ensures
    ∙ ap (λ l. l ++ line (get_or gone i 0)) c.loop-node.invariant
    ∙ append_assoc told (flat_map line (take i gone)) (line (get_or gone i 0))
    ∙ ap (λ l. told ++ l) (sym taken)
