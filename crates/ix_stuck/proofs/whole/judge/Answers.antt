use Rattle.std.proofs.Common.{◌≡◌, [], length, sym, ap, ◌∙◌, subst, arith}
use Rattle.ix_tree.specs.Plain.{is_dead}
use Rattle.ix_can.specs.TreeOf.{tree_of}
use Rattle.ix_stuck.specs.inside.Marks.{AreMarked, NoneNearer, LeadsTo}
use Rattle.ix_stuck.specs.inside.Ruled.{form}
use Rattle.ix_stuck.proofs.Ends.{never, first_stuck, run_start}
use Rattle.ix_stuck.proofs.Steps.{fits_of}
use Rattle.ix_stuck.proofs.whole.judge.Goals as goal

pub finishing-requires : goal.finishing-requires
finishing-requires c = c.requires.whole.moves_are

pub returns-in_default-clause-answer : goal.returns-in_default-clause-answer
returns-in_default-clause-answer c =
    let r = c.args.rules in
    let x = form r in
    let states = c.args.states.now in
    let marks = c.as_slice-marks.result.now in
    let slice = c.as_slice-marks.ensures.value in
    let all = c.in_default.ensures in
    let sound : AreMarked x r.moves.now states marks = subst (AreMarked x r.moves.now states) (sym slice) c.in_ok-found.ensures.sound in
    let long : length marks ≡ length states = ap length slice ∙ c.in_ok-found.ensures.as_many in
    never x (fits_of x c.requires.ready.formed) r.moves.now r.limits.nodes r.start.now states c.args.edges.now c.requires.whole c.requires.begun marks sound
    (λ i s at. let within = at.within in all i (omega (arith, within, long)))

pub returns-clause-answer : goal.returns-clause-answer
returns-clause-answer c =
    let r = c.args.rules in
    let x = form r in
    let fits = fits_of x c.requires.ready.formed in
    let states = c.args.states.now in
    let marks = c.as_slice-marks.result.now in
    let sound : AreMarked x r.moves.now states marks = subst (AreMarked x r.moves.now states) (sym c.as_slice-marks.ensures.value) c.in_ok-found.ensures.sound in
    let told = c.in_ok-word.field-0 in
    let word = told.word.items in
    let stands = c.in_ok-word.ensures.stands in
    let leads = c.in_ok-word.ensures.leads in
    let is : told.tree ≡ tree_of x [] word = leads.tree ∙ run_start x fits r.moves.now r.limits.nodes r.start.now states c.args.edges.now c.requires.whole c.requires.begun marks sound word in
    let nearest : NoneNearer states marks (length word) = λ i s at e. let near = c.if-not-none_is_nearer.ensures i s at e in omega (arith, near, c.len.ensures, told.word.ok) in (
      first_stuck x fits r.moves.now r.limits.nodes r.start.now states c.args.edges.now c.requires.whole c.requires.begun marks sound c.if-not-is_settled.ensures.edges c.if-not-is_settled.ensures.finals
          word c.in-Some.place stands.state stands.at c.in-Some.ensures (ap is_dead stands.tree ∙ c.in_ok-word.ensures.led.live)
          (subst (LeadsTo x r.moves.now r.start.now word) (sym stands.tree) leads) nearest,
      c.in_ok-gone.ensures.gone word is,
    )
