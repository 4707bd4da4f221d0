use Rattle.std.proofs.Common.{◌≡◌, ◌∷◌, decimal, arith}
use Rattle.std.proofs.lemmas.Grind.{common_steps}
use Rattle.ix_generate.proofs.Texts.{is_value}
use Rattle.ix_generate.proofs.asks.numbered.Goals as goal

pub of_text-requires : goal.of_text-requires
of_text-requires c =
    let same : c.as_slice.result.now ≡ c.args.letter ∷ decimal c.args.number =
    grind (arith, common_steps) in
    rw same (is_value c.args.letter c.args.number c.requires c.ranges.number.fits)
