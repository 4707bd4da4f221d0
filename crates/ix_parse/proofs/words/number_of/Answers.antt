use Rattle.std.proofs.Common.{arith, sym}
use Rattle.ix_parse.proofs.Numbers.{number-is, number-low, number-none}
use Rattle.ix_parse.proofs.words.number_of.Goals as goal

pub returns-in_default : goal.returns-in_default
returns-in_default c =
    sym (number-none c.args.word.now (λ n is. c.in_default.ensures n (record { same = is.same; fits = omega (arith, is.number.1) })))

pub returns-then-number-lt2 : goal.returns-then-number-lt2
returns-then-number-lt2 c = sym (number-low c.args.word.now c.in-Some.number c.in-Some.ensures.same c.if-number-lt2.true)

pub returns : goal.returns
returns c =
    let found = c.in-Some.ensures in
    let least = c.if-number-lt2.false in
    sym (number-is c.args.word.now c.in-Some.number (record { same = found.same; number = (omega arith, omega (arith, found.fits)) }))
