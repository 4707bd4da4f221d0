use Rattle.std.proofs.Common.{◌∙◌, ap, Some, sym, subst, codes, refl}
use Rattle.ix_cli.specs.Commands.{word}
use Rattle.ix_cli.specs.inside.Matches.{IsPlainCommand}
use Rattle.ix_cli.proofs.Blame.{blamed, blamed_as, handed_up, simplify_known}
use Rattle.ix_cli.proofs.PlainCommands.{simplify_name, simplify_plain, simplify_expr}
use Rattle.ix_cli.proofs.Reading.{matches_as, says_text}
use Rattle.ix_cli.proofs.job.read_simplify.Goals as goal

pub parse-requires : goal.parse-requires
parse-requires c = subst IsPlainCommand (sym c.in_ok-simplify.ensures) simplify_plain

pub returns-in_err-matches : goal.returns-in_err-matches
returns-in_err-matches c =
    let fault = c.in_err-matches.field-0.0 in
    let refused = blamed_as _ fault c.in_ok-simplify.ensures c.in_err-matches.ensures in
    handed_up _ fault _ _ c.from_residual-in_err-matches.ensures.1
    (blamed _ _ simplify_known (c.requires ∙ ap Some (sym simplify_name)) fault refused)

pub text-requires : goal.text-requires
text-requires c =
    let made = matches_as c.in_ok-simplify.ensures c.in_ok-matches.ensures in
    made.texts (word (codes "EXPR")) simplify_expr refl

pub returns : goal.returns
returns c =
    let made = matches_as c.in_ok-simplify.ensures c.in_ok-matches.ensures in (
      record { name = c.requires ∙ ap Some (sym simplify_name); taken = made.taken },
      says_text made (codes "EXPR") c.in_ok-text.ensures,
    )
