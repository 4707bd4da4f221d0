use Rattle.std.proofs.Common.{◌∙◌, ap, Some, sym, subst, refl, codes}
use Rattle.ix_cli.specs.Commands.{word, number_word, most_values}
use Rattle.ix_cli.specs.inside.Matches.{IsPlainCommand}
use Rattle.ix_cli.proofs.Blame.{blamed, blamed_as, handed_up, bound_known}
use Rattle.ix_cli.proofs.PlainCommands.{bound_name, bound_plain, bound_expr, bound_count}
use Rattle.ix_cli.proofs.Reading.{has_number, matches_as, says_number, says_text}
use Rattle.ix_cli.proofs.job.read_bound.Goals as goal

pub parse-requires : goal.parse-requires
parse-requires c = subst IsPlainCommand (sym c.in_ok-bound.ensures) bound_plain

pub returns-in_err-matches : goal.returns-in_err-matches
returns-in_err-matches c =
    let fault = c.in_err-matches.field-0.0 in
    let refused = blamed_as _ fault c.in_ok-bound.ensures c.in_err-matches.ensures in
    handed_up _ fault _ _ c.from_residual-in_err-matches.ensures.1
    (blamed _ _ bound_known (c.requires ∙ ap Some (sym bound_name)) fault refused)

pub text-requires : goal.text-requires
text-requires c =
    let made = matches_as c.in_ok-bound.ensures c.in_ok-matches.ensures in
    made.texts (word (codes "EXPR")) bound_expr refl

pub number-requires : goal.number-requires
number-requires c =
    let made = matches_as c.in_ok-bound.ensures c.in_ok-matches.ensures in
    has_number made (number_word (codes "K") 0 most_values) bound_count refl refl

pub returns : goal.returns
returns c =
    let made = matches_as c.in_ok-bound.ensures c.in_ok-matches.ensures in (
      record { name = c.requires ∙ ap Some (sym bound_name); taken = made.taken },
      says_text made (codes "EXPR") c.in_ok-text.ensures,
      says_number made (number_word (codes "K") 0 most_values) bound_count refl refl c.number.ensures,
    )
