use Rattle.std.proofs.Common.{◌∙◌, ap, Some, sym, subst, refl, codes}
use Rattle.ix_cli.specs.Commands.{word, nodes_option}
use Rattle.ix_cli.specs.inside.Matches.{IsPlainCommand}
use Rattle.ix_cli.proofs.Blame.{blamed, blamed_as, handed_up, renew_known}
use Rattle.ix_cli.proofs.PlainCommands.{renew_name, renew_plain, renew_expr, renew_journal, renew_new}
use Rattle.ix_cli.proofs.PlainCommands.{renew_nodes}
use Rattle.ix_cli.proofs.Reading.{has_number, matches_as, says_number, says_text}
use Rattle.ix_cli.proofs.job.read_renew.Goals as goal

pub parse-requires : goal.parse-requires
parse-requires c = subst IsPlainCommand (sym c.in_ok-renew.ensures) renew_plain

pub returns-in_err-matches : goal.returns-in_err-matches
returns-in_err-matches c =
    let fault = c.in_err-matches.field-0.0 in
    let refused = blamed_as _ fault c.in_ok-renew.ensures c.in_err-matches.ensures in
    handed_up _ fault _ _ c.from_residual-in_err-matches.ensures.1
    (blamed _ _ renew_known (c.requires ∙ ap Some (sym renew_name)) fault refused)

pub text-requires : goal.text-requires
text-requires c =
    let made = matches_as c.in_ok-renew.ensures c.in_ok-matches.ensures in
    made.texts (word (codes "EXPR")) renew_expr refl

pub text-requires-2 : goal.text-requires-2
text-requires-2 c =
    let made = matches_as c.in_ok-renew.ensures c.in_ok-matches.ensures in
    made.texts (word (codes "JOURNAL")) renew_journal refl

pub text-requires-3 : goal.text-requires-3
text-requires-3 c =
    let made = matches_as c.in_ok-renew.ensures c.in_ok-matches.ensures in
    made.texts (word (codes "NEW")) renew_new refl

pub number-requires : goal.number-requires
number-requires c =
    let made = matches_as c.in_ok-renew.ensures c.in_ok-matches.ensures in
    has_number made nodes_option renew_nodes refl refl

pub returns : goal.returns
returns c =
    let made = matches_as c.in_ok-renew.ensures c.in_ok-matches.ensures in (
      record { name = c.requires ∙ ap Some (sym renew_name); taken = made.taken },
      says_text made (codes "EXPR") c.in_ok-text.ensures,
      says_text made (codes "JOURNAL") c.in_ok-text-2.ensures,
      says_text made (codes "NEW") c.in_ok-text-3.ensures,
      says_number made nodes_option renew_nodes refl refl c.number.ensures,
    )
