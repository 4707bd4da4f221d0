use Rattle.std.proofs.Common.{◌∙◌, ap, Some, sym, subst, refl, codes}
use Rattle.ix_cli.specs.Commands.{number_word, nodes_option, most_asks, most_seed}
use Rattle.ix_cli.specs.inside.Matches.{IsPlainCommand}
use Rattle.ix_cli.proofs.Blame.{blamed, blamed_as, handed_up, work_known}
use Rattle.ix_cli.proofs.PlainCommands.{work_name, work_plain, work_count, work_seed, work_nodes}
use Rattle.ix_cli.proofs.Reading.{has_number, matches_as, says_number}
use Rattle.ix_cli.proofs.job.read_work.Goals as goal

pub parse-requires : goal.parse-requires
parse-requires c = subst IsPlainCommand (sym c.in_ok-work.ensures) work_plain

pub returns-in_err-matches : goal.returns-in_err-matches
returns-in_err-matches c =
    let fault = c.in_err-matches.field-0.0 in
    let refused = blamed_as _ fault c.in_ok-work.ensures c.in_err-matches.ensures in
    handed_up _ fault _ _ c.from_residual-in_err-matches.ensures.1
    (blamed _ _ work_known (c.requires ∙ ap Some (sym work_name)) fault refused)

pub number-requires : goal.number-requires
number-requires c =
    let made = matches_as c.in_ok-work.ensures c.in_ok-matches.ensures in
    has_number made (number_word (codes "N") 0 most_asks) work_count refl refl

pub number-requires-2 : goal.number-requires-2
number-requires-2 c =
    let made = matches_as c.in_ok-work.ensures c.in_ok-matches.ensures in
    has_number made (number_word (codes "SEED") 0 most_seed) work_seed refl refl

pub number-requires-3 : goal.number-requires-3
number-requires-3 c =
    let made = matches_as c.in_ok-work.ensures c.in_ok-matches.ensures in
    has_number made nodes_option work_nodes refl refl

pub returns : goal.returns
returns c =
    let made = matches_as c.in_ok-work.ensures c.in_ok-matches.ensures in (
      record { name = c.requires ∙ ap Some (sym work_name); taken = made.taken },
      says_number made (number_word (codes "N") 0 most_asks) work_count refl refl c.number.ensures,
      says_number made (number_word (codes "SEED") 0 most_seed) work_seed refl refl c.number-2.ensures,
      says_number made nodes_option work_nodes refl refl c.number-3.ensures,
    )
