use Rattle.std.proofs.Common.{◌∙◌, ap, sym, Some, string_bytes}
use Rattle.ix_cli.proofs.Blame.{first_text, unknown_blamed}
use Rattle.ix_cli.proofs.read_words.Goals as goal

pub returns-in_default-as_str : goal.returns-in_default-as_str
returns-in_default-as_str c =
    let first =
    first_text string_bytes c.args.words.now c.in-Some.command.now c.in-Some.ensures.value
    ∙ ap Some (sym c.as_str.ensures.value) in
    let other = c.in_default-as_str in
    unknown_blamed _ c.as_str.result.now first other.not-trace other.not-replay other.not-serve
    other.not-work other.not-simplify other.not-bound other.not-follow other.not-lint
    other.not-why other.not-next other.not-stuck other.not-renew
    c.no_command-in_default-as_str.result
