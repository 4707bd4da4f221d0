use Rattle.std.proofs.Common.{◌∙◌, sym, ap, Some, option_map}
use Rattle.std.proofs.lemmas.Result.{IfOk-weaker}
use Rattle.clap.specs.Matches.{found_of}
use Rattle.clap.proofs.CallerLemmas.{some_of_text}
use Rattle.clap.proofs.WalkLemmas.{first_value-rows}
use Rattle.ix_cli.proofs.matches.text.Goals as goal

pub unwrap-requires : goal.unwrap-requires
unwrap-requires c = some_of_text _ c.get_str.result _ c.get_str.ensures
    (rw (first_value-rows (found_of c.args.matches.now) c.args.name.now) c.requires)

pub returns : goal.returns
returns c =
    let first = sym (first_value-rows (found_of c.args.matches.now) c.args.name.now)
    ∙ sym c.get_str.ensures ∙ ap (option_map (λ s. s.now)) c.unwrap.ensures in
    IfOk-weaker c.from_str.result _ _ (λ text same. first ∙ ap Some (sym same))
    c.from_str.ensures.ok
