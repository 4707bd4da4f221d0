use Rattle.std.proofs.Common.{◌∙◌, ap, sym, map, string_bytes, unwrap_or, []}
use Rattle.std.proofs.lemmas.Result.{IfOk-weaker}
use Rattle.clap.specs.Matches.{found_of}
use Rattle.clap.proofs.WalkLemmas.{raw_values-rows}
use Rattle.ix_cli.proofs.matches.texts.Goals as goal

pub returns-in-Some : goal.returns-in-Some
returns-in-Some c =
    let found = rw c.in-Some.is at c.get_strs.ensures in
    let all = sym (raw_values-rows (found_of c.args.matches.now) c.args.name.now) ∙ sym found in
    IfOk-weaker c.copies.result _ _
    (λ copies same. ap (λ o. unwrap_or o []) all ∙ sym same) c.copies.ensures

pub returns-in-None : goal.returns-in-None
returns-in-None c =
    let found = rw c.in-None.is at c.get_strs.ensures in
    let all = sym (raw_values-rows (found_of c.args.matches.now) c.args.name.now) ∙ sym found in
    ap (λ o. unwrap_or o []) all ∙ sym (ap (map string_bytes) c.new.ensures.items)
