use Rattle.std.proofs.Common.{◌∙◌, sym, arith}
use Rattle.std.specs.Prelude.{string_bytes}
use Rattle.ix_client.proofs.WordLemmas.{names_it, three_words}
use Rattle.ix_client.proofs.run.read_words.Goals as goal

pub returns : goal.returns
returns c =
    let words = three_words string_bytes c.args.words.now c.index-words-1.result c.index-words-2.result (omega arith) c.index-words-1.is c.index-words-2.is in
    names_it _ words.0 _ _ c.in-Some.action c.in-Some-read_lease.lease words.1 c.in-Some.ensures.0
    (c.in-Some.ensures.1 ∙ c.as_bytes.ensures.value) c.in-Some-read_lease.ensures.0
    (sym c.as_bytes-2.ensures.value ∙ c.in-Some-read_lease.ensures.1)
