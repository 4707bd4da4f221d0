use Rattle.std.proofs.Common.{◌≡◌, Some, length, take, sym, subst, rules}
use Rattle.ix_values.proofs.FirstWord.{length-first_word, name_first, name_answer}
use Rattle.ix_values.specs.Texts.{IsName}
use Rattle.ix_values.proofs.reading.read_name.Goals as goal

pub slice_bounds-of_text-end : goal.slice_bounds-of_text-end
slice_bounds-of_text-end c =
    subst (λ k. k ≡ length (take k c.args.text.now)) (sym c.word_length.ensures) (sym (length-first_word c.args.text.now))

pub of_text-requires : goal.of_text-requires
of_text-requires c =
    subst (λ n. IsName (take n c.args.text.now)) (sym c.word_length.ensures) (name_first c.args.text.now (search rules))

pub returns : goal.returns
returns c =
    let is = subst (λ n. IsName (take n c.args.text.now)) (sym c.word_length.ensures) (name_first c.args.text.now (search rules)) in
    name_answer (Some c.of_text.result) c.args.text.now c.word_length.result c.word_length.ensures (c.of_text.ensures, is)
