use Rattle.std.proofs.Common.{◌≡◌, Some, length, take, sym, subst, arith}
use Rattle.ix_values.proofs.FirstWord.{length-first_word, value_first, value_answer}
use Rattle.ix_values.specs.Texts.{IsValue}
use Rattle.ix_values.proofs.reading.read_value.Goals as goal

pub slice_bounds-of_text-end : goal.slice_bounds-of_text-end
slice_bounds-of_text-end c =
    subst (λ k. k ≡ length (take k c.args.text.now)) (sym c.word_length-length.ensures) (sym (length-first_word c.args.text.now))

pub of_text-requires : goal.of_text-requires
of_text-requires c =
    subst (λ n. IsValue (take n c.args.text.now)) (sym c.word_length-length.ensures) (value_first c.args.text.now (omega (arith, c.word_length-length.ensures)))

pub returns : goal.returns
returns c =
    let is = subst (λ n. IsValue (take n c.args.text.now)) (sym c.word_length-length.ensures) (value_first c.args.text.now (omega (arith, c.word_length-length.ensures))) in
    value_answer (Some c.of_text.result) c.args.text.now c.word_length-length.result c.word_length-length.ensures (c.of_text.ensures, is)
