use Rattle.std.proofs.Common.{ℕ, List, drop, sym, ◌∙◌, ap}
use Rattle.std.proofs.lemmas.List.{take_rest}
use Rattle.byteorder.specs.Endian.{big_number}
use Rattle.ix_journal.proofs.KindFronts.{header_number}
use Rattle.ix_journal.proofs.header.text_length.Goals as goal

pub returns-clause-value : goal.returns-clause-value
returns-clause-value c file head text behind same w =
    c.from.ensures ∙ c.read_u16.ensures ∙ ap (big_number 2) (take_rest c.args.front.now 5)
    ∙ ap (λ (b : List ℕ). big_number 2 (drop 5 b)) (sym same)
    ∙ header_number file head text behind w
