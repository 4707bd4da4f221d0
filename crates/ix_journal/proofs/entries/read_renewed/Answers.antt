use Rattle.std.proofs.Common.{sym, ◌∙◌, ap, arith}
use Rattle.std.specs.Option.{option_copied}
use Rattle.ix_lines.proofs.NumberCuts.{some_same}
use Rattle.ix_journal.proofs.EntryReads.{renewed_words}
use Rattle.ix_journal.proofs.entries.read_renewed.Goals as goal

pub returns-in_err-actions : goal.returns-in_err-actions
returns-in_err-actions c =
    rw c.from_residual.ensures (λ some.
    let w = renewed_words _ _ _ c.split_word.ensures.bytes c.split_word.ensures.plain some in
    c.in_err-actions.ensures w.0 (record { same = w.4; fits = omega (arith, w.2) }))

pub returns-in_err-last : goal.returns-in_err-last
returns-in_err-last c =
    rw c.from_residual-in_err-last.ensures (λ some.
    let w = renewed_words _ _ _ c.split_word.ensures.bytes c.split_word.ensures.plain some in
    let none = sym (ap option_copied c.in_err-last.was) ∙ w.5 in
    absurd cc)

pub returns-in_err-boots : goal.returns-in_err-boots
returns-in_err-boots c =
    rw c.from_residual-in_err-boots.ensures (λ some.
    let w = renewed_words _ _ _ c.split_word.ensures.bytes c.split_word.ensures.plain some in
    let same = some_same (sym (ap option_copied c.in_ok-last.was) ∙ w.5) in
    c.in_err-boots.ensures w.1 (record { same = same; fits = omega (arith, w.3) }))
