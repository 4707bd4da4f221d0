use Rattle.std.proofs.Common.{ap, ◌∙◌}
use Rattle.std.specs.Result.{result_ok}
use Rattle.std.proofs.lemmas.Str.{IsUtf8-from_ascii}
use Rattle.std.proofs.lemmas.Fmt.{parse-decimal, IsAscii-decimal}
use Rattle.ix_lines.proofs.number.parse.Goals as goal

pub returns-in-Ok : goal.returns-in-Ok
returns-in-Ok c = λ number h.
    c.ok.ensures.value ∙ ap result_ok (
    parse-decimal 64 number c.in-Ok.digits.now c.parse.result h.fits h.fits (c.in-Ok.ensures.cases.0 ∙ h.same) c.parse.ensures.value.0)

pub returns-in-Err : goal.returns-in-Err
returns-in-Err c = λ number h. absurd (c.in-Err.ensures.cases.0 (IsUtf8-from_ascii _ (rw h.same (IsAscii-decimal number h.fits))))
