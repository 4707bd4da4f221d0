use Rattle.std.proofs.Common.{◌≡◌, [], ◌∷◌, subst, rules}
use Rattle.ix_lines.specs.Numbers.{BeginsWithNumber}
use Rattle.ix_script.specs.Grammar.{no_moment, no_connection, no_text}
use Rattle.ix_script.proofs.line.read_line.Goals as goal

pub returns-in_default : goal.returns-in_default
returns-in_default c = no_moment c.in_default.ensures

pub returns-in_default-number_and : goal.returns-in_default-number_and
returns-in_default-number_and c = no_connection c.in-Some.ensures c.in_default-number_and.ensures

pub returns-then-eq : goal.returns-then-eq
returns-then-eq c =
    let conn = c.in-Some-number_and.conn in
    let same : conn.rest.now ≡ 92 ∷ [] = search rules in
    no_text c.in-Some.ensures (subst (BeginsWithNumber 64 c.in-Some.moment.rest.now conn.number) same c.in-Some-number_and.ensures)
