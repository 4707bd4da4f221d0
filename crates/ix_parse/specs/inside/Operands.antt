-- What an operand in memory means.
use Rattle.ix_expr.specs.inside.FormOf.{form_of}
use Rattle.ix_parse.specs.declared.operand.Operand.{Operand}
use Rattle.ix_parse.specs.Symbols.{Meaning}

abbrev pub meaning_of : Operand → Meaning
meaning_of x = record { form = form_of x.expr; places = x.places.items }
