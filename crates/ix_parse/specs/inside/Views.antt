-- The symbol that a token without its place is, at a place.
use Rattle.std.specs.Prelude.{ℕ}
use Rattle.ix_parse.specs.declared.symbols.Sign.{Sign}
use Rattle.ix_parse.specs.declared.symbols.Sign.TheVariants.{Word, Param, Opening, Closing, Comma}
use Rattle.ix_parse.specs.declared.symbols.Sign.TheVariants.{Before, Between}
use Rattle.ix_parse.specs.Symbols.{Symbol, word, param, opening, closing, comma, before, between}

abbrev pub symbol_at : ℕ → Sign → Symbol
symbol_at at (Word w) = word at w.now
symbol_at at (Param p) = param p.now
symbol_at at Opening = opening
symbol_at at Closing = closing
symbol_at at Comma = comma
symbol_at at (Before p) = before at p
symbol_at at (Between o) = between at o
