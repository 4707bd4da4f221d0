-- The law that canonical text reads back.
use Rattle.std.specs.Prelude.{ℕ, ◌≤◌, List, ◌∷◌, ◌++◌, length, map}
use Rattle.ix_lex.specs.Lexing.{PlainToken, token, Pieces}
use Rattle.ix_expr.specs.Form.{Form}
use Rattle.ix_expr.specs.Spelling.{IsSpelled}
use Rattle.ix_expr.specs.FormFaults.{IsWellFormed}
use Rattle.ix_expr.specs.CanonicalText.{canonical_text}
use Rattle.ix_parse.specs.Limits.{most_text}
use Rattle.ix_parse.specs.Symbols.{symbol_of}
use Rattle.ix_parse.specs.Grammar.{Wanted}
use Rattle.ix_parse.specs.Faults.{OpensLevel, symbols_of, StandsFor}

-- no token of the text opens a level where d levels are open already
abbrev pub OpensAtMost : ℕ → List ℕ → Type 0
OpensAtMost d text = (before after : List PlainToken) (t : PlainToken)
    → Pieces 0 text (map token (before ++ t ∷ after)) → Wanted d (symbols_of before)
    → ¬ OpensLevel (symbol_of t)

-- the canonical text of each well-formed expression stands for it, where the text is of at most
-- 16,384 bytes and opens at most 64 levels
abbrev pub CanonicalTextReadsBack : Type 0
CanonicalTextReadsBack = (x : Form) → IsSpelled x → IsWellFormed x
    → length (canonical_text x) ≤ most_text → OpensAtMost 64 (canonical_text x)
    → StandsFor (canonical_text x) x
