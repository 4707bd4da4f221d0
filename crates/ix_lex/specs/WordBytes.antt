-- The bytes that tokens are made of.
use Rattle.std.specs.Prelude.{ℕ, Bool, false, List, [], ◌∷◌, Option, Some, None, ◌||◌, ◌==◌}
use Rattle.std.specs.Prelude.{if◌then◌else◌}
use Rattle.ix_lex.specs.declared.TokenKind.{TokenKind}
use Rattle.ix_lex.specs.declared.TokenKind.TheVariants.{Open, Close, Comma, Question, Star, Hash}
use Rattle.ix_lex.specs.declared.TokenKind.TheVariants.{Plus, Bar, Amp, At, Minus}

-- a line's end or a space: what separates tokens and means nothing else
abbrev pub is_blank : ℕ → Bool
is_blank b = (b == 10) || (b == 32)

-- the kind of a sign of one byte
abbrev pub sign_of : ℕ → Option TokenKind
sign_of b =
    if b == 40 then Some Open
    else (if b == 41 then Some Close
    else (if b == 44 then Some Comma
    else (if b == 63 then Some Question
    else (if b == 42 then Some Star
    else (if b == 35 then Some Hash
    else (if b == 43 then Some Plus
    else (if b == 124 then Some Bar
    else (if b == 38 then Some Amp
    else (if b == 64 then Some At
    else (if b == 45 then Some Minus
    else None))))))))))

-- whether a text begins with a byte that passes the test
abbrev pub begins : (ℕ → Bool) → List ℕ → Bool
begins p [] = false
begins p (b ∷ _) = p b
