use Rattle.std.proofs.Common.{sym, arith, subst, ◌∷◌, ◌+◌, ℕ}
use Rattle.ix_lex.specs.declared.TokenKind.TheVariants.{Param}
use Rattle.ix_lex.specs.Lexing.{BeginsWith}
use Rattle.ix_lex.specs.inside.FirstToken.{FirstToken}
use Rattle.ix_lex.proofs.FirstTokens.{FirstToken-word, FirstToken-param}
use Rattle.ix_lex.proofs.first_token.Goals as goal

pub returns-then-is_word_byte : goal.returns-then-is_word_byte
returns-then-is_word_byte c = FirstToken-word _ _ _ (sym c.if-is_word_byte.ensures) c.word_len.ensures

pub returns-then-begins_with_letter : goal.returns-then-begins_with_letter
returns-then-begins_with_letter c =
    let family : ℕ → Type 0 = λ b. FirstToken Param (1 + c.word_len-then-begins_with_letter.result) (b ∷ c.args.after.now) in
    subst family (sym c.if-first-eq36.true) (FirstToken-param _ _ (sym c.if-begins_with_letter.ensures) c.word_len-then-begins_with_letter.ensures)

pub returns-in_ok-sign_of : goal.returns-in_ok-sign_of
returns-in_ok-sign_of c = (omega arith, BeginsWith.sign _ _ _ (sym c.in_ok-sign_of.ensures))
