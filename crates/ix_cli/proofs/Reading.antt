-- From the matches of a command to what its words say.
use Rattle.std.proofs.Common.{◌≡◌, ℕ, List, [], subst, Some, true, unwrap_or}
use Rattle.std.specs.List.{Contains}
use Rattle.std.specs.Str.Parse.{digits_value, without_leading_plus}
use Rattle.clap.specs.Words.{App, Row, Rule, Text, all_of, first_of, found_of, one_of, rows_of}
use Rattle.clap.specs.declared.builder.value_parser.ValueParser.TheVariants as parser
use Rattle.clap.specs.declared.parser.matches.ArgMatches.{ArgMatches}
use Rattle.ix_cli.specs.Words.{Says, SaysAll, SaysNumber}
use Rattle.ix_cli.specs.inside.Matches.{HasNumber, MatchesWords, takes_one}

module _ {command : App} {words : List Text} {m : ArgMatches} (made : MatchesWords command words m) where
  pub says_text : (name : Text) {text : Text} → first_of name (rows_of (found_of m)) ≡ Some text
      → Says command words name text
  says_text name {text = text} first =
      subst (λ (rows : List Row). first_of name rows ≡ Some text) made.rows first

  pub says_all : (name : Text) {texts : List Text}
      → unwrap_or (all_of name (rows_of (found_of m))) [] ≡ texts
      → SaysAll command words name texts
  says_all name {texts = texts} all =
      subst (λ (rows : List Row). unwrap_or (all_of name rows) [] ≡ texts) made.rows all

  module _ (rule : Rule) (of : Contains command.top.rules rule) (takes : takes_one rule ≡ true)
      {least most : ℕ} (ranged : rule.parser ≡ Some (parser.Unsigned least most))
    where
      pub has_number : HasNumber (rows_of (found_of m)) rule.id
      has_number =
          let got = made.numbers rule of takes least most ranged in
          (got.0, got.1, got.2.0, got.2.1)

      pub says_number : {n : ℕ} → ((text : Text) → one_of rule.id (rows_of (found_of m)) ≡ Some text
          → n ≡ digits_value 10 (without_leading_plus text))
          → SaysNumber command words rule.id least most n
      says_number read =
          let got = made.numbers rule of takes least most ranged in
          let same = read got.0 got.1 in
          record {
            text = got.0;
            said = subst (λ (rows : List Row). one_of rule.id rows ≡ Some got.0) made.rows got.1;
            same = same;
            at_least = rw same got.2.2;
            at_most = rw same got.2.3;
          }

-- the same of a command that is another's equal
pub matches_as : {a b : App} {words : List Text} {m : ArgMatches} → a ≡ b → MatchesWords a words m
    → MatchesWords b words m
matches_as {words = words} {m = m} same made = subst (λ (app : App). MatchesWords app words m) same made
