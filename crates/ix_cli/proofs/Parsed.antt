-- The matches of a command with no subcommands.
use Rattle.std.proofs.Common.{◌≡◌, ◌∙◌, ◌<◌, ℕ, true, zero, suc, refl, sym, ap, subst, arith, List}
use Rattle.std.proofs.Common.{[], ◌∷◌, map, length, Some, is_some, inl, inr}
use Rattle.std.specs.List.{All, list_all, slice_index_or}
use Rattle.std.specs.Borrow.{Bor}
use Rattle.std.proofs.lemmas.List.{length-map}
use Rattle.clap.specs.Texts.{items_of}
use Rattle.clap.specs.Facts.{args_of}
use Rattle.clap.specs.Valid.{IsFreeArg}
use Rattle.clap.specs.Built.{IsParsedFrom, IsPlain}
use Rattle.clap.specs.Walk.{Rule, Text, first_of, one_of, rows_of, rule_of}
use Rattle.clap.specs.Simple.{HasMatchesOf, IsSimple, IsSimpleArg, app_of, is_ready_leaf, is_simple}
use Rattle.clap.specs.Simple.{matches_of, shape_of}
use Rattle.clap.specs.Faults.{fault_of}
use Rattle.clap.specs.Matches.{found_of}
use Rattle.clap.specs.Values.{IsUnsignedIn}
use Rattle.clap.specs.declared.builder.arg.Arg.{Arg}
use Rattle.clap.specs.declared.builder.command.Command.{Command}
use Rattle.clap.specs.declared.builder.value_parser.ValueParser.TheVariants as parser
use Rattle.clap.specs.declared.parser.matches.ArgMatches.{ArgMatches}
use Rattle.clap.proofs.WalkLemmas.{both, first_value-rows, one_text-rows}
use Rattle.clap.proofs.SimpleLemmas.{ready_simple, simple_groups}
use Rattle.clap.proofs.FaultLemmas.{free_args}
use Rattle.ix_cli.specs.inside.Matches.{IsPlainCommand, MatchesWords, takes_one}
use Rattle.ix_cli.proofs.Rules.{TakesOne, one_place, rule_at, takes_one-is}
use Rattle.ix_cli.proofs.Entries.{IsOne, number_found, text_found}

-- the argument behind a rule
arg_at : (args : List Arg) (k : ℕ) (rule : Rule) → k < length (map rule_of args)
    → (a : Arg) × (k < length args) × (slice_index_or args k a ≡ a)
    × (slice_index_or (map rule_of args) k rule ≡ rule_of a)
arg_at [] k rule lt = absurd (omega arith)
arg_at (a ∷ args) zero rule lt = (a, omega arith, refl, refl)
arg_at (a ∷ args) (suc k) rule lt =
    let rest = arg_at args k rule (omega arith) in
    (rest.0, omega (arith, rest.1), rest.2, rest.3)

-- an argument whose rule takes one value, where nothing else bears on it
module _ (c : Command) (plain : IsPlainCommand (app_of c)) where
  simple : IsSimple c
  simple = ready_simple c plain.ready (ap (list_all is_ready_leaf) plain.no_subcommands)

  free : All IsFreeArg (args_of c)
  free = free_args c simple plain.free

  rules_simple : list_all (λ (r : Rule). r.is_simple) (map rule_of (args_of c)) ≡ true
  rules_simple = (both (shape_of c).is_plain _ (both _ _ plain.ready).0).1

  is_plain : IsPlain c
  is_plain = (
    λ k d lt. (
      (free k d lt).exclusive,
      (free k d lt).conflicts,
      (free k d lt).overrides,
      simple_groups c rules_simple k d lt,
    ),
    simple.groups,
  )

  one_at : (k : ℕ) (a : Arg) → k < length (args_of c) → slice_index_or (args_of c) k a ≡ a
      → TakesOne (rule_of a) → IsOne c k a
  one_at k a lt here takes =
      let args = args_of c in
      let is_simple_arg = subst IsSimpleArg here (simple.args k a lt) in
      record {
        place = lt;
        here = here;
        set = takes.set;
        no_delimiter = is_simple_arg.delimiter;
        least = rw takes.no_range (omega arith);
        named = takes.named;
        own = λ auto. elim auto [
          | inl help ↦ takes.no_help help
          | inr version ↦ takes.no_version version
        ];
        alone = λ j e low same.
            let long = length-map args rule_of in
            one_place (map rule_of args) plain.distinct j k (rule_of e) (rule_of a)
            (omega arith) (omega arith)
            (rw (← rule_at args j e low, ← rule_at args k a lt, here) same);
        given = elim takes.given [
          | inl required ↦ inl required
          | inr default ↦ inr (
            is_simple_arg.default_ifs,
            omega (arith, length-map (items_of a.default_vals) (λ (s : Bor Text). s.now), default),
          )
        ];
      }

-- what holds of the matches
module _ (c : Command) (words : List Text) (m : ArgMatches) (plain : IsPlainCommand (app_of c))
    (p : IsParsedFrom c m) (made : HasMatchesOf (app_of c) words m)
    (taken : fault_of (app_of c) words ≡ [])
  where
    rows_same : rows_of (found_of m) ≡ matches_of (app_of c) words
    rows_same = (made (both (is_simple (app_of c)) _ plain.simple).0).0

    one_is : (rule : Rule) → takes_one rule ≡ true → (k : ℕ) → k < length (app_of c).top.rules
        → slice_index_or (app_of c).top.rules k rule ≡ rule
        → (a : Arg) × IsOne c k a × (slice_index_or (app_of c).top.rules k rule ≡ rule_of a)
    one_is rule one k lt here =
        let at = arg_at (args_of c) k rule lt in
        let takes = takes_one-is (rule_of at.0)
        (subst (λ (r : Rule). takes_one r ≡ true) (sym here ∙ at.3) one) in
        (at.0, one_at c plain k at.0 at.1 at.2 takes, at.3)

    pub parsed_matches : MatchesWords (app_of c) words m
    parsed_matches = record {
      taken = taken;
      rows = rows_same;
      texts = λ rule of takes.
          let one = one_is rule takes of.0 of.1 of.2 in
          let some = text_found c m p (is_plain c plain) (simple c plain).globals
          plain.requires_all of.0 one.0 one.1 in
          subst (λ (r : Rule). is_some (first_of r.id (rows_of (found_of m))) ≡ true)
          (sym one.2 ∙ of.2)
          (rw (← first_value-rows (found_of m) one.0.id.now) some);
      numbers = λ rule of takes least most is.
          let one = one_is rule takes of.0 of.1 of.2 in
          let its : one.0.value_parser ≡ Some (parser.Unsigned least most) =
          ap (λ (r : Rule). r.parser) (sym one.2 ∙ of.2) ∙ is in
          let got = number_found c m p (is_plain c plain) (simple c plain).globals
          plain.requires_all of.0 one.0 one.1 least most its in
          subst (λ (r : Rule). (text : Text) × (one_of r.id (rows_of (found_of m)) ≡ Some text)
          × IsUnsignedIn least most text) (sym one.2 ∙ of.2)
          (got.0, rw (← one_text-rows (found_of m) one.0.id.now) got.1, got.2);
    }
