-- The rules of a command's arguments, place by place.
use Rattle.std.proofs.Common.{◌≡◌, ◌∙◌, ◌<◌, ◌||◌, ◌⊎◌, ◌==◌, ℕ, Bool, true, false, not, zero, suc}
use Rattle.std.proofs.Common.{refl, sym, ap, arith, List, [], ◌∷◌, map, length, Option, Some, None}
use Rattle.std.proofs.Common.{is_some, inl, inr, true≢false, codes}
use Rattle.std.specs.List.{list_any, slice_index_or}
use Rattle.std.specs.Str.{bytes_eq}
use Rattle.std.proofs.lemmas.Slice.Eq.{bytes_eq-Decides}
use Rattle.clap.specs.Walk.{Rule, rule_of}
use Rattle.clap.specs.declared.builder.action.ArgAction.{ArgAction}
use Rattle.clap.specs.declared.builder.action.ArgAction.TheVariants.{Set}
use Rattle.clap.specs.declared.builder.arg.Arg.{Arg}
use Rattle.clap.proofs.WalkLemmas.{both}
use Rattle.clap.proofs.SimpleLemmas.{is_false}
use Rattle.ix_cli.specs.inside.Matches.{is_set, takes_one, are_distinct}

-- the rule of the argument at a place
pub rule_at : (args : List Arg) (k : ℕ) (d : Arg) → k < length args
    → rule_of (slice_index_or args k d) ≡ slice_index_or (map rule_of args) k (rule_of d)
rule_at [] k d lt = absurd (omega arith)
rule_at (a ∷ args) zero d lt = refl
rule_at (a ∷ args) (suc k) d lt = rule_at args k d (omega arith)

-- the element at a place doesn't pass what none passes
none_at : (test : Rule → Bool) (rules : List Rule) → list_any test rules ≡ false
    → (k : ℕ) (d : Rule) → k < length rules → test (slice_index_or rules k d) ≡ true → ⊥
none_at test [] none k d lt passes = omega arith
none_at test (r ∷ rules) none zero d lt passes =
    let some : list_any test (r ∷ rules) ≡ true = rw passes refl in
    true≢false (sym some ∙ none)
none_at test (r ∷ rules) none (suc k) d lt passes =
    none_at test rules (rest (test r) none) k d (omega arith) passes
  where
    rest : (b : Bool) → (b || list_any test rules) ≡ false → list_any test rules ≡ false
    rest true bad = absurd (true≢false bad)
    rest false h = h

swapped : (a b : List ℕ) → bytes_eq a b ≡ true → bytes_eq b a ≡ true
swapped a b same = (bytes_eq-Decides b a).1 (sym ((bytes_eq-Decides a b).0 same))

-- where no two have one name, a name has one place
pub one_place : (rules : List Rule) → are_distinct rules ≡ true → (j k : ℕ) (d e : Rule)
    → j < length rules → k < length rules
    → bytes_eq (slice_index_or rules j d).id (slice_index_or rules k e).id ≡ true → j ≡ k
one_place [] distinct j k d e low lt same = absurd (omega arith)
one_place (r ∷ rules) distinct zero zero d e low lt same = refl
one_place (r ∷ rules) distinct zero (suc k) d e low lt same =
    absurd (none_at (λ other. bytes_eq other.id r.id) rules (is_false _ (both _ _ distinct).0) k e
    (omega arith) (swapped r.id (slice_index_or rules k e).id same))
one_place (r ∷ rules) distinct (suc j) zero d e low lt same =
    absurd (none_at (λ other. bytes_eq other.id r.id) rules (is_false _ (both _ _ distinct).0) j d
    (omega arith) same)
one_place (r ∷ rules) distinct (suc j) (suc k) d e low lt same =
    ap suc (one_place rules (both _ _ distinct).1 j k d e (omega arith) (omega arith) same)

-- what an argument that takes one value is
pub record TakesOne (rule : Rule) : Type 0 where
  pub set : rule.action ≡ Some Set
  pub no_range : rule.range ≡ None
  pub given : (rule.required ≡ true) ⊎ (0 < length rule.defaults)
  pub named : rule.id ≡ [] → ⊥
  pub no_help : rule.id ≡ codes "help" → ⊥
  pub no_version : rule.id ≡ codes "version" → ⊥

set_is : (action : Option ArgAction) → is_set action ≡ true → action ≡ Some Set
set_is None bad = absurd (true≢false (sym bad))
set_is (Some Set) h = refl
set_is (Some other) h = absurd (true≢false (sym h))

no_range_is : {A : Type 0} (o : Option A) → not (is_some o) ≡ true → o ≡ None
no_range_is None h = refl
no_range_is (Some x) bad = absurd (true≢false (sym bad))

some_length : {A : Type 0} (xs : List A) → not (length xs == 0) ≡ true → 0 < length xs
some_length [] bad = absurd (true≢false (sym bad))
some_length (x ∷ xs) h = omega arith

given_is : {A : Type 0} (required : Bool) (xs : List A) → (required || not (length xs == 0)) ≡ true
    → (required ≡ true) ⊎ (0 < length xs)
given_is true xs h = inl refl
given_is false xs h = inr (some_length xs h)

other_text : (a b : List ℕ) → not (bytes_eq a b) ≡ true → a ≡ b → ⊥
other_text a b other same = true≢false (sym ((bytes_eq-Decides a b).1 same) ∙ is_false _ other)

pub takes_one-is : (rule : Rule) → takes_one rule ≡ true → TakesOne rule
takes_one-is rule h =
    let action = both _ _ h in
    let range = both _ _ action.1 in
    let given = both _ _ range.1 in
    let name = both _ _ given.1 in
    let flags = both _ _ name.1 in
    record {
      set = set_is rule.action action.0;
      no_range = no_range_is rule.range range.0;
      given = given_is rule.required rule.defaults given.0;
      named = λ none.
          let some = some_length rule.id name.0 in
          let empty = ap length none in
          omega arith;
      no_help = other_text rule.id (codes "help") flags.0;
      no_version = other_text rule.id (codes "version") flags.1;
    }
