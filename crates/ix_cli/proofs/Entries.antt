-- What a parse found for an argument that takes one value.
use Rattle.std.proofs.Common.{◌≡◌, ◌∙◌, ◌<◌, ◌≤◌, ◌⊎◌, ℕ, Bool, true, false, zero, suc, refl, sym}
use Rattle.std.proofs.Common.{ap, subst, arith, List, [], ◌∷◌, length, Option, Some, None, is_some}
use Rattle.std.proofs.Common.{inl, inr, true≢false}
use Rattle.std.specs.List.{All, slice_index_or}
use Rattle.std.specs.Str.{bytes_eq}
use Rattle.std.specs.Borrow.{Bor}
use Rattle.std.specs.Prelude.{find, option_map, slice_get}
use Rattle.std.proofs.lemmas.Slice.Eq.{bytes_eq-Decides}
use Rattle.std.proofs.lemmas.List.Elements.{All-get_or}
use Rattle.clap.specs.Facts.{Entry, EntryPasses, HasId, HasIn, IsParsed, is_present, PassesArg}
use Rattle.clap.specs.Facts.{WantsDefault, args_of, groups_of, least_values, parser_of_value}
use Rattle.clap.specs.Built.{IsAuto, IsParsedFrom, IsPlain, SameRules}
use Rattle.clap.specs.Matches.{first_value, found_of, has_subcommand, matched_of, one_text}
use Rattle.clap.specs.Values.{Accepts, IsUnsignedIn, read_as, reading_of}
use Rattle.clap.specs.declared.builder.action.ArgAction.TheVariants.{Count, Set}
use Rattle.clap.specs.declared.builder.arg.Arg.{Arg}
use Rattle.clap.specs.declared.builder.command.Command.{Command}
use Rattle.clap.specs.declared.builder.command.Command.TheViews.{out-Command}
use Rattle.clap.specs.declared.builder.value_parser.Reading.{Reading}
use Rattle.clap.specs.declared.builder.value_parser.ValueParser.{ValueParser}
use Rattle.clap.specs.declared.builder.value_parser.ValueParser.TheVariants as parser
use Rattle.clap.specs.declared.parser.matches.ArgMatches.{ArgMatches}
use Rattle.clap.specs.declared.parser.matches.MatchedArg.{MatchedArg}
use Rattle.clap.proofs.CallerLemmas.{entry_by_id, present_has_entry, required_present}
use Rattle.clap.proofs.CallerLemmas.{default_present, same_rules_by_id}

-- the entry of an id
abbrev entry_of : List Entry → List ℕ → Option MatchedArg
entry_of xs id = option_map (λ (e : Entry). e.1) (find (λ (e : Entry). bytes_eq e.0.now id) xs)

-- an id that is among the entries is found
has_entry : (xs : List Entry) (id : List ℕ) → HasIn xs id → is_some (entry_of xs id) ≡ true
has_entry [] id has = absurd (omega (arith, has.1))
has_entry (x ∷ xs) id has =
    go (bytes_eq x.0.now id) refl has.0 has.1 has.2 (λ i lt same. has_entry xs id (i, lt, same))
  where
    go : (hit : Bool) → bytes_eq x.0.now id ≡ hit → (i : ℕ) → i < length (x ∷ xs)
        → ((d : Entry) → bytes_eq (slice_index_or (x ∷ xs) i d).0.now id ≡ true)
        → ((k : ℕ) → k < length xs
        → ((d : Entry) → bytes_eq (slice_index_or xs k d).0.now id ≡ true)
        → is_some (entry_of xs id) ≡ true)
        → is_some (entry_of (x ∷ xs) id) ≡ true
    go true is i lt same rest = rw is refl
    go false is zero lt same rest =
        let bad : bytes_eq x.0.now id ≡ true = same x in
        cc
    go false is (suc i) lt same rest = rw is (rest i (omega arith) same)

-- an entry that is found, with what holds of each
entry_found : (P : Entry → Type 0) (xs : List Entry) (id : List ℕ) → All P xs
    → (o : Option MatchedArg) → entry_of xs id ≡ o → is_some o ≡ true
    → (x : MatchedArg) × (o ≡ Some x) × ((e : Entry) × (e.1 ≡ x) × (e.0.now ≡ id) × P e)
entry_found P xs id all None is some = absurd (true≢false (sym some))
entry_found P xs id all (Some x) is some =
    let got = entry_by_id P xs id x all is in
    (x, refl, (got.0, got.1, (bytes_eq-Decides got.0.0.now id).0 got.2, got.3))

-- an argument of the caller's that takes one value, at its place
pub record IsOne (c : Command) (k : ℕ) (a : Arg) : Type 0 where
  pub place : k < length (args_of c)
  pub here : slice_index_or (args_of c) k a ≡ a
  pub set : a.action ≡ Some Set
  pub no_delimiter : a.val_delim ≡ None
  pub least : 1 ≤ least_values a
  pub named : a.id.now ≡ [] → ⊥
  pub own : IsAuto a → ⊥
  pub alone : (j : ℕ) (e : Arg) → j < length (args_of c)
      → bytes_eq (slice_index_or (args_of c) j e).id.now a.id.now ≡ true → j ≡ k
  pub given : (a.required ≡ true) ⊎ WantsDefault a

-- the first of some values, and how it is read
abbrev first_now : List (Bor (List ℕ)) → Option (List ℕ)
first_now vs = option_map (λ (s : Bor (List ℕ)). s.now) (slice_get vs 0)

abbrev first_read : Reading → List (Bor (List ℕ)) → Option (List ℕ)
first_read how vs = option_map (λ (s : Bor (List ℕ)). read_as how s.now) (slice_get vs 0)

-- where each value passes, so does the first
first_passes : (P : List ℕ → Type 0) (vs : List (Bor (List ℕ))) → 0 < length vs
    → All (λ v. P v.now) vs
    → (t : List ℕ) × (first_now vs ≡ Some t)
    × ((how : Reading) → first_read how vs ≡ Some (read_as how t)) × P t
first_passes P [] lt all = absurd (omega arith)
first_passes P (v ∷ vs) lt all = (
  v.now,
  refl,
  (λ how. refl),
  All-get_or (λ (s : Bor (List ℕ)). P s.now) (v ∷ vs) 0 v (omega arith) all,
)

module _ (c : Command) (m : ArgMatches) (p : IsParsedFrom c m) (plain : IsPlain c)
    (local : (out-Command c).has_globals ≡ false)
    (requires_all : (out-Command c).subcommand_negates_reqs ≡ false)
    (k : ℕ) (a : Arg) (one : IsOne c k a)
  where
    parsed : IsParsed p.built (found_of m) (has_subcommand m)
    parsed = p.parsed (p.from.globals ∙ local)

    no_groups : groups_of p.built ≡ []
    no_groups = (p.from.plain plain).1

    -- the argument has an entry
    entry : is_some (matched_of (found_of m) a.id.now) ≡ true
    entry = elim one.given [
      | inl required ↦
          let wanted : (slice_index_or (args_of c) k a).required ≡ true =
          ap (λ (x : Arg). x.required) one.here ∙ required in
          let present = required_present c m p plain local requires_all k a one.place wanted in
          present_has_entry (found_of m) a.id.now
          (subst (λ (x : Arg). is_present (found_of m) x.id.now ≡ true) one.here present)
      | inr default ↦
          let wants = subst WantsDefault (sym one.here) default in
          let has = default_present c m p local k a one.place wants in
          has_entry (found_of m).entries.items a.id.now
          (subst (λ (x : Arg). HasId (found_of m) x.id.now) one.here has)
    ]

    -- what building made of it
    same_rules : (j : ℕ) (x : Arg) → j < length (args_of p.built)
        → slice_index_or (args_of p.built) j x ≡ x → bytes_eq x.id.now a.id.now ≡ true
        → SameRules a x
    same_rules j x high at same =
        let named : Arg → Arg → Type 0 = λ y w. bytes_eq y.id.now w.id.now ≡ true in
        subst (λ (w : Arg). SameRules w x) one.here
        (same_rules_by_id c m p k a one.place
        (λ i e low h. one.alone i e low (subst (named (slice_index_or (args_of c) i e)) one.here h))
        (λ auto. one.own (subst IsAuto one.here auto)) j x high at
        (subst (named x) (sym one.here) same))

    not_group : (e : Entry) → e.0.now ≡ a.id.now → EntryPasses p.built e
        → e.1.is_group ≡ true → ⊥
    not_group e key pass group = elim (pass.3 group) [
      | inl empty ↦ one.named (sym key ∙ empty)
      | inr some ↦
          let bad : 0 < 0 = rw no_groups at some in
          omega arith
    ]

    -- its entry has a value
    filled : (e : Entry) → e.0.now ≡ a.id.now → EntryPasses p.built e → 0 < length e.1.vals.items
    filled e key pass = elim pass.1 [
      | inl group ↦ absurd (not_group e key pass group.0)
      | inr (inl some) ↦ some
      | inr (inr (inl count)) ↦
          let any = count.1 in
          let s = same_rules any.0 any.1 any.2 any.3 (rw key at any.4.0) in
          let is_set : any.1.action ≡ Some Set = s.action Set one.set in
          let bad : Set ≡ Count = rw is_set at any.4.1 in
          cc
      | inr (inr (inr none)) ↦
          let s = same_rules none.0 none.1 none.2 none.3 (rw key at none.4.0) in
          elim none.4.1 [
            | inl zero_least ↦
                let least = s.least one.set one.least in
                absurd (omega arith)
            | inr delimiter ↦
                let bad : false ≡ true = rw (s.val_delim, one.no_delimiter) at delimiter in
                cc
          ]
    ]

    -- its values pass
    values_pass : (e : Entry) → e.0.now ≡ a.id.now → EntryPasses p.built e
        → All (λ v. PassesArg p.built a.id.now v.now) e.1.vals.items
    values_pass e key pass = elim pass.0 [
      | inl group ↦ absurd (not_group e key pass group)
      | inr vals ↦
          subst (λ (w : List ℕ). All (λ v. PassesArg p.built w v.now) e.1.vals.items) key vals
    ]

    -- and are read as its parser says
    read_by : (q : ValueParser) → a.value_parser ≡ Some q → (e : Entry) → e.0.now ≡ a.id.now
        → EntryPasses p.built e → e.1.reading ≡ reading_of q
    read_by q is e key pass = elim pass.4 [
      | inl group ↦ absurd (not_group e key pass group)
      | inr how ↦
          let s = same_rules how.0 how.1 how.2 how.3 (rw key at how.4.0) in
          sym how.4.1 ∙ ap (λ w. reading_of (parser_of_value w)) (s.parser q is)
    ]

    accepted : (q : ValueParser) → a.value_parser ≡ Some q → (t : List ℕ)
        → PassesArg p.built a.id.now t → Accepts a.ignore_case q t
    accepted q is t pass =
        let s = same_rules pass.0 pass.1 pass.2 pass.3 pass.4.0 in
        let as_q : Accepts pass.1.ignore_case q t =
        subst (λ (w : ValueParser). Accepts pass.1.ignore_case w t)
        (ap parser_of_value (s.parser q is)) pass.4.1 in
        subst (λ (b : Bool). Accepts b q t) s.ignore_case as_q

    -- the entry that was found
    found : (x : MatchedArg) × (matched_of (found_of m) a.id.now ≡ Some x)
        × ((e : Entry) × (e.1 ≡ x) × (e.0.now ≡ a.id.now) × EntryPasses p.built e)
    found = entry_found (EntryPasses p.built) (found_of m).entries.items a.id.now parsed.values
        (matched_of (found_of m) a.id.now) refl entry

    -- what a parser lets through
    value : (t : List ℕ) × (first_value (found_of m) a.id.now ≡ Some t)
        × ((q : ValueParser) → a.value_parser ≡ Some q
        → (one_text (found_of m) a.id.now ≡ Some (read_as (reading_of q) t))
        × Accepts a.ignore_case q t)
    value =
        let e = found.2.0 in
        let first = first_passes (PassesArg p.built a.id.now) e.1.vals.items
        (filled e found.2.2 found.2.3) (values_pass e found.2.2 found.2.3) in (
          first.0,
          rw found.1 (subst (λ (x : MatchedArg). first_now x.vals.items ≡ Some first.0)
              found.2.1 first.1),
          λ q is.
              let how = reading_of q in
              let read : first_read e.1.reading e.1.vals.items ≡ Some (read_as how first.0) =
              subst (λ (r : Reading). first_read r e.1.vals.items ≡ Some (read_as how first.0))
              (sym (read_by q is e found.2.2 found.2.3)) (first.2 how) in (
                rw found.1 (subst (λ (x : MatchedArg).
                    first_read x.reading x.vals.items ≡ Some (read_as how first.0)) found.2.1 read),
                accepted q is first.0 first.3,
              ),
        )

    pub text_found : is_some (first_value (found_of m) a.id.now) ≡ true
    text_found = rw value.1 refl

    pub number_found : (least most : ℕ) → a.value_parser ≡ Some (parser.Unsigned least most)
        → (t : List ℕ) × (one_text (found_of m) a.id.now ≡ Some t) × IsUnsignedIn least most t
    number_found least most is =
        let got = value.2 (parser.Unsigned least most) is in
        (value.0, got.0, got.1)
