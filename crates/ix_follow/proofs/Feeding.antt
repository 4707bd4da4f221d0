-- Feeding the lines of a manager's log keeps a prefix of its history, and none that is wanted is passed over.
use Rattle.std.proofs.Common.{◌≡◌, ◌≢◌, ℕ, ◌+◌, ◌-◌, ◌≤◌, List, [], ◌∷◌, ◌++◌, length, Result, Ok, Err, Some, IfErr, refl, sym, ◌∙◌, ap, subst, arith, length-append}
use Rattle.std.specs.List.{slice_get}
use Rattle.std.proofs.lemmas.List.{append_assoc}
use Rattle.std.proofs.lemmas.Option.{slice_get_within}
use Rattle.ix_words.specs.Each.{Each, no_item, item}
use Rattle.ix_values.specs.PlainAction.{PlainAction, Word}
use Rattle.ix_expr.specs.Form.{Form}
use Rattle.ix_follow.specs.declared.answers.Fed.{Fed}
use Rattle.ix_follow.specs.declared.answers.Fed.TheVariants.{Other, LeftOut, Early, Old, Taken}
use Rattle.ix_follow.specs.declared.answers.FollowFault.{FollowFault}
use Rattle.ix_follow.specs.declared.answers.FollowFault.TheVariants.{Differs, NotPartial, Full, Over, Memory}
use Rattle.ix_follow.specs.Following.{IsEntryLine, HasAt, IsNextNumber, Meets, LeavesFollowed, FollowsLine, no_entry, left_out, entry}
use Rattle.ix_follow.specs.Laws.{FeedsAll, none, more, IsManaged, TellsOf, IsPrefix, HasInOrder, all, here, later}
use Rattle.ix_follow.proofs.Entries.{same_entry, left_out_is_none}
use Rattle.ix_follow.proofs.Prefixes.{get_prefix, behind_begins}

-- a history became another at an answer: a prefix of the whole still, not shorter, and no fault but want of memory
record Goes (history whole : Word) (answer : Result Fed FollowFault) (next : Word) : Type 0 where
  prefix : IsPrefix next whole
  fine : IfErr answer (λ fault. fault ≡ Memory)
  grows : length history ≤ length next

stays : (history whole : Word) (answer : Result Fed FollowFault) (next : Word) → IsPrefix history whole
    → IfErr answer (λ fault. fault ≡ Memory) → next ≡ history → Goes history whole answer next
stays history whole answer next prefix fine same = record {
  prefix = subst (λ (h : Word). IsPrefix h whole) (sym same) prefix;
  fine = fine;
  grows = let count = ap length same in omega (arith, count);
}

module _ (x : Form) (limit most : ℕ) (whole : Word) (room : most ≤ limit) (managed : IsManaged x most whole) where
  -- the whole goes on with its action of the next number
  goes_on : (history behind : Word) (n : ℕ) (a : PlainAction) → whole ≡ history ++ behind → IsNextNumber history n → HasAt whole n a
      → (rest : Word) × (whole ≡ history ++ a ∷ rest)
  goes_on history behind n a parts next has =
      let place : n - 1 ≡ length history = omega arith in
      let at = subst (λ i. slice_get whole i ≡ Some a) place has in
      let found = behind_begins history behind a (subst (λ (w : Word). slice_get w (length history) ≡ Some a) parts at) in
      (found.0, parts ∙ ap (λ (w : Word). history ++ w) found.1)

  -- an entry of the whole
  meets : (history next : Word) (n : ℕ) (a : PlainAction) (answer : Result Fed FollowFault) → IsPrefix history whole → HasAt whole n a
      → Meets x limit history n a answer → LeavesFollowed history a answer next → Goes history whole answer next
  meets history next n a (Ok Other) prefix has met leaves = absurd met
  meets history next n a (Ok LeftOut) prefix has met leaves = absurd met
  meets history next n a (Ok (Early m)) prefix has met leaves = stays history whole _ next prefix tt leaves
  meets history next n a (Ok (Old m)) prefix has met leaves = stays history whole _ next prefix tt leaves
  meets history next n a (Ok (Taken m)) prefix has met leaves =
      let on = goes_on history prefix.0 n a prefix.1 met.1 has in
      record {
        prefix = subst (λ (h : Word). IsPrefix h whole) (sym leaves) (on.0, on.1 ∙ sym (append_assoc history (a ∷ []) on.0));
        fine = tt;
        grows = let count = ap length leaves in omega (arith, count, length-append {A = PlainAction});
      }
  meets history next n a (Err (Differs m)) prefix has met leaves =
      let kept = get_prefix history prefix.0 (n - 1) met.1.0 met.1.1 in
      let whole_has = subst (λ (w : Word). slice_get w (n - 1) ≡ Some a) prefix.1 has in
      absurd (met.1.2 cc)
  meets history next n a (Err (NotPartial m)) prefix has met leaves =
      let on = goes_on history prefix.0 n a prefix.1 met.1 has in
      absurd (met.2 (managed history a on.0 on.1).permitted)
  meets history next n a (Err (Full m)) prefix has met leaves =
      let on = goes_on history prefix.0 n a prefix.1 met.1 has in
      let few = (managed history a on.0 on.1).room in
      absurd (omega (arith, few, met.3))
  meets history next n a (Err (Over m l)) prefix has met leaves =
      let on = goes_on history prefix.0 n a prefix.1 met.2 has in
      let within = (managed history a on.0 on.1).within in
      absurd (omega (arith, within, met.5, room))
  meets history next n a (Err Memory) prefix has met leaves = stays history whole _ next prefix refl leaves

  -- a line that tells of the whole
  goes : (history : Word) (line : List ℕ) (answer : Result Fed FollowFault) (next : Word) → IsPrefix history whole → TellsOf whole line
      → FollowsLine x limit history line answer next → Goes history whole answer next
  goes history line answer next prefix tells (no_entry none_told here_told answer_is same) =
      stays history whole answer next prefix (subst (λ (r : Result Fed FollowFault). IfErr r (λ fault. fault ≡ Memory)) (sym answer_is) tt) same
  goes history line answer next prefix tells (left_out told answer_is same) =
      stays history whole answer next prefix (subst (λ (r : Result Fed FollowFault). IfErr r (λ fault. fault ≡ Memory)) (sym answer_is) tt) same
  goes history line answer next prefix tells (entry {number = n} {a = a} is met leaves) = meets history next n a answer prefix (tells n a is) met leaves

  -- all lines
  pub holds : (history last : Word) (lines : List (List ℕ)) (answers : List (Result Fed FollowFault)) → IsPrefix history whole
      → Each (TellsOf whole) lines → FeedsAll x limit history lines answers last
      → IsPrefix last whole × Each (λ answer. IfErr answer (λ fault. fault ≡ Memory)) answers
  holds history last _ _ prefix tell none = (prefix, no_item)
  holds history last _ _ prefix (item tells tell) (more {next = next} {line = line} {lines = lines} {answer = answer} {answers = answers} fed rest) =
      let step = goes history line answer next prefix tells fed in
      let behind = holds next last lines answers step.prefix tell rest in
      (behind.0, item step.fine behind.1)

  -- an entry that is the next one at most is had behind it
  has_then : (history next : Word) (n m : ℕ) (a b : PlainAction) (answer : Result Fed FollowFault) → n ≡ m → n ≤ length history + 1
      → IfErr answer (λ fault. fault ≡ Memory) → answer ≢ Err Memory → Meets x limit history m b answer → 1 ≤ m → LeavesFollowed history b answer next
      → n ≤ length next
  has_then history next n m a b (Ok Other) same wanted fine enough met one leaves = absurd met
  has_then history next n m a b (Ok LeftOut) same wanted fine enough met one leaves = absurd met
  has_then history next n m a b (Ok (Early k)) same wanted fine enough met one leaves = absurd (omega (arith, same, wanted, met.1))
  has_then history next n m a b (Ok (Old k)) same wanted fine enough met one leaves =
      let within = slice_get_within history (m - 1) b met.1 in
      let count = ap length leaves in
      omega (arith, within, same, one, count)
  has_then history next n m a b (Ok (Taken k)) same wanted fine enough met one leaves =
      let count = ap length leaves in
      omega (arith, met.1, same, count, length-append {A = PlainAction})
  has_then history next n m a b (Err fault) same wanted fine enough met one leaves =
      absurd (enough (ap (λ (f : FollowFault). Err f) fine))

  catches_one : (history : Word) (line : List ℕ) (answer : Result Fed FollowFault) (next : Word) (n : ℕ) (a : PlainAction)
      → IsEntryLine line n a → n ≤ length history + 1 → IfErr answer (λ fault. fault ≡ Memory) → answer ≢ Err Memory
      → FollowsLine x limit history line answer next → n ≤ length next
  catches_one history line answer next n a is wanted fine enough (no_entry none_told here_told answer_is same) = absurd (none_told n a is)
  catches_one history line answer next n a is wanted fine enough (left_out told answer_is same) = absurd (left_out_is_none line n a told is)
  catches_one history line answer next n a is wanted fine enough (entry {number = m} {a = b} told met leaves) =
      has_then history next n m a b answer (same_entry line n m a b is told) wanted fine enough met told.from_one leaves

  -- the entries from a wanted one on
  pub catches : (history last : Word) (lines : List (List ℕ)) (answers : List (Result Fed FollowFault)) (n first : ℕ) → IsPrefix history whole
      → Each (TellsOf whole) lines → Each (λ answer. answer ≢ Err Memory) answers → first ≤ length history + 1
      → FeedsAll x limit history lines answers last → HasInOrder n first lines → n ≤ length last
  catches history last _ _ n first prefix tell enough wanted none (all past) = omega (arith, past, wanted)
  catches history last _ _ n first prefix (item tells tell) (item one enough) wanted (more {next = next} {line = line} {lines = lines} {answer = answer} {answers = answers} fed rest) (all past) =
      let step = goes history line answer next prefix tells fed in
      catches next last lines answers n first step.prefix tell enough (let grows = step.grows in omega (arith, grows, wanted)) rest (all past)
  catches history last _ _ n first prefix (item tells tell) (item one enough) wanted (more {next = next} {line = line} {lines = lines} {answer = answer} {answers = answers} fed rest) (here {a = a} is behind) =
      let step = goes history line answer next prefix tells fed in
      let had = catches_one history line answer next first a is wanted step.fine one fed in
      catches next last lines answers n (first + 1) step.prefix tell enough (omega (arith, had)) rest behind
  catches history last _ _ n first prefix (item tells tell) (item one enough) wanted (more {next = next} {line = line} {lines = lines} {answer = answer} {answers = answers} fed rest) (later behind) =
      let step = goes history line answer next prefix tells fed in
      catches next last lines answers n first step.prefix tell enough (let grows = step.grows in omega (arith, grows, wanted)) rest behind
