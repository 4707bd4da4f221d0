use Rattle.std.proofs.Common.{◌≡◌, ◌<◌, ◌+◌, sym, ap, subst, ◌∙◌, eqb-true, arith, length, map, ◌++◌, ◌∷◌, [], append_assoc}
use Rattle.std.proofs.lemmas.List.{map-append, length-map, length-append}
use Rattle.ix_lines.specs.TextLines.{bytes_of, lines_of}
use Rattle.ix_next.specs.Lists.{HasBadLine, IsBadLine, AreGiven, StandOnce, none, one}
use Rattle.ix_words.specs.Each.{Member}
use Rattle.ix_next.proofs.ListLemmas.{are_as_many, bytes_more, empty_is, grown}
use Rattle.ix_next.proofs.list.read_values.Goals as goal

pub returns-then-is_empty-clause-refused : goal.returns-then-is_empty-clause-refused
returns-then-is_empty-clause-refused c =
    none (empty_is c.args.bytes.now (eqb-true _ _ (sym c.if-is_empty.ensures)))

pub returns-in-Err-clause-refused : goal.returns-in-Err-clause-refused
returns-in-Err-clause-refused c =
    let before = map (λ b. b.now) c.loop-rest.before.items in
    let rest = c.first_line-first.result.rest.now in
    let so_far = c.loop-rest.invariant in
    let some : 0 < length c.loop-rest.rest.now = omega (arith, c.first_line-first.ensures.shorter) in
    let at : bytes_of before + length c.loop-rest.rest.now ≡ length c.args.bytes.now = so_far.4 some in
    let few = so_far.3 in
    subst (HasBadLine c.args.bytes.now c.in-Err.code) (omega (arith, at))
    (one before (lines_of rest)
    (so_far.0 ∙ ap (λ l. before ++ l) c.first_line-first.ensures.lines)
    (record { are = so_far.1; once = so_far.2; few = omega (arith, few, length-map c.loop-rest.before.items (λ b. b.now)) })
    (subst (λ bs. IsBadLine (map (λ b. b.now) bs) c.first_line-first.result.line.now c.in-Err.code)
    c.as_slice.ensures.value c.in-Err.ensures))

pub loop-rest-preserved : goal.loop-rest-preserved
loop-rest-preserved c =
    let items = c.loop-rest.before.items in
    let before = map (λ b. b.now) items in
    let given = c.loop-rest.given.items in
    let line = c.first_line-first.result.line in
    let rest = c.first_line-first.result.rest.now in
    let so_far = c.loop-rest.invariant in
    let next = c.in-Ok.ensures in
    let longer = c.in_ok-push.ensures.items in
    let mapped : map (λ b. b.now) c.push-in-loop-rest.new.self.items ≡ before ++ line.now ∷ [] =
    ap (map (λ b. b.now)) longer ∙ map-append (λ b. b.now) items (line ∷ []) in
    let more = grown before given line.now c.in-Ok.value so_far.1 so_far.2 next.0
    (subst (λ bs. ¬ Member line.now (map (λ b. b.now) bs)) c.as_slice.ensures.value next.1) in
    let below : length items < 64 = subst (λ bs. length bs < 64) c.as_slice.ensures.value next.2 in
    let length_is : length c.push-in-loop-rest.new.self.items ≡ length items + 1 =
    ap length longer ∙ length-append items (line ∷ []) in
    let bytes_are : bytes_of (map (λ b. b.now) c.push-in-loop-rest.new.self.items) ≡ bytes_of before + (length line.now + 1) =
    ap bytes_of mapped ∙ bytes_more before line.now in
    let shorter = c.first_line-first.ensures.shorter in (
      so_far.0 ∙ ap (λ l. before ++ l) c.first_line-first.ensures.lines
          ∙ sym (append_assoc before (line.now ∷ []) (lines_of rest)) ∙ ap (λ l. l ++ lines_of rest) (sym mapped),
      subst (λ bs. AreGiven bs c.push.new.self.items) (sym mapped)
          (subst (AreGiven (before ++ line.now ∷ [])) (sym c.in_ok-push-in-Ok.ensures.items) more.are),
      subst StandOnce (sym mapped) more.once,
      omega (arith, below, length_is),
      (λ some.
          let place = c.first_line-first.ensures.place some in
          let at = so_far.4 (omega (arith, shorter)) in
          omega (arith, place, at, bytes_are)),
      omega (arith, length_is),
    )

pub returns-clause-some : goal.returns-clause-some
returns-clause-some c =
    let so_far = c.loop-rest.invariant in
    let many = so_far.5 in
    let alike = are_as_many _ _ so_far.1 in
    let mapped = length-map c.loop-rest.before.items (λ b. b.now) in
    let ended = eqb-true _ _ (sym c.loop-rest-test.ensures) in
    omega (arith, many, alike, mapped, ended)
