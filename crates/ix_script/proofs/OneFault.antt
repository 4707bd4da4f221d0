-- A script has one first fault at most, and no events where it has one.
use Rattle.std.proofs.Common.{◌≡◌, ℕ, List, [], ◌∷◌, ◌++◌, refl, sym, ◌∙◌, ap, subst, arith}
use Rattle.std.specs.List.{AllByRecursion}
use Rattle.ix_outside.specs.Contents.{GivenEvent}
use Rattle.ix_lines.specs.Numbers.{BeginsWithNumber}
use Rattle.ix_lines.specs.TextLines.{bytes_of}
use Rattle.ix_lines.proofs.NumberCuts.{begins_same}
use Rattle.ix_script.specs.Events.{AreEvents}
use Rattle.ix_script.specs.Grammar.{InGrammar, IsLineFault, no_moment, no_connection, no_text}
use Rattle.ix_script.specs.Laws.{ScriptsHaveOneFirstFault, FaultyScriptsHaveNoEvents}
use Rattle.ix_script.proofs.LineParts.{no_fault}

-- the lines before the first that doesn't hold, and that line
one-bad :
    (Holds : List ℕ → Type 0) (xs ys us vs : List (List ℕ)) (bad other : List ℕ)
    → AllByRecursion Holds xs → AllByRecursion Holds ys → ¬ Holds bad → ¬ Holds other
    → xs ++ bad ∷ us ≡ ys ++ other ∷ vs → (xs ≡ ys) × (bad ≡ other)
one-bad Holds [] [] us vs bad other good well fails lacks e = (refl, cc)
one-bad Holds [] (y ∷ ys) us vs bad other good well fails lacks e =
    let same : bad ≡ y = cc in
    absurd (fails (subst Holds (sym same) well.0))
one-bad Holds (x ∷ xs) [] us vs bad other good well fails lacks e =
    let same : x ≡ other = cc in
    absurd (lacks (subst Holds same good.0))
one-bad Holds (x ∷ xs) (y ∷ ys) us vs bad other good well fails lacks e =
    let first : x ≡ y = cc in
    let later : xs ++ bad ∷ us ≡ ys ++ other ∷ vs = cc in
    let rest = one-bad Holds xs ys us vs bad other good.1 well.1 fails lacks later in
    ((λ i. first i ∷ rest.0 i), rest.1)

-- a line has one fault
one-code : (line : List ℕ) (c d : ℕ) → IsLineFault line c → IsLineFault line d → c ≡ d
one-code line _ _ (no_moment none) (no_moment lack) = refl
one-code line _ _ (no_moment none) (no_connection {moment = m} {behind = b} begins lack) =
    absurd (none (m, b, begins))
one-code line _ _ (no_moment none) (no_text {moment = m} {conn = k} {behind = b} begins text) =
    absurd (none (m, b, begins))
one-code line _ _ (no_connection {moment = m} {behind = b} begins none) (no_moment lack) =
    absurd (lack (m, b, begins))
one-code line _ _ (no_connection begins none) (no_connection starts lack) = refl
one-code line _ _ (no_connection {moment = m} {behind = b} begins none)
    (no_text {moment = n} {conn = k} {behind = r} starts text) =
    let same = begins_same line m n b r begins starts in
    absurd (none (k, 92 ∷ [], subst (λ t. BeginsWithNumber 64 t k (92 ∷ [])) (sym same.1) text))
one-code line _ _ (no_text {moment = m} {conn = k} {behind = b} begins text) (no_moment lack) =
    absurd (lack (m, b, begins))
one-code line _ _ (no_text {moment = m} {conn = k} {behind = b} begins text)
    (no_connection {moment = n} {behind = r} starts lack) =
    let same = begins_same line m n b r begins starts in
    absurd (lack (k, 92 ∷ [], subst (λ t. BeginsWithNumber 64 t k (92 ∷ [])) same.1 text))
one-code line _ _ (no_text begins text) (no_text starts more) = refl

pub one-first_fault : ScriptsHaveOneFirstFault
one-first_fault bytes c a d b first second =
    let same =
    one-bad InGrammar first.before second.before first.behind second.behind first.bad second.bad
    first.good second.good (no_fault first.bad c first.fault.0)
    (no_fault second.bad d second.fault.0) (sym first.split ∙ second.split) in
    let here = subst (λ line. IsLineFault line c) same.1 first.fault.0 in
    let bytes_before = ap bytes_of same.0 in (
      one-code second.bad c d here second.fault.0,
      omega (arith, first.place, second.place, first.fault.1, second.fault.1, bytes_before),
    )

-- lines of which one has a fault have no events
no-events :
    (moment code : ℕ) (before behind : List (List ℕ)) (bad : List ℕ) (events : List GivenEvent)
    → IsLineFault bad code → ¬ AreEvents moment (before ++ bad ∷ behind) events
no-events moment code [] behind bad events fault (now, conn, text, later, parts, first, rest) =
    no_fault bad code fault (now, conn, text, parts)
no-events moment code (line ∷ before) behind bad events fault
    (now, conn, text, later, parts, first, rest) =
    no-events now code before behind bad later fault rest

pub faulty-no-events : FaultyScriptsHaveNoEvents
faulty-no-events bytes code at events first has =
    no-events 0 code first.before first.behind first.bad events first.fault.0
    (subst (λ lines. AreEvents 0 lines events) first.split has)
