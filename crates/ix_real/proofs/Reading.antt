-- Reads of a file, one behind the other.
use Rattle.std.proofs.Common.{◌≡◌, ℕ, ◌+◌, ◌≤◌, List, ◌++◌, None, Some, length, take, drop, sym, ap, ◌∙◌, append_assoc, subst}
use Rattle.std.proofs.Math.Nat.{add_assoc}
use Rattle.std.proofs.Math.Seq.{take-append-add}
use Rattle.std.proofs.lemmas.List.{take-append-le}
use Rattle.std.specs.declared.option.Option.{Option}
use Rattle.std.specs.Io.KnownBytes.{Consumes}
use Rattle.ix_real.specs.inside.Places.{known_from}

-- a front, and then the front of what stands behind it
take_both : (n m : ℕ) (front part rest : List ℕ) → length front ≡ n → m ≤ length part
    → take (n + m) (front ++ (part ++ rest)) ≡ front ++ take m part
take_both n m front part rest long fits =
    ap (λ k. take (k + m) (front ++ (part ++ rest))) (sym long) ∙ take-append-add front (part ++ rest) m
    ∙ ap (λ l. front ++ l) (take-append-le m part rest fits)

-- what was read so far, and what a further read gave behind it
read_on : (known : Option (List ℕ)) (at filled count : ℕ) (front part rest : List ℕ) → length front ≡ filled → count ≤ length part
    → Consumes (known_from at known) (known_from (at + filled) known) front
    → Consumes (known_from (at + filled) known) (known_from (at + filled + count) known) (take count part)
    → Consumes (known_from at known) (known_from (at + (filled + count)) known) (take (filled + count) (front ++ (part ++ rest)))
read_on None at filled count front part rest long fits before read = tt
read_on (Some all) at filled count front part rest long fits before read =
    before ∙ ap (λ l. front ++ l) read ∙ sym (append_assoc front (take count part) (drop (at + filled + count) all))
    ∙ ap (λ l. l ++ drop (at + filled + count) all) (sym (take_both filled count front part rest long fits))
    ∙ ap (λ k. take (filled + count) (front ++ (part ++ rest)) ++ drop k all) (add_assoc at filled count)

-- the same, where the further read tells its place
pub read_behind : (known : Option (List ℕ)) (at filled count place : ℕ) (front part rest : List ℕ) → length front ≡ filled
    → count ≤ length part → place ≡ at + filled
    → Consumes (known_from at known) (known_from (at + filled) known) front
    → Consumes (known_from place known) (known_from (place + count) known) (take count part)
    → Consumes (known_from at known) (known_from (at + (filled + count)) known) (take (filled + count) (front ++ (part ++ rest)))
read_behind known at filled count place front part rest long fits same before read =
    read_on known at filled count front part rest long fits before
    (subst (λ p. Consumes (known_from p known) (known_from (p + count) known) (take count part)) same read)
