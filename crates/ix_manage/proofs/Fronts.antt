-- What a text put in parts leaves.
use Rattle.std.proofs.Common.{◌≡◌, ℕ, List, [], ◌++◌, append_assoc, append-nil, Option, Result, Ok, Err, OnErr, sym, ◌∙◌, ap, subst}
use Rattle.std.specs.Io.KnownBytes.{append_known}
use Rattle.ix_outside.specs.Sink.{AppendsPart}
use Rattle.ix_manage.proofs.Tracing.{part_on}

-- a part of the front is a part of the whole
pub part_of_front : (start now : Option (List ℕ)) (first rest : List ℕ) → AppendsPart start first now
    → AppendsPart start (first ++ rest) now
part_of_front start now first rest part =
    let front = part.0 in
    let behind = part.1.0 in (
      front,
      (behind ++ rest, sym (append_assoc front behind rest) ∙ ap (λ (t : List ℕ). t ++ rest) part.1.1),
      part.2,
    )

-- the front was put, and then a part of the rest
pub part_of_rest : (start now after : Option (List ℕ)) (first second : List ℕ) → now ≡ append_known start first
    → AppendsPart now second after → AppendsPart start (first ++ second) after
part_of_rest start now after first second put part =
    subst (λ t. AppendsPart start t after) (append-nil (first ++ second)) (part_on start now after first second [] put part)

pub on_err : {T E P : Type 0} (r : Result T E) → P → OnErr r P
on_err (Ok done) p = tt
on_err (Err fault) p = p

pub on_err_along : {T E P Q : Type 0} (r : Result T E) → (P → Q) → OnErr r P → OnErr r Q
on_err_along (Ok done) to p = p
on_err_along (Err fault) to p = to p
