-- Writes of the pieces of a text, one behind the other.
use Rattle.std.proofs.Common.{◌≡◌, ℕ, ◌+◌, List, ◌++◌, None, Some, take, drop, sym, ap, ◌∙◌, append_assoc, append-nil, subst, length, ◌-◌, OnErr}
use Rattle.std.proofs.Math.Seq.{take-add}
use Rattle.std.proofs.lemmas.List.{take-append-drop, take_rest, nil_from_length}
use Rattle.std.specs.declared.option.Option.{Option}
use Rattle.std.specs.Prelude.{Result, Ok, Err}
use Rattle.std.specs.Io.KnownBytes.{Appends, Keeps, append_known}
use Rattle.ix_many.specs.inside.Passing.{AppendsFront}

-- a front of the text, and then the next piece of it
pub put_on : (old mid new : Option (List ℕ)) (count more : ℕ) (bytes : List ℕ)
    → Appends old mid (take count bytes) → Appends mid new (take more (drop count bytes))
    → Appends old new (take (count + more) bytes)
put_on None mid new count more bytes before now = tt
put_on (Some xs) None new count more bytes before now = absurd before
put_on (Some xs) (Some ys) None count more bytes before now = absurd now
put_on (Some xs) (Some ys) (Some zs) count more bytes before now =
    now ∙ ap (λ l. l ++ take more (drop count bytes)) before
    ∙ append_assoc xs (take count bytes) (take more (drop count bytes))
    ∙ ap (λ l. xs ++ l) (sym (take-add count more bytes))

-- the same, where the next piece is one of a slice
pub put_slice : (old mid new : Option (List ℕ)) (count more : ℕ) (bytes : List ℕ)
    → Appends old mid (take count bytes)
    → Appends mid new (take more (take (length bytes - count) (drop count bytes)))
    → Appends old new (take (count + more) bytes)
put_slice old mid new count more bytes before now =
    put_on old mid new count more bytes before
    (subst (λ l. Appends mid new (take more l)) (take_rest bytes count) now)

-- what was written stays
pub put_nothing : (old mid new : Option (List ℕ)) (bytes : List ℕ)
    → Appends old mid bytes → Keeps mid new → Appends old new bytes
put_nothing None mid new bytes before now = tt
put_nothing (Some xs) None new bytes before now = absurd before
put_nothing (Some xs) (Some ys) None bytes before now = absurd now
put_nothing (Some xs) (Some ys) (Some zs) bytes before now = now ∙ before

-- a front of the text was written, and then no more
pub put_front : (old mid new : Option (List ℕ)) (count : ℕ) (bytes : List ℕ)
    → Appends old mid (take count bytes) → Keeps mid new → AppendsFront old bytes new
put_front old mid new count bytes before now =
    (take count bytes, (drop count bytes, take-append-drop count bytes), put_nothing old mid new (take count bytes) before now)

-- where nothing was kept and nothing more is, what went out is a front of the text
pub lost_front : (old new : Option (List ℕ)) (kept still bytes : List ℕ) (count : ℕ) → length kept ≡ 0 → still ≡ kept
    → Appends old new (take count bytes) → AppendsFront (append_known old kept) bytes (append_known new still)
lost_front None new kept still bytes count none same now =
    (take count bytes, (drop count bytes, take-append-drop count bytes), tt)
lost_front (Some xs) None kept still bytes count none same now = absurd now
lost_front (Some xs) (Some ys) kept still bytes count none same now = (
  take count bytes,
  (drop count bytes, take-append-drop count bytes),
  ap (λ l. ys ++ l) (same ∙ nil_from_length kept none) ∙ append-nil ys ∙ now ∙ ap (λ l. l ++ take count bytes) (sym (append-nil xs) ∙ ap (λ l. xs ++ l) (sym (nil_from_length kept none))),
)

-- behind a failed call
pub on_err : {T E : Type 0} (result : Result T E) (P Q : Type 0) → (P → Q) → OnErr result P → OnErr result Q
on_err (Ok done) P Q leads was = tt
on_err (Err fault) P Q leads was = leads was
