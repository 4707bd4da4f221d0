-- What leads from one predicate of words to another.
use Rattle.std.specs.Prelude.{List}
use Rattle.ix_words.specs.Each.{Each}

-- a word with Q whose items all have G has R
abbrev pub Leads : {A : Type 0} → (A → Type 0) → (List A → Type 0) → (List A → Type 0) → Type 0
Leads {A} G Q R = (u : List A) → Each G u → Q u → R u
