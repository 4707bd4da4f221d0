-- The grammar of expressions, and the grammar cut where an operand is wanted.
use Rattle.std.specs.Prelude.{◌≡◌, ℕ, suc, ◌≤◌, List, [], ◌∷◌, ◌++◌, length, Some}
use Rattle.ix_expr.specs.declared.arg.Arg.{Arg}
use Rattle.ix_parse.specs.declared.signs.Operator.{Operator}
use Rattle.ix_parse.specs.declared.signs.Prefix.{Prefix}
use Rattle.ix_parse.specs.declared.signs.Quantifier.{Quantifier}
use Rattle.ix_parse.specs.declared.signs.WordClass.TheVariants.{Quantifies, Counts, Names}
use Rattle.ix_parse.specs.Symbols.{Symbol, word, param, opening, closing, comma, before, between}
use Rattle.ix_parse.specs.Symbols.{class_of, IsNumberWord, level, Meaning, joined_meaning, prefixed}
use Rattle.ix_parse.specs.Symbols.{quantified, counted, named, argument_of}

-- the arguments of an atom, with commas between them
pub data Arguments : List Symbol → List Arg → Type 0 where
  one : (t : Symbol) (a : Arg) → argument_of t ≡ Some a → Arguments (t ∷ []) (a ∷ [])
  more : (t : Symbol) (a : Arg) (ts : List Symbol) (args : List Arg) → argument_of t ≡ Some a
      → Arguments ts args → Arguments (t ∷ comma ∷ ts) (a ∷ args)

-- the symbols stand for the meaning at a level: 1 to 5 for an operand of the operators of that
-- level, 6 for what a prefix takes
pub data Stands : ℕ → List Symbol → Meaning → Type 0 where
  -- what binds more tightly is an operand too
  tighter : (n : ℕ) (ts : List Symbol) (x : Meaning) → n ≤ 5 → Stands (suc n) ts x → Stands n ts x
  -- an operator, which groups to the left
  binary : (at : ℕ) (o : Operator) (ts us : List Symbol) (x y : Meaning) → Stands (level o) ts x
      → Stands (suc (level o)) us y
      → Stands (level o) (ts ++ between at o ∷ us) (joined_meaning o at x y)
  -- `?`, `*` or `#`
  prefixes : (at : ℕ) (sign : Prefix) (ts : List Symbol) (x : Meaning) → Stands 6 ts x
      → Stands 6 (before at sign ∷ ts) (prefixed sign at x)
  -- a quantifier's word and its parameter
  quantifies : (at : ℕ) (w : List ℕ) (q : Quantifier) (p : List ℕ) (ts : List Symbol) (x : Meaning)
      → class_of w ≡ Quantifies q → Stands 6 ts x
      → Stands 6 (word at w ∷ param p ∷ ts) (quantified q at p x)
  -- `times` and its number
  counts : (at at' : ℕ) (w v : List ℕ) (n : ℕ) (ts : List Symbol) (x : Meaning)
      → class_of w ≡ Counts → IsNumberWord v n → Stands 6 ts x
      → Stands 6 (word at w ∷ word at' v ∷ ts) (counted n at x)
  -- parentheses
  group : (ts : List Symbol) (x : Meaning) → Stands 1 ts x
      → Stands 6 (opening ∷ ts ++ closing ∷ []) x
  -- an atom without arguments
  bare : (at : ℕ) (w : List ℕ) → class_of w ≡ Names → Stands 6 (word at w ∷ []) (named at w [])
  -- an atom with one to four arguments
  applied : (at : ℕ) (w : List ℕ) (ts : List Symbol) (args : List Arg) → class_of w ≡ Names
      → Arguments ts args → length args ≤ 4
      → Stands 6 (word at w ∷ opening ∷ ts ++ closing ∷ []) (named at w args)

-- some symbols after these make them stand for something
pub record CanGoOn (ts : List Symbol) : Type 0 where
  pub rest : List Symbol
  pub meaning : Meaning
  pub stands : Stands 1 (ts ++ rest) meaning

-- a text of level n, cut before an operand of level m, where d levels are open
pub data CutAtOperand : ℕ → ℕ → ℕ → List Symbol → Type 0 where
  here : (n : ℕ) → CutAtOperand n n 0 []
  tighter : (n m d : ℕ) (ts : List Symbol) → n ≤ 5 → CutAtOperand (suc n) m d ts
      → CutAtOperand n m d ts
  binary : (at : ℕ) (o : Operator) (m d : ℕ) (ts us : List Symbol) (x : Meaning)
      → Stands (level o) ts x → CutAtOperand (suc (level o)) m d us
      → CutAtOperand (level o) m d (ts ++ between at o ∷ us)
  prefixes : (at : ℕ) (sign : Prefix) (m d : ℕ) (ts : List Symbol) → CutAtOperand 6 m d ts
      → CutAtOperand 6 m (suc d) (before at sign ∷ ts)
  quantifies : (at : ℕ) (w : List ℕ) (q : Quantifier) (p : List ℕ) (m d : ℕ) (ts : List Symbol)
      → class_of w ≡ Quantifies q → CutAtOperand 6 m d ts
      → CutAtOperand 6 m (suc d) (word at w ∷ param p ∷ ts)
  counts : (at at' : ℕ) (w v : List ℕ) (n m d : ℕ) (ts : List Symbol) → class_of w ≡ Counts
      → IsNumberWord v n → CutAtOperand 6 m d ts
      → CutAtOperand 6 m (suc d) (word at w ∷ word at' v ∷ ts)
  group : (m d : ℕ) (ts : List Symbol) → CutAtOperand 1 m d ts
      → CutAtOperand 6 m (suc d) (opening ∷ ts)

-- an operand is wanted after these symbols, where d levels are open
pub record Wanted (d : ℕ) (ts : List Symbol) : Type 0 where
  pub hole : ℕ
  pub cut : CutAtOperand 1 hole d ts

-- the symbols end in the word `times`, which stands where an operand is wanted
pub data AfterTimes : List Symbol → Type 0 where
  behind : (d at : ℕ) (w : List ℕ) (ts : List Symbol) → Wanted d ts → class_of w ≡ Counts
      → AfterTimes (ts ++ word at w ∷ [])

-- the symbols end in the n-th argument of an atom
pub data AfterArgument : ℕ → List Symbol → Type 0 where
  after : (d at : ℕ) (w : List ℕ) (ts us : List Symbol) (args : List Arg) → Wanted d ts
      → class_of w ≡ Names → Arguments us args
      → AfterArgument (length args) (ts ++ word at w ∷ opening ∷ us)
