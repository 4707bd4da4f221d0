-- Laws of reading, as statements over the definitions alone.
use Rattle.std.specs.Prelude.{◌≡◌, ℕ, ◌≤◌, List, length}
use Rattle.ix_expr.specs.Form.{Form}
use Rattle.ix_expr.specs.CanonicalText.{canonical_text}
use Rattle.ix_expr.specs.FormFaults.{IsWellFormed, IsFirstFormFault}
use Rattle.ix_parse.specs.Limits.{most_text}
use Rattle.ix_parse.specs.Faults.{StandsFor, IsFirstFault}
use Rattle.ix_parse.specs.Canonical.{OpensAtMost}

-- a text stands for at most one expression
abbrev pub TextsStandForOneExpression : Type 0
TextsStandForOneExpression =
    (text : List ℕ) (x y : Form) → StandsFor text x → StandsFor text y → x ≡ y

-- a text that has a first fault stands for no expression
abbrev pub FaultyTextsStandForNone : Type 0
FaultyTextsStandForNone =
    (text : List ℕ) (code at : ℕ) (x : Form) → IsFirstFault text code at → ¬ StandsFor text x

-- a text has at most one first fault: one code, and one place
abbrev pub TextsHaveOneFirstFault : Type 0
TextsHaveOneFirstFault =
    (text : List ℕ) (c a d b : ℕ) → IsFirstFault text c a → IsFirstFault text d b
    → (c ≡ d) × (a ≡ b)

-- an expression has at most one first form fault: one code, and one node
abbrev pub ExpressionsHaveOneFormFault : Type 0
ExpressionsHaveOneFormFault =
    (x : Form) (c n d m : ℕ) → IsFirstFormFault x c n → IsFirstFormFault x d m → (c ≡ d) × (n ≡ m)

-- an expression that has a first form fault isn't well formed
abbrev pub FaultyExpressionsAreNotWellFormed : Type 0
FaultyExpressionsAreNotWellFormed =
    (x : Form) (code number : ℕ) → IsFirstFormFault x code number → ¬ IsWellFormed x

-- the canonical text of an expression that was read opens at most 64 levels
abbrev pub CanonicalTextsOpenFewLevels : Type 0
CanonicalTextsOpenFewLevels =
    (text : List ℕ) (x : Form) → StandsFor text x → OpensAtMost 64 (canonical_text x)

-- the canonical text of an expression that was read stands for it, if of at most 16,384 bytes
abbrev pub WhatWasReadReadsBack : Type 0
WhatWasReadReadsBack =
    (text : List ℕ) (x : Form) → StandsFor text x → length (canonical_text x) ≤ most_text
    → StandsFor (canonical_text x) x
