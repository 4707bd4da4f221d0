-- What `lint` puts.
use Rattle.std.specs.Prelude.{ℕ, List, [], ◌∷◌, ◌++◌, codes, decimal, get_or}
use Rattle.std.specs.List.{flat_map}
use Rattle.ix_lint.specs.declared.finding.Finding.{Finding}
use Rattle.ix_lint.specs.declared.finding.FindingKind.{FindingKind}
use Rattle.ix_lint.specs.declared.finding.FindingKind.TheVariants.{Counts, Never, Owners, Unused}
use Rattle.ix_lint.specs.declared.finding.FindingKind.TheVariants.{Value, Apart, Keeps}

-- where a node starts, as a text
abbrev pub place_words : List ℕ → ℕ → List ℕ
place_words places node = decimal (get_or places node 0)

-- a word, a name and a number of arguments
abbrev pub counted_words : List ℕ → List ℕ → ℕ → List ℕ
counted_words word name number = word ++ name ++ codes " " ++ decimal number

-- what is found, by its kind
abbrev pub kind_words : List ℕ → FindingKind → List ℕ
kind_words places (Counts name number most first) = counted_words (codes "counts ") name number
    ++ codes " " ++ decimal most ++ codes " at " ++ place_words places first
kind_words places Never = codes "never"
kind_words places (Owners first second) =
    codes "owners " ++ place_words places first ++ codes " " ++ place_words places second
kind_words places (Unused parameter) = codes "unused $" ++ parameter
kind_words places (Value value) = codes "value " ++ value
kind_words places (Apart name number) = counted_words (codes "apart ") name number
kind_words places Keeps = codes "keeps"

-- the line of a finding, with its byte 10
abbrev pub finding_line : List ℕ → Finding → List ℕ
finding_line places found = codes "at " ++ place_words places found.node ++ codes ": "
    ++ kind_words places found.kind ++ 10 ∷ []

-- the lines of findings, in their order
abbrev pub lint_lines : List ℕ → List Finding → List ℕ
lint_lines places found = flat_map (finding_line places) found
