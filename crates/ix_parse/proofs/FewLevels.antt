-- The canonical text of what was read opens no more levels than the text that was read.
use Rattle.std.proofs.Common.{◌≡◌, ℕ, ◌+◌, ◌≤◌, List, [], ◌∷◌, ◌++◌, length, map, refl, sym, ap, ◌∙◌, subst, arith}
use Rattle.ix_lex.specs.Lexing.{PlainToken, token}
use Rattle.ix_expr.specs.Form.{Form}
use Rattle.ix_expr.specs.FormFaults.{IsWellFormed}
use Rattle.ix_expr.specs.Spelling.{IsSpelled}
use Rattle.ix_expr.specs.CanonicalText.{binding, canonical_text}
use Rattle.ix_parse.specs.declared.faults.Fault.TheVariants as faults
use Rattle.ix_parse.specs.Symbols.{Symbol, symbol_of, Meaning}
use Rattle.ix_parse.specs.Grammar.{Wanted}
use Rattle.ix_parse.specs.Faults.{OpensLevel, Met, symbols_of, HasMeaning, StandsFor}
use Rattle.ix_parse.specs.Canonical.{OpensAtMost}
use Rattle.ix_parse.specs.Laws.{CanonicalTextsOpenFewLevels, WhatWasReadReadsBack}
use Rattle.ix_parse.specs.inside.StackMachine.{config, wanted, levels}
use Rattle.ix_parse.proofs.Runs.{run-wanted}
use Rattle.ix_parse.proofs.Meeting.{wanted-when}
use Rattle.ix_parse.proofs.InGrammar.{map-split}
use Rattle.ix_parse.proofs.Levels.{opened, opened_at, opened_by-least, opened_by-bare, Shallow, stands-opened}
use Rattle.ix_parse.proofs.Printing.{Printed, canonical-printed, printed-pieces}
use Rattle.ix_parse.proofs.ReadingBack.{canonical-reads_back, printed-stands}
use Rattle.ix_parse.proofs.OneMeaning.{pieces-one, tokens-one, nothing-at}
use Rattle.ix_parse.proofs.SpelledForms.{meaning-spelled}

-- where a symbol stands among the symbols of tokens, its token stands among them
record TokenAt (tokens : List PlainToken) (us vs : List Symbol) (t : Symbol) : Type 0 where
  before : List PlainToken
  at : PlainToken
  after : List PlainToken
  split : tokens ≡ before ++ at ∷ after
  fronts : symbols_of before ≡ us
  here : symbol_of at ≡ t

token-at :
    (tokens : List PlainToken) (us vs : List Symbol) (t : Symbol) → symbols_of tokens ≡ us ++ t ∷ vs
    → TokenAt tokens us vs t
token-at [] [] vs t e = absurd cc
token-at [] (u ∷ us) vs t e = absurd cc
token-at (a ∷ tokens) [] vs t e =
    let head : symbol_of a ≡ t = cc in
    record { before = []; at = a; after = tokens; split = refl; fronts = refl; here = head }
token-at (a ∷ tokens) (u ∷ us) vs t e =
    let head : symbol_of a ≡ u = cc in
    let tail : symbols_of tokens ≡ us ++ t ∷ vs = cc in
    let r = token-at tokens us vs t tail in
    record {
      before = a ∷ r.before;
      at = r.at;
      after = r.after;
      split = (let split = r.split in cc);
      fronts = (let front = r.fronts in cc);
      here = r.here;
    }

-- a text that has a meaning opens no level where 64 are open
read-shallow :
    (text : List ℕ) (x : Meaning) (means : HasMeaning text x)
    → Shallow 64 [] (symbols_of means.tokens)
read-shallow text x means us vs t s split ran opens full =
    let r = token-at means.tokens us vs t split in
    let wants : Wanted 64 us =
    subst (λ d. Wanted d us) full (wanted-when us (config s wanted) ran refl) in
    let P : Symbol → Type 0 = λ u. OpensLevel u in
    nothing-at text x means r.before r.after r.at faults.TooDeep r.split
    (Met.too_deep r.at (map token r.after) (subst (Wanted 64) (sym r.fronts) wants)
    (subst P (sym r.here) opens))

-- what was read is spelled, and has at most 64 levels
abbrev read_meaning : (text : List ℕ) (x : Form) → StandsFor text x → Meaning
read_meaning text x stands = record { form = x; places = stands.places }

read-spelled : (text : List ℕ) (x : Form) → StandsFor text x → IsSpelled x
read-spelled text x stands = meaning-spelled text (read_meaning text x stands) stands.means

read-opened : (text : List ℕ) (x : Form) → StandsFor text x → opened x ≤ 64
read-opened text x stands =
    let m = read_meaning text x stands in
    let means = stands.means in
    let low =
    stands-opened 64 1 (symbols_of means.tokens) m means.stands [] (omega arith) (omega arith)
    (read-shallow text m means) in
    let least = opened_by-least 1 (binding x) (opened x) in
    omega arith

-- a text that is cut into tokens which open at most 64 levels opens no level where 64 are open
printed-shallow :
    (text : List ℕ) (d : ℕ) (x : Form) → Printed 0 text 1 x d → d ≤ 64 → OpensAtMost 64 text
printed-shallow text d x p few us vs t cut wants opens =
    let tokens : p.tokens ≡ us ++ t ∷ vs =
    tokens-one p.tokens (us ++ t ∷ vs)
    (pieces-one text (map token p.tokens) (map token (us ++ t ∷ vs)) (printed-pieces text 1 d x p)
    cut) in
    let r = run-wanted 64 (symbols_of us) wants in
    let low =
    p.opens [] r.stack (symbols_of us) (symbols_of vs) (symbol_of t) (omega arith)
    (ap symbols_of tokens ∙ map-split us (t ∷ vs)) r.is opens in
    let deep : levels r.stack ≡ levels [] + 64 = r.deeper in
    omega arith

-- so does the canonical text of what was read
pub canonical-opens_few : CanonicalTextsOpenFewLevels
canonical-opens_few text x stands =
    let spelled = read-spelled text x stands in
    let bare = opened_by-bare (binding x) (binding x) (opened x) (omega arith) in
    let few = read-opened text x stands in
    printed-shallow (canonical_text x) (opened_at (binding x) x) x (canonical-printed x spelled stands.well_formed.numbers)
    (omega arith)

-- and reads back
pub read-reads_back : WhatWasReadReadsBack
read-reads_back text x stands short =
    canonical-reads_back x (read-spelled text x stands) stands.well_formed short
    (canonical-opens_few text x stands)

-- a text that is cut into tokens which stand for a well-formed expression and open at most 64 levels
-- stands for it
pub few_levels-stand :
    (text : List ℕ) (d : ℕ) (x : Form) → Printed 0 text 1 x d → d ≤ 64 → IsWellFormed x
    → length text ≤ 16384 → StandsFor text x
few_levels-stand text d x p few formed short =
    printed-stands text d x p formed short (printed-shallow text d x p few)
