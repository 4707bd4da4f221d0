-- Canonical text reads back.
use Rattle.std.proofs.Common.{◌≡◌, ℕ, suc, zero, ◌+◌, ◌<◌, ◌≤◌, List, [], ◌∷◌, ◌++◌, length, map, Some, None, refl, sym, ap, ◌∙◌, subst, arith, append_assoc, ⊎_elim}
use Rattle.std.specs.Prelude.{slice_get}
use Rattle.std.proofs.str.Laws.{order}
use Rattle.ix_lex.specs.Lexing.{PlainToken, token, Pieces}
use Rattle.ix_expr.specs.Form.{Form}
use Rattle.ix_expr.specs.FormFaults.{nodes_of, fault_at, IsWellFormed}
use Rattle.ix_expr.specs.CanonicalText.{binding, canonical_text}
use Rattle.ix_parse.specs.Symbols.{symbol_of}
use Rattle.ix_parse.specs.Faults.{IsLong, Nodes, StandsFor, symbols_of}
use Rattle.ix_parse.specs.Canonical.{CanonicalTextReadsBack, OpensAtMost}
use Rattle.ix_parse.proofs.Places.{Stands-places}
use Rattle.ix_parse.proofs.NodeCounts.{Nodes-append, Nodes-front, text-nodes}
use Rattle.ix_parse.proofs.InGrammar.{IsWithin, HasMeaning-within, map-split}
use Rattle.ix_parse.proofs.Levels.{opened_at}
use Rattle.ix_parse.proofs.Printing.{meaning, NoneLong, Printed, canonical-printed, printed-pieces}

none-long : (us vs all : List PlainToken) (t : PlainToken) → NoneLong all → all ≡ us ++ t ∷ vs → ¬ IsLong (symbol_of t)
none-long us vs all t none split = at us (subst NoneLong split none)
  where
    at : (us : List PlainToken) → NoneLong (us ++ t ∷ vs) → ¬ IsLong (symbol_of t)
    at [] none = none.0
    at (u ∷ us) none = at us none.1

some-at : {X : Type 0} (xs : List X) (i : ℕ) → i < length xs → (x : X) × (slice_get xs i ≡ Some x)
some-at [] i low = absurd (omega arith)
some-at (x ∷ xs) zero low = (x, refl)
some-at (x ∷ xs) (suc i) low = some-at xs i (omega arith)

-- a well-formed expression has at most 512 nodes
few-nodes : (x : Form) → IsWellFormed x → length (nodes_of x) ≤ 512
few-nodes x formed =
    ⊎_elim
    (λ many. absurd (let node = some-at (nodes_of x) 512 many in let none = formed.faultless.none 512 node.0 node.1 in let full : fault_at 512 node.0 ≡ Some 8 = refl in let h : Some 8 ≡ None = sym full ∙ none in cc))
    (λ few. few)
    (order 512 (length (nodes_of x)))

-- a text that is cut into tokens which stand for a well-formed expression stands for it, where it
-- opens at most 64 levels
pub printed-stands : (text : List ℕ) (d : ℕ) (x : Form) → Printed 0 text 1 x d → IsWellFormed x
    → length text ≤ 16384 → OpensAtMost 64 text → StandsFor text x
printed-stands text d x p formed short shallow =
    let m = meaning x p.places in
    let cut = printed-pieces text 1 d x p in
    let counted = text-nodes (symbols_of p.tokens) m p.stands in
    let count = Stands-places (symbols_of p.tokens) m p.stands in
    let few = few-nodes x formed in
    let within : IsWithin p.tokens = record {
      short = λ us vs t split. none-long us vs p.tokens t p.short split;
      shallow = λ us vs t split wants. shallow us vs t (subst (λ l. Pieces 0 text (map token l)) split cut) wants;
      few = λ us vs t split full one. (
          let symbols : symbols_of p.tokens ≡ (symbols_of us ++ symbol_of t ∷ []) ++ symbols_of vs = ap symbols_of split ∙ map-split us (t ∷ vs) ∙ sym (append_assoc (symbols_of us) (symbol_of t ∷ []) (symbols_of vs)) in
          let front = Nodes-append [] (symbols_of us) (symbol_of t ∷ []) 512 1 full (Nodes.node (symbols_of us) [] (symbol_of t) 0 one (Nodes.none (symbols_of us ++ symbol_of t ∷ []))) in
          let low = Nodes-front [] (symbols_of us ++ symbol_of t ∷ []) (symbols_of vs) (length p.places) (512 + 1) front (subst (λ l. Nodes [] l (length p.places)) symbols counted) in
          omega arith);
    } in
    record { places = p.places; means = HasMeaning-within p.tokens m p.stands within text short cut; well_formed = formed }

pub canonical-reads_back : CanonicalTextReadsBack
canonical-reads_back x spelled formed short shallow =
    printed-stands (canonical_text x) (opened_at (binding x) x) x (canonical-printed x spelled formed.numbers) formed
    short shallow
