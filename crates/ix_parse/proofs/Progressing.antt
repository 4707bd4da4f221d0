-- What the reader's loop keeps, from its begin to a fault or the end.
use Rattle.std.proofs.Common.{◌≡◌, ℕ, suc, ◌+◌, ◌<◌, ◌≤◌, Bool, true, false, not, eqb, cond, List, [], ◌∷◌, ◌++◌, length, map, Option, Some, None, refl, sym, ap, ◌∙◌, subst, arith, append_assoc, length-append, ⊎_elim, eq-eqb, ◌&&◌}
use Rattle.std.specs.Prelude.{is_some}
use Rattle.std.proofs.lemmas.List.{append-nil}
use Rattle.std.proofs.str.Laws.{order}
use Rattle.ix_lex.specs.Lexing.{PlainToken, Piece, token, bad_byte, Pieces}
use Rattle.ix_parse.specs.declared.faults.Fault.{Fault}
use Rattle.ix_parse.specs.declared.faults.Fault.TheVariants as faults
use Rattle.ix_parse.specs.Symbols.{Symbol, symbol_of, Meaning}
use Rattle.ix_parse.specs.Grammar.{Stands}
use Rattle.ix_parse.specs.Faults.{order_of, code_of, IsNode, Nodes, Met, NothingMet, symbols_of, IsFirstSyntaxFault, HasMeaning}
use Rattle.ix_parse.specs.inside.StackMachine.{Config, step, step_some, run, start, whole}
use Rattle.ix_parse.specs.inside.Judged.{is_wanted, may_come, is_node, meets, judged, follower_of}
use Rattle.ix_parse.specs.inside.Progress.{Progress, nodes_after}
use Rattle.ix_parse.proofs.Runs.{run-append, whole-stands}
use Rattle.ix_parse.proofs.Steps.{Reads-start, Reads-whole}
use Rattle.ix_parse.proofs.Coming.{may_come-step}
use Rattle.ix_parse.proofs.Meeting.{Met-when, Met-is, node-when, node-is}
use Rattle.ix_parse.proofs.FirstFaults.{first_met-some, first_met-none}

map-push : {A B : Type 0} (f : A → B) (xs : List A) (x : A) (ys : List B) → map f (xs ++ x ∷ []) ++ ys ≡ map f xs ++ f x ∷ ys
map-push f [] x ys = refl
map-push f (y ∷ xs) x ys = ap (λ l. f y ∷ l) (map-push f xs x ys)

map-end : {A B : Type 0} (f : A → B) (xs : List A) (x : A) → map f (xs ++ x ∷ []) ≡ map f xs ++ f x ∷ []
map-end f [] x = refl
map-end f (y ∷ xs) x = ap (λ l. f y ∷ l) (map-end f xs x)

-- two cuts of the pieces at one place are the same
pub record SameCut (us ws : List PlainToken) (vs zs : List Piece) : Type 0 where
  pub fronts : us ≡ ws
  pub backs : vs ≡ zs

pub same-cut :
    (us ws : List PlainToken) (vs zs : List Piece) → map token us ++ vs ≡ map token ws ++ zs
    → length us ≡ length ws → SameCut us ws vs zs
same-cut [] [] vs zs e n = record { fronts = refl; backs = e }
same-cut [] (w ∷ ws) vs zs e n = absurd (omega arith)
same-cut (u ∷ us) [] vs zs e n = absurd (omega arith)
same-cut (u ∷ us) (w ∷ ws) vs zs e n =
    let head : u ≡ w = cc in
    let tail : map token us ++ vs ≡ map token ws ++ zs = cc in
    let r = same-cut us ws vs zs tail (omega arith) in
    record { fronts = (let front = r.fronts in cc); backs = r.backs }

-- one more symbol
Nodes-node : (ts us : List Symbol) (t : Symbol) (n : ℕ) → Nodes ts us n → IsNode (ts ++ us) t → Nodes ts (us ++ t ∷ []) (suc n)
Nodes-node _ _ t _ (Nodes.none ts) one = Nodes.node ts [] t 0 (subst (λ l. IsNode l t) (append-nil ts) one) (Nodes.none (ts ++ t ∷ []))
Nodes-node _ _ t _ (Nodes.node ts us u n is more) one = Nodes.node ts (us ++ t ∷ []) u (suc n) is (Nodes-node (ts ++ u ∷ []) us t n more (subst (λ l. IsNode l t) (sym (append_assoc ts (u ∷ []) us)) one))
Nodes-node _ _ t _ (Nodes.other ts us u n is_not more) one = Nodes.other ts (us ++ t ∷ []) u (suc n) is_not (Nodes-node (ts ++ u ∷ []) us t n more (subst (λ l. IsNode l t) (sym (append_assoc ts (u ∷ []) us)) one))

Nodes-other : (ts us : List Symbol) (t : Symbol) (n : ℕ) → Nodes ts us n → ¬ IsNode (ts ++ us) t → Nodes ts (us ++ t ∷ []) n
Nodes-other _ _ t _ (Nodes.none ts) none = Nodes.other ts [] t 0 (λ one. none (subst (λ l. IsNode l t) (sym (append-nil ts)) one)) (Nodes.none (ts ++ t ∷ []))
Nodes-other _ _ t _ (Nodes.node ts us u n is more) none = Nodes.node ts (us ++ t ∷ []) u n is (Nodes-other (ts ++ u ∷ []) us t n more (λ one. none (subst (λ l. IsNode l t) (append_assoc ts (u ∷ []) us) one)))
Nodes-other _ _ t _ (Nodes.other ts us u n is_not more) none = Nodes.other ts (us ++ t ∷ []) u n is_not (Nodes-other (ts ++ u ∷ []) us t n more (λ one. none (subst (λ l. IsNode l t) (append_assoc ts (u ∷ []) us) one)))

-- at the begin nothing was read
pub Progress-start : (pieces : List Piece) → Progress pieces pieces start 0
Progress-start pieces = record { before = []; split = refl; ran = refl; counted = Nodes.none []; few = omega arith; nothing_met = λ us vs f e low. absurd (omega arith) }

module _ (pieces rest : List Piece) (t : PlainToken) (c : Config) (n : ℕ) (p : Progress pieces (token t ∷ rest) c n) where
  abbrev u : Symbol
  u = symbol_of t

  abbrev test : Fault → Bool
  test = meets c n u (follower_of rest)

  -- the fault that is judged is the first
  pub Progress-fault : (f : Fault) (end : ℕ) → judged c n u (follower_of rest) ≡ Some f → IsFirstSyntaxFault pieces end (code_of f) t.start
  Progress-fault f end e =
      let first = first_met-some test f refl e in
      record {
        before = p.before;
        after = token t ∷ rest;
        fault = f;
        split = p.split;
        met = Met-when (symbols_of p.before) c p.ran n p.counted t rest f first.holds;
        nothing_before = p.nothing_met;
        nothing_lower = λ other low met. (let unmet = first.below other low in let is_met = Met-is (symbols_of p.before) c p.ran n p.counted t rest other met in clash unmet is_met);
        code_is = refl;
        place_is = refl;
      }
    where
      clash : {v : Bool} → v ≡ false → v ≡ true → ⊥
      clash e f = cc

  none_met : judged c n u (follower_of rest) ≡ None → (f : Fault) → test f ≡ false
  none_met e = first_met-none test refl refl e

  -- where no fault is judged, none is met
  nothing-here : judged c n u (follower_of rest) ≡ None → (f : Fault) → ¬ Met (symbols_of p.before) (token t ∷ rest) f
  nothing-here e f met = clash (none_met e f) (Met-is (symbols_of p.before) c p.ran n p.counted t rest f met)
    where
      clash : {v : Bool} → v ≡ false → v ≡ true → ⊥
      clash e f = cc

  -- and the machine makes a step
  pub Progress-can : judged c n u (follower_of rest) ≡ None → is_some (step c u) ≡ true
  Progress-can e = sym (may_come-step (symbols_of p.before) c u (Reads-start (symbols_of p.before) c p.ran)) ∙ not_false (may_come c u) (none_met e faults.Unexpected)
    where
      not_false : (v : Bool) → not v ≡ false → v ≡ true
      not_false true e = refl
      not_false false e = cc

  counted-by : (v : Bool) → is_node (is_wanted c.mode) u ≡ v → v && eqb n 512 ≡ false → Nodes [] (symbols_of p.before ++ u ∷ []) (cond v (n + 1) n) × (cond v (n + 1) n ≤ 512)
  counted-by true is room =
      let more : n + 1 ≡ suc n = omega arith in (
        subst (Nodes [] (symbols_of p.before ++ u ∷ [])) (sym more) (Nodes-node [] (symbols_of p.before) u n p.counted (node-when (symbols_of p.before) c p.ran u is)),
        below (eqb n 512) refl room,
      )
    where
      below : (w : Bool) → eqb n 512 ≡ w → w ≡ false → n + 1 ≤ 512
      below true same e = absurd cc
      below false differs e = ⊎_elim (λ lt. omega arith) (λ ge. absurd (let few = p.few in let same : n ≡ 512 = omega arith in let h : eqb n 512 ≡ true = eq-eqb n 512 same in cc)) (order n 512)
  counted-by false is room = (Nodes-other [] (symbols_of p.before) u n p.counted (λ one. clash is (node-is (symbols_of p.before) c p.ran u one)), p.few)
    where
      clash : {v : Bool} → v ≡ false → v ≡ true → ⊥
      clash e f = cc

  -- one step further
  pub Progress-step : (d : Config) → judged c n u (follower_of rest) ≡ None → step c u ≡ Some d → Progress pieces rest d (nodes_after c n u)
  Progress-step d e is =
      let symbols : symbols_of (p.before ++ t ∷ []) ≡ symbols_of p.before ++ u ∷ [] = map-end symbol_of p.before t in
      let counts = counted-by (is_node (is_wanted c.mode) u) refl (none_met e faults.TooManyNodes) in
      record {
        before = p.before ++ t ∷ [];
        split = p.split ∙ sym (map-push token p.before t rest);
        ran = ap (run (Some start)) symbols ∙ run-append (Some start) (symbols_of p.before) (u ∷ []) ∙ ap (λ (o : Option Config). step_some o u) p.ran ∙ is;
        counted = subst (λ l. Nodes [] l (nodes_after c n u)) (sym symbols) counts.0;
        few = counts.1;
        nothing_met = nothing-met;
      }
    where
      nothing-met : NothingMet (length (p.before ++ t ∷ [])) pieces
      nothing-met us vs f cut low met =
          ⊎_elim
          (λ lt. p.nothing_met us vs f cut lt met)
          (λ ge.
          let longer : length (p.before ++ t ∷ []) ≡ length p.before + 1 = length-append p.before (t ∷ []) in
          let r = same-cut us p.before vs (token t ∷ rest) (sym cut ∙ p.split) (omega arith) in
          nothing-here e f (subst (λ l. Met l (token t ∷ rest) f) (ap symbols_of r.fronts) (subst (λ l. Met (symbols_of us) l f) r.backs met)))
          (order (length us) (length p.before))

-- a bad byte is the first fault
pub Progress-bad : (pieces rest : List Piece) (at end : ℕ) (c : Config) (n : ℕ) → Progress pieces (bad_byte at ∷ rest) c n → IsFirstSyntaxFault pieces end 2 at
Progress-bad pieces rest at end c n p =
    record {
      before = p.before;
      after = bad_byte at ∷ rest;
      fault = faults.NoToken;
      split = p.split;
      met = Met.no_token at rest;
      nothing_before = p.nothing_met;
      nothing_lower = λ other low met. first other low;
      code_is = refl;
      place_is = refl;
    }
  where
    first : (f : Fault) → order_of f < 1 → ⊥
    first faults.NoToken low = omega arith
    first faults.Reserved low = omega arith
    first faults.NoNumber low = omega arith
    first faults.FifthArgument low = omega arith
    first faults.Unexpected low = omega arith
    first faults.LongName low = omega arith
    first faults.TooDeep low = omega arith
    first faults.TooManyNodes low = omega arith
    first faults.Ended low = omega arith

-- at the end no fault but one is met
Met-end : (ts : List Symbol) (f : Fault) → Met ts [] f → order_of f ≡ 9
Met-end ts _ (Met.ended none) = refl

-- a text that ends too early
pub Progress-ended : (pieces : List Piece) (end : ℕ) (c : Config) (n : ℕ) → Progress pieces [] c n → whole c ≡ None → IsFirstSyntaxFault pieces end 4 end
Progress-ended pieces end c n p none =
    record {
      before = p.before;
      after = [];
      fault = faults.Ended;
      split = p.split;
      met = Met.ended (λ x stands. (let some = whole-stands (symbols_of p.before) x stands c p.ran in let h : None ≡ Some x = sym none ∙ some in cc));
      nothing_before = p.nothing_met;
      nothing_lower = λ other low met. (let last = Met-end (symbols_of p.before) other met in omega arith);
      code_is = refl;
      place_is = refl;
    }

-- a text that is whole
pub Progress-whole : (text : List ℕ) (pieces : List Piece) (c : Config) (n : ℕ) (x : Meaning) → length text ≤ 16384 → Pieces 0 text pieces → Progress pieces [] c n → whole c ≡ Some x → HasMeaning text x
Progress-whole text pieces c n x short cut p is =
    let tokens : pieces ≡ map token p.before = p.split ∙ append-nil (map token p.before) in
    let stands = Reads-whole (symbols_of p.before) c x (Reads-start (symbols_of p.before) c p.ran) is in
    record {
      tokens = p.before;
      short = short;
      pieces = subst (Pieces 0 text) tokens cut;
      nothing_met = nothing-met tokens stands;
      stands = stands;
    }
  where
    at-end : (f : Fault) → Stands 1 (symbols_of p.before) x → ¬ Met (symbols_of p.before) [] f
    at-end _ stands (Met.ended none) = none x stands

    nothing-met : pieces ≡ map token p.before → Stands 1 (symbols_of p.before) x → NothingMet (suc (length p.before)) (map token p.before)
    nothing-met tokens stands us vs f e low met =
        ⊎_elim
        (λ lt. p.nothing_met us vs f (tokens ∙ e) lt met)
        (λ ge.
        let r = same-cut us p.before vs [] (sym e ∙ sym (append-nil (map token p.before))) (omega arith) in
        at-end f stands (subst (λ l. Met l [] f) (ap symbols_of r.fronts) (subst (λ l. Met (symbols_of us) l f) r.backs met)))
        (order (length us) (length p.before))
