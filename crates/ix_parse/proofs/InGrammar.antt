-- A text of the grammar meets none of the faults that speak of the grammar.
use Rattle.std.proofs.Common.{◌≡◌, ℕ, ◌≤◌, cond, ltb, List, [], ◌∷◌, ◌++◌, length, map, Option, Some, None, refl, sym, ap, ◌∙◌, subst, arith, append_assoc}
use Rattle.std.proofs.lemmas.List.{append-nil}
use Rattle.ix_lex.specs.Lexing.{PlainToken, Piece, token, Pieces}
use Rattle.ix_parse.specs.declared.faults.Fault.{Fault}
use Rattle.ix_parse.specs.declared.signs.Quantifier.{Quantifier}
use Rattle.ix_parse.specs.declared.signs.WordClass.{WordClass}
use Rattle.ix_parse.specs.declared.signs.WordClass.TheVariants.{Quantifies, Counts}
use Rattle.ix_parse.specs.Symbols.{Symbol, word, param, opening, closing, comma, before, between, symbol_of, class_of, IsNumberWord, Meaning}
use Rattle.ix_parse.specs.Grammar.{Stands, Wanted, AfterTimes, AfterArgument}
use Rattle.ix_parse.specs.Faults.{ParamNext, WordNext, BeginsNoOperand, OpensLevel, IsNode, Nodes, IsLong, Met, symbols_of, HasMeaning}
use Rattle.ix_parse.specs.inside.StackMachine.{Entry, Config, config, wanted, quantifier_read, times_read, argument_read, argument_wanted, step_word, times_with_number, run, start, whole}
use Rattle.ix_parse.proofs.Runs.{run-append, run-none, run-wanted, run-after_times, run-after_argument, run-stands, whole-stands}
use Rattle.ix_parse.proofs.Steps.{some_is}
use Rattle.ix_parse.proofs.Numbers.{number-none}

-- the run of a text of the grammar
module _ (ts : List Symbol) (x : Meaning) (stands : Stands 1 ts x) where
  last : Config
  last = (run-stands 1 ts x stands [] (omega arith)).last

  ran : run (Some start) ts ≡ Some last
  unfolding last
  ran = (run-stands 1 ts x stands [] (omega arith)).is

  -- behind a front, the run goes on to its end
  rest-runs : (us vs : List Symbol) (c : Config) → ts ≡ us ++ vs → run (Some start) us ≡ Some c → run (Some c) vs ≡ Some last
  rest-runs us vs c split is = ap (λ o. run o vs) (sym is) ∙ sym (run-append (Some start) us vs) ∙ ap (run (Some start)) (sym split) ∙ ran

  last-whole : whole last ≡ Some x
  last-whole = whole-stands ts x stands last ran

  -- the word of a quantifier isn't the last symbol, and a parameter follows it
  quantifier-next : (s : List Entry) (at : ℕ) (q : Quantifier) (vs : List Symbol) → run (Some (config s (quantifier_read at q))) vs ≡ Some last → (p : List ℕ) × (rest : List Symbol) × (vs ≡ param p ∷ rest)
  quantifier-next s at q [] is = absurd (let same : config s (quantifier_read at q) ≡ last = some_is _ last is in let none : whole last ≡ None = ap whole (sym same) in let some = last-whole in let h : None ≡ Some x = sym none ∙ some in cc)
  quantifier-next s at q (word at' w ∷ rest) is = absurd (let stuck = run-none rest in let h : None ≡ Some last = sym stuck ∙ is in cc)
  quantifier-next s at q (param p ∷ rest) is = (p, rest, refl)
  quantifier-next s at q (opening ∷ rest) is = absurd (let stuck = run-none rest in let h : None ≡ Some last = sym stuck ∙ is in cc)
  quantifier-next s at q (closing ∷ rest) is = absurd (let stuck = run-none rest in let h : None ≡ Some last = sym stuck ∙ is in cc)
  quantifier-next s at q (comma ∷ rest) is = absurd (let stuck = run-none rest in let h : None ≡ Some last = sym stuck ∙ is in cc)
  quantifier-next s at q (before at' p ∷ rest) is = absurd (let stuck = run-none rest in let h : None ≡ Some last = sym stuck ∙ is in cc)
  quantifier-next s at q (between at' o ∷ rest) is = absurd (let stuck = run-none rest in let h : None ≡ Some last = sym stuck ∙ is in cc)

  -- `times` isn't the last symbol, and a word follows it
  times-next : (s : List Entry) (at : ℕ) (vs : List Symbol) → run (Some (config s (times_read at))) vs ≡ Some last → (at' : ℕ) × (v : List ℕ) × (rest : List Symbol) × (vs ≡ word at' v ∷ rest)
  times-next s at [] is = absurd (let same : config s (times_read at) ≡ last = some_is _ last is in let none : whole last ≡ None = ap whole (sym same) in let some = last-whole in let h : None ≡ Some x = sym none ∙ some in cc)
  times-next s at (word at' v ∷ rest) is = (at', v, rest, refl)
  times-next s at (param p ∷ rest) is = absurd (let stuck = run-none rest in let h : None ≡ Some last = sym stuck ∙ is in cc)
  times-next s at (opening ∷ rest) is = absurd (let stuck = run-none rest in let h : None ≡ Some last = sym stuck ∙ is in cc)
  times-next s at (closing ∷ rest) is = absurd (let stuck = run-none rest in let h : None ≡ Some last = sym stuck ∙ is in cc)
  times-next s at (comma ∷ rest) is = absurd (let stuck = run-none rest in let h : None ≡ Some last = sym stuck ∙ is in cc)
  times-next s at (before at' p ∷ rest) is = absurd (let stuck = run-none rest in let h : None ≡ Some last = sym stuck ∙ is in cc)
  times-next s at (between at' o ∷ rest) is = absurd (let stuck = run-none rest in let h : None ≡ Some last = sym stuck ∙ is in cc)

  -- no word that begins nothing stands where an operand is wanted
  pub times-word : (us vs : List Symbol) (d at : ℕ) (w : List ℕ) → ts ≡ us ++ word at w ∷ vs → Wanted d us → class_of w ≡ Counts → (at' : ℕ) × (v : List ℕ) × (rest : List Symbol) × (vs ≡ word at' v ∷ rest)
  times-word us vs d at w split wants is =
      let r = run-wanted d us wants in
      let more = rest-runs us (word at w ∷ vs) (config r.stack wanted) split r.is in
      times-next r.stack at vs (ap (λ (k : WordClass). run (step_word r.stack at w k) vs) (sym is) ∙ more)

  pub quantifier-param : (us vs : List Symbol) (d at : ℕ) (w : List ℕ) (q : Quantifier) → ts ≡ us ++ word at w ∷ vs → Wanted d us → class_of w ≡ Quantifies q → (p : List ℕ) × (rest : List Symbol) × (vs ≡ param p ∷ rest)
  quantifier-param us vs d at w q split wants is =
      let r = run-wanted d us wants in
      let more = rest-runs us (word at w ∷ vs) (config r.stack wanted) split r.is in
      quantifier-next r.stack at q vs (ap (λ (k : WordClass). run (step_word r.stack at w k) vs) (sym is) ∙ more)

  -- no word that stands for no number stands behind `times`
  pub not-numberless : (us vs : List Symbol) (at : ℕ) (w : List ℕ) → ts ≡ us ++ word at w ∷ vs → AfterTimes us → ((n : ℕ) → ¬ IsNumberWord w n) → ⊥
  not-numberless us vs at w split after none =
      let r = run-after_times us after in
      let more = rest-runs us (word at w ∷ vs) (config r.stack (times_read r.at)) split r.is in
      let stuck : run (Some (config r.stack (times_read r.at))) (word at w ∷ vs) ≡ None = ap (λ (o : Option ℕ). run (times_with_number r.stack r.at o) vs) (number-none w none) ∙ run-none vs in
      let h : None ≡ Some last = sym stuck ∙ more in
      cc

  -- no comma stands behind a fourth argument
  pub not-fifth : (us vs : List Symbol) → ts ≡ us ++ comma ∷ vs → AfterArgument 4 us → ⊥
  not-fifth us vs split four =
      let r = run-after_argument 4 us (omega arith) four in
      let more = rest-runs us (comma ∷ vs) (config r.stack (argument_read r.at r.name r.args)) split r.is in
      let stuck : run (Some (config r.stack (argument_read r.at r.name r.args))) (comma ∷ vs) ≡ None =
      ap (λ (n : ℕ). run (cond (ltb n 4) (Some (config r.stack (argument_wanted r.at r.name r.args))) None) vs) r.count ∙ run-none vs in
      let h : None ≡ Some last = sym stuck ∙ more in
      cc

pub map-split : (us vs : List PlainToken) → symbols_of (us ++ vs) ≡ symbols_of us ++ symbols_of vs
map-split [] vs = refl
map-split (u ∷ us) vs = ap (λ l. symbol_of u ∷ l) (map-split us vs)

-- no name is long, no level too deep and no node too much
pub record IsWithin (tokens : List PlainToken) : Type 0 where
  pub short : (us vs : List PlainToken) (t : PlainToken) → tokens ≡ us ++ t ∷ vs → ¬ IsLong (symbol_of t)
  pub shallow : (us vs : List PlainToken) (t : PlainToken) → tokens ≡ us ++ t ∷ vs → Wanted 64 (symbols_of us) → ¬ OpensLevel (symbol_of t)
  pub few : (us vs : List PlainToken) (t : PlainToken) → tokens ≡ us ++ t ∷ vs → Nodes [] (symbols_of us) 512 → ¬ IsNode (symbols_of us) (symbol_of t)

param-follows : (vs : List PlainToken) (p : List ℕ) (rest : List Symbol) → symbols_of vs ≡ param p ∷ rest → ParamNext (map token vs)
param-follows [] p rest e = absurd cc
param-follows (v ∷ vs) p rest e = let is : symbol_of v ≡ param p = cc in ParamNext.param_next v p (map token vs) is

word-follows : (vs : List PlainToken) (at : ℕ) (w : List ℕ) (rest : List Symbol) → symbols_of vs ≡ word at w ∷ rest → WordNext (map token vs)
word-follows [] at w rest e = absurd cc
word-follows (v ∷ vs) at w rest e = let is : symbol_of v ≡ word at w = cc in WordNext.word_next v at w (map token vs) is

-- a text of the grammar within the limits meets no fault
module _ (tokens : List PlainToken) (x : Meaning) (stands : Stands 1 (symbols_of tokens) x) (within : IsWithin tokens) where
  split-symbols : (us vs : List PlainToken) (t : PlainToken) → tokens ≡ us ++ t ∷ vs → symbols_of tokens ≡ symbols_of us ++ symbol_of t ∷ symbols_of vs
  split-symbols us vs t split = ap symbols_of split ∙ map-split us (t ∷ vs)

  none-met : (us vs : List PlainToken) (t : PlainToken) (f : Fault) → tokens ≡ us ++ t ∷ vs → ¬ Met (symbols_of us) (token t ∷ map token vs) f
  none-met us vs t _ split (Met.reserved _ _ at d w is wants (BeginsNoOperand.no_word _ _ class none)) =
      let follows = times-word (symbols_of tokens) x stands (symbols_of us) (symbols_of vs) d at w (split-symbols us vs t split ∙ ap (λ u. symbols_of us ++ u ∷ symbols_of vs) is) wants class in
      none (word-follows vs follows.0 follows.1 follows.2 follows.3)
  none-met us vs t _ split (Met.reserved _ _ at d w is wants (BeginsNoOperand.no_param _ q _ class none)) =
      let follows = quantifier-param (symbols_of tokens) x stands (symbols_of us) (symbols_of vs) d at w q (split-symbols us vs t split ∙ ap (λ u. symbols_of us ++ u ∷ symbols_of vs) is) wants class in
      none (param-follows vs follows.0 follows.1 follows.2)
  none-met us vs t _ split (Met.no_number _ _ at w is after none) =
      not-numberless (symbols_of tokens) x stands (symbols_of us) (symbols_of vs) at w (split-symbols us vs t split ∙ ap (λ u. symbols_of us ++ u ∷ symbols_of vs) is) after none
  none-met us vs t _ split (Met.fifth_argument _ _ is four) =
      not-fifth (symbols_of tokens) x stands (symbols_of us) (symbols_of vs) (split-symbols us vs t split ∙ ap (λ u. symbols_of us ++ u ∷ symbols_of vs) is) four
  none-met us vs t _ split (Met.unexpected _ _ cannot) =
      cannot (record {
        rest = symbols_of vs;
        meaning = x;
        stands = subst (λ l. Stands 1 l x) (split-symbols us vs t split ∙ sym (append_assoc (symbols_of us) (symbol_of t ∷ []) (symbols_of vs))) stands;
      })
  none-met us vs t _ split (Met.long_name _ _ long) = within.short us vs t split long
  none-met us vs t _ split (Met.too_deep _ _ wants opens) = within.shallow us vs t split wants opens
  none-met us vs t _ split (Met.too_many_nodes _ _ full one) = within.few us vs t split full one

  at-end : (f : Fault) → ¬ Met (symbols_of tokens) [] f
  at-end _ (Met.ended none) = none x stands

  -- a front of the pieces is a front of the tokens
  front-of : (all us : List PlainToken) (after : List Piece) → map token all ≡ map token us ++ after → (vs : List PlainToken) × (all ≡ us ++ vs) × (after ≡ map token vs)
  front-of all [] after e = (all, refl, sym e)
  front-of [] (u ∷ us) after e = absurd cc
  front-of (a ∷ all) (u ∷ us) after e =
      let head : a ≡ u = cc in
      let tail : map token all ≡ map token us ++ after = cc in
      let r = front-of all us after tail in
      (r.0, (λ i. head i ∷ r.1 i), r.2)

  none-after : (us vs : List PlainToken) (f : Fault) → tokens ≡ us ++ vs → ¬ Met (symbols_of us) (map token vs) f
  none-after us [] f split met = at-end f (subst (λ l. Met l [] f) (ap symbols_of (sym (append-nil us) ∙ sym split)) met)
  none-after us (t ∷ vs) f split met = none-met us vs t f split met

  pub HasMeaning-within : (text : List ℕ) → length text ≤ 16384 → Pieces 0 text (map token tokens) → HasMeaning text x
  HasMeaning-within text short cut =
      record {
        tokens = tokens;
        short = short;
        pieces = cut;
        nothing_met = λ us after f e low met. (let r = front-of tokens us after e in none-after us r.0 f r.1 (subst (λ l. Met (symbols_of us) l f) r.2 met));
        stands = stands;
      }
