-- A step of the machine keeps what it read, and what it read stands for what it holds.
use Rattle.std.proofs.Common.{◌≡◌, ℕ, ◌+◌, ◌<◌, ◌≤◌, Bool, true, false, ltb, cond, List, [], ◌∷◌, ◌++◌, length, Option, Some, None, refl, sym, ap, ◌∙◌, subst, arith, append_assoc, length-append, ltb-true}
use Rattle.std.proofs.lemmas.Fmt.{decimal_digit}
use Rattle.std.proofs.lemmas.List.{append-nil}
use Rattle.ix_expr.specs.declared.arg.Arg.{Arg}
use Rattle.ix_expr.specs.declared.arg.Arg.TheVariants.{Fixed}
use Rattle.ix_parse.specs.declared.signs.Quantifier.{Quantifier}
use Rattle.ix_parse.specs.declared.signs.WordClass.{WordClass}
use Rattle.ix_parse.specs.declared.signs.WordClass.TheVariants.{Quantifies, Counts, Names, Other}
use Rattle.ix_parse.specs.Symbols.{Symbol, word, param, opening, closing, comma, before, between, class_of, IsNumberWord, Meaning, named, argument_of}
use Rattle.ix_parse.specs.Grammar.{Arguments, Stands, CanGoOn}
use Rattle.ix_parse.specs.inside.StackMachine.{Entry, group, sign, binder, counter, argument_wanted, Config, WithOperand, operand_held, config, closed, reduced, step_operand, step_word, step_wanted, step_name, step_argument, step_quantifier, step_times, with_argument, times_with_number, number_of, step, joined_whole, joined_all, whole, start, run}
use Rattle.ix_parse.proofs.Numbers.{number-when}
use Rattle.ix_parse.proofs.Runs.{run-none}
use Rattle.ix_parse.proofs.Cuts.{CanGoOn-front}
use Rattle.ix_parse.proofs.Holding.{Holds, hole-low, Holds-fill, Listed, Listed-argument, Arguments-comma, Reads, Ended, Ended-closed, Reads-closed, ReadTo, Reads-reduced, Reads-operand}

pub some_is : {A : Type 0} (x y : A) → Some x ≡ Some y → x ≡ y
some_is x y e = cc

-- a word where an operand is wanted
word-step : (ts : List Symbol) (s : List Entry) (at : ℕ) (w : List ℕ) (k : WordClass) (c : Config) → class_of w ≡ k → Holds ts s → step_word s at w k ≡ Some c → Reads (ts ++ word at w ∷ []) c
word-step ts s at w (Quantifies q) c is h e = subst (Reads (ts ++ word at w ∷ [])) (some_is _ c e) (Reads.behind_quantifier ts s at w q is h)
word-step ts s at w Counts c is h e = subst (Reads (ts ++ word at w ∷ [])) (some_is _ c e) (Reads.behind_times ts s at w is h)
word-step ts s at w Names c is h e = subst (Reads (ts ++ word at w ∷ [])) (some_is _ c e) (Reads.at_name ts s at w is h)
word-step ts s at w Other c is h e = absurd cc

-- a symbol where an operand is wanted
wanted-step : (ts : List Symbol) (s : List Entry) (t : Symbol) (c : Config) → Holds ts s → step_wanted s t ≡ Some c → Reads (ts ++ t ∷ []) c
wanted-step ts s (word at w) c h e = word-step ts s at w (class_of w) c refl h e
wanted-step ts s (param p) c h e = absurd cc
wanted-step ts s opening c h e = subst (Reads (ts ++ opening ∷ [])) (some_is _ c e) (Reads.at_operand (ts ++ opening ∷ []) (group ∷ s) (Holds.open_group ts s h))
wanted-step ts s closing c h e = absurd cc
wanted-step ts s comma c h e = absurd cc
wanted-step ts s (before at p) c h e = subst (Reads (ts ++ before at p ∷ [])) (some_is _ c e) (Reads.at_operand (ts ++ before at p ∷ []) (sign at p ∷ s) (Holds.open_sign ts s at p h))
wanted-step ts s (between at o) c h e = absurd cc

-- a symbol behind what was closed
closed-step : (all : List Symbol) (h : WithOperand) (t : Symbol) (c : Config) → Ended all h → step_operand h.stack h.operand t ≡ Some c → Reads (all ++ t ∷ []) c
closed-step all h t c r e = subst (λ l. Reads (l ++ t ∷ []) c) (sym r.split) (Reads-operand r.front r.operand h.stack h.operand t c r.clear r.stands r.holds e)

-- a symbol behind the name of an atom
name-step : (ts : List Symbol) (s : List Entry) (at : ℕ) (w : List ℕ) (t : Symbol) (c : Config) → class_of w ≡ Names → Holds ts s → step_name s at w t ≡ Some c → Reads ((ts ++ word at w ∷ []) ++ t ∷ []) c
name-step ts s at w (word at' w') c is h e = absurd cc
name-step ts s at w (param p) c is h e = absurd cc
name-step ts s at w opening c is h e =
    subst (λ l. Reads l c) (sym (append_assoc ts (word at w ∷ []) (opening ∷ [])))
    (subst (Reads (ts ++ word at w ∷ opening ∷ [])) (some_is _ c e) (Reads.at_argument ts [] s at w [] is Listed.none_listed (omega arith) h))
name-step ts s at w closing c is h e = closed-step (ts ++ word at w ∷ []) (closed s (named at w [])) closing c (Ended-closed ts (word at w ∷ []) s (named at w []) h (Stands.bare at w is)) e
name-step ts s at w comma c is h e = absurd cc
name-step ts s at w (before at' p) c is h e = absurd cc
name-step ts s at w (between at' o) c is h e = closed-step (ts ++ word at w ∷ []) (closed s (named at w [])) (between at' o) c (Ended-closed ts (word at w ∷ []) s (named at w []) h (Stands.bare at w is)) e

-- an argument
argument-step : (ts us : List Symbol) (s : List Entry) (at : ℕ) (w : List ℕ) (args : List Arg) (t : Symbol) (a : Option Arg) (c : Config) → argument_of t ≡ a → class_of w ≡ Names → Listed us args → length args < 4 → Holds ts s → with_argument s at w args a ≡ Some c → Reads ((ts ++ word at w ∷ opening ∷ us) ++ t ∷ []) c
argument-step ts us s at w args t None c is_a is listed few h e = absurd cc
argument-step ts us s at w args t (Some a) c is_a is listed few h e =
    let len : length (args ++ a ∷ []) ≡ length args + 1 = length-append args (a ∷ []) in
    subst (λ l. Reads l c) (sym (append_assoc ts (word at w ∷ opening ∷ us) (t ∷ [])))
    (subst (Reads (ts ++ word at w ∷ opening ∷ (us ++ t ∷ []))) (some_is _ c e)
    (Reads.behind_argument ts (us ++ t ∷ []) s at w (args ++ a ∷ []) is (Listed-argument us args t a listed is_a) (omega arith) h))

comma-step : (ts us : List Symbol) (s : List Entry) (at : ℕ) (w : List ℕ) (args : List Arg) (v : Bool) (c : Config) → ltb (length args) 4 ≡ v → class_of w ≡ Names → Arguments us args → Holds ts s → cond v (Some (config s (argument_wanted at w args))) None ≡ Some c → Reads ((ts ++ word at w ∷ opening ∷ us) ++ comma ∷ []) c
comma-step ts us s at w args false c room is listed h e = absurd cc
comma-step ts us s at w args true c room is listed h e =
    subst (λ l. Reads l c) (sym (append_assoc ts (word at w ∷ opening ∷ us) (comma ∷ [])))
    (subst (Reads (ts ++ word at w ∷ opening ∷ (us ++ comma ∷ []))) (some_is _ c e)
    (Reads.at_argument ts (us ++ comma ∷ []) s at w args is (Arguments-comma us args listed) (ltb-true (length args) 4 room) h))

-- a symbol behind an argument
behind_argument-step : (ts us : List Symbol) (s : List Entry) (at : ℕ) (w : List ℕ) (args : List Arg) (t : Symbol) (c : Config) → class_of w ≡ Names → Arguments us args → length args ≤ 4 → Holds ts s → step_argument s at w args t ≡ Some c → Reads ((ts ++ word at w ∷ opening ∷ us) ++ t ∷ []) c
behind_argument-step ts us s at w args (word at' w') c is listed few h e = absurd cc
behind_argument-step ts us s at w args (param p) c is listed few h e = absurd cc
behind_argument-step ts us s at w args opening c is listed few h e = absurd cc
behind_argument-step ts us s at w args closing c is listed few h e =
    subst (λ l. Reads l c) (sym (append_assoc ts (word at w ∷ opening ∷ us) (closing ∷ [])))
    (subst (Reads (ts ++ word at w ∷ opening ∷ (us ++ closing ∷ []))) (some_is _ c e)
    (Reads-closed ts (word at w ∷ opening ∷ us ++ closing ∷ []) s (named at w args) h (Stands.applied at w us args is listed few)))
behind_argument-step ts us s at w args comma c is listed few h e = comma-step ts us s at w args (ltb (length args) 4) c refl is listed h e
behind_argument-step ts us s at w args (before at' p) c is listed few h e = absurd cc
behind_argument-step ts us s at w args (between at' o) c is listed few h e = absurd cc

-- a symbol behind the word of a quantifier
quantifier-step : (ts : List Symbol) (s : List Entry) (at : ℕ) (w : List ℕ) (q : Quantifier) (t : Symbol) (c : Config) → class_of w ≡ Quantifies q → Holds ts s → step_quantifier s at q t ≡ Some c → Reads ((ts ++ word at w ∷ []) ++ t ∷ []) c
quantifier-step ts s at w q (word at' w') c is h e = absurd cc
quantifier-step ts s at w q (param p) c is h e =
    subst (λ l. Reads l c) (sym (append_assoc ts (word at w ∷ []) (param p ∷ [])))
    (subst (Reads (ts ++ word at w ∷ param p ∷ [])) (some_is _ c e) (Reads.at_operand (ts ++ word at w ∷ param p ∷ []) (binder at q p ∷ s) (Holds.open_binder ts s at w q p is h)))
quantifier-step ts s at w q opening c is h e = absurd cc
quantifier-step ts s at w q closing c is h e = absurd cc
quantifier-step ts s at w q comma c is h e = absurd cc
quantifier-step ts s at w q (before at' p) c is h e = absurd cc
quantifier-step ts s at w q (between at' o) c is h e = absurd cc

-- a symbol behind `times`
number-step : (ts : List Symbol) (s : List Entry) (at at' : ℕ) (w v : List ℕ) (o : Option ℕ) (c : Config) → number_of v ≡ o → class_of w ≡ Counts → Holds ts s → times_with_number s at o ≡ Some c → Reads ((ts ++ word at w ∷ []) ++ word at' v ∷ []) c
number-step ts s at at' w v None c found is h e = absurd cc
number-step ts s at at' w v (Some n) c found is h e =
    subst (λ l. Reads l c) (sym (append_assoc ts (word at w ∷ []) (word at' v ∷ [])))
    (subst (Reads (ts ++ word at w ∷ word at' v ∷ [])) (some_is _ c e) (Reads.at_operand (ts ++ word at w ∷ word at' v ∷ []) (counter at n ∷ s) (Holds.open_counter ts s at at' w v n is (number-when v n found) h)))

times-step : (ts : List Symbol) (s : List Entry) (at : ℕ) (w : List ℕ) (t : Symbol) (c : Config) → class_of w ≡ Counts → Holds ts s → step_times s at t ≡ Some c → Reads ((ts ++ word at w ∷ []) ++ t ∷ []) c
times-step ts s at w (word at' v) c is h e = number-step ts s at at' w v (number_of v) c refl is h e
times-step ts s at w (param p) c is h e = absurd cc
times-step ts s at w opening c is h e = absurd cc
times-step ts s at w closing c is h e = absurd cc
times-step ts s at w comma c is h e = absurd cc
times-step ts s at w (before at' p) c is h e = absurd cc
times-step ts s at w (between at' o) c is h e = absurd cc

-- a step keeps what was read
pub Reads-step : (ts : List Symbol) (c d : Config) (t : Symbol) → Reads ts c → step c t ≡ Some d → Reads (ts ++ t ∷ []) d
Reads-step _ _ d t (Reads.at_operand ts s h) e = wanted-step ts s t d h e
Reads-step _ _ d t (Reads.at_name ts s at w is h) e = name-step ts s at w t d is h e
Reads-step _ _ d t (Reads.at_argument ts us s at w args is listed few h) e = argument-step ts us s at w args t (argument_of t) d refl is listed few h e
Reads-step _ _ d t (Reads.behind_argument ts us s at w args is listed few h) e = behind_argument-step ts us s at w args t d is listed few h e
Reads-step _ _ d t (Reads.behind_quantifier ts s at w q is h) e = quantifier-step ts s at w q t d is h e
Reads-step _ _ d t (Reads.behind_times ts s at w is h) e = times-step ts s at w t d is h e
Reads-step _ _ d t (Reads.behind_operand ts us s x clear stands h) e = Reads-operand ts us s x t d clear stands h e

-- a run keeps what was read
pub Reads-run : (ts us : List Symbol) (c d : Config) → Reads ts c → run (Some c) us ≡ Some d → Reads (ts ++ us) d
Reads-run ts [] c d r e = subst (λ l. Reads l d) (sym (append-nil ts)) (subst (Reads ts) (some_is c d e) r)
Reads-run ts (t ∷ us) c d r e = stepped (step c t) refl e (λ next is more. Reads-run (ts ++ t ∷ []) us next d (Reads-step ts c next t r is) more)
  where
    stepped : (o : Option Config) → step c t ≡ o → run o us ≡ Some d → ((next : Config) → step c t ≡ Some next → run (Some next) us ≡ Some d → Reads ((ts ++ t ∷ []) ++ us) d) → Reads (ts ++ t ∷ us) d
    stepped None is e more = absurd (let stuck = run-none us in let h : None ≡ Some d = sym stuck ∙ e in cc)
    stepped (Some next) is e more = subst (λ l. Reads l d) (append_assoc ts (t ∷ []) us) (more next is e)

-- what the machine read led to its configuration
pub Reads-start : (ts : List Symbol) (c : Config) → run (Some start) ts ≡ Some c → Reads ts c
Reads-start ts c e = Reads-run [] ts start c (Reads.at_operand [] [] Holds.nothing_open) e

-- nothing open, nothing in front
Holds-none : (ts : List Symbol) (s : List Entry) → Holds ts s → s ≡ [] → ts ≡ []
Holds-none _ _ Holds.nothing_open e = refl
Holds-none _ _ (Holds.open_group ts s h) e = absurd cc
Holds-none _ _ (Holds.open_sign ts s at p h) e = absurd cc
Holds-none _ _ (Holds.open_binder ts s at w q p is h) e = absurd cc
Holds-none _ _ (Holds.open_counter ts s at at' w v n is number h) e = absurd cc
Holds-none _ _ (Holds.open_left ts us s at o x fits stands h) e = absurd cc

-- an operand with nothing open around it is whole
Stands-read : (all : List Symbol) (h : WithOperand) (x : Meaning) → ReadTo 1 all h → joined_whole h.stack h.operand ≡ Some x → Stands 1 all x
Stands-read all h x r e = by-stack h.stack refl (λ none. subst (λ l. Stands 1 l h.operand) (sym (r.split ∙ ap (λ l. l ++ r.operand) (Holds-none r.front h.stack r.holds none))) r.stands) e
  where
    by-stack : (s : List Entry) → h.stack ≡ s → (h.stack ≡ [] → Stands 1 all h.operand) → joined_whole s h.operand ≡ Some x → Stands 1 all x
    by-stack [] is whole e = subst (Stands 1 all) (some_is h.operand x e) (whole is)
    by-stack (entry ∷ s) is whole e = absurd cc

ended-whole : (all : List Symbol) (h : WithOperand) (x : Meaning) → Ended all h → joined_all (Some h) ≡ Some x → Stands 1 all x
ended-whole all h x r e =
    let reads = Reads-reduced 1 6 r.front r.operand h.stack h.operand (omega arith) (omega arith) (omega arith) (hole-low h.stack) r.clear r.stands r.holds in
    subst (λ l. Stands 1 l x) (sym r.split) (Stands-read (r.front ++ r.operand) (reduced 1 h.stack h.operand) x reads e)

-- what was read whole stands for what it was read as
pub Reads-whole : (ts : List Symbol) (c : Config) (x : Meaning) → Reads ts c → whole c ≡ Some x → Stands 1 ts x
Reads-whole _ _ x (Reads.at_operand ts s h) e = absurd cc
Reads-whole _ _ x (Reads.at_name ts s at w is h) e = ended-whole (ts ++ word at w ∷ []) (closed s (named at w [])) x (Ended-closed ts (word at w ∷ []) s (named at w []) h (Stands.bare at w is)) e
Reads-whole _ _ x (Reads.at_argument ts us s at w args is listed few h) e = absurd cc
Reads-whole _ _ x (Reads.behind_argument ts us s at w args is listed few h) e = absurd cc
Reads-whole _ _ x (Reads.behind_quantifier ts s at w q is h) e = absurd cc
Reads-whole _ _ x (Reads.behind_times ts s at w is h) e = absurd cc
Reads-whole _ _ x (Reads.behind_operand ts us s y clear stands h) e =
    ended-whole (ts ++ us) (operand_held s y) x (record { front = ts; operand = us; split = refl; clear = clear; stands = stands; holds = h }) e

-- a name for what may follow
a_word : class_of (97 ∷ []) ≡ Names
unfolding class_of
a_word = refl

a_operand : Stands 6 (word 0 (97 ∷ []) ∷ []) (named 0 (97 ∷ []) [])
a_operand = Stands.bare 0 (97 ∷ []) a_word

-- a number for what may follow `times`
a_number : IsNumberWord (50 ∷ []) 2
a_number = record { same = sym (decimal_digit 2 (omega arith)); number = (omega arith, omega arith) }

-- an operand whose front was read can go on
front-can : (ts us vs : List Symbol) (s : List Entry) (x : Meaning) → Holds ts s → Stands 6 (us ++ vs) x → CanGoOn (ts ++ us)
front-can ts us vs s x h stands = CanGoOn-front (ts ++ us) vs (subst CanGoOn (sym (append_assoc ts us vs)) (Holds-fill ts (us ++ vs) s x h stands))

-- what was read can go on
pub Reads-can : (ts : List Symbol) (c : Config) → Reads ts c → CanGoOn ts
Reads-can _ _ (Reads.at_operand ts s h) = CanGoOn-front ts (word 0 (97 ∷ []) ∷ []) (Holds-fill ts (word 0 (97 ∷ []) ∷ []) s _ h a_operand)
Reads-can _ _ (Reads.at_name ts s at w is h) = Holds-fill ts (word at w ∷ []) s (named at w []) h (Stands.bare at w is)
Reads-can _ _ (Reads.at_argument ts us s at w args is listed few h) =
    let more : List Symbol = word 0 (97 ∷ []) ∷ closing ∷ [] in
    let len : length (args ++ Fixed (97 ∷ []) ∷ []) ≡ length args + 1 = length-append args (Fixed (97 ∷ []) ∷ []) in
    let whole : Stands 6 (word at w ∷ opening ∷ (us ++ word 0 (97 ∷ []) ∷ []) ++ closing ∷ []) (named at w (args ++ Fixed (97 ∷ []) ∷ [])) =
    Stands.applied at w (us ++ word 0 (97 ∷ []) ∷ []) (args ++ Fixed (97 ∷ []) ∷ []) is (Listed-argument us args (word 0 (97 ∷ [])) (Fixed (97 ∷ [])) listed refl) (omega arith) in
    front-can ts (word at w ∷ opening ∷ us) more s _ h (subst (λ l. Stands 6 (word at w ∷ opening ∷ l) (named at w (args ++ Fixed (97 ∷ []) ∷ []))) (append_assoc us (word 0 (97 ∷ []) ∷ []) (closing ∷ [])) whole)
Reads-can _ _ (Reads.behind_argument ts us s at w args is listed few h) = front-can ts (word at w ∷ opening ∷ us) (closing ∷ []) s (named at w args) h (Stands.applied at w us args is listed few)
Reads-can _ _ (Reads.behind_quantifier ts s at w q is h) =
    front-can ts (word at w ∷ []) (param (97 ∷ []) ∷ word 0 (97 ∷ []) ∷ []) s _ h (Stands.quantifies at w q (97 ∷ []) (word 0 (97 ∷ []) ∷ []) _ is a_operand)
Reads-can _ _ (Reads.behind_times ts s at w is h) =
    front-can ts (word at w ∷ []) (word 0 (50 ∷ []) ∷ word 0 (97 ∷ []) ∷ []) s _ h (Stands.counts at 0 w (50 ∷ []) 2 (word 0 (97 ∷ []) ∷ []) _ is a_number a_operand)
Reads-can _ _ (Reads.behind_operand ts us s x clear stands h) = Holds-fill ts us s x h stands
