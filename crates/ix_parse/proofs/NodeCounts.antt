-- A text of the grammar has as many nodes' tokens as its meaning has places.
use Rattle.std.proofs.Common.{◌≡◌, ℕ, suc, ◌+◌, ◌≤◌, Bool, true, ltb, cond, List, [], ◌∷◌, ◌++◌, length, Option, Some, None, refl, sym, ap, ◌∙◌, subst, arith, append_assoc, length-append, lt-ltb}
use Rattle.std.proofs.lemmas.List.{append-nil}
use Rattle.ix_expr.specs.declared.arg.Arg.{Arg}
use Rattle.ix_parse.specs.declared.signs.WordClass.{WordClass}
use Rattle.ix_parse.specs.Symbols.{Symbol, word, param, opening, closing, comma, before, between, level, Meaning, argument_of}
use Rattle.ix_parse.specs.Grammar.{Arguments, Stands}
use Rattle.ix_parse.specs.Faults.{IsNode, Nodes}
use Rattle.ix_parse.specs.inside.StackMachine.{Entry, group, sign, binder, counter, left, Config, config, wanted, argument_wanted, times_read, step_some, step_word, with_argument, run, start, levels}
use Rattle.ix_parse.proofs.Runs.{hole, level-low, run-append, run-left, run-counts, run-stands, some_arguments}
use Rattle.ix_parse.proofs.Meeting.{wanted-when, wanted-is}

pub Nodes-append : (ctx ts us : List Symbol) (n m : ℕ) → Nodes ctx ts n → Nodes (ctx ++ ts) us m → Nodes ctx (ts ++ us) (n + m)
Nodes-append _ _ us _ m (Nodes.none ctx) second = let same : m ≡ 0 + m = omega arith in subst (Nodes ctx us) same (subst (λ l. Nodes l us m) (append-nil ctx) second)
Nodes-append _ _ us _ m (Nodes.node ctx ts t n one more) second =
    let same : suc (n + m) ≡ suc n + m = omega arith in
    subst (Nodes ctx (t ∷ ts ++ us)) same (Nodes.node ctx (ts ++ us) t (n + m) one (Nodes-append (ctx ++ t ∷ []) ts us n m more (subst (λ l. Nodes l us m) (sym (append_assoc ctx (t ∷ []) ts)) second)))
Nodes-append _ _ us _ m (Nodes.other ctx ts t n none more) second =
    Nodes.other ctx (ts ++ us) t (n + m) none (Nodes-append (ctx ++ t ∷ []) ts us n m more (subst (λ l. Nodes l us m) (sym (append_assoc ctx (t ∷ []) ts)) second))

-- a front has no more
pub Nodes-front : (ctx ts us : List Symbol) (n m : ℕ) → Nodes ctx ts m → Nodes ctx (ts ++ us) n → m ≤ n
Nodes-front _ _ us n _ (Nodes.none ctx) all = omega arith
Nodes-front _ _ us n _ (Nodes.node ctx ts t m one more) all = on-node n all (λ k others. Nodes-front (ctx ++ t ∷ []) ts us k m more others)
  where
    on-node : (n : ℕ) → Nodes ctx (t ∷ ts ++ us) n → ((k : ℕ) → Nodes (ctx ++ t ∷ []) (ts ++ us) k → m ≤ k) → suc m ≤ n
    on-node _ (Nodes.node _ _ _ k is others) low = let h = low k others in omega arith
    on-node _ (Nodes.other _ _ _ k none others) low = absurd (none one)
Nodes-front _ _ us n _ (Nodes.other ctx ts t m none more) all = on-other n all (λ k others. Nodes-front (ctx ++ t ∷ []) ts us k m more others)
  where
    on-other : (n : ℕ) → Nodes ctx (t ∷ ts ++ us) n → ((k : ℕ) → Nodes (ctx ++ t ∷ []) (ts ++ us) k → m ≤ k) → m ≤ n
    on-other _ (Nodes.node _ _ _ k one others) low = let h = low k others in omega arith
    on-other _ (Nodes.other _ _ _ k none' others) low = low k others

run-more : (ctx ts : List Symbol) (c d : Config) → run (Some start) ctx ≡ Some c → run (Some c) ts ≡ Some d → run (Some start) (ctx ++ ts) ≡ Some d
run-more ctx ts c d is more = run-append (Some start) ctx ts ∙ ap (λ o. run o ts) is ∙ more

-- an argument is no node
no-node : (ctx : List Symbol) (t : Symbol) (s : List Entry) (at : ℕ) (w : List ℕ) (earlier : List Arg) (a : Arg) → run (Some start) ctx ≡ Some (config s (argument_wanted at w earlier)) → argument_of t ≡ Some a → ¬ IsNode ctx t
no-node ctx (word at' w') s at w earlier a is arg one = let h = (wanted-is ctx (config s (argument_wanted at w earlier)) is one.0 one.1).0 in cc
no-node ctx (param p) s at w earlier a is arg one = one
no-node ctx opening s at w earlier a is arg one = one
no-node ctx closing s at w earlier a is arg one = one
no-node ctx comma s at w earlier a is arg one = one
no-node ctx (before at' p) s at w earlier a is arg one = absurd cc
no-node ctx (between at' o) s at w earlier a is arg one = absurd cc

arguments-nodes : (ctx ts : List Symbol) (args : List Arg) (s : List Entry) (at : ℕ) (w : List ℕ) (earlier : List Arg) → Arguments ts args → length earlier + length args ≤ 4 → run (Some start) ctx ≡ Some (config s (argument_wanted at w earlier)) → Nodes ctx ts 0
arguments-nodes ctx _ _ s at w earlier (Arguments.one t a is) few ran = Nodes.other ctx [] t 0 (no-node ctx t s at w earlier a ran is) (Nodes.none (ctx ++ t ∷ []))
arguments-nodes ctx _ _ s at w earlier (Arguments.more t a ts args is others) few ran =
    let some = some_arguments ts args others in
    let len : length (earlier ++ a ∷ []) ≡ length earlier + 1 = length-append earlier (a ∷ []) in
    let room : ltb (length (earlier ++ a ∷ [])) 4 ≡ true = lt-ltb (length (earlier ++ a ∷ [])) 4 (omega arith) in
    let next : run (Some (config s (argument_wanted at w earlier))) (t ∷ comma ∷ []) ≡ Some (config s (argument_wanted at w (earlier ++ a ∷ []))) =
    ap (λ (c : Option Arg). step_some (with_argument s at w earlier c) comma) is ∙ ap (λ (b : Bool). cond b (Some (config s (argument_wanted at w (earlier ++ a ∷ [])))) None) room in
    Nodes.other ctx (comma ∷ ts) t 0 (no-node ctx t s at w earlier a ran is)
    (Nodes.other (ctx ++ t ∷ []) ts comma 0 (λ one. one)
    (subst (λ l. Nodes l ts 0) (sym (append_assoc ctx (t ∷ []) (comma ∷ [])))
    (arguments-nodes (ctx ++ t ∷ comma ∷ []) ts args s at w (earlier ++ a ∷ []) others (omega arith) (run-more ctx (t ∷ comma ∷ []) _ _ ran next))))

-- an operand behind what was read has as many nodes' tokens as places
pub operand-nodes : (n : ℕ) (ts : List Symbol) (x : Meaning) → Stands n ts x → (ctx : List Symbol) (s : List Entry) → run (Some start) ctx ≡ Some (config s wanted) → hole s ≤ n → Nodes ctx ts (length x.places)
operand-nodes _ _ _ (Stands.tighter n ts x low stands) ctx s ran fits = operand-nodes (suc n) ts x stands ctx s ran (omega arith)
operand-nodes _ _ _ (Stands.binary at o ts us x y first second) ctx s ran fits =
    let low = level-low o in
    let count : length x.places + suc (length y.places) ≡ suc (length (x.places ++ y.places)) = let all = length-append x.places y.places in omega arith in
    let next : run (Some (config s wanted)) (ts ++ between at o ∷ []) ≡ Some (config (left at o x ∷ s) wanted) = run-left at o ts [] x s fits (run-stands (level o) ts x first s fits) in
    let same : (ctx ++ ts) ++ between at o ∷ [] ≡ ctx ++ (ts ++ between at o ∷ []) = append_assoc ctx ts (between at o ∷ []) in
    subst (Nodes ctx (ts ++ between at o ∷ us)) count
    (Nodes-append ctx ts (between at o ∷ us) (length x.places) (suc (length y.places)) (operand-nodes (level o) ts x first ctx s ran fits)
    (Nodes.node (ctx ++ ts) us (between at o) (length y.places) tt
    (subst (λ l. Nodes l us (length y.places)) (sym same)
    (operand-nodes (suc (level o)) us y second (ctx ++ (ts ++ between at o ∷ [])) (left at o x ∷ s) (run-more ctx (ts ++ between at o ∷ []) _ _ ran next) (omega arith)))))
operand-nodes _ _ _ (Stands.prefixes at p ts x operand) ctx s ran fits =
    Nodes.node ctx ts (before at p) (length x.places) tt (operand-nodes 6 ts x operand (ctx ++ before at p ∷ []) (sign at p ∷ s) (run-more ctx (before at p ∷ []) _ _ ran refl) (omega arith))
operand-nodes _ _ _ (Stands.quantifies at w q p ts x is operand) ctx s ran fits =
    let next : run (Some (config s wanted)) (word at w ∷ param p ∷ []) ≡ Some (config (binder at q p ∷ s) wanted) = ap (λ (k : WordClass). step_some (step_word s at w k) (param p)) is in
    Nodes.node ctx (param p ∷ ts) (word at w) (length x.places) (levels s, wanted-when ctx (config s wanted) ran refl)
    (Nodes.other (ctx ++ word at w ∷ []) ts (param p) (length x.places) (λ one. one)
    (subst (λ l. Nodes l ts (length x.places)) (sym (append_assoc ctx (word at w ∷ []) (param p ∷ [])))
    (operand-nodes 6 ts x operand (ctx ++ word at w ∷ param p ∷ []) (binder at q p ∷ s) (run-more ctx (word at w ∷ param p ∷ []) _ _ ran next) (omega arith))))
operand-nodes _ _ _ (Stands.counts at at' w v n ts x is number operand) ctx s ran fits =
    let first : run (Some (config s wanted)) (word at w ∷ []) ≡ Some (config s (times_read at)) = ap (λ (k : WordClass). step_word s at w k) is in
    let behind = run-more ctx (word at w ∷ []) _ _ ran first in
    let next : run (Some (config s wanted)) (word at w ∷ word at' v ∷ []) ≡ Some (config (counter at n ∷ s) wanted) = run-counts s at at' w v n [] is number in
    Nodes.node ctx (word at' v ∷ ts) (word at w) (length x.places) (levels s, wanted-when ctx (config s wanted) ran refl)
    (Nodes.other (ctx ++ word at w ∷ []) ts (word at' v) (length x.places)
    (λ one. (let h = (wanted-is (ctx ++ word at w ∷ []) (config s (times_read at)) behind one.0 one.1).0 in cc))
    (subst (λ l. Nodes l ts (length x.places)) (sym (append_assoc ctx (word at w ∷ []) (word at' v ∷ [])))
    (operand-nodes 6 ts x operand (ctx ++ word at w ∷ word at' v ∷ []) (counter at n ∷ s) (run-more ctx (word at w ∷ word at' v ∷ []) _ _ ran next) (omega arith))))
operand-nodes _ _ _ (Stands.group ts x inner) ctx s ran fits =
    let count : length x.places + 0 ≡ length x.places = omega arith in
    Nodes.other ctx (ts ++ closing ∷ []) opening (length x.places) (λ one. one)
    (subst (Nodes (ctx ++ opening ∷ []) (ts ++ closing ∷ [])) count
    (Nodes-append (ctx ++ opening ∷ []) ts (closing ∷ []) (length x.places) 0
    (operand-nodes 1 ts x inner (ctx ++ opening ∷ []) (group ∷ s) (run-more ctx (opening ∷ []) _ _ ran refl) (omega arith))
    (Nodes.other ((ctx ++ opening ∷ []) ++ ts) [] closing 0 (λ one. one) (Nodes.none _))))
operand-nodes _ _ _ (Stands.bare at w is) ctx s ran fits =
    Nodes.node ctx [] (word at w) 0 (levels s, wanted-when ctx (config s wanted) ran refl) (Nodes.none (ctx ++ word at w ∷ []))
operand-nodes _ _ _ (Stands.applied at w ts args is arguments few) ctx s ran fits =
    let next : run (Some (config s wanted)) (word at w ∷ opening ∷ []) ≡ Some (config s (argument_wanted at w [])) = ap (λ (k : WordClass). step_some (step_word s at w k) opening) is in
    Nodes.node ctx (opening ∷ ts ++ closing ∷ []) (word at w) 0 (levels s, wanted-when ctx (config s wanted) ran refl)
    (Nodes.other (ctx ++ word at w ∷ []) (ts ++ closing ∷ []) opening 0 (λ one. one)
    (subst (λ l. Nodes l (ts ++ closing ∷ []) 0) (sym (append_assoc ctx (word at w ∷ []) (opening ∷ [])))
    (Nodes-append (ctx ++ word at w ∷ opening ∷ []) ts (closing ∷ []) 0 0
    (arguments-nodes (ctx ++ word at w ∷ opening ∷ []) ts args s at w [] arguments (omega arith) (run-more ctx (word at w ∷ opening ∷ []) _ _ ran next))
    (Nodes.other ((ctx ++ word at w ∷ opening ∷ []) ++ ts) [] closing 0 (λ one. one) (Nodes.none _)))))

pub text-nodes : (ts : List Symbol) (x : Meaning) → Stands 1 ts x → Nodes [] ts (length x.places)
text-nodes ts x stands = operand-nodes 1 ts x stands [] [] refl (omega arith)
