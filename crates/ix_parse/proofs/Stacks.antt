-- The stack in memory and the machine's.
use Rattle.std.proofs.Common.{◌≡◌, ℕ, suc, ◌+◌, ◌-◌, Bool, true, false, cond, List, [], ◌∷◌, ◌++◌, length, take, Some, None, refl, sym, ap, ◌∙◌, arith, ◌≤◌, le-leb}
use Rattle.std.proofs.lemmas.List.{append-nil}
use Rattle.std.specs.List.{slice_get, count_by, fold}
use Rattle.ix_parse.specs.declared.stack.Entry.{Entry}
use Rattle.ix_parse.specs.declared.stack.Entry.TheVariants as entries
use Rattle.ix_parse.specs.declared.stack.Taking.TheVariants.{Sign, Binder, Counter}
use Rattle.ix_parse.specs.Symbols.{Meaning, level, joined_meaning}
use Rattle.ix_parse.specs.inside.Operands.{meaning_of}
use Rattle.ix_parse.specs.inside.StackMachine as machine
use Rattle.ix_parse.specs.inside.StackMachine.{group, sign, binder, counter, left, closed, reduced, operand_held, left_group, joined_whole, levels, groups}
use Rattle.ix_parse.specs.inside.Stack.{taking_of, is_counted, entry_of, stack_onto, stack_of, is_prefix_inmost, is_left_inmost}

-- the last entry is the inmost
pub stack_of-push : (s : List machine.Entry) (es : List Entry) (e : Entry) → stack_onto s (es ++ e ∷ []) ≡ entry_of e ∷ stack_onto s es
stack_of-push s [] e = refl
stack_of-push s (x ∷ es) e = stack_of-push (entry_of x ∷ s) es e

-- nothing is closed where no prefix is inmost
pub closed-none : (s : List machine.Entry) (x : Meaning) → is_prefix_inmost s ≡ false → closed s x ≡ operand_held s x
closed-none [] x e = refl
closed-none (group ∷ s) x e = refl
closed-none (sign at p ∷ s) x e = absurd cc
closed-none (binder at q p ∷ s) x e = absurd cc
closed-none (counter at n ∷ s) x e = absurd cc
closed-none (left at o y ∷ s) x e = refl

-- nothing is joined_meaning where no operator that binds so tightly is inmost
pub reduced-none : (k : ℕ) (s : List machine.Entry) (x : Meaning) → is_left_inmost k s ≡ false → reduced k s x ≡ operand_held s x
reduced-none k [] x e = refl
reduced-none k (group ∷ s) x e = refl
reduced-none k (sign at p ∷ s) x e = refl
reduced-none k (binder at q p ∷ s) x e = refl
reduced-none k (counter at n ∷ s) x e = refl
reduced-none k (left at o y ∷ s) x e = rw e refl

taken-level : (t : _) (s : List machine.Entry) → levels (taking_of t ∷ s) ≡ suc (levels s)
taken-level (Sign at p) s = refl
taken-level (Binder at q p) s = refl
taken-level (Counter at n) s = refl

taken-group : (t : _) (s : List machine.Entry) → groups (taking_of t ∷ s) ≡ groups s
taken-group (Sign at p) s = refl
taken-group (Binder at q p) s = refl
taken-group (Counter at n) s = refl

levels-fold : (s : List machine.Entry) (n : ℕ) (es : List Entry) → n ≡ levels s → fold (λ a x. a + cond (is_counted true x) 1 0) n es ≡ levels (stack_onto s es)
levels-fold s n [] is = is
levels-fold s n (entries.Group ∷ es) is = levels-fold (group ∷ s) (n + 1) es (omega arith)
levels-fold s n (entries.Taking t ∷ es) is = let deeper = taken-level t s in levels-fold (taking_of t ∷ s) (n + 1) es (omega arith)
levels-fold s n (entries.Left x ∷ es) is = levels-fold (entry_of (entries.Left x) ∷ s) (n + 0) es (omega arith)

groups-fold : (s : List machine.Entry) (n : ℕ) (es : List Entry) → n ≡ groups s → fold (λ a x. a + cond (is_counted false x) 1 0) n es ≡ groups (stack_onto s es)
groups-fold s n [] is = is
groups-fold s n (entries.Group ∷ es) is = groups-fold (group ∷ s) (n + 1) es (omega arith)
groups-fold s n (entries.Taking t ∷ es) is = let same = taken-group t s in groups-fold (taking_of t ∷ s) (n + 0) es (omega arith)
groups-fold s n (entries.Left x ∷ es) is = groups-fold (entry_of (entries.Left x) ∷ s) (n + 0) es (omega arith)

-- counted levels and groups
pub levels_lem : (es : List Entry) → count_by (λ e. is_counted true e) es ≡ levels (stack_of es)
levels_lem es = levels-fold [] 0 es refl

pub groups_lem : (es : List Entry) → count_by (λ e. is_counted false e) es ≡ groups (stack_of es)
groups_lem es = groups-fold [] 0 es refl

-- the last entry is inmost, and the others lie around it
pub stack_onto-last : (s : List machine.Entry) (es : List Entry) (e : Entry) → slice_get es (length es - 1) ≡ Some e → stack_onto s es ≡ entry_of e ∷ stack_onto s (take (length es - 1) es)
stack_onto-last s [] e last = absurd cc
stack_onto-last s (x ∷ []) e last = let same : x ≡ e = cc in ap (λ y. entry_of y ∷ s) same
stack_onto-last s (x ∷ y ∷ es) e last =
    let outer : suc (suc (length es)) - 1 ≡ suc (length es) = omega arith in
    let inner : suc (length es) - 1 ≡ length es = omega arith in
    stack_onto-last (entry_of x ∷ s) (y ∷ es) e (ap (slice_get (y ∷ es)) inner ∙ ap (slice_get (x ∷ y ∷ es)) (sym outer) ∙ last)
    ∙ ap (λ n. entry_of e ∷ stack_onto (entry_of x ∷ s) (take n (y ∷ es))) inner
    ∙ ap (λ n. entry_of e ∷ stack_onto s (take n (x ∷ y ∷ es))) (sym outer)

pub none_of-last : (es : List Entry) → slice_get es (length es - 1) ≡ None → es ≡ []
none_of-last [] last = refl
none_of-last (x ∷ []) last = absurd cc
none_of-last (x ∷ y ∷ es) last =
    let outer : suc (suc (length es)) - 1 ≡ suc (length es) = omega arith in
    let inner : length es ≡ suc (length es) - 1 = omega arith in
    let none = none_of-last (y ∷ es) (ap (slice_get (y ∷ es)) (sym inner) ∙ ap (slice_get (x ∷ y ∷ es)) (sym outer) ∙ last) in
    absurd cc

-- what the last entry tells of what is inmost
pub told : {A : Type 0} (f : List machine.Entry → A) (es : List Entry) (e : Entry) (v : A) → slice_get es (length es - 1) ≡ Some e → ((s : List machine.Entry) → f (entry_of e ∷ s) ≡ v) → v ≡ f (stack_of es)
told f es e v last tells = sym (ap f (stack_onto-last [] es e last) ∙ tells (stack_of (take (length es - 1) es)))

-- what a pop gives
pub popped : {A : Type 0} (f : List machine.Entry → A) (es fs : List Entry) (e : Entry) → es ≡ fs ++ e ∷ [] → f (stack_of es) ≡ f (entry_of e ∷ stack_of fs)
popped f es fs e is = ap (λ l. f (stack_of l)) is ∙ ap f (stack_of-push [] fs e)

pub popped_none : {A : Type 0} (f : List machine.Entry → A) (es fs : List Entry) → es ≡ fs ++ [] → f (stack_of es) ≡ f (stack_of fs)
popped_none f es fs is = ap (λ l. f (stack_of l)) (is ∙ append-nil fs)

pub taking-no_left : (k : ℕ) (t : _) (s : List machine.Entry) → is_left_inmost k (taking_of t ∷ s) ≡ false
taking-no_left k (Sign at p) s = refl
taking-no_left k (Binder at q p) s = refl
taking-no_left k (Counter at n) s = refl

-- the prefix that is inmost is closed first
pub closed-taking : (es : List Entry) (t : _) (x : Meaning) → slice_get es (length es - 1) ≡ Some (entries.Taking t) → closed (stack_of es) x ≡ closed (taking_of t ∷ stack_of (take (length es - 1) es)) x
closed-taking es t x last = ap (λ s. closed s x) (stack_onto-last [] es (entries.Taking t) last)

-- the operator that is inmost is joined_meaning first
pub reduced-left : (k : ℕ) (es fs : List Entry) (l : _) (x : Meaning) → es ≡ fs ++ entries.Left l ∷ [] → k ≤ level l.operator → reduced k (stack_of es) x ≡ reduced k (stack_of fs) (joined_meaning l.operator l.at (meaning_of l.operand) x)
reduced-left k es fs l x is tight =
    ap (λ s. reduced k s x) (ap stack_of is ∙ stack_of-push [] fs (entries.Left l))
    ∙ ap (λ (b : Bool). cond b (reduced k (stack_of fs) (joined_meaning l.operator l.at (meaning_of l.operand) x)) (operand_held (left l.at l.operator (meaning_of l.operand) ∷ stack_of fs) x)) (le-leb k (level l.operator) tight)

-- what is inmost after a pop tells against another
pub clash_popped : {A : Type 0} (f : List machine.Entry → Bool) (es fs : List Entry) (e : Entry) → es ≡ fs ++ e ∷ [] → true ≡ f (stack_of es) → f (entry_of e ∷ stack_of fs) ≡ false → A
clash_popped f es fs e is holds fails = let h : true ≡ false = holds ∙ popped f es fs e is ∙ fails in cc

pub clash_empty : {A : Type 0} (f : List machine.Entry → Bool) (es fs : List Entry) → es ≡ fs ++ [] → true ≡ f (stack_of es) → es ≡ [] → f [] ≡ false → A
clash_empty f es fs is holds none fails = let h : true ≡ false = holds ∙ ap (λ l. f (stack_of l)) none ∙ fails in cc

-- what is pushed is inmost
pub pushed : (es : List Entry) (e : Entry) → stack_of (es ++ e ∷ []) ≡ entry_of e ∷ stack_of es
pushed es e = stack_of-push [] es e

-- what is left of a group, by what was popped
pub left_group-popped : (s : List machine.Entry) (x : Meaning) (es fs : List Entry) (e : Entry) (y : Meaning) → reduced 1 s x ≡ operand_held (stack_of es) y → es ≡ fs ++ e ∷ [] → left_group (reduced 1 s x).stack (reduced 1 s x).operand ≡ left_group (entry_of e ∷ stack_of fs) y
left_group-popped s x es fs e y r is = ap (λ (h : machine.WithOperand). left_group h.stack h.operand) r ∙ ap (λ t. left_group t y) (ap stack_of is ∙ pushed fs e)

pub taking-no_group : (t : _) (s : List machine.Entry) (y : Meaning) → left_group (taking_of t ∷ s) y ≡ None
taking-no_group (Sign at p) s y = refl
taking-no_group (Binder at q p) s y = refl
taking-no_group (Counter at n) s y = refl

-- whether nothing is open
alone-onto : (e : machine.Entry) (s : List machine.Entry) (es : List Entry) (y : Meaning) → joined_whole (stack_onto (e ∷ s) es) y ≡ None
alone-onto e s [] y = refl
alone-onto e s (x ∷ es) y = alone-onto (entry_of x) (e ∷ s) es y

pub alone_empty : (es : List Entry) (y : Meaning) → length es ≡ 0 → joined_whole (stack_of es) y ≡ Some y
alone_empty [] y e = refl
alone_empty (x ∷ es) y e = absurd (omega arith)

pub alone_more : (es : List Entry) (y : Meaning) → (length es ≡ 0 → ⊥) → joined_whole (stack_of es) y ≡ None
alone_more [] y e = absurd (e refl)
alone_more (x ∷ es) y e = alone-onto (entry_of x) [] es y
