-- Uses of the laws: where one applies, what it gives, and where none does any more.
use Rattle.std.proofs.Common.{◌≡◌, Bool, true, false, not, refl, sym, ap, ◌∙◌, subst, true≢false}
use Rattle.ix_expr.specs.Form.{Form, atom, opt, seq, star, par, par_star, or, and, couple, any, every, sync, all, times}
use Rattle.ix_expr.specs.Mentions.{some_names}
use Rattle.ix_simplify.specs.Rewriting.{Law, opt_opt, opt_star, opt_par_star, star_star, star_opt, star_par_star, par_star_par_star, par_star_star}
use Rattle.ix_simplify.specs.Rewriting.{par_star_opt, or_same, and_same, couple_same, any_unnamed, every_unnamed, sync_unnamed, IsNoLeftSide, AtRoot}
use Rattle.ix_simplify.specs.Rewriting.{rests, goes_on, Becomes, HasNoLeftSide}
use Rattle.ix_simplify.specs.inside.Alike.{same_form}
use Rattle.ix_simplify.proofs.Decided.{same-itself}

-- the right side of the law that applies, if one does
abbrev right : Form → Form
right (opt y) = y
right (star (opt y)) = star y
right (star y) = y
right (par_star (opt y)) = par_star y
right (par_star (star y)) = par_star y
right (par_star y) = y
right (or y z) = y
right (and y z) = y
right (couple y z) = y
right (any p y) = y
right (every p y) = y
right (sync p y) = y
right x = x

law-right : (x z : Form) → Law x z → z ≡ right x
law-right x z (any_unnamed p y e n f) = f ∙ sym (ap right e)
law-right x z (every_unnamed p y e n f) = f ∙ sym (ap right e)
law-right x z (sync_unnamed p y e n f) = f ∙ sym (ap right e)
law-right x z (opt_opt y e f) = f ∙ sym (ap right e)
law-right x z (opt_star y e f) = f ∙ sym (ap right e)
law-right x z (opt_par_star y e f) = f ∙ sym (ap right e)
law-right x z (star_star y e f) = f ∙ sym (ap right e)
law-right x z (star_opt y e f) = f ∙ sym (ap right e)
law-right x z (star_par_star y e f) = f ∙ sym (ap right e)
law-right x z (par_star_par_star y e f) = f ∙ sym (ap right e)
law-right x z (par_star_star y e f) = f ∙ sym (ap right e)
law-right x z (par_star_opt y e f) = f ∙ sym (ap right e)
law-right x z (or_same y e f) = f ∙ sym (ap right e)
law-right x z (and_same y e f) = f ∙ sym (ap right e)
law-right x z (couple_same y e f) = f ∙ sym (ap right e)

-- a law gives one expression
law-once : (x z t : Form) → Law x z → Law x t → z ≡ t
law-once x z t l m = law-right x z l ∙ sym (law-right x t m)

-- whether a prefix stands at the root
abbrev pub is_prefix : Form → Bool
is_prefix (opt y) = true
is_prefix (star y) = true
is_prefix (par_star y) = true
is_prefix x = false

-- whether a law applies at the root
abbrev pub applies : Form → Bool
applies (opt y) = is_prefix y
applies (star y) = is_prefix y
applies (par_star y) = is_prefix y
applies (or y z) = same_form y z
applies (and y z) = same_form y z
applies (couple y z) = same_form y z
applies (any p y) = not (some_names p y)
applies (every p y) = not (some_names p y)
applies (sync p y) = not (some_names p y)
applies x = false

law-applies : (x z : Form) → Law x z → applies x ≡ true
law-applies x z (any_unnamed p y e n f) = ap applies e ∙ ap not n
law-applies x z (every_unnamed p y e n f) = ap applies e ∙ ap not n
law-applies x z (sync_unnamed p y e n f) = ap applies e ∙ ap not n
law-applies x z (or_same y e f) = ap applies e ∙ same-itself y
law-applies x z (and_same y e f) = ap applies e ∙ same-itself y
law-applies x z (couple_same y e f) = ap applies e ∙ same-itself y
law-applies x z (opt_opt y e f) = ap applies e
law-applies x z (opt_star y e f) = ap applies e
law-applies x z (opt_par_star y e f) = ap applies e
law-applies x z (star_star y e f) = ap applies e
law-applies x z (star_opt y e f) = ap applies e
law-applies x z (star_par_star y e f) = ap applies e
law-applies x z (par_star_par_star y e f) = ap applies e
law-applies x z (par_star_star y e f) = ap applies e
law-applies x z (par_star_opt y e f) = ap applies e

-- where none applies, the expression is no left side
pub no-law : (x : Form) → applies x ≡ false → IsNoLeftSide x
no-law x e z l = true≢false (sym (law-applies x z l) ∙ e)

-- what results at a root is one expression
root-once : {x s t : Form} → AtRoot x s → AtRoot x t → s ≡ t
root-once (rests n) (rests m) = refl
root-once (rests n) (goes_on l r) = absurd (n _ l)
root-once (goes_on l r) (rests m) = absurd (m _ l)
root-once {t = t} (goes_on {x} {y} l r) (goes_on {y = z} m q) = root-once r (subst (λ v. AtRoot v t) (law-once x z y m l) q)

-- an expression becomes one expression
pub becomes-once : (x s t : Form) → Becomes x s → Becomes x t → s ≡ t
becomes-once (atom x) s t h k = h ∙ sym k
becomes-once (opt y) s t h k = root-once (subst (λ r. AtRoot r s) (ap opt (becomes-once y h.0 k.0 h.1 k.1)) h.2) k.2
becomes-once (seq y z) s t h k =
    root-once (subst (λ r. AtRoot r s) (λ i. seq (becomes-once y h.0 k.0 h.2 k.2 i) (becomes-once z h.1 k.1 h.3 k.3 i)) h.4) k.4
becomes-once (star y) s t h k = root-once (subst (λ r. AtRoot r s) (ap star (becomes-once y h.0 k.0 h.1 k.1)) h.2) k.2
becomes-once (par y z) s t h k =
    root-once (subst (λ r. AtRoot r s) (λ i. par (becomes-once y h.0 k.0 h.2 k.2 i) (becomes-once z h.1 k.1 h.3 k.3 i)) h.4) k.4
becomes-once (par_star y) s t h k = root-once (subst (λ r. AtRoot r s) (ap par_star (becomes-once y h.0 k.0 h.1 k.1)) h.2) k.2
becomes-once (or y z) s t h k =
    root-once (subst (λ r. AtRoot r s) (λ i. or (becomes-once y h.0 k.0 h.2 k.2 i) (becomes-once z h.1 k.1 h.3 k.3 i)) h.4) k.4
becomes-once (and y z) s t h k =
    root-once (subst (λ r. AtRoot r s) (λ i. and (becomes-once y h.0 k.0 h.2 k.2 i) (becomes-once z h.1 k.1 h.3 k.3 i)) h.4) k.4
becomes-once (couple y z) s t h k =
    root-once (subst (λ r. AtRoot r s) (λ i. couple (becomes-once y h.0 k.0 h.2 k.2 i) (becomes-once z h.1 k.1 h.3 k.3 i)) h.4) k.4
becomes-once (any p y) s t h k = root-once (subst (λ r. AtRoot r s) (ap (any p) (becomes-once y h.0 k.0 h.1 k.1)) h.2) k.2
becomes-once (every p y) s t h k = root-once (subst (λ r. AtRoot r s) (ap (every p) (becomes-once y h.0 k.0 h.1 k.1)) h.2) k.2
becomes-once (sync p y) s t h k = root-once (subst (λ r. AtRoot r s) (ap (sync p) (becomes-once y h.0 k.0 h.1 k.1)) h.2) k.2
becomes-once (all p y) s t h k = root-once (subst (λ r. AtRoot r s) (ap (all p) (becomes-once y h.0 k.0 h.1 k.1)) h.2) k.2
becomes-once (times n y) s t h k = root-once (subst (λ r. AtRoot r s) (ap (times n) (becomes-once y h.0 k.0 h.1 k.1)) h.2) k.2

-- no operand has a left side in it
abbrev pub OperandsSettled : Form → Type 0
OperandsSettled (atom x) = Unit {0}
OperandsSettled (opt y) = HasNoLeftSide y
OperandsSettled (seq y z) = HasNoLeftSide y × HasNoLeftSide z
OperandsSettled (star y) = HasNoLeftSide y
OperandsSettled (par y z) = HasNoLeftSide y × HasNoLeftSide z
OperandsSettled (par_star y) = HasNoLeftSide y
OperandsSettled (or y z) = HasNoLeftSide y × HasNoLeftSide z
OperandsSettled (and y z) = HasNoLeftSide y × HasNoLeftSide z
OperandsSettled (couple y z) = HasNoLeftSide y × HasNoLeftSide z
OperandsSettled (any p y) = HasNoLeftSide y
OperandsSettled (every p y) = HasNoLeftSide y
OperandsSettled (sync p y) = HasNoLeftSide y
OperandsSettled (all p y) = HasNoLeftSide y
OperandsSettled (times n y) = HasNoLeftSide y

pub operands-settled : (x : Form) → HasNoLeftSide x → OperandsSettled x
operands-settled (atom x) h = tt
operands-settled (opt y) h = h.1
operands-settled (seq y z) h = (h.1, h.2)
operands-settled (star y) h = h.1
operands-settled (par y z) h = (h.1, h.2)
operands-settled (par_star y) h = h.1
operands-settled (or y z) h = (h.1, h.2)
operands-settled (and y z) h = (h.1, h.2)
operands-settled (couple y z) h = (h.1, h.2)
operands-settled (any p y) h = h.1
operands-settled (every p y) h = h.1
operands-settled (sync p y) h = h.1
operands-settled (all p y) h = h.1
operands-settled (times n y) h = h.1

pub root-settled-self : (x : Form) → HasNoLeftSide x → IsNoLeftSide x
root-settled-self (atom x) h = h
root-settled-self (opt y) h = h.0
root-settled-self (seq y z) h = h.0
root-settled-self (star y) h = h.0
root-settled-self (par y z) h = h.0
root-settled-self (par_star y) h = h.0
root-settled-self (or y z) h = h.0
root-settled-self (and y z) h = h.0
root-settled-self (couple y z) h = h.0
root-settled-self (any p y) h = h.0
root-settled-self (every p y) h = h.0
root-settled-self (sync p y) h = h.0
root-settled-self (all p y) h = h.0
root-settled-self (times n y) h = h.0

settled-of : (x : Form) → IsNoLeftSide x → OperandsSettled x → HasNoLeftSide x
settled-of (atom x) n h = n
settled-of (opt y) n h = (n, h)
settled-of (seq y z) n h = (n, h.0, h.1)
settled-of (star y) n h = (n, h)
settled-of (par y z) n h = (n, h.0, h.1)
settled-of (par_star y) n h = (n, h)
settled-of (or y z) n h = (n, h.0, h.1)
settled-of (and y z) n h = (n, h.0, h.1)
settled-of (couple y z) n h = (n, h.0, h.1)
settled-of (any p y) n h = (n, h)
settled-of (every p y) n h = (n, h)
settled-of (sync p y) n h = (n, h)
settled-of (all p y) n h = (n, h)
settled-of (times m y) n h = (n, h)

moved : (x l z r : Form) → x ≡ l → z ≡ r → (OperandsSettled l → OperandsSettled r) → OperandsSettled x → OperandsSettled z
moved x l z r e f g h = subst OperandsSettled (sym f) (g (subst OperandsSettled e h))

-- a law keeps the operands settled
law-operands : (x z : Form) → Law x z → OperandsSettled x → OperandsSettled z
law-operands x z (opt_opt y e f) h = moved x _ z _ e f (λ g. g.1) h
law-operands x z (opt_star y e f) h = moved x _ z _ e f (λ g. g.1) h
law-operands x z (opt_par_star y e f) h = moved x _ z _ e f (λ g. g.1) h
law-operands x z (star_star y e f) h = moved x _ z _ e f (λ g. g.1) h
law-operands x z (star_opt y e f) h = moved x _ z _ e f (λ g. g.1) h
law-operands x z (star_par_star y e f) h = moved x _ z _ e f (λ g. g.1) h
law-operands x z (par_star_par_star y e f) h = moved x _ z _ e f (λ g. g.1) h
law-operands x z (par_star_star y e f) h = moved x _ z _ e f (λ g. g.1) h
law-operands x z (par_star_opt y e f) h = moved x _ z _ e f (λ g. g.1) h
law-operands x z (or_same y e f) h = moved x _ z y e f (λ g. operands-settled y g.0) h
law-operands x z (and_same y e f) h = moved x _ z y e f (λ g. operands-settled y g.0) h
law-operands x z (couple_same y e f) h = moved x _ z y e f (λ g. operands-settled y g.0) h
law-operands x z (any_unnamed p y e n f) h = moved x _ z y e f (λ g. operands-settled y g) h
law-operands x z (every_unnamed p y e n f) h = moved x _ z y e f (λ g. operands-settled y g) h
law-operands x z (sync_unnamed p y e n f) h = moved x _ z y e f (λ g. operands-settled y g) h

root-settled : {x s : Form} → AtRoot x s → OperandsSettled x → HasNoLeftSide s
root-settled {x} (rests n) h = settled-of x n h
root-settled (goes_on {x} {y} l r) h = root-settled r (law-operands x y l h)

-- no left side stands in what an expression becomes
pub becomes-settled : (x s : Form) → Becomes x s → HasNoLeftSide s
becomes-settled (atom x) s h = subst HasNoLeftSide (sym h) (no-law (atom x) refl)
becomes-settled (opt y) s h = root-settled h.2 (becomes-settled y h.0 h.1)
becomes-settled (seq y z) s h = root-settled h.4 (becomes-settled y h.0 h.2, becomes-settled z h.1 h.3)
becomes-settled (star y) s h = root-settled h.2 (becomes-settled y h.0 h.1)
becomes-settled (par y z) s h = root-settled h.4 (becomes-settled y h.0 h.2, becomes-settled z h.1 h.3)
becomes-settled (par_star y) s h = root-settled h.2 (becomes-settled y h.0 h.1)
becomes-settled (or y z) s h = root-settled h.4 (becomes-settled y h.0 h.2, becomes-settled z h.1 h.3)
becomes-settled (and y z) s h = root-settled h.4 (becomes-settled y h.0 h.2, becomes-settled z h.1 h.3)
becomes-settled (couple y z) s h = root-settled h.4 (becomes-settled y h.0 h.2, becomes-settled z h.1 h.3)
becomes-settled (any p y) s h = root-settled h.2 (becomes-settled y h.0 h.1)
becomes-settled (every p y) s h = root-settled h.2 (becomes-settled y h.0 h.1)
becomes-settled (sync p y) s h = root-settled h.2 (becomes-settled y h.0 h.1)
becomes-settled (all p y) s h = root-settled h.2 (becomes-settled y h.0 h.1)
becomes-settled (times n y) s h = root-settled h.2 (becomes-settled y h.0 h.1)

-- where no left side stands in it, an expression becomes itself
settled-stays : (x : Form) → HasNoLeftSide x → Becomes x x
settled-stays (atom x) h = refl
settled-stays (opt y) h = (y, settled-stays y h.1, rests h.0)
settled-stays (seq y z) h = (y, z, settled-stays y h.1, settled-stays z h.2, rests h.0)
settled-stays (star y) h = (y, settled-stays y h.1, rests h.0)
settled-stays (par y z) h = (y, z, settled-stays y h.1, settled-stays z h.2, rests h.0)
settled-stays (par_star y) h = (y, settled-stays y h.1, rests h.0)
settled-stays (or y z) h = (y, z, settled-stays y h.1, settled-stays z h.2, rests h.0)
settled-stays (and y z) h = (y, z, settled-stays y h.1, settled-stays z h.2, rests h.0)
settled-stays (couple y z) h = (y, z, settled-stays y h.1, settled-stays z h.2, rests h.0)
settled-stays (any p y) h = (y, settled-stays y h.1, rests h.0)
settled-stays (every p y) h = (y, settled-stays y h.1, rests h.0)
settled-stays (sync p y) h = (y, settled-stays y h.1, rests h.0)
settled-stays (all p y) h = (y, settled-stays y h.1, rests h.0)
settled-stays (times n y) h = (y, settled-stays y h.1, rests h.0)

-- what an expression becomes becomes itself
pub becomes-stays : (x s : Form) → Becomes x s → Becomes s s
becomes-stays x s h = settled-stays s (becomes-settled x s h)
