-- Two owners are told exactly where an action can have two.
use Rattle.std.proofs.Common.{◌≡◌, ◌≢◌, ◌⊎◌, inl, inr, ℕ, ◌+◌, ◌==◌, eqb-true, eq-eqb, Bool, true, false, ◌&&◌, ◌||◌, List, [], ◌∷◌, ◌++◌, Option, Some, None, map, length, refl, sym, ap, ◌∙◌, subst, true≢false, if◌then◌else◌}
use Rattle.std.specs.Prelude.{IsSome}
use Rattle.std.specs.List.{list_any}
use Rattle.ix_words.specs.Each.{Each, no_item, item, Member, here, there}
use Rattle.ix_words.proofs.Each.{Member-either, Member-left, Member-right, Each-head, Each-tail}
use Rattle.ix_words.proofs.Canon.{Member-cases, Member-flat_map, flat_map-Member, Member-map}
use Rattle.ix_values.specs.Order.{text_eq}
use Rattle.ix_values.specs.lemmas.Order.{text_eq-decides}
use Rattle.ix_values.specs.PlainAction.{PlainAction}
use Rattle.ix_expr.specs.declared.arg.Arg.{Arg}
use Rattle.ix_expr.specs.declared.arg.Arg.TheVariants.{Fixed, Param}
use Rattle.ix_expr.specs.Form.{PlainAtom, Form, atom, opt, seq, star, par, par_star, or, and, couple, any, every, sync, all, times}
use Rattle.ix_expr.specs.Environment.{Environment, value_in, bind, HasValue, HaveValues, Matches}
use Rattle.ix_expr.specs.Meaning.{InAlphabet}
use Rattle.ix_expr.specs.Laws.{EachAtomNames}
use Rattle.ix_expr.proofs.LawsOfMeaning.{bind-own, bind-other}
use Rattle.ix_expr.proofs.Places.{have-as-many}
use Rattle.ix_lint.specs.declared.terms.Term.{Term}
use Rattle.ix_lint.specs.declared.terms.Term.TheVariants.{Value, Shared, OfFirst, OfSecond}
use Rattle.ix_lint.specs.Nodes.{Spot, spots, numbered, first, binds}
use Rattle.ix_lint.specs.Terms.{first_term, second_term, can_differ}
use Rattle.ix_lint.specs.Owners.{Held, owner_pairs, can_share, partner_at, partners, pairs_at, pairs, body, owners_for, owners}
use Rattle.ix_lint.specs.Laws.{HasTwoOwners}
use Rattle.ix_lint.proofs.Lists.{both, neither}
use Rattle.ix_lint.proofs.Unified.{valuation, unified}
use Rattle.ix_lint.proofs.Aparts.{first-member}

-- An action from values of terms

-- the arguments' values
abbrev valued : (Term → List ℕ) → (Arg → Term) → List Arg → List (List ℕ)
valued of term arguments = map (λ a. of (term a)) arguments

-- each parameter of the arguments, shared by both atoms
shared_bindings : (Term → List ℕ) → List Arg → Environment
shared_bindings of [] = []
shared_bindings of (Fixed v ∷ arguments) = shared_bindings of arguments
shared_bindings of (Param q ∷ arguments) = (q, Some (of (Shared q))) ∷ shared_bindings of arguments

shared_value : (of : Term → List ℕ) (arguments : List Arg) (q : List ℕ) → Member (Param q) arguments → value_in (shared_bindings of arguments) q ≡ Some (of (Shared q))
unfolding shared_bindings
shared_value of [] q m = elim m [ ]
shared_value of (Fixed v ∷ arguments) q m = elim (Member-cases m) [ inl same ↦ absurd (cc) | inr n ↦ shared_value of arguments q n ]
shared_value of (Param r ∷ arguments) q m = chosen (shared_value of arguments q) (text_eq r q) (text_eq-decides r q) m
  where
    chosen : (Member (Param q) arguments → value_in (shared_bindings of arguments) q ≡ Some (of (Shared q))) → (b : Bool) → ((b ≡ true → r ≡ q) × (r ≡ q → b ≡ true)) → Member (Param q) (Param r ∷ arguments) →
        (if b then Some (of (Shared r)) else value_in (shared_bindings of arguments) q) ≡ Some (of (Shared q))
    chosen later true same m = ap (λ p. Some (of (Shared p))) (same.0 refl)
    chosen later false same m = elim (Member-cases m) [
      | inl alike ↦ absurd (true≢false (sym (same.1 (cc))))
      | inr n ↦ later n
    ]

-- under f a parameter that one of the nodes binds has its own value, and each other that of e
abbrev Gives : (List ℕ → List ℕ) → Environment → List Form → Environment → Type 0
Gives own e above f = (q : List ℕ) → value_in f q ≡ (if list_any (binds q) above then Some (own q) else value_in e q)

-- one more node that binds a parameter
one_more : (own : List ℕ → List ℕ) (e f : Environment) (above : List Form) (r : List ℕ) → Gives own e above f → (q : List ℕ) →
    value_in (bind r (Some (own r)) f) q ≡ (if text_eq r q || list_any (binds q) above then Some (own q) else value_in e q)
one_more own e f above r g q = chosen (text_eq r q) (text_eq-decides r q).0
  where
    chosen : (b : Bool) → (b ≡ true → r ≡ q) → (if b then Some (own r) else value_in f q) ≡ (if b || list_any (binds q) above then Some (own q) else value_in e q)
    chosen true same = ap (λ p. Some (own p)) (same refl)
    chosen false same = g q

-- where this node is an atom, it matches the action under each environment that gives such values
abbrev Hits : (List ℕ → List ℕ) → Environment → PlainAction → List Form → Form → Type 0
Hits own e a above (atom x) = (g : Environment) → Gives own e above g → Matches x g a
Hits own e a above _ = ⊥

-- so the action is in the alphabet of an expression with such a node
hit_inside : (own : List ℕ → List ℕ) (e : Environment) (a : PlainAction) (x : Form) (above : List Form) (f : Environment) → Gives own e above f → (s : Spot) → Member s (spots above x) → Hits own e a s.above s.form → InAlphabet x f a
hit_inside own e a (atom x) above f g s here h = h f g
hit_inside own e a (atom x) above f g s (there m) h = elim m [ ]
hit_inside own e a (opt y) above f g s here h = absurd h
hit_inside own e a (opt y) above f g s (there m) h = hit_inside own e a y (opt y ∷ above) f g s m h
hit_inside own e a (seq y z) above f g s here h = absurd h
hit_inside own e a (seq y z) above f g s (there m) h = elim (Member-either (spots (seq y z ∷ above) y) (spots (seq y z ∷ above) z) m) [
  | inl l ↦ inl (hit_inside own e a y (seq y z ∷ above) f g s l h)
  | inr r ↦ inr (hit_inside own e a z (seq y z ∷ above) f g s r h)
]
hit_inside own e a (star y) above f g s here h = absurd h
hit_inside own e a (star y) above f g s (there m) h = hit_inside own e a y (star y ∷ above) f g s m h
hit_inside own e a (par y z) above f g s here h = absurd h
hit_inside own e a (par y z) above f g s (there m) h = elim (Member-either (spots (par y z ∷ above) y) (spots (par y z ∷ above) z) m) [
  | inl l ↦ inl (hit_inside own e a y (par y z ∷ above) f g s l h)
  | inr r ↦ inr (hit_inside own e a z (par y z ∷ above) f g s r h)
]
hit_inside own e a (par_star y) above f g s here h = absurd h
hit_inside own e a (par_star y) above f g s (there m) h = hit_inside own e a y (par_star y ∷ above) f g s m h
hit_inside own e a (or y z) above f g s here h = absurd h
hit_inside own e a (or y z) above f g s (there m) h = elim (Member-either (spots (or y z ∷ above) y) (spots (or y z ∷ above) z) m) [
  | inl l ↦ inl (hit_inside own e a y (or y z ∷ above) f g s l h)
  | inr r ↦ inr (hit_inside own e a z (or y z ∷ above) f g s r h)
]
hit_inside own e a (and y z) above f g s here h = absurd h
hit_inside own e a (and y z) above f g s (there m) h = elim (Member-either (spots (and y z ∷ above) y) (spots (and y z ∷ above) z) m) [
  | inl l ↦ inl (hit_inside own e a y (and y z ∷ above) f g s l h)
  | inr r ↦ inr (hit_inside own e a z (and y z ∷ above) f g s r h)
]
hit_inside own e a (couple y z) above f g s here h = absurd h
hit_inside own e a (couple y z) above f g s (there m) h = elim (Member-either (spots (couple y z ∷ above) y) (spots (couple y z ∷ above) z) m) [
  | inl l ↦ inl (hit_inside own e a y (couple y z ∷ above) f g s l h)
  | inr r ↦ inr (hit_inside own e a z (couple y z ∷ above) f g s r h)
]
hit_inside own e a (any p y) above f g s here h = absurd h
hit_inside own e a (any p y) above f g s (there m) h = (own p, hit_inside own e a y (any p y ∷ above) (bind p (Some (own p)) f) (one_more own e f above p g) s m h)
hit_inside own e a (every p y) above f g s here h = absurd h
hit_inside own e a (every p y) above f g s (there m) h = (own p, hit_inside own e a y (every p y ∷ above) (bind p (Some (own p)) f) (one_more own e f above p g) s m h)
hit_inside own e a (sync p y) above f g s here h = absurd h
hit_inside own e a (sync p y) above f g s (there m) h = (own p, hit_inside own e a y (sync p y ∷ above) (bind p (Some (own p)) f) (one_more own e f above p g) s m h)
hit_inside own e a (all p y) above f g s here h = absurd h
hit_inside own e a (all p y) above f g s (there m) h = (own p, hit_inside own e a y (all p y ∷ above) (bind p (Some (own p)) f) (one_more own e f above p g) s m h)
hit_inside own e a (times n y) above f g s here h = absurd h
hit_inside own e a (times n y) above f g s (there m) h = hit_inside own e a y (times n y ∷ above) f g s m h

-- Values of the terms of two atoms

-- the arguments of the first atom have the values of their terms
first_values : (of : Term → List ℕ) (fixed : (v : List ℕ) → of (Value v) ≡ v) (e g : Environment) (above : List Form) (arguments : List Arg) → ((q : List ℕ) → Member (Param q) arguments → value_in e q ≡ Some (of (Shared q))) → Gives (λ q. of (OfFirst q)) e above g →
    HaveValues g arguments (valued of (first_term above) arguments)
first_values of fixed e g above [] s h = tt
first_values of fixed e g above (Fixed v ∷ arguments) s h = (sym (fixed v), first_values of fixed e g above arguments (λ q m. s q (there m)) h)
first_values of fixed e g above (Param q ∷ arguments) s h =
    (h q ∙ chosen (list_any (binds q) above), first_values of fixed e g above arguments (λ r m. s r (there m)) h)
  where
    chosen : (b : Bool) → (if b then Some (of (OfFirst q)) else value_in e q) ≡ Some (of (if b then OfFirst q else Shared q))
    chosen true = refl
    chosen false = s q here

-- and those of the second the same values
second_values : (of : Term → List ℕ) (fixed : (v : List ℕ) → of (Value v) ≡ v) (e g : Environment) (above other_above : List Form) (arguments others : List Arg) → ((q : List ℕ) → Member (Param q) others → value_in e q ≡ Some (of (Shared q))) → Gives (λ q. of (OfSecond q)) e other_above g →
    length arguments ≡ length others → Each (λ q. of q.0 ≡ of q.1) (owner_pairs above arguments other_above others) → HaveValues g others (valued of (first_term above) arguments)
second_values of fixed e g above other_above [] [] s h l k = tt
second_values of fixed e g above other_above [] (x ∷ others) s h l k = absurd (cc)
second_values of fixed e g above other_above (x ∷ arguments) [] s h l k = absurd (cc)
second_values of fixed e g above other_above (x ∷ arguments) (Fixed v ∷ others) s h l k =
    (sym (fixed v) ∙ sym (Each-head k), second_values of fixed e g above other_above arguments others (λ r m. s r (there m)) h (cc) (Each-tail k))
second_values of fixed e g above other_above (x ∷ arguments) (Param q ∷ others) s h l k =
    (h q ∙ chosen (list_any (binds q) other_above) ∙ ap Some (sym (Each-head k)), second_values of fixed e g above other_above arguments others (λ r m. s r (there m)) h (cc) (Each-tail k))
  where
    chosen : (b : Bool) → (if b then Some (of (OfSecond q)) else value_in e q) ≡ Some (of (if b then OfSecond q else Shared q))
    chosen true = refl
    chosen false = s q here

-- a body with two such atoms
record SharingAtoms (p : List ℕ) (y : Form) : Type 0 where
  s_above : List Form
  s_atom : PlainAtom
  t_above : List Form
  t_atom : PlainAtom
  s_among : Member (record { above = s_above; form = atom s_atom }) (spots (all p y ∷ []) y)
  t_among : Member (record { above = t_above; form = atom t_atom }) (spots (all p y ∷ []) y)
  share : can_share p (record { above = s_above; atom = s_atom }) (record { above = t_above; atom = t_atom }) ≡ true

begins : (own : List ℕ → List ℕ) (e : Environment) (p : List ℕ) (y : Form) → Gives own e (all p y ∷ []) (bind p (Some (own p)) e)
begins own e p y q = chosen (text_eq p q) (text_eq-decides p q).0
  where
    chosen : (b : Bool) → (b ≡ true → p ≡ q) → (if b then Some (own p) else value_in e q) ≡ (if b || false then Some (own q) else value_in e q)
    chosen true same = ap (λ r. Some (own r)) (same refl)
    chosen false same = refl

two_owners : (p : List ℕ) (y : Form) → SharingAtoms p y → HasTwoOwners p y
two_owners p y h =
    let named = both (text_eq h.s_atom.name h.t_atom.name && (length h.s_atom.arguments == length h.t_atom.arguments)) (can_differ [] (owner_pairs h.s_above h.s_atom.arguments h.t_above h.t_atom.arguments) (OfFirst p, OfSecond p)) h.share in
    let same = both (text_eq h.s_atom.name h.t_atom.name) (length h.s_atom.arguments == length h.t_atom.arguments) named.0 in
    let v = valuation (owner_pairs h.s_above h.s_atom.arguments h.t_above h.t_atom.arguments) (OfFirst p, OfSecond p) named.1 in
    let e : Environment = shared_bindings v.of (h.s_atom.arguments ++ h.t_atom.arguments) in
    let a : PlainAction = record { name = h.s_atom.name; values = valued v.of (first_term h.s_above) h.s_atom.arguments } in
    record {
      action = a;
      around = e;
      one = v.of (OfFirst p);
      other = v.of (OfSecond p);
      differ = v.apart;
      owned_by_one = hit_inside (λ q. v.of (OfFirst q)) e a y (all p y ∷ []) (bind p (Some (v.of (OfFirst p))) e) (begins (λ q. v.of (OfFirst q)) e p y) (record { above = h.s_above; form = atom h.s_atom }) h.s_among
          (λ g k. (refl, first_values v.of v.fixed e g h.s_above h.s_atom.arguments (λ q m. shared_value v.of (h.s_atom.arguments ++ h.t_atom.arguments) q (Member-left m h.t_atom.arguments)) k));
      owned_by_other = hit_inside (λ q. v.of (OfSecond q)) e a y (all p y ∷ []) (bind p (Some (v.of (OfSecond p))) e) (begins (λ q. v.of (OfSecond q)) e p y) (record { above = h.t_above; form = atom h.t_atom }) h.t_among
          (λ g k. (sym ((text_eq-decides h.s_atom.name h.t_atom.name).0 same.0), second_values v.of v.fixed e g h.s_above h.t_above h.s_atom.arguments h.t_atom.arguments (λ q m. shared_value v.of (h.s_atom.arguments ++ h.t_atom.arguments) q (Member-right h.s_atom.arguments m)) k (eqb-true (length h.s_atom.arguments) (length h.t_atom.arguments) same.1) v.equal));
    }

-- From the finding to the atoms

numbered-member : {A : Type 0} (n : ℕ) (xs : List A) (node : ℕ × A) → Member node (numbered n xs) → Member node.1 xs
numbered-member n [] node m = elim m [ ]
numbered-member n (x ∷ xs) node here = here
numbered-member n (x ∷ xs) node (there m) = there (numbered-member (n + 1) xs node m)

-- an atom among the nodes that shares an action with s
record Partner (p : List ℕ) (s : Held) (above : List Form) (form : Form) : Type 0 where
  x : PlainAtom
  is : form ≡ atom x
  share : can_share p s (record { above = above; atom = x }) ≡ true

partner_is : (p : List ℕ) (s : Held) (n : ℕ) (above : List Form) (form : Form) (k : ℕ) → Member k (partner_at p s n above form) → Partner p s above form
partner_is p s n above (atom x) k m = chosen (can_share p s (record { above = above; atom = x })) refl m
  where
    chosen : (b : Bool) → can_share p s (record { above = above; atom = x }) ≡ b → Member k (if b then n ∷ [] else []) → Partner p s above (atom x)
    chosen true e m = record { x = x; is = refl; share = e }
    chosen false e m = elim m [ ]
partner_is p s n above _ k m = elim m [ ]

record Two (p : List ℕ) (others : List (ℕ × Spot)) (above : List Form) (form : Form) : Type 0 where
  x : PlainAtom
  is : form ≡ atom x
  other : ℕ × Spot
  among : Member other others
  partner : Partner p (record { above = above; atom = x }) other.1.above other.1.form

two_are : (p : List ℕ) (others : List (ℕ × Spot)) (n : ℕ) (above : List Form) (form : Form) (k : ℕ × ℕ) → Member k (pairs_at p others n above form) → Two p others above form
two_are p others n above (atom x) k m =
    let s : Held = record { above = above; atom = x } in
    let found = Member-map (λ other. (n, other)) (partners p s others) m in
    let made = Member-flat_map (λ node. partner_at p s node.0 node.1.above node.1.form) others found.1 in
    record { x = x; is = refl; other = made.0; among = made.1; partner = partner_is p s made.0.0 made.0.1.above made.0.1.form found.0 made.2 }
two_are p others n above _ k m = elim m [ ]

form_is : (s : Spot) (f : Form) (ss : List Spot) → s.form ≡ f → Member s ss → Member (record { above = s.above; form = f }) ss
form_is s f ss e m = subst (λ g. Member (record { above = s.above; form = g }) ss) e m

sharing_atoms : (n : ℕ) (p : List ℕ) (y : Form) (k : ℕ × ℕ) → Member k (pairs p (body n p y) (body n p y)) → SharingAtoms p y
sharing_atoms n p y k m =
    let nodes = body n p y in
    let one = Member-flat_map (λ node. pairs_at p nodes node.0 node.1.above node.1.form) nodes m in
    let both_are = two_are p nodes one.0.0 one.0.1.above one.0.1.form k one.2 in
    record {
      s_above = one.0.1.above;
      s_atom = both_are.x;
      t_above = both_are.other.1.above;
      t_atom = both_are.partner.x;
      s_among = form_is one.0.1 (atom both_are.x) (spots (all p y ∷ []) y) both_are.is (numbered-member (n + 1) (spots (all p y ∷ []) y) one.0 one.1);
      t_among = form_is both_are.other.1 (atom both_are.partner.x) (spots (all p y ∷ []) y) both_are.partner.is (numbered-member (n + 1) (spots (all p y ∷ []) y) both_are.other both_are.among);
      share = both_are.partner.share;
    }

found_two : (n : ℕ) (p : List ℕ) (y : Form) (found : Option (ℕ × ℕ)) → first (pairs p (body n p y) (body n p y)) ≡ found → IsSome (owners_for found) → HasTwoOwners p y
found_two n p y None e h = absurd (true≢false (sym h))
found_two n p y (Some k) e h = two_owners p y (sharing_atoms n p y k (first-member (pairs p (body n p y) (body n p y)) e))

-- two owners are there where they are told
pub owners-are-two : (n : ℕ) (p : List ℕ) (y : Form) → IsSome (owners n (all p y)) → HasTwoOwners p y
owners-are-two n p y h = found_two n p y (first (pairs p (body n p y) (body n p y))) refl h

-- From two owners to the finding

-- a node that is an atom which matches the action under an environment that gives p the value v and each parameter that no
-- node above binds the value in e
record Matching (p v : List ℕ) (e : Environment) (a : PlainAction) (nodes : List Spot) : Type 0 where
  above : List Form
  x : PlainAtom
  among : Member (record { above = above; form = atom x }) nodes
  under : Environment
  matches : Matches x under a
  shared : (q : List ℕ) → list_any (binds q) above ≡ false → value_in under q ≡ value_in e q
  own : value_in under p ≡ Some v

more_nodes : (p v : List ℕ) (e : Environment) (a : PlainAction) (nodes others : List Spot) → ((s : Spot) → Member s nodes → Member s others) → Matching p v e a nodes → Matching p v e a others
more_nodes p v e a nodes others f m = record { above = m.above; x = m.x; among = f (record { above = m.above; form = atom m.x }) m.among; under = m.under; matches = m.matches; shared = m.shared; own = m.own }

below : (s : Spot) (p v : List ℕ) (e : Environment) (a : PlainAction) (nodes : List Spot) → Matching p v e a nodes → Matching p v e a (s ∷ nodes)
below s p v e a nodes m = more_nodes p v e a nodes (s ∷ nodes) (λ t k. there k) m

one_of : (s : Spot) (p v : List ℕ) (e : Environment) (a : PlainAction) (left right : List Spot) → Matching p v e a left ⊎ Matching p v e a right → Matching p v e a (s ∷ (left ++ right))
one_of s p v e a left right (inl m) = more_nodes p v e a left (s ∷ (left ++ right)) (λ t k. there (Member-left k right)) m
one_of s p v e a left right (inr m) = more_nodes p v e a right (s ∷ (left ++ right)) (λ t k. there (Member-right left k)) m

-- nothing changes for a parameter that no node binds
still_shared : (e f : Environment) (above : List Form) (r : List ℕ) (u : List ℕ) → ((q : List ℕ) → list_any (binds q) above ≡ false → value_in f q ≡ value_in e q) →
    (q : List ℕ) → text_eq r q || list_any (binds q) above ≡ false → value_in (bind r (Some u) f) q ≡ value_in e q
still_shared e f above r u h q n =
    let k = neither (text_eq r q) (list_any (binds q) above) n in
    ap (λ b. if b then Some u else value_in f q) k.0 ∙ h q k.1

matching : (p v : List ℕ) (e : Environment) (a : PlainAction) (x : Form) (above : List Form) (f : Environment) → EachAtomNames p x → ((q : List ℕ) → list_any (binds q) above ≡ false → value_in f q ≡ value_in e q) → value_in f p ≡ Some v → InAlphabet x f a → Matching p v e a (spots above x)
matching p v e a (atom x) above f n s o h = record { above = above; x = x; among = here; under = f; matches = h; shared = s; own = o }
matching p v e a (opt y) above f n s o h = below _ p v e a _ (matching p v e a y (opt y ∷ above) f n s o h)
matching p v e a (seq y z) above f n s o h = one_of _ p v e a (spots (seq y z ∷ above) y) (spots (seq y z ∷ above) z) (elim h [
  | inl i ↦ inl (matching p v e a y (seq y z ∷ above) f n.0 s o i)
  | inr i ↦ inr (matching p v e a z (seq y z ∷ above) f n.1 s o i)
])
matching p v e a (star y) above f n s o h = below _ p v e a _ (matching p v e a y (star y ∷ above) f n s o h)
matching p v e a (par y z) above f n s o h = one_of _ p v e a (spots (par y z ∷ above) y) (spots (par y z ∷ above) z) (elim h [
  | inl i ↦ inl (matching p v e a y (par y z ∷ above) f n.0 s o i)
  | inr i ↦ inr (matching p v e a z (par y z ∷ above) f n.1 s o i)
])
matching p v e a (par_star y) above f n s o h = below _ p v e a _ (matching p v e a y (par_star y ∷ above) f n s o h)
matching p v e a (or y z) above f n s o h = one_of _ p v e a (spots (or y z ∷ above) y) (spots (or y z ∷ above) z) (elim h [
  | inl i ↦ inl (matching p v e a y (or y z ∷ above) f n.0 s o i)
  | inr i ↦ inr (matching p v e a z (or y z ∷ above) f n.1 s o i)
])
matching p v e a (and y z) above f n s o h = one_of _ p v e a (spots (and y z ∷ above) y) (spots (and y z ∷ above) z) (elim h [
  | inl i ↦ inl (matching p v e a y (and y z ∷ above) f n.0 s o i)
  | inr i ↦ inr (matching p v e a z (and y z ∷ above) f n.1 s o i)
])
matching p v e a (couple y z) above f n s o h = one_of _ p v e a (spots (couple y z ∷ above) y) (spots (couple y z ∷ above) z) (elim h [
  | inl i ↦ inl (matching p v e a y (couple y z ∷ above) f n.0 s o i)
  | inr i ↦ inr (matching p v e a z (couple y z ∷ above) f n.1 s o i)
])
matching p v e a (any q y) above f n s o h =
    below _ p v e a _ (matching p v e a y (any q y ∷ above) (bind q (Some h.0) f) n.1 (still_shared e f above q h.0 s) (bind-other p q (Some h.0) (Some v) f n.0 o) h.1)
matching p v e a (every q y) above f n s o h =
    below _ p v e a _ (matching p v e a y (every q y ∷ above) (bind q (Some h.0) f) n.1 (still_shared e f above q h.0 s) (bind-other p q (Some h.0) (Some v) f n.0 o) h.1)
matching p v e a (sync q y) above f n s o h =
    below _ p v e a _ (matching p v e a y (sync q y ∷ above) (bind q (Some h.0) f) n.1 (still_shared e f above q h.0 s) (bind-other p q (Some h.0) (Some v) f n.0 o) h.1)
matching p v e a (all q y) above f n s o h =
    below _ p v e a _ (matching p v e a y (all q y ∷ above) (bind q (Some h.0) f) n.1 (still_shared e f above q h.0 s) (bind-other p q (Some h.0) (Some v) f n.0 o) h.1)
matching p v e a (times k y) above f n s o h = below _ p v e a _ (matching p v e a y (times k y ∷ above) f n s o h)

-- a value, or nothing in its place
some_value : Option (List ℕ) → List ℕ
some_value None = []
some_value (Some v) = v

-- what the terms of two atoms under these environments stand for
abbrev stands_for : Environment → Environment → Environment → Term → List ℕ
stands_for e g h (Value v) = v
stands_for e g h (Shared q) = some_value (value_in e q)
stands_for e g h (OfFirst q) = some_value (value_in g q)
stands_for e g h (OfSecond q) = some_value (value_in h q)

first_stands : (e g h : Environment) (above : List Form) (x : Arg) (v : List ℕ) → ((q : List ℕ) → list_any (binds q) above ≡ false → value_in g q ≡ value_in e q) → HasValue g x v → stands_for e g h (first_term above x) ≡ v
unfolding some_value
first_stands e g h above (Fixed u) v s i = i
first_stands e g h above (Param q) v s i = chosen (list_any (binds q) above) (s q)
  where
    chosen : (b : Bool) → (b ≡ false → value_in g q ≡ value_in e q) → stands_for e g h (if b then OfFirst q else Shared q) ≡ v
    chosen true k = ap some_value i
    chosen false k = ap some_value (sym (k refl) ∙ i)

second_stands : (e g h : Environment) (above : List Form) (x : Arg) (v : List ℕ) → ((q : List ℕ) → list_any (binds q) above ≡ false → value_in h q ≡ value_in e q) → HasValue h x v → stands_for e g h (second_term above x) ≡ v
unfolding some_value
second_stands e g h above (Fixed u) v s i = i
second_stands e g h above (Param q) v s i = chosen (list_any (binds q) above) (s q)
  where
    chosen : (b : Bool) → (b ≡ false → value_in h q ≡ value_in e q) → stands_for e g h (if b then OfSecond q else Shared q) ≡ v
    chosen true k = ap some_value i
    chosen false k = ap some_value (sym (k refl) ∙ i)

all_equal : (e g h : Environment) (above other_above : List Form) (xs ys : List Arg) (values : List (List ℕ)) → ((q : List ℕ) → list_any (binds q) above ≡ false → value_in g q ≡ value_in e q) → ((q : List ℕ) → list_any (binds q) other_above ≡ false → value_in h q ≡ value_in e q) →
    HaveValues g xs values → HaveValues h ys values → Each (λ q. stands_for e g h q.0 ≡ stands_for e g h q.1) (owner_pairs above xs other_above ys)
all_equal e g h above other_above [] ys values s t i j = no_item
all_equal e g h above other_above (x ∷ xs) [] values s t i j = no_item
all_equal e g h above other_above (x ∷ xs) (y ∷ ys) [] s t i j = absurd i
all_equal e g h above other_above (x ∷ xs) (y ∷ ys) (v ∷ values) s t i j =
    item (first_stands e g h above x v s i.0 ∙ sym (second_stands e g h other_above y v t j.0)) (all_equal e g h above other_above xs ys values s t i.1 j.1)

different : (e g h : Environment) (p u v : List ℕ) → value_in g p ≡ Some u → value_in h p ≡ Some v → u ≢ v → stands_for e g h (OfFirst p) ≢ stands_for e g h (OfSecond p)
unfolding some_value
different e g h p u v i j n k = n (sym (ap some_value i) ∙ k ∙ ap some_value j)

-- two such atoms share the action
share_it : (p u v : List ℕ) (e : Environment) (a : PlainAction) (nodes : List Spot) → u ≢ v → (s : Matching p u e a nodes) → (t : Matching p v e a nodes) → can_share p (record { above = s.above; atom = s.x }) (record { above = t.above; atom = t.x }) ≡ true
share_it p u v e a nodes n s t =
    let named : text_eq s.x.name t.x.name ≡ true = (text_eq-decides s.x.name t.x.name).1 (s.matches.0 ∙ sym t.matches.0) in
    let long : (length s.x.arguments == length t.x.arguments) ≡ true = eq-eqb (length s.x.arguments) (length t.x.arguments) (have-as-many s.under s.x.arguments a.values s.matches.1 ∙ sym (have-as-many t.under t.x.arguments a.values t.matches.1)) in
    let fits : can_differ [] (owner_pairs s.above s.x.arguments t.above t.x.arguments) (OfFirst p, OfSecond p) ≡ true =
    unified (stands_for e s.under t.under) (λ v. refl) [] (owner_pairs s.above s.x.arguments t.above t.x.arguments) (OfFirst p, OfSecond p) no_item
    (all_equal e s.under t.under s.above t.above s.x.arguments t.x.arguments a.values s.shared t.shared s.matches.1 t.matches.1)
    (different e s.under t.under p u v s.own t.own n) in
    (λ i. named i && long i && fits i)

member-numbered : {A : Type 0} (n : ℕ) (xs : List A) {x : A} → Member x xs → (k : ℕ) × Member (k, x) (numbered n xs)
member-numbered n [] m = elim m [ ]
member-numbered n (x ∷ xs) here = (n, here)
member-numbered n (y ∷ xs) (there m) = let h = member-numbered (n + 1) xs m in (h.0, there h.1)

some_first : (found : List (ℕ × ℕ)) {k : ℕ × ℕ} → Member k found → IsSome (owners_for (first found))
some_first [] m = elim m [ ]
some_first (k ∷ found) m = refl

map-member : {A B : Type 0} (f : A → B) (xs : List A) {x : A} → Member x xs → Member (f x) (map f xs)
map-member f [] m = elim m [ ]
map-member f (x ∷ xs) here = here
map-member f (y ∷ xs) (there m) = there (map-member f xs m)

partner_there : (p : List ℕ) (s : Held) (n : ℕ) (above : List Form) (x : PlainAtom) → can_share p s (record { above = above; atom = x }) ≡ true → Member n (partner_at p s n above (atom x))
partner_there p s n above x e = subst (λ b. Member n (if b then n ∷ [] else [])) (sym e) here

told_two : (n : ℕ) (p u v : List ℕ) (y : Form) (e : Environment) (a : PlainAction) → u ≢ v → Matching p u e a (spots (all p y ∷ []) y) → Matching p v e a (spots (all p y ∷ []) y) → IsSome (owners n (all p y))
told_two n p u v y e a d s t =
    let nodes = body n p y in
    let held : Held = record { above = s.above; atom = s.x } in
    let i = member-numbered (n + 1) (spots (all p y ∷ []) y) s.among in
    let j = member-numbered (n + 1) (spots (all p y ∷ []) y) t.among in
    let found = flat_map-Member (λ node. partner_at p held node.0 node.1.above node.1.form) j.1 (partner_there p held j.0 t.above t.x (share_it p u v e a (spots (all p y ∷ []) y) d s t)) in
    let pair = map-member (λ other. (i.0, other)) (partners p held nodes) found in
    some_first (pairs p nodes nodes) (flat_map-Member (λ node. pairs_at p nodes node.0 node.1.above node.1.form) i.1 pair)

-- two owners are told where they are there, if each atom names the parameter
pub two-are-owners : (n : ℕ) (p : List ℕ) (y : Form) → EachAtomNames p y → HasTwoOwners p y → IsSome (owners n (all p y))
two-are-owners n p y names h =
    told_two n p h.one h.other y h.around h.action h.differ
    (matching p h.one h.around h.action y (all p y ∷ []) (bind p (Some h.one) h.around) names (λ q k. unbound q h.one k) (bind-own p (Some h.one) h.around) h.owned_by_one)
    (matching p h.other h.around h.action y (all p y ∷ []) (bind p (Some h.other) h.around) names (λ q k. unbound q h.other k) (bind-own p (Some h.other) h.around) h.owned_by_other)
  where
    unbound : (q v : List ℕ) → text_eq p q || false ≡ false → value_in (bind p (Some v) h.around) q ≡ value_in h.around q
    unbound q v k = ap (λ b. if b then Some v else value_in h.around q) (neither (text_eq p q) false k).0
