-- A file has one kind at most.
use Rattle.std.proofs.Common.{◌≡◌, ℕ, List, [], ◌∷◌, ◌++◌, length, drop, Some, refl, sym, ◌∙◌, ap, arith, inl}
use Rattle.std.proofs.Common.{inr}
use Rattle.std.proofs.lemmas.List.{length-append}
use Rattle.std.specs.Prelude.{slice_get}
use Rattle.ix_journal.specs.Format.{header}
use Rattle.ix_journal.specs.Kinds.{HasHeader, IsUnfinished, IsUnopened, IsReady, Kind, unfinished, unopened}
use Rattle.ix_journal.specs.Kinds.{foreign, ready, HasKind}
use Rattle.ix_journal.specs.Laws.{OneKind}
use Rattle.ix_journal.proofs.HeaderFronts.{header-apart}
use Rattle.ix_journal.proofs.KindLemmas.{cons_head, cons_tail, some_same}

-- a file with a header begins with its head gate
head_of : (bytes : List ℕ) (head : ℕ) (text behind : List ℕ) → HasHeader bytes head text behind
    → slice_get bytes 0 ≡ Some head
head_of bytes head text behind w = ap (λ (b : List ℕ). slice_get b 0) w.spells

-- a file with a header and another head gate than 00 isn't unfinished
begun : (bytes : List ℕ) (head : ℕ) (text behind : List ℕ) → HasHeader bytes head text behind
    → (head ≡ 0 → ⊥) → IsUnfinished bytes → ⊥
begun bytes head text behind w started (inl short) =
    omega (arith, ap length w.spells, length-append (header w.version text) behind)
begun bytes head text behind w started (inr is_zero) =
    started (some_same head 0 (sym (head_of bytes head text behind w) ∙ is_zero))

-- a file has one head gate and one header
pub same_header : (bytes : List ℕ) (head other : ℕ) (x y r s : List ℕ) → HasHeader bytes head x r
    → HasHeader bytes other y s → (head ≡ other) × (x ≡ y)
same_header bytes head other x y r s v w =
    let e : head ∷ header v.version x ++ r ≡ other ∷ header w.version y ++ s = sym v.spells ∙ w.spells in
    (cons_head _ _ _ _ e, (header-apart v.version w.version x y r s v.short w.short (cons_tail _ _ _ _ e)).0)

module _ (bytes : List ℕ) where
  unopened_begun : (text : List ℕ) → IsUnopened bytes text → IsUnfinished bytes → ⊥
  unopened_begun text u h = begun bytes u.head text (u.gate ∷ []) u.header u.finished h

  ready_begun : (text : List ℕ) (gate : ℕ) → IsReady bytes text gate → IsUnfinished bytes → ⊥
  ready_begun text gate w h = begun bytes 165 text (drop gate bytes) w.header (λ e. absurd (omega arith)) h

  unopened_not_ready : (x y : List ℕ) (gate : ℕ) → IsUnopened bytes x → IsReady bytes y gate → ⊥
  unopened_not_ready x y gate u w =
      u.unopened (same_header bytes u.head 165 x y (u.gate ∷ []) (drop gate bytes) u.header w.header).0

  unopened_same : (x y : List ℕ) → IsUnopened bytes x → IsUnopened bytes y → x ≡ y
  unopened_same x y u v =
      (same_header bytes u.head v.head x y (u.gate ∷ []) (v.gate ∷ []) u.header v.header).1

  pub ready_same : (x y : List ℕ) (g h : ℕ) → IsReady bytes x g → IsReady bytes y h → (x ≡ y) × (g ≡ h)
  ready_same x y g h v w =
      let same = (same_header bytes 165 165 x y (drop g bytes) (drop h bytes) v.header w.header).1 in
      let place_x = v.place in
      let place_y = w.place in
      (same, omega (arith, ap length same))

  foreign_not_unopened : (text : List ℕ) → HasKind bytes foreign → IsUnopened bytes text → ⊥
  foreign_not_unopened text (inl lacks) u = lacks.none u.head text (u.gate ∷ []) u.header
  foreign_not_unopened text (inr lacks) u = lacks.no_unopened text u

  foreign_not_ready : (text : List ℕ) (gate : ℕ) → HasKind bytes foreign → IsReady bytes text gate → ⊥
  foreign_not_ready text gate (inl lacks) w = lacks.none 165 text (drop gate bytes) w.header
  foreign_not_ready text gate (inr lacks) w = lacks.closed (head_of bytes 165 text (drop gate bytes) w.header)

  foreign_begun : HasKind bytes foreign → IsUnfinished bytes → ⊥
  foreign_begun (inl lacks) h = lacks.finished h
  foreign_begun (inr lacks) h = lacks.finished h

  kinds_same : (x y : Kind) → HasKind bytes x → HasKind bytes y → x ≡ y
  kinds_same unfinished unfinished v w = refl
  kinds_same unfinished (unopened y) v w = absurd (unopened_begun y w v)
  kinds_same unfinished foreign v w = absurd (foreign_begun w v)
  kinds_same unfinished (ready y h) v w = absurd (ready_begun y h w v)
  kinds_same (unopened x) unfinished v w = absurd (unopened_begun x v w)
  kinds_same (unopened x) (unopened y) v w = ap unopened (unopened_same x y v w)
  kinds_same (unopened x) foreign v w = absurd (foreign_not_unopened x w v)
  kinds_same (unopened x) (ready y h) v w = absurd (unopened_not_ready x y h v w)
  kinds_same foreign unfinished v w = absurd (foreign_begun v w)
  kinds_same foreign (unopened y) v w = absurd (foreign_not_unopened y v w)
  kinds_same foreign foreign v w = refl
  kinds_same foreign (ready y h) v w = absurd (foreign_not_ready y h v w)
  kinds_same (ready x g) unfinished v w = absurd (ready_begun x g v w)
  kinds_same (ready x g) (unopened y) v w = absurd (unopened_not_ready y x g w v)
  kinds_same (ready x g) foreign v w = absurd (foreign_not_ready x g w v)
  kinds_same (ready x g) (ready y h) v w = let same =
      ready_same x y g h v w in (λ i. ready (same.0 i) (same.1 i))

pub one_kind : OneKind
one_kind bytes x y v w = kinds_same bytes x y v w
