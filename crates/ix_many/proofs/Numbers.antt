-- Streams and their numbers: places that are filled, freed and left as they are.
use Rattle.std.proofs.Common.{◌≡◌, ℕ, zero, suc, ℤ, [], ◌∷◌, ◌++◌, None, Some, get_or, set, refl, sym, ap, subst, ◌∙◌}
use Rattle.std.specs.declared.option.Option.{Option}
use Rattle.ix_outside.specs.declared.event.EventKind.{EventKind}
use Rattle.ix_outside.specs.declared.event.EventKind.TheVariants.{Bytes, Closed, End}
use Rattle.ix_many.specs.inside.Streams.{ComesOn, ComesOnly, IsFree, KeepsOthers, KeepsStreams, Streams}

-- one more free place
pub free_more : (streams : Streams) → IsFree streams → IsFree (streams ++ None ∷ [])
free_more [] free zero = refl
free_more [] free (suc place) = refl
free_more (first ∷ streams) free zero = free 0
free_more (first ∷ streams) free (suc place) = free_more streams (λ p. free (suc p)) place

-- a free place is filled
fills : (streams : Streams) (at : ℕ) (slot : Option ℤ) → get_or streams at None ≡ None → KeepsStreams streams (set streams at slot)
fills [] at slot free place stream there = there
fills (first ∷ streams) zero slot free zero stream there = absurd (let e : None ≡ Some stream = sym free ∙ there in cc)
fills (first ∷ streams) zero slot free (suc place) stream there = there
fills (first ∷ streams) (suc at) slot free zero stream there = there
fills (first ∷ streams) (suc at) slot free (suc place) stream there = fills streams at slot free place stream there

-- the same of a list that has kept its streams up to now
pub fills_more : (old mid : Streams) (at : ℕ) (slot : Option ℤ) → KeepsStreams old mid → get_or mid at None ≡ None
    → KeepsStreams old (set mid at slot)
fills_more old mid at slot keeps free place stream there = fills mid at slot free place stream (keeps place stream there)

-- a place is freed
frees : (streams : Streams) (at : ℕ) → KeepsOthers at streams (set streams at None)
frees [] at place stream other there = there
frees (first ∷ streams) zero zero stream other there = absurd (other refl)
frees (first ∷ streams) zero (suc place) stream other there = there
frees (first ∷ streams) (suc at) zero stream other there = there
frees (first ∷ streams) (suc at) (suc place) stream other there =
    frees streams at place stream (λ same. other (ap (λ k. suc k) same)) there

-- and is free then
is_freed : (streams : Streams) (at : ℕ) → get_or (set streams at None) at None ≡ None
is_freed [] at = refl
is_freed (first ∷ streams) zero = refl
is_freed (first ∷ streams) (suc at) = is_freed streams at

-- what came on a number, where each stream had kept its own up to then
pub comes_only : (place : ℕ) (kind : EventKind) (old mid new : Streams)
    → KeepsStreams old mid → ComesOn place (Some kind) mid new → ComesOnly place kind old new
comes_only place (Bytes count) old mid new keeps came = (subst (λ (l : Streams). KeepsStreams old l) (sym came.0) keeps, came.1)
comes_only place Closed old mid new keeps came = (
  subst (λ (l : Streams). KeepsOthers place old l) (sym came) (λ p s other there. frees mid place p s other (keeps p s there)),
  subst (λ (l : Streams). get_or l place None ≡ None) (sym came) (is_freed mid place),
)
comes_only place End old mid new keeps came = absurd came
