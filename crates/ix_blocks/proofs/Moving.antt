-- What comes to a register keeps its file, or puts its head at a newer revision.
use Rattle.std.proofs.Common.{◌≡◌, ◌⊎◌, inl, inr, ℕ, ◌<◌, ◌≤◌, Bool, true, false, if◌then◌else◌, List, [], ◌∷◌, refl, sym, ap, ◌∙◌, subst, arith}
use Rattle.ix_blocks.specs.Register.{Register, Transaction, fits, changed, apply}
use Rattle.ix_blocks.specs.declared.claim.Head.{Head}
use Rattle.ix_blocks.specs.FileBlocks.{HoldsFile}
use Rattle.ix_blocks.specs.Stores.{Arrival, on_these, on_others, arrive, after_arrivals}
use Rattle.ix_blocks.specs.inside.StoreCalls.{Meanwhile}

-- the file's keys are the same
pub record Keeps (before after : Register) : Type 0 where
  pub revision : after.revision ≡ before.revision
  pub head : after.head ≡ before.head
  pub blocks : after.blocks ≡ before.blocks

pub record Moves (before after : Register) : Type 0 where
  pub file : Keeps before after ⊎ (before.newest < after.revision)
  pub newest : before.newest ≤ after.newest
  pub bound : after.revision ≤ after.newest

keeps-itself : (r : Register) → Keeps r r
keeps-itself r = record { revision = refl; head = refl; blocks = refl }

keeps-join : (a b c : Register) → Keeps a b → Keeps b c → Keeps a c
keeps-join a b c first second = record {
  revision = second.revision ∙ first.revision;
  head = second.head ∙ first.head;
  blocks = second.blocks ∙ first.blocks;
}

pub moves-none : (r : Register) → r.revision ≤ r.newest → Moves r r
moves-none r h = record { file = inl (keeps-itself r); newest = omega arith; bound = h }

pub moves-join : (a b c : Register) → Moves a b → Moves b c → Moves a c
moves-join a b c first second =
    record {
      file = chosen first.file second.file;
      newest = omega (arith, first.newest, second.newest);
      bound = second.bound;
    }
  where
    chosen : Keeps a b ⊎ (a.newest < b.revision) → Keeps b c ⊎ (b.newest < c.revision) → Keeps a c ⊎ (a.newest < c.revision)
    chosen (inl k) (inl l) = inl (keeps-join a b c k l)
    chosen (inl k) (inr l) = inr (omega (arith, l, first.newest))
    chosen (inr k) (inl l) = inr (omega (arith, k, l.revision))
    chosen (inr k) (inr l) = inr (omega (arith, k, l, first.bound))

pub apply-moves : (t : Transaction) (r : Register) → r.revision ≤ r.newest → Moves r (apply t r)
apply-moves t r h = chosen (fits t r)
  where
    chosen : (b : Bool) → Moves r (if b then changed t r else r)
    chosen true = record { file = inr (omega arith); newest = omega arith; bound = omega arith }
    chosen false = moves-none r h

arrive-moves : (a : Arrival) (r : Register) → r.revision ≤ r.newest → Moves r (arrive r a)
arrive-moves (on_these t) r h = apply-moves t r h
arrive-moves on_others r h =
    record { file = inl (record { revision = refl; head = refl; blocks = refl }); newest = omega arith; bound = omega (arith, h) }

arrivals-move : (arrivals : List Arrival) (r : Register) → r.revision ≤ r.newest → Moves r (after_arrivals arrivals r)
arrivals-move [] r h = moves-none r h
arrivals-move (a ∷ arrivals) r h =
    let one = arrive-moves a r h in
    moves-join r (arrive r a) _ one (arrivals-move arrivals (arrive r a) one.bound)

pub passes-move : (sent : List Transaction) (before after : Register) → before.revision ≤ before.newest → Meanwhile sent before after → Moves before after
passes-move sent before after h p = subst (Moves before) (sym p.makes) (arrivals-move p.arrivals before h)

-- at the same revision the file's keys are the same
pub kept-at : (before after : Register) → before.revision ≤ before.newest → Moves before after → after.revision ≡ before.revision → Keeps before after
kept-at before after h m e = chosen m.file
  where
    chosen : Keeps before after ⊎ (before.newest < after.revision) → Keeps before after
    chosen (inl k) = k
    chosen (inr l) = absurd (omega (arith, l, h, e))

pub keeps-holds : (file : List ℕ) (before after : Register) → Keeps before after → HoldsFile file before → HoldsFile file after
keeps-holds file before after k h =
    record {
      length = ap (λ (x : Head). x.length) k.head ∙ h.length;
      blocks = λ n low. ap (λ (f : ℕ → List ℕ). f n) k.blocks ∙ h.blocks n low;
    }
