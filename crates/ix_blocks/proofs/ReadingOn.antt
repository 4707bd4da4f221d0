-- Reading a file block by block.
use Rattle.std.proofs.Common.{◌≡◌, ◌⊎◌, inl, inr, ℕ, ◌+◌, ◌*◌, ◌<◌, ◌≤◌, nat_lt, Bool, true, false, List, ◌++◌, length, take, refl, sym, ap, ◌∙◌, subst, arith, take_all}
use Rattle.std.proofs.lemmas.Bool.{ltb-true, ltb-false}
use Rattle.std.proofs.lemmas.List.{take-append-le, drop-append-le, drop_all}
use Rattle.ix_blocks.specs.FileBlocks.{block_of}
use Rattle.ix_blocks.specs.Stores.{Store}
use Rattle.ix_blocks.specs.inside.StoreCalls.{Meanwhile, TimePasses, ReadsBlock}
use Rattle.ix_blocks.specs.inside.Reading.{ReadsFront}
use Rattle.ix_blocks.proofs.Cutting.{same_before}
use Rattle.ix_blocks.proofs.Taking.{passes-join, no-time}

pub time-join : (a b c : Store) → TimePasses a b → TimePasses b c → TimePasses a c
time-join a b c first second = record {
  register = passes-join a.sent a.register b.register c.register first.register (subst (λ s. Meanwhile s b.register c.register) first.sent second.register);
  sent = second.sent ∙ first.sent;
}

pub front-none : (at : ℕ) (bytes : List ℕ) (s : Store) → ReadsFront at 0 bytes s s
front-none at bytes s = record { time = no-time s; blocks = λ n low. absurd (omega (arith, low)) }

side : (m n : ℕ) → m < n + 1 → (m < n) ⊎ (m ≡ n)
side m n h = chosen (nat_lt m n) refl
  where
    chosen : (b : Bool) → nat_lt m n ≡ b → (m < n) ⊎ (m ≡ n)
    chosen true e = inl (ltb-true m n e)
    chosen false e = inr (omega (arith, ltb-false m n e, h))

new-block : (n : ℕ) (bytes block : List ℕ) → length bytes ≡ n * 4096 → length block ≤ 4096 → block_of (bytes ++ block) n ≡ block
new-block n bytes block e few =
    ap (take 4096) (drop-append-le (n * 4096) bytes block (omega (arith, e)) ∙ ap (λ xs. xs ++ block) (drop_all (n * 4096) bytes (omega (arith, e))))
    ∙ take_all 4096 block few

pub front-more : (at n : ℕ) (bytes block : List ℕ) (a b c : Store) → length bytes ≡ n * 4096 → length block ≤ 4096 → ReadsFront at n bytes a b → TimePasses b c → ReadsBlock n at block b c → ReadsFront at (n + 1) (bytes ++ block) a c
front-more at n bytes block a b c long few front time reads =
    record {
      time = time-join a b c front.time time;
      blocks = λ k low. elim (side k n low) [
        | inl h ↦
            let m = front.blocks k h in
            record {
              moment = m.moment;
              until = m.until;
              holds = (m.holds.0, m.holds.1 ∙ sym (same_before (n * 4096) k (bytes ++ block) bytes (omega (arith, h)) (take-append-le (n * 4096) bytes block (omega (arith, long)))));
              since = passes-join a.sent m.moment b.register c.register m.since (subst (λ s. Meanwhile s b.register c.register) front.time.sent time.register);
            }
        | inr h ↦ record {
          moment = reads.moment;
          until = passes-join a.sent a.register b.register reads.moment front.time.register (subst (λ s. Meanwhile s b.register reads.moment) front.time.sent reads.until);
          holds = (reads.holds.0, ap reads.moment.blocks h ∙ reads.holds.1 ∙ sym (ap (block_of (bytes ++ block)) h ∙ new-block n bytes block long few));
          since = subst (λ s. Meanwhile s reads.moment c.register) front.time.sent reads.since;
        }
      ];
    }

pub front-fewer : (at n m : ℕ) (bytes : List ℕ) (a b : Store) → m ≤ n → ReadsFront at n bytes a b → ReadsFront at m bytes a b
front-fewer at n m bytes a b h front = record { time = front.time; blocks = λ k low. front.blocks k (omega (arith, low, h)) }
