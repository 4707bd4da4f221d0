-- What is prepared follows the engine and is permitted, and what is refused for another cause than memory isn't.
use Rattle.std.proofs.Common.{◌≡◌, ◌↔◌, ℕ, ◌<◌, ◌≤◌, length, [], IsTrue, OnOk, Ok, Err, refl, sym, subst, true≢false, arith}
use Rattle.std.specs.Prelude.{Result, is_ok}
use Rattle.ix_values.specs.PlainAction.{PlainAction}
use Rattle.ix_expr.specs.FormFaults.{Fits}
use Rattle.ix_expr.specs.Meaning.{IsPartial}
use Rattle.ix_tree.specs.Plain.{Plain}
use Rattle.ix_tree.specs.Size.{size_of}
use Rattle.ix_engine.specs.declared.next.Next.{Next}
use Rattle.ix_engine.specs.declared.faults.PrepareFault.{PrepareFault}
use Rattle.ix_engine.specs.declared.faults.PrepareFault.TheVariants.{NotPartial, Full, Over, Memory}
use Rattle.ix_can.specs.TreeOf.{tree_size}
use Rattle.ix_engine.specs.inside.Engine.{EngineState, Allows, IsTreeAfter, extended_by}
use Rattle.ix_engine.specs.inside.Extending.{Extends}
use Rattle.ix_engine.proofs.Trees.{partial_live}

-- an extended_by history's tree, with the action
pub follows : (s : EngineState) (a : PlainAction) (t : Plain) → Fits s.form [] → Extends s.form s.limit s.history a (Ok t) → IsTreeAfter s a t
follows s a t fits facts = record {
  room = facts.1.room;
  tree = facts.0;
  live = partial_live s.form (extended_by s a) t fits facts.0 facts.1.permitted;
  within = subst (λ (u : Plain). size_of u ≤ s.limit) (sym facts.0) facts.1.within;
}

module _ (s : EngineState) (a : PlainAction) where
  pub judged : (r : Result Next PrepareFault)
      → OnOk r (Allows s a)
      → ((r ≡ Err NotPartial) ↔ ¬ IsPartial s.form [] (extended_by s a))
      → ((r ≡ Err Full) ↔ (IsPartial s.form [] (extended_by s a) × (length s.history ≡ 1000000)))
      → ((l : ℕ) → r ≡ Err (Over l) → (l ≡ s.limit) × IsPartial s.form [] (extended_by s a) × (length s.history < 1000000) × (s.limit < tree_size s.form (extended_by s a)))
      → ¬ (r ≡ Err Memory)
      → IsTrue (is_ok r) ↔ Allows s a
  judged (Ok next) p not_partial full over memory = (λ h. p, λ h. refl)
  judged (Err NotPartial) p not_partial full over memory = (λ h. absurd (true≢false (sym h)), λ h. absurd (not_partial.0 refl h.permitted))
  judged (Err Full) p not_partial full over memory = (λ h. absurd (true≢false (sym h)), λ h. let e = (full.0 refl).1 in let l = h.room in absurd (omega arith))
  judged (Err (Over l)) p not_partial full over memory = (λ h. absurd (true≢false (sym h)), λ h. let e = (over l refl).3 in let w = h.within in absurd (omega arith))
  judged (Err Memory) p not_partial full over memory = absurd (memory refl)
