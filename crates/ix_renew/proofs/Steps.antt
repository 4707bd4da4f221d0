-- What a step leads to, by the word before it.
use Rattle.std.proofs.Common.{◌≡◌, ℕ, ◌≤◌, true, false, [], ◌∷◌, ◌++◌, Ok, Err, sym, ◌∙◌, ap, subst, true≢false, arith}
use Rattle.ix_values.specs.PlainAction.{PlainAction, Word}
use Rattle.ix_expr.specs.Environment.{Environment}
use Rattle.ix_tree.specs.Plain.{Plain, is_dead}
use Rattle.ix_tree.specs.Size.{size_of}
use Rattle.ix_can.specs.Laws.{IsProper}
use Rattle.ix_can.specs.TreeOf.{tree_of}
use Rattle.ix_can.proofs.Proper.{proper}
use Rattle.ix_step.specs.inside.Builds.{Builds}
use Rattle.ix_step.specs.declared.fault.BuildFault.TheVariants.{Over}
use Rattle.ix_engine.proofs.Trees.{partial_live, live_partial}
use Rattle.ix_renew.specs.declared.rules.Rules.{Rules}
use Rattle.ix_renew.specs.inside.Walking.{CanWalk, IsSteppable, IsExtended, MayStand, rules_form}
use Rattle.ix_renew.proofs.Alike.{fits_of}

-- the tree of a word is proper
pub steppable_proper : (r : Rules) (t : Plain) → IsSteppable r t → IsProper (rules_form r) t
steppable_proper r t at = subst (IsProper (rules_form r)) (sym at.tree) (proper (rules_form r) [] at.word)

module _ (r : Rules) (ready : CanWalk r) (t : Plain) (a : PlainAction) where
  -- the same in the environment of the rules
  here : (word : Word) → t ≡ tree_of (rules_form r) [] word → t ≡ tree_of (rules_form r) r.env.now word
  here word is = is ∙ ap (λ (e : Environment). tree_of (rules_form r) e word) (sym ready.empty)

  back : (word : Word) → tree_of (rules_form r) r.env.now (word ++ a ∷ []) ≡ tree_of (rules_form r) [] (word ++ a ∷ [])
  back word = ap (λ (e : Environment). tree_of (rules_form r) e (word ++ a ∷ [])) ready.empty

  module _ (next : Plain) (told : (word : Word) → t ≡ tree_of (rules_form r) r.env.now word → Builds r.limit (tree_of (rules_form r) r.env.now (word ++ a ∷ [])) (Ok next)) where
    next_is : (word : Word) → t ≡ tree_of (rules_form r) [] word → next ≡ tree_of (rules_form r) [] (word ++ a ∷ [])
    next_is word is = (told word (here word is)).0 ∙ back word

    -- the moved tree is dead
    pub dead_next : is_dead next ≡ true → (word : Word) → t ≡ tree_of (rules_form r) [] word → MayStand r word a → ⊥
    dead_next dead word is may =
        true≢false (sym dead ∙ partial_live (rules_form r) (word ++ a ∷ []) next (fits_of (rules_form r) ready.formed) (next_is word is) may.permitted)

    -- it is live
    pub live_extended : is_dead next ≡ false → (word : Word) → t ≡ tree_of (rules_form r) [] word → IsExtended r word a next
    live_extended live word is = record {
      tree = next_is word is;
      permitted = live_partial (rules_form r) (word ++ a ∷ []) next (fits_of (rules_form r) ready.formed) (next_is word is) live;
    }

    pub live_steppable : IsSteppable r t → IsSteppable r next
    live_steppable at = record {
      word = at.word ++ a ∷ [];
      tree = next_is at.word at.tree;
      small =
          let both = told at.word (here at.word at.tree) in
          subst (λ (s : Plain). size_of s ≤ r.limit) (sym both.0) both.1;
    }

  -- it is above the limit
  pub over_next : (l : ℕ) → ((word : Word) → t ≡ tree_of (rules_form r) r.env.now word → Builds r.limit (tree_of (rules_form r) r.env.now (word ++ a ∷ [])) (Err (Over l)))
      → (word : Word) → t ≡ tree_of (rules_form r) [] word → MayStand r word a → ⊥
  over_next l told word is may =
      let above = (told word (here word is)).1 in
      let within = may.within in
      let same = ap size_of (back word) in
      omega (arith, above, within, same)
