-- What it comes to that an engine takes the actions of a journal as its history, or doesn't.
use Rattle.std.proofs.Common.{◌≡◌, ℕ, ◌+◌, ◌-◌, ◌<◌, List, [], ◌∷◌, ◌++◌, length, take, sym, ◌∙◌, ap, subst, arith, inl, inr, length-append}
use Rattle.std.proofs.Math.Seq.{take-append_seam, take-append-add}
use Rattle.std.proofs.lemmas.Bool.{cases_lt}
use Rattle.std.proofs.lemmas.List.{take_all, take-append-le}
use Rattle.ix_values.specs.PlainAction.{PlainAction, Word}
use Rattle.ix_journal.specs.Entries.{AreFew}
use Rattle.ix_journal.specs.Recovery.{KeepsRecords, unfinished, unopened, ready}
use Rattle.ix_journal.specs.declared.entries.Entry.{Entry}
use Rattle.ix_expr.specs.Form.{Form}
use Rattle.ix_expr.specs.Meaning.{IsPartial}
use Rattle.ix_can.specs.TreeOf.{tree_size}
use Rattle.ix_engine.specs.Histories.{AreAllowed, none, more, IsRefused}
use Rattle.ix_engine.specs.declared.faults.PrepareFault.TheVariants.{NotPartial, Over}
use Rattle.ix_manager.specs.Images.{IsWithin, EachPrefixIsWithin}
use Rattle.ix_manager.specs.Starts.{IsReached, IsNoWord, IsHeavy}

-- the records that a file keeps aren't too many
pub few_kept : (file : List ℕ) (entries : List Entry) → KeepsRecords file entries → AreFew entries
few_kept file _ (unfinished _ is) = record { actions = omega arith; boots = omega arith }
few_kept file _ (unopened _ text is) = record { actions = omega arith; boots = omega arith }
few_kept file entries (ready _ text _ gate journal) = journal.closes.few

-- the empty word's only prefix
pub none_within : (x : Form) (limit : ℕ) → IsWithin x limit [] → EachPrefixIsWithin x limit []
none_within x limit within count = subst (IsWithin x limit) (sym (take_all count [] (omega arith))) within

-- a word within the limit, each shorter prefix of which is too
prefixes_more : (x : Form) (limit : ℕ) (w : Word) (a : PlainAction) → EachPrefixIsWithin x limit w → IsWithin x limit (w ++ a ∷ [])
    → EachPrefixIsWithin x limit (w ++ a ∷ [])
prefixes_more x limit w a before here count = elim (cases_lt (length w) count) [
  | inl behind ↦
      let long = length-append w (a ∷ []) in
      subst (IsWithin x limit) (sym (take_all count (w ++ a ∷ []) (omega (arith, long, behind)))) here
  | inr within ↦ subst (IsWithin x limit) (sym (take-append-le count w (a ∷ []) within)) (before count)
]

-- a word each action of which is allowed
pub each_within : (x : Form) (limit : ℕ) (w : Word) → IsWithin x limit [] → AreAllowed x limit w → EachPrefixIsWithin x limit w
each_within x limit _ initial none = none_within x limit initial
each_within x limit _ initial (more {before} {a} allowed last) =
    prefixes_more x limit before a (each_within x limit before initial allowed)
    (record { partial = last.permitted; size = last.within })

module _ (x : Form) (limit : ℕ) (w before : Word) (a : PlainAction) (behind : Word) (number : ℕ)
    (parts : w ≡ before ++ a ∷ behind) (place : number ≡ length before + 1) (each : EachPrefixIsWithin x limit before) where
  front : take (number - 1) w ≡ before
  front =
      let less : number - 1 ≡ length before = omega (arith, place) in
      ap (λ n. take n w) less ∙ ap (take (length before)) parts ∙ take-append_seam before (a ∷ behind)

  whole : take number w ≡ before ++ a ∷ []
  whole = ap (λ n. take n w) place ∙ ap (take (length before + 1)) parts ∙ take-append-add before (a ∷ behind) 1

  pub longer : length before < length w
  longer =
      let parted = ap (λ (v : Word). length v) parts in
      let count = length-append before (a ∷ behind) in
      omega (arith, parted, count)

  reached : IsReached x limit w number
  reached = record {
    first = omega (arith, place);
    last = let more_of = longer in omega (arith, place, more_of);
    before = subst (EachPrefixIsWithin x limit) (sym front) each;
  }

  -- the first action that isn't allowed isn't permitted
  pub no_word : IsRefused x limit before a NotPartial → IsNoWord x limit w number
  no_word refused = record {
    reached = reached;
    not_partial = λ partial. refused (subst (IsPartial x []) whole partial);
  }

  -- or its tree is too large
  pub heavy : (l : ℕ) → IsRefused x limit before a (Over l) → IsHeavy x limit w number
  heavy l refused = record {
    reached = reached;
    partial = subst (IsPartial x []) (sym whole) refused.1;
    above = subst (λ (v : Word). limit < tree_size x v) (sym whole) refused.3;
  }
