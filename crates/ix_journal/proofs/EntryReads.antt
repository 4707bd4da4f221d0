-- What a text says that is read word by word.
use Rattle.std.proofs.Common.{◌≡◌, ◌≢◌, ℕ, ◌^◌, ◌≤◌, List, ◌∷◌, ◌++◌, Option, Some, None, refl, sym, ◌∙◌, codes, decimal, arith}
use Rattle.std.proofs.lemmas.List.{append-nil}
use Rattle.ix_lines.proofs.NumberCuts.{cut_same, decimal-plain, some_same}
use Rattle.ix_lines.specs.Numbers.{IsNumber}
use Rattle.ix_lines.specs.inside.WordsBehind.{behind_word, HasNoSpace}
use Rattle.ix_values.specs.Faults.{IsActionText}
use Rattle.ix_values.specs.Tickets.{IsTicketText}
use Rattle.ix_journal.specs.declared.entries.Entry.{Entry}
use Rattle.ix_journal.specs.declared.entries.Entry.TheVariants as entry
use Rattle.ix_journal.specs.inside.Reading.{IsText, SaysEntry}
use Rattle.ix_journal.proofs.EntryTexts.{first_word, later_text, cut-of, first-plain, boot_apart, renewed_apart}

-- the words of a record's text are the record's
words-of : (word : List ℕ) (later : Option (List ℕ)) → HasNoSpace word → (e : Entry)
    → SaysEntry (word ++ behind_word later) e → (word ≡ first_word e) × (later ≡ later_text e)
words-of word later plain e w =
    cut_same word (first_word e) later (later_text e) plain (first-plain e w.valid) (w.same ∙ cut-of e)

-- a text without a space that is no action's is no record's
pub no_plain : (text : List ℕ) → HasNoSpace text → (IsActionText text → ⊥) → IsText text → ⊥
no_plain text plain none (e, w) = by e w (words-of text None plain e
    (record { valid = w.valid; same = append-nil text ∙ w.same }))
  where
    by : (e : Entry) → SaysEntry text e → (text ≡ first_word e) × (None ≡ later_text e) → ⊥
    by (entry.Renewed actions boots) w words = absurd cc
    by (entry.Boot number) w words = absurd cc
    by (entry.Spent ticket action) w words = absurd cc
    by (entry.Plain action) w words =
        none (record { action = action; valid = w.valid; same = words.0 })

-- two words of which the first is `boot` and the second no number are no record's
pub no_boot : (word later : List ℕ) → HasNoSpace word → word ≡ codes "boot"
    → ((number : ℕ) → IsNumber (2 ^ 64) later number → ⊥) → IsText (word ++ 32 ∷ later) → ⊥
no_boot word later plain is none (e, w) = by e w (words-of word (Some later) plain e w)
  where
    by : (e : Entry) → SaysEntry (word ++ 32 ∷ later) e → (word ≡ first_word e) × (Some later ≡ later_text e) → ⊥
    by (entry.Renewed actions boots) w words = absurd (let e = sym is ∙ words.0 in cc)
    by (entry.Boot number) w words =
        none number (record { same = some_same words.1; fits = w.valid })
    by (entry.Spent ticket action) w words = boot_apart ticket (sym is ∙ words.0)
    by (entry.Plain action) w words = absurd cc

-- a text behind `renewed` that is a record's is two numbers
pub renewed_words : (later word : List ℕ) (last : Option (List ℕ)) → later ≡ word ++ behind_word last
    → HasNoSpace word → IsText (codes "renewed " ++ later)
    → (actions boots : ℕ) × (actions ≤ 2 ^ 63) × (boots ≤ 2 ^ 63) × (word ≡ decimal actions)
    × (last ≡ Some (decimal boots))
renewed_words later word last cut plain (e, w) =
    by e w (words-of (codes "renewed") (Some later) refl e w)
  where
    by : (e : Entry) → SaysEntry (codes "renewed " ++ later) e
        → (codes "renewed" ≡ first_word e) × (Some later ≡ later_text e)
        → (actions boots : ℕ) × (actions ≤ 2 ^ 63) × (boots ≤ 2 ^ 63) × (word ≡ decimal actions)
        × (last ≡ Some (decimal boots))
    by (entry.Renewed actions boots) w words =
        let same = cut_same word (decimal actions) last (Some (decimal boots)) plain
        (decimal-plain actions (omega (arith, w.valid.0))) (sym cut ∙ some_same words.1) in
        (actions, boots, w.valid.0, w.valid.1, same.0, same.1)
    by (entry.Boot number) w words = absurd cc
    by (entry.Spent ticket action) w words = absurd (renewed_apart ticket words.0)
    by (entry.Plain action) w words = absurd cc

module _ (word later : List ℕ) (plain : HasNoSpace word) (other : word ≢ codes "boot")
    (also : word ≢ codes "renewed") where
  -- another first word that is no ticket's text begins no record
  pub no_ticket : (IsTicketText word → ⊥) → IsText (word ++ 32 ∷ later) → ⊥
  no_ticket none (e, w) = by e w (words-of word (Some later) plain e w)
    where
      by : (e : Entry) → SaysEntry (word ++ 32 ∷ later) e → (word ≡ first_word e) × (Some later ≡ later_text e) → ⊥
      by (entry.Renewed actions boots) w words = also words.0
      by (entry.Boot number) w words = other words.0
      by (entry.Spent ticket action) w words = none (ticket, w.valid.0, words.0)
      by (entry.Plain action) w words = absurd cc

  -- behind another first word, what is no action's text ends no record
  pub no_action : (IsActionText later → ⊥) → IsText (word ++ 32 ∷ later) → ⊥
  no_action none (e, w) = by e w (words-of word (Some later) plain e w)
    where
      by : (e : Entry) → SaysEntry (word ++ 32 ∷ later) e → (word ≡ first_word e) × (Some later ≡ later_text e) → ⊥
      by (entry.Renewed actions boots) w words = also words.0
      by (entry.Boot number) w words = other words.0
      by (entry.Spent ticket action) w words =
          none (record { action = action; valid = w.valid.1; same = some_same words.1 })
      by (entry.Plain action) w words = absurd cc
