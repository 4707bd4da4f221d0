-- What a journal that was started from tells of its tickets and of what it carries.
use Rattle.std.proofs.Common.{◌≡◌, ℕ, ◌+◌, ◌<◌, ◌≤◌, List, [], ◌∷◌, length, Some, None, ◌∙◌, ap, subst, arith}
use Rattle.ix_words.specs.Each.{Each, no_item, item}
use Rattle.ix_values.specs.declared.tickets.Ticket.{Ticket}
use Rattle.ix_journal.specs.Entries.{InOrder, MayFollow, behind, fresh, marks_behind, marks_of, pairs_of, renewed_of}
use Rattle.ix_journal.specs.History.{PlainHistory, Spent}
use Rattle.ix_journal.specs.Recovery as recovery
use Rattle.ix_journal.specs.declared.entries.Entry.{Entry}
use Rattle.ix_journal.specs.declared.entries.Entry.TheVariants as entry
use Rattle.ix_journal.specs.declared.entries.Marks.{Marks}
use Rattle.ix_journal.specs.declared.entries.Renewed.{Renewed}
use Rattle.ix_journal.proofs.OutcomeLaws.{one_list}
use Rattle.ix_manager.specs.Images.{IsStartable}
use Rattle.ix_manager.specs.Runs.{Opening}

-- the ticket is of one of so many boots
pub record IsOfBoots (boots : ℕ) (ticket : Ticket) : Type 0 where
  pub low : 0 < ticket.boot
  pub high : ticket.boot ≤ boots
  pub seq : 0 < ticket.seq

-- so is the pair's, where it has one
abbrev pub WasOfBoots : ℕ → Spent → Type 0
WasOfBoots boots spent = (ticket : Ticket) → spent.0 ≡ Some ticket → IsOfBoots boots ticket

-- the number of the last boot doesn't fall
boot_rises : (m : Marks) (e : Entry) → MayFollow m e → m.boots ≤ (behind m e).boots
boot_rises m (entry.Renewed actions boots) follows = let none = follows.1 in omega (arith, none)
boot_rises m (entry.Boot number) follows = omega arith
boot_rises m (entry.Spent ticket action) follows = omega arith
boot_rises m (entry.Plain action) follows = omega arith

boots_rise : (m : Marks) (entries : List Entry) → InOrder m entries → m.boots ≤ (marks_behind m entries).boots
boots_rise m [] order = omega arith
boots_rise m (e ∷ entries) order =
    let one = boot_rises m e order.0 in
    let rest = boots_rise (behind m e) entries order.1 in
    omega (arith, one, rest)

of_boots : (m : Marks) (entries : List Entry) → InOrder m entries
    → Each (WasOfBoots (marks_behind m entries).boots) (pairs_of entries)
of_boots m [] order = no_item
of_boots m (entry.Renewed actions boots ∷ entries) order = of_boots (behind m (entry.Renewed actions boots)) entries order.1
of_boots m (entry.Boot number ∷ entries) order = of_boots (behind m (entry.Boot number)) entries order.1
of_boots m (entry.Plain a ∷ entries) order =
    item (λ ticket is. absurd (let no : None ≡ Some ticket = is in cc)) (of_boots (behind m (entry.Plain a)) entries order.1)
of_boots m (entry.Spent spent a ∷ entries) order =
    item
    (λ ticket is.
    subst (IsOfBoots (marks_behind m (entry.Spent spent a ∷ entries)).boots) (let same : spent ≡ ticket = same_as ticket is in same)
    (record {
      low = let above = order.0.1 in omega (arith, above);
      high =
          let first = order.0.0 in
          let grown = boots_rise (behind m (entry.Spent spent a)) entries order.1 in
          omega (arith, first, grown);
      seq = let above = order.0.2 in omega (arith, above);
    }))
    (of_boots (behind m (entry.Spent spent a)) entries order.1)
  where
    same_as : (ticket : Ticket) → Some spent ≡ Some ticket → spent ≡ ticket
    same_as ticket is = cc

-- as many are carried as there are in front, and the boots that they stand for are so far
record AreSoFar (m : Marks) : Type 0 where
  pub carried : (renewed_of m).carried ≤ m.actions
  pub boots : (renewed_of m).boots ≤ m.boots

so_far : (m : Marks) (entries : List Entry) → AreSoFar m → AreSoFar (marks_behind m entries)
so_far m [] is = is
so_far m (entry.Renewed actions boots ∷ entries) is =
    so_far (behind m (entry.Renewed actions boots)) entries (record { carried = omega arith; boots = omega arith })
so_far m (entry.Boot number ∷ entries) is =
    let one = is.carried in
    let two = is.boots in
    so_far (behind m (entry.Boot number)) entries (record { carried = omega (arith, one); boots = omega (arith, two) })
so_far m (entry.Spent ticket a ∷ entries) is =
    let one = is.carried in
    let two = is.boots in
    so_far (behind m (entry.Spent ticket a)) entries (record { carried = omega (arith, one); boots = omega (arith, two) })
so_far m (entry.Plain a ∷ entries) is =
    let one = is.carried in
    let two = is.boots in
    so_far (behind m (entry.Plain a)) entries (record { carried = omega (arith, one); boots = omega (arith, two) })

-- each pair is one action more
actions_are : (m : Marks) (entries : List Entry) → (marks_behind m entries).actions ≡ m.actions + length (pairs_of entries)
actions_are m [] = omega arith
actions_are m (entry.Renewed actions boots ∷ entries) =
    let rest = actions_are (behind m (entry.Renewed actions boots)) entries in omega (arith, rest)
actions_are m (entry.Boot number ∷ entries) = let rest = actions_are (behind m (entry.Boot number)) entries in omega (arith, rest)
actions_are m (entry.Spent ticket a ∷ entries) = let rest = actions_are (behind m (entry.Spent ticket a)) entries in omega (arith, rest)
actions_are m (entry.Plain a ∷ entries) = let rest = actions_are (behind m (entry.Plain a)) entries in omega (arith, rest)

-- the records of a file are in order
in_order : (bytes : List ℕ) (entries : List Entry) → recovery.KeepsRecords bytes entries → InOrder fresh entries
in_order _ _ (recovery.unfinished bytes is) = tt
in_order _ _ (recovery.unopened bytes text is) = tt
in_order _ _ (recovery.ready bytes text entries gate is) = is.closes.records.order

-- a start's tickets are of the boots of its journal, it has what is carried, and the boots that
-- the carried ones stand for are among those of its journal
pub record IsSound (history : PlainHistory) (renewed : Renewed) (boots : ℕ) : Type 0 where
  pub tickets : Each (WasOfBoots boots) history
  pub carried : renewed.carried ≤ length history
  pub earlier : renewed.boots ≤ boots

pub start_sound : (opening : Opening) (image : List ℕ) (starts : IsStartable opening image)
    → IsSound opening.history opening.renewed starts.boots
start_sound opening image starts =
    let kept = starts.recovers in
    let holds = starts.holds in
    let same = one_list image holds.entries kept.entries holds.keeps kept.keeps in
    let pairs : pairs_of holds.entries ≡ opening.history = ap pairs_of same ∙ kept.pairs in
    let far = so_far fresh holds.entries (record { carried = omega arith; boots = omega arith }) in
    let carried = far.carried in
    let boots = far.boots in
    let said_carried = ap (λ (r : Renewed). r.carried) holds.said in
    let said_boots = ap (λ (r : Renewed). r.boots) holds.said in
    let number = holds.number in
    let actions = actions_are fresh holds.entries in
    let long = ap length pairs in
    record {
      tickets = subst (λ (n : ℕ). Each (WasOfBoots n) opening.history) holds.number
          (subst (Each (WasOfBoots (marks_of holds.entries).boots)) pairs (of_boots fresh holds.entries (in_order image holds.entries holds.keeps)));
      carried = omega (arith, carried, said_carried, actions, long);
      earlier = omega (arith, boots, said_boots, number);
    }
