-- The tickets that a journal keeps are of its boots, so a start is well.
use Rattle.std.proofs.Common.{◌≡◌, ℕ, ◌<◌, ◌≤◌, List, [], ◌∷◌, Some, None, ◌∙◌, ap, subst, arith}
use Rattle.ix_words.specs.Each.{Each, no_item, item}
use Rattle.ix_words.proofs.Each.{Each-weaker}
use Rattle.ix_values.specs.declared.tickets.Ticket.{Ticket}
use Rattle.ix_journal.specs.Entries.{InOrder, MayFollow, behind, fresh, marks_behind, marks_of, pairs_of}
use Rattle.ix_journal.specs.History.{Spent}
use Rattle.ix_journal.specs.Recovery as recovery
use Rattle.ix_journal.specs.declared.entries.Entry.{Entry}
use Rattle.ix_journal.specs.declared.entries.Entry.TheVariants as entry
use Rattle.ix_journal.specs.declared.entries.Marks.{Marks}
use Rattle.ix_journal.proofs.OutcomeLaws.{one_list}
use Rattle.ix_manager.specs.Images.{IsStartable}
use Rattle.ix_manager.specs.LaterLaws.{OverTicketsStayOver}
use Rattle.ix_manager.specs.Machine.{start_of}
use Rattle.ix_manager.specs.Runs.{Opening}
use Rattle.ix_manager.proofs.TicketLemmas.{IsWell, later_over, later_well, over_begins, starts_well, well_holds}

-- the pair's ticket is of one of so many boots
abbrev IsOfBoots : ℕ → Spent → Type 0
IsOfBoots boots spent = (ticket : Ticket) → spent.0 ≡ Some ticket → ticket.boot ≤ boots

abbrev IsBelow : ℕ → Spent → Type 0
IsBelow boot spent = (ticket : Ticket) → spent.0 ≡ Some ticket → ticket.boot < boot

below_next : (boots boot : ℕ) → boots < boot → (spent : Spent) → IsOfBoots boots spent → IsBelow boot spent
below_next boots boot less spent of = λ ticket is. let earlier = of ticket is in omega (arith, earlier, less)

-- the number of the last boot doesn't fall
boot_rises : (m : Marks) (e : Entry) → MayFollow m e → m.boots ≤ (behind m e).boots
boot_rises m (entry.Renewed actions boots) follows = omega (arith, follows.1)
boot_rises m (entry.Boot number) follows = omega arith
boot_rises m (entry.Spent ticket action) follows = omega arith
boot_rises m (entry.Plain action) follows = omega arith

boots_rise : (m : Marks) (entries : List Entry) → InOrder m entries → m.boots ≤ (marks_behind m entries).boots
boots_rise m [] order = omega arith
boots_rise m (e ∷ entries) order =
    omega (arith, boot_rises m e order.0, boots_rise (behind m e) entries order.1)

of_boots : (marks : Marks) (entries : List Entry) → InOrder marks entries → Each (IsOfBoots (marks_behind marks entries).boots) (pairs_of entries)
of_boots marks [] order = no_item
of_boots marks (entry.Renewed actions boots ∷ entries) order =
    of_boots (behind marks (entry.Renewed actions boots)) entries order.1
of_boots marks (entry.Boot number ∷ entries) order = of_boots (behind marks (entry.Boot number)) entries order.1
of_boots marks (entry.Plain a ∷ entries) order =
    item (λ ticket is. absurd (none_some ticket is)) (of_boots (behind marks (entry.Plain a)) entries order.1)
  where
    none_some : (ticket : Ticket) → None ≡ Some ticket → ⊥
    none_some ticket is = cc
of_boots marks (entry.Spent spent a ∷ entries) order =
    item
    (λ ticket is.
    let same : spent.boot ≡ ticket.boot = same_boot ticket is in
    let first = order.0.0 in
    let grown = boots_rise (behind marks (entry.Spent spent a)) entries order.1 in
    omega (arith, same, first, grown))
    (of_boots (behind marks (entry.Spent spent a)) entries order.1)
  where
    same_boot : (ticket : Ticket) → Some spent ≡ Some ticket → spent.boot ≡ ticket.boot
    same_boot ticket is = let same : spent ≡ ticket = cc in ap (λ (t : Ticket). t.boot) same

-- the records of a file are in order
in_order : (bytes : List ℕ) (entries : List Entry) → recovery.KeepsRecords bytes entries → InOrder fresh entries
in_order _ _ (recovery.unfinished bytes is) = tt
in_order _ _ (recovery.unopened bytes text is) = tt
in_order _ _ (recovery.ready bytes text entries gate is) = is.closes.records.order

pub start_well : (opening : Opening) (image : List ℕ) → IsStartable opening image → IsWell (start_of opening.history opening.renewed opening.boot)
start_well opening image starts =
    let kept = starts.recovers in
    let holds = starts.holds in
    let same = one_list image kept.entries holds.entries kept.keeps holds.keeps in
    let number : (marks_of kept.entries).boots ≡ starts.boots = ap (λ entries. (marks_of entries).boots) same ∙ holds.number in
    let each = of_boots fresh kept.entries (in_order image kept.entries kept.keeps) in
    let boots : (marks_of kept.entries).boots < opening.boot = let next = starts.next in omega (arith, number, next) in
    starts_well opening.history opening.renewed opening.boot
    (subst (Each (IsBelow opening.boot)) kept.pairs (Each-weaker (below_next (marks_of kept.entries).boots opening.boot boots) each))

pub over_tickets_stay_over : OverTicketsStayOver
over_tickets_stay_over opening image s after later limit asked replies ticket starts reached step tells rest =
    later_over rest (over_begins step (well_holds s (later_well reached (start_well opening image starts))) tells)
