-- What each image that a crash may leave keeps of what was acknowledged by then, call by call.
use Rattle.std.proofs.Common.{◌≡◌, ◌⊎◌, ℕ, ◌≤◌, Bool, true, List, [], ◌∷◌, ◌++◌, length}
use Rattle.std.proofs.Common.{append_assoc, append-nil, Option, Some, IsSome, Ok, inl, inr, refl}
use Rattle.std.proofs.Common.{sym, ◌∙◌, ap, subst, arith}
use Rattle.std.proofs.lemmas.List.{length-append}
use Rattle.ix_words.specs.Each.{Each}
use Rattle.ix_values.specs.declared.tickets.Ticket.{Ticket}
use Rattle.ix_journal.specs.History.{PlainHistory}
use Rattle.ix_journal.specs.declared.entries.Renewed.{Renewed}
use Rattle.ix_expr.specs.Form.{Form}
use Rattle.ix_outside.specs.Contents.{Contents, SentBytes, Sends, SendsWhole, SendsPart}
use Rattle.ix_outside.specs.Crashes.{Crashes, Left, AreLawful, Elapses}
use Rattle.ix_outside.specs.Disk.{Disk, OfFile}
use Rattle.ix_outside.specs.SiteState.{SiteState}
use Rattle.ix_outside.specs.inside.DiskCalls.{span}
use Rattle.ix_proto.specs.declared.reply.Reply.{Reply}
use Rattle.ix_store.specs.Keeping.{Keeping}
use Rattle.ix_store.specs.inside.KeptBy.{kept}
use Rattle.ix_manager.specs.Acknowledged.{IsAcknowledged}
use Rattle.ix_manager.specs.Images.{with_failed}
use Rattle.ix_manager.specs.Machine.{MachineState, ahead_of, count, count_of}
use Rattle.ix_manager.specs.Runs.{Ending, going}
use Rattle.ix_manager.specs.Wire.{SendsInOrder, reply_line}
use Rattle.ix_manager.specs.declared.journaled.Journaled.{Journaled}
use Rattle.ix_manager.specs.inside.Acknowledging.{SendsMore, Acknowledges}
use Rattle.ix_manager.specs.inside.Saving.{OnlySends, Saves, SavesJournal, ConfirmsOver}
use Rattle.ix_manager.specs.inside.WireState.{WireState, wired, SendsAll}
use Rattle.ix_manager.proofs.AcknowledgedLemmas.{the_value, is_there, none_sent, one_acknowledged}
use Rattle.ix_manager.proofs.AcknowledgedLemmas.{acknowledged_front, acknowledged_split}
use Rattle.ix_manager.proofs.AcknowledgedLemmas.{TellsWithin, acknowledged_within, confirmed_number}
use Rattle.ix_manager.proofs.SavingLemmas.{still_told, journal_keeps, keeps_longer, keeps_fewer}
use Rattle.ix_manager.proofs.SavingLemmas.{fits_images}
use Rattle.ix_manager.proofs.SendLemmas.{silent_keeps, carries}

-- replies that tell of no later action were sent over calls that saved the journal
pub saves_acknowledges : (e : Ending) (x : Form) (h new : MachineState) (store : Keeping) (conn : ℕ)
    (replies : List Reply)
    (before after : WireState) (p q : Crashes) → AreLawful after.site q
    → Saves e x h new store (span before.site after.site p q)
    → SendsAll conn replies before after → Each (TellsWithin (count h)) replies
    → Acknowledges x (length h.history) (with_failed e new.history) h.renewed replies
    (span before.site after.site p q)
saves_acknowledges e x h new store conn replies before after p q lawful saves sends within told s s'
    is is' left since =
    let by_then = saves.sends.by_then s s' is is' left since in
    let sent = carries conn s s' sends.order is is' in
    let total = ap length sent.all in
    let parts = length-append sent.carried sent.silent in
    let behind = ap length by_then.behind in
    let both = length-append s.sent by_then.more in
    let most = by_then.no_longer in
    let count = sent.count in
    let keeps = saves.keeps told left.image (lawful.since_left before.site.tick left since) in
    record {
      keeps = keeps;
      sent = by_then.more;
      behind = by_then.behind;
      carried = omega arith;
      acknowledged = λ n is.
          let most = acknowledged_within within is in let long = keeps.long in omega (arith, most, long);
    }

module _ (conn : ℕ) (ticket : Ticket) (one : Reply) (old new : Journaled) (was_gone gone : Bool)
    (a b c : SiteState) (p q r : Crashes)
    (between : AreLawful b q) (lawful : AreLawful c r) (only : OnlySends (span b c q r))
    (over : ConfirmsOver ticket (Ok one) old new (span a b p q))
    (sends : SendsAll conn (one ∷ []) (wired was_gone b) (wired gone c)) where
  saves : SavesJournal going old new (span a b p q)
  saves = subst (λ e. SavesJournal e old new (span a b p q)) over.confirms.1 over.saves

  told_between : IsSome c.disk → IsSome b.disk
  told_between told = still_told b.disk c.disk only.disk told

  -- the reply to a confirm was sent behind its append
  pub confirm_acknowledges : Acknowledges old.machine.form (length old.machine.state.history)
      new.machine.state.history old.machine.state.renewed (one ∷ []) (span a c p r)
  confirm_acknowledges told s s' is is' left since =
      elim (only.passes.left_since.nothing_else a.tick left over.calls.passes.left_since.later
      since) [
        | inl earlier ↦
            record {
              keeps = saves.keeps (told_between told) left.image
                  (between.since_left a.tick left earlier);
              sent = [];
              behind = over.calls.sent s is left earlier ∙ sym (append-nil s.sent);
              carried = omega arith;
              acknowledged = λ n is. absurd (none_sent is);
            }
        | inr since_then ↦
            let x = old.machine.form in
            let h = old.machine.state.history in
            let w = new.machine.state.history in
            let at = left.image in
            let now = only.images at (lawful.since_left b.tick left since_then) in
            let store = kept new.store in
            let there = fits_images x new.machine.state store b q saves.fits (told_between told) at now in
            let then_told = ap (λ (t : Contents). t.sends) over.calls.rest.contents ∙ is in
            let by_then = only.sends.by_then s s' then_told is' left since_then in
            let sent = carries conn s s' sends.order then_told is' in
            let total = ap length sent.all in
            let parts = length-append sent.carried sent.silent in
            let behind = ap length by_then.behind in
            let both = length-append s.sent by_then.more in
            let most = by_then.no_longer in
            let count = sent.count in
            let longer = ap length saves.grows in
            let grown = length-append h saves.rest in
            record {
              keeps = journal_keeps x (length h) w [] w store.marks store.gate at there (append-nil w)
                  (omega (arith, longer, grown));
              sent = by_then.more;
              behind = by_then.behind;
              carried = omega (arith, total, parts, behind, both, most, count);
              acknowledged = λ n is.
                  let within = confirmed_number over.confirms.0.step (one_acknowledged is) in
                  omega (arith, within, ap ahead_of saves.renewed);
            }
      ]

none_left : {A : Type 0} (xs : List A) → length xs ≤ 0 → xs ≡ []
none_left [] le = refl
none_left (x ∷ xs) le = absurd (omega arith)

module _ (x : Form) (h mid new rest : PlainHistory) (renewed : Renewed) (conn : ℕ) (one two : List Reply)
    (before here after : WireState) (p q r : Crashes)
    (lawful : AreLawful here.site q) (le : before.site.tick ≤ here.site.tick)
    (passes : Elapses here.site.tick after.site.tick q.left_since r.left_since)
    (sends : SendsAll conn one before here) (more : SendsAll conn two here after)
    (grows_first : SendsMore (span before.site here.site p q)) (grows : SendsMore (span here.site after.site q r))
    (told_before : IsSome after.site.disk → IsSome here.site.disk)
    (first : Acknowledges x (length h) mid renewed one (span before.site here.site p q))
    (second : Acknowledges x (length mid) new renewed two (span here.site after.site q r))
    (longer : mid ++ rest ≡ new) (no_shorter : length h ≤ length mid) where
  -- by the end of the first calls all that they acknowledged is within the history that they left
  at_the_join : IsSome here.site.disk → (s s' : Sends) → before.site.contents.sends ≡ Some s
      → here.site.contents.sends ≡ Some s'
      → (pairs : List SentBytes) × (s'.sent ≡ s.sent ++ pairs) × (length pairs ≤ length one)
      × ((n : ℕ) → IsAcknowledged n one pairs → n ≤ count_of renewed mid)
  at_the_join told s s' is is' =
      let disk = the_value here.site.disk told in
      let P : Option Disk → Type 0 = λ d. OfFile q.now d in
      let now : q.now disk.0.file = subst P disk.1 lawful.file in
      let since_here = (lawful.since_now s' is' disk.0.file s'.sent).1 (now, refl) in
      let left : Left = record { image = disk.0.file; sent = s'.sent } in
      let at = first told s s' is is' left
      (lawful.since_earlier before.site.tick here.site.tick left le since_here) in
      let count = ap length at.keeps.prefix in
      let parts = length-append at.keeps.kept at.keeps.rest in (
        at.sent,
        at.behind,
        at.carried,
        λ n acked. let within = at.acknowledged n acked in omega arith,
      )

  -- two stretches, of which the second began where the first ended
  pub acknowledges_join : Acknowledges x (length h) new renewed (one ++ two) (span before.site after.site p r)
  acknowledges_join told s s' is is' left since =
      let middle = the_value here.site.contents.sends
      (grows.told (is_there after.site.contents.sends s' is')) in
      let m = middle.0 in
      let all = length-append one two in
      elim (passes.nothing_else before.site.tick left le since) [
        | inl earlier ↦
            let was = first (told_before told) s m is middle.1 left earlier in
            let few = was.carried in
            record {
              keeps = keeps_longer x (length h) mid rest new left.image longer was.keeps;
              sent = was.sent;
              behind = was.behind;
              carried = omega (arith, few, all);
              acknowledged = λ n acked. was.acknowledged n
                  (acknowledged_front one two was.sent was.carried acked);
            }
        | inr since_here ↦
            let begun = at_the_join (told_before told) s m is middle.1 in
            let later = second told m s' middle.1 is' left since_here in
            let both = length-append begun.0 later.sent in
            let few = begun.2 in
            let few_later = later.carried in
            let long = later.keeps.long in
            record {
              keeps = keeps_fewer x (length mid) (length h) new left.image no_shorter later.keeps;
              sent = begun.0 ++ later.sent;
              behind = later.behind ∙ ap (λ pairs. pairs ++ later.sent) begun.1
                  ∙ append_assoc s.sent begun.0 later.sent;
              carried = omega (arith, both, few, few_later, all);
              acknowledged = λ n acked. elim
                  (whole_or_silent s m s' left is middle.1 is' begun.0 begun.1 later.sent
                  later.behind since_here) [
                    | inl whole ↦ elim (acknowledged_split one two begun.0 later.sent whole acked) [
                      | inl before_it ↦
                          let within = begun.3 n before_it in omega (arith, within, long)
                      | inr behind_it ↦ later.acknowledged n behind_it
                    ]
                    | inr nothing ↦
                        let P : List SentBytes → Type 0 =
                        λ pairs. IsAcknowledged n (one ++ two) pairs in
                        let first_alone = subst P (ap (λ pairs. begun.0 ++ pairs) nothing
                        ∙ append-nil begun.0) acked in
                        let front = acknowledged_front one two begun.0 few first_alone in
                        let within = begun.3 n front in
                        omega (arith, within, long)
                  ];
            }
      ]
    where
      -- all replies of the first calls were sent, or nothing was behind them
      whole_or_silent : (s m s' : Sends) (left : Left) → before.site.contents.sends ≡ Some s
          → here.site.contents.sends ≡ Some m
          → after.site.contents.sends ≡ Some s' → (pairs : List SentBytes)
          → m.sent ≡ s.sent ++ pairs → (behind : List SentBytes) → left.sent ≡ m.sent ++ behind
          → r.left_since here.site.tick left → (length pairs ≡ length one) ⊎ (behind ≡ [])
      whole_or_silent s m s' left is mid_is is' pairs begun behind is_behind since =
          let sent = carries conn s m sends.order is mid_is in
          let count = sent.count in
          let lengths = ap length begun in
          let parts = length-append s.sent pairs in
          elim sent.whole [
            | inl nothing_silent ↦
                let all = ap length sent.all in
                let silent_parts = length-append sent.carried sent.silent in
                let none = ap length nothing_silent in
                inl (omega (arith, count, lengths, parts, all, silent_parts, none))
            | inr marked ↦
                let kept_sends = silent_contents marked in
                let same : Some s' ≡ Some m = sym is' ∙ ap (λ (t : Contents). t.sends) kept_sends
                ∙ mid_is in
                let no_more : length s'.sent ≡ length m.sent =
                ap (λ (t : Sends). length t.sent) (let e : s' ≡ m = cc in e) in
                let by_then = grows.by_then m s' mid_is is' left since in
                let most = by_then.no_longer in
                let left_count = ap length is_behind in
                let left_parts = length-append m.sent behind in
                inr (none_left behind (omega (arith, no_more, most, left_count, left_parts)))
          ]
        where
          silent_contents : here.gone ≡ true → after.site.contents ≡ here.site.contents
          silent_contents marked =
              let whole : Reply → Contents → Contents → Type 0 =
              λ reply. SendsWhole conn (reply_line reply) in
              let front : Reply → Contents → Contents → Type 0 =
              λ reply. SendsPart conn (reply_line reply) in
              (silent_keeps (subst (λ g. SendsInOrder whole front two g here.site.contents
              after.gone after.site.contents) marked more.order)).0
