-- How a run over a site goes on, with what a crash may leave.
use Rattle.std.proofs.Common.{◌≡◌, ℕ, ◌≤◌, Bool, List, [], ◌∷◌, ◌++◌, length, append_assoc}
use Rattle.std.proofs.Common.{append-nil, Option, Some, IsSome, Result, inl, inr, refl, sym, ◌∙◌}
use Rattle.std.proofs.Common.{ap, subst, arith}
use Rattle.std.proofs.lemmas.List.{length-append, append_cancel_left}
use Rattle.ix_journal.specs.History.{PlainHistory}
use Rattle.ix_journal.specs.declared.entries.Renewed.{Renewed}
use Rattle.ix_manager.specs.Machine.{count}
use Rattle.ix_expr.specs.Form.{Form}
use Rattle.ix_outside.specs.Contents.{GivenEvent, SentBytes, Sends}
use Rattle.ix_outside.specs.Crashes.{Crashes, Left, AreLawful, Passes, OneCall, IsSentByThen}
use Rattle.ix_outside.specs.Crashes.{LeavesTheSame}
use Rattle.ix_outside.specs.Disk.{Disk, OfFile}
use Rattle.ix_outside.specs.SiteState.{SiteState}
use Rattle.ix_outside.specs.declared.event.Event.{Event}
use Rattle.ix_outside.proofs.Passing.{sent-nothing}
use Rattle.ix_outside.specs.inside.DiskCalls.{span}
use Rattle.ix_proto.specs.declared.reply.Reply.{Reply}
use Rattle.ix_manager.specs.Acknowledged.{IsAcknowledged, KeepsAcknowledged}
use Rattle.ix_manager.specs.Handled.{ManagerState}
use Rattle.ix_manager.specs.Images.{Keeps, with_failed}
use Rattle.ix_manager.specs.RunLaws.{given_event}
use Rattle.ix_manager.specs.Wire.{Wire, begin, unmarked, all_replies}
use Rattle.ix_manager.specs.declared.faults.Go.{Go}
use Rattle.ix_manager.specs.declared.faults.Stop.{Stop}
use Rattle.ix_manager.specs.inside.OverSite.{HandlesOver}
use Rattle.ix_manager.specs.inside.Serving.{SentNothingSince, KeepsSince, ServesSince}
use Rattle.ix_manager.proofs.AcknowledgedLemmas.{the_value, is_there, none_sent, acknowledged_front}
use Rattle.ix_manager.proofs.AcknowledgedLemmas.{acknowledged_more, acknowledged_split}
use Rattle.ix_manager.proofs.GrowingLemmas.{steps_grow}
use Rattle.ix_manager.proofs.SavingLemmas.{keeps_longer, keeps_fewer}
use Rattle.ix_manager.proofs.SendLemmas.{wire_goes_on, wire_pairs}

-- a call that sends nothing, as `listen`
pub nothing_call : (t : ℕ) (before : List SentBytes) (a b : SiteState) (p q : Crashes)
    → OneCall (span a b p q) → t ≤ a.tick
    → (IsSome b.contents.sends → IsSome a.contents.sends)
    → ((s s' : Sends) → a.contents.sends ≡ Some s → b.contents.sends ≡ Some s' → s'.sent ≡ s.sent)
    → SentNothingSince t before a p → SentNothingSince t before b q
nothing_call t before a b p q call began told same nothing sends is =
    let mid = the_value a.contents.sends (told (is_there b.contents.sends sends is)) in
    let at = nothing mid.0 mid.1 in
    let stays = same mid.0 sends mid.1 is in (
      stays ∙ at.0,
      λ left since. elim (call.passes.left_since.nothing_else t left began since) [
        | inl earlier ↦ at.1 left earlier
        | inr since_call ↦
            let by_then = call.sent mid.0 sends mid.1 is left since_call in
            sent-nothing mid.0.sent left.sent
            (subst (λ after. IsSentByThen mid.0.sent after left.sent) stays by_then) ∙ at.0
      ],
    )

-- before the first event: nothing was sent since the tick, and each image keeps the history
pub serves_begin : (t : ℕ) (x : Form) (least : ℕ) (history : PlainHistory) (renewed : Renewed) (before : Sends)
    (site : SiteState) (is : Crashes)
    → AreLawful site is → t ≤ site.tick → least ≤ length history
    → ((sends : Sends) → site.contents.sends ≡ Some sends → sends ≡ before)
    → (IsSome site.disk → (image : List ℕ) → is.left t image → Keeps x least history image)
    → SentNothingSince t before.sent site is
    → ServesSince t x least history renewed before [] [] unmarked site is
serves_begin t x least history renewed before site is lawful began long sends_are keeps sent = record {
  began = began;
  long = long;
  wired = λ sends told. (
    [],
    subst (λ s. Wire before [] [] unmarked (record { sends = s; replies = [] }))
        (sym (sends_are sends told)) begin,
    λ disk left since. record {
      keeps = keeps disk left.image (lawful.since_left t left since);
      sent = [];
      behind = (sent sends told).1 left since ∙ sym (append-nil before.sent);
      carried = omega arith;
      acknowledged = λ n acked. absurd (none_sent acked);
    },
  );
}

-- over a call that sends nothing, as `next`, what a crash may leave stays
pub serves_call : (t : ℕ) (x : Form) (least : ℕ) (history : PlainHistory) (renewed : Renewed) (before : Sends)
    (events : List GivenEvent) (answers : List (List (List Reply))) (marks : List Bool)
    (a b : SiteState) (p q : Crashes)
    → AreLawful a p → AreLawful b q → OneCall (span a b p q) → LeavesTheSame p.now q.now
    → b.contents.sends ≡ a.contents.sends → b.disk ≡ a.disk
    → ServesSince t x least history renewed before events answers marks a p
    → ServesSince t x least history renewed before events answers marks b q
serves_call t x least history renewed before events answers marks a b p q lawful lawful' call same
    sends_stay disk_stays serves = record {
      began = let le = serves.began in let later = call.passes.left.later in omega arith;
      long = serves.long;
      wired = λ sends told.
          let told_before = sym sends_stay ∙ told in
          let so_far = serves.wired sends told_before in (
            so_far.0,
            so_far.1,
            λ disk left since.
                so_far.2 (subst (λ d. IsSome d) disk_stays disk) left
                (elim (call.passes.left_since.nothing_else t left serves.began since) [
                  | inl earlier ↦ earlier
                  | inr since_call ↦
                      let nothing = sent-nothing sends.sent left.sent
                      (call.sent sends sends told_before told left since_call) in
                      let now : p.now left.image = elim
                      (call.images left.image (lawful'.since_left a.tick left since_call))
                      [ inl was ↦ was | inr is ↦ (same left.image).0 is ] in
                      lawful.since_earlier t a.tick left serves.began
                      ((lawful.since_now sends told_before left.image left.sent).1 (now, nothing))
                ]),
          );
    }

module _ (t : ℕ) (x : Form) (least : ℕ) (before : Sends) (events : List GivenEvent)
    (answers : List (List (List Reply)))
    (old : ManagerState) (event : Event) (bytes : List ℕ) (result : Result Go Stop)
    (new : ManagerState)
    (a b : SiteState) (p q : Crashes) (lawful : AreLawful a p) (passes : Passes (span a b p q))
    (form : old.form ≡ x)
    (told_before : IsSome b.disk → IsSome a.disk)
    (over : HandlesOver old event bytes result new (span a b p q))
    (serves : ServesSince t x least old.machine.history old.machine.renewed before events answers old.marks a p) where
  abbrev longer_history : PlainHistory
  longer_history = with_failed over.ending new.machine.history

  -- what was acknowledged before the event is within the history before it
  within_before : IsSome a.disk → (s : Sends) → a.contents.sends ≡ Some s → (replies : List Reply)
      → KeepsSince t x least old.machine.history old.machine.renewed replies before a p → (pairs : List SentBytes)
      → s.sent ≡ before.sent ++ pairs
      → (n : ℕ) → IsAcknowledged n replies pairs → n ≤ count old.machine
  within_before told s is replies keeps pairs behind n acked =
      let disk = the_value a.disk told in
      let P : Option Disk → Type 0 = λ d. OfFile p.now d in
      let now : p.now disk.0.file = subst P disk.1 lawful.file in
      let left : Left = record { image = disk.0.file; sent = s.sent } in
      let since = lawful.since_earlier t a.tick left serves.began
      ((lawful.since_now s is disk.0.file s.sent).1 (now, refl)) in
      let at = keeps told left since in
      let same : at.sent ≡ pairs = append_cancel_left before.sent at.sent pairs
      (sym at.behind ∙ behind) in
      let within = at.acknowledged n
      (subst (λ sent. IsAcknowledged n replies sent) (sym same) acked) in
      let count = ap length at.keeps.prefix in
      let parts = length-append at.keeps.kept at.keeps.rest in omega arith

  -- an event was handled
  pub serves_handled : ServesSince t x least longer_history old.machine.renewed before
      (events ++ given_event event bytes ∷ []) (answers ++ over.handles.answers ∷ []) new.marks b q
  serves_handled =
      let grown = steps_grow over.handles.takes.steps in
      let h = old.machine.history in
      let count = ap length grown.1 in
      let parts = length-append h grown.0 in
      let long = serves.long in
      record {
        began = let le = serves.began in let later = passes.left.later in omega arith;
        long = omega (arith, count, parts, long);
        wired = λ s' told'.
            let first = the_value a.contents.sends
            (over.sends.told (is_there b.contents.sends s' told')) in
            let s = first.0 in
            let told = first.1 in
            let so_far = serves.wired s told in
            let goes = wire_goes_on before events answers (record { sends = s; replies = so_far.0 })
            s' old event bytes over.handles.answers new a.contents b.contents
            so_far.1 over.handles.sends told told' in
            let carried = goes.0.carried in
            let silent = goes.0.silent in
            let pairs = wire_pairs so_far.1 in
            let as_many = pairs.count in
            let all = length-append so_far.0 carried in (
              so_far.0 ++ carried,
              goes.1,
              λ disk left since. elim (passes.left_since.nothing_else t left serves.began since) [
                | inl earlier ↦
                    let was = so_far.2 (told_before disk) left earlier in
                    let few = was.carried in
                    record {
                      keeps = keeps_longer x least h grown.0 longer_history left.image grown.1
                          was.keeps;
                      sent = was.sent;
                      behind = was.behind;
                      carried = omega (arith, few, all);
                      acknowledged = λ n acked. was.acknowledged n
                          (acknowledged_front so_far.0 carried was.sent was.carried acked);
                    }
                | inr since_event ↦
                    let here : KeepsAcknowledged x (length h) longer_history old.machine.renewed
                    (all_replies over.handles.answers) s.sent left =
                    subst (λ y. KeepsAcknowledged y (length h) longer_history old.machine.renewed
                    (all_replies over.handles.answers) s.sent left) form
                    (over.acknowledges disk s s' told told' left since_event) in
                    let by_then = over.sends.by_then s s' told told' left since_event in
                    let most = by_then.no_longer in
                    let more = goes.0.count in
                    let left_count = ap length here.behind in
                    let left_parts = length-append s.sent here.sent in
                    let both = length-append pairs.pairs here.sent in
                    let whole : length pairs.pairs ≡ length so_far.0 = omega (arith, as_many) in
                    record {
                      keeps = keeps_fewer x (length h) least longer_history left.image long
                          here.keeps;
                      sent = pairs.pairs ++ here.sent;
                      behind = here.behind ∙ ap (λ sent. sent ++ here.sent) pairs.behind
                          ∙ append_assoc before.sent pairs.pairs here.sent;
                      carried = omega (arith, whole, all, most, more, left_count, left_parts, both);
                      acknowledged = λ n acked. elim
                          (acknowledged_split so_far.0 carried pairs.pairs here.sent whole acked) [
                            | inl before_it ↦
                                let within = within_before (told_before disk) s told so_far.0 so_far.2
                                pairs.pairs pairs.behind n before_it in
                                let kept_long = here.keeps.long in omega (arith, within, kept_long)
                            | inr behind_it ↦
                                here.acknowledged n (subst (λ rs. IsAcknowledged n rs here.sent)
                                goes.0.all (acknowledged_more silent behind_it))
                          ];
                    }
              ],
            );
      }
