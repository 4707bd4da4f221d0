-- A piece, item by item.
use Rattle.std.proofs.Common.{◌≡◌, ◌≢◌, ℕ, Bool, true, false, get_or, Result, Ok, Err, zero, suc}
use Rattle.std.proofs.Common.{◌+◌, ◌-◌, ◌≤◌, ◌<◌, List, [], ◌∷◌, ◌++◌, Some, length, take, drop}
use Rattle.std.proofs.Common.{refl, sym, ◌∙◌, ap, subst, arith, set, replicate}
use Rattle.std.proofs.Math.ListN.{length-set}
use Rattle.std.proofs.lemmas.Grind.{flat_map-append}
use Rattle.std.proofs.lemmas.List.{take_rest, length-append, append_assoc, length-drop}
use Rattle.std.proofs.lemmas.List.{length-replicate, take-append-drop, append-nil}
use Rattle.std.proofs.lemmas.List.{append_cancel_left}
use Rattle.ix_words.specs.Each.{no_item}
use Rattle.ix_lines.specs.Items.{Item}
use Rattle.ix_lines.specs.Feeding.{UnfinishedLine, unfinished, Feeds, completes, holds_after}
use Rattle.ix_lines.proofs.FeedLemmas.{any_cutting}
use Rattle.ix_proto.specs.declared.reply.Reply.{Reply}
use Rattle.ix_manager.specs.Machine.{MachineState}
use Rattle.ix_manager.specs.Runs.{Ending, going, stopped, failed, ItemStep, Steps, none, last, more}
use Rattle.ix_manager.specs.Wire.{all_replies}
use Rattle.ix_manager.specs.declared.faults.Go.{Go}
use Rattle.ix_manager.specs.declared.faults.Go.TheVariants.{More, Stopped}
use Rattle.ix_manager.specs.declared.faults.Stop.{Stop}
use Rattle.ix_manager.specs.declared.faults.Stop.TheVariants.{Disk}
use Rattle.ix_manager.specs.declared.journaled.Journaled.{Journaled}
use Rattle.ix_outside.specs.Crashes.{Crashes, AreLawful}
use Rattle.ix_outside.specs.SiteState.{SiteState}
use Rattle.ix_outside.specs.inside.DiskCalls.{span}
use Rattle.ix_store.specs.inside.KeptBy.{kept}
use Rattle.ix_manager.specs.Handled.{ManagerState, held_at, has_ended}
use Rattle.ix_manager.specs.Images.{with_failed}
use Rattle.ix_manager.specs.inside.Acknowledging.{Acknowledges}
use Rattle.ix_manager.specs.inside.OverSite.{ending_after, EndsBy, FitsWith}
use Rattle.ix_manager.specs.inside.Saving.{FitsJournal, Saves, SavesJournal}
use Rattle.ix_manager.specs.inside.TakenItems.{TakesOne, TakesNone, TakesBytes}
use Rattle.ix_manager.specs.inside.Core.{Core}
use Rattle.ix_manager.specs.inside.Clean.{IsClean, AreClean}
use Rattle.ix_manager.specs.inside.WireState.{WireState, SendsAll, AnswersItem, AnswersItems, wire_span, wire_stretch}
use Rattle.ix_manager.specs.inside.Over.{OverJournal, OverRun}
use Rattle.ix_manager.proofs.SavingLemmas.{saves_none, saves_join}
use Rattle.ix_manager.proofs.AcknowledgeSteps.{saves_acknowledges, acknowledges_join}
use Rattle.ix_manager.proofs.SendSteps.{nothing_sent, sends-append}

-- what is held behind a piece completes nothing by itself
pub clean_after : (held : UnfinishedLine) (piece : List ℕ) → IsClean (holds_after held piece)
clean_after held piece =
    let law = any_cutting held piece [] in
    append_cancel_left (completes held piece) (completes (holds_after held piece) []) []
    (sym law.0 ∙ ap (completes held) (append-nil piece) ∙ sym (append-nil (completes held piece)))

-- the items of a piece are the first one and those of the rest
pub items_behind : (held : UnfinishedLine) (piece : List ℕ) (item : Item) (used : ℕ) → Feeds held piece (Some item) used
    → completes held piece ≡ item ∷ completes (holds_after held (take used piece)) (drop used piece)
items_behind held piece item used feeds =
    ap (completes held) (sym (take-append-drop used piece)) ∙ (any_cutting held (take used piece) (drop used piece)).0
    ∙ ap (λ its. its ++ completes (holds_after held (take used piece)) (drop used piece)) feeds.told

-- what is held behind a piece is what is held behind its rest
pub held_behind : (held : UnfinishedLine) (piece : List ℕ) (used : ℕ)
    → holds_after held piece ≡ holds_after (holds_after held (take used piece)) (drop used piece)
held_behind held piece used =
    ap (holds_after held) (sym (take-append-drop used piece)) ∙ (any_cutting held (take used piece) (drop used piece)).1

-- an item takes a byte
pub takes_a_byte : (held : UnfinishedLine) (piece : List ℕ) (item : Item) (used : ℕ) → Feeds held piece (Some item) used → IsClean held → 0 < used
takes_a_byte held piece item zero feeds clean =
    absurd (let h : item ∷ [] ≡ [] = sym feeds.told ∙ clean in cc)
takes_a_byte held piece item (suc used) feeds clean = omega arith

-- the items so far were answered, and these are left
pub record Progress (conn : ℕ) (all : List Item) (first : Core) (before : WireState) (items : List Item) (now : Core) (here : WireState) : Type 0 where
  pub answers : List (List Reply)
  pub steps : (later : List (List Reply)) (after : MachineState) (ending : Ending)
      → Steps first.form first.limit now.state items later after ending
      → Steps first.form first.limit first.state all (answers ++ later) after ending
  pub sends : SendsAll conn (all_replies answers) before here
  pub form : now.form ≡ first.form
  pub limit : now.limit ≡ first.limit

abbrev pub progress_begins : (conn : ℕ) (items : List Item) (core : Core) (w : WireState)
    → Progress conn items core w items core w
progress_begins conn items core w = record {
  answers = [];
  steps = λ later after ending steps. steps;
  sends = nothing_sent conn w;
  form = refl;
  limit = refl;
}

-- a step for the expression and the limit of the start
pub step_of_first : (x y : _) (l m : ℕ) → x ≡ y → l ≡ m
    → (s : MachineState) (item : Item) (replies : List Reply) (after : MachineState)
    (ending : Ending)
    → ItemStep x l s item replies after ending → ItemStep y m s item replies after ending
step_of_first x y l m e f s item replies after ending step =
    subst (λ z. ItemStep z m s item replies after ending) e (subst (λ k. ItemStep x k s item replies after ending) f step)

-- the replies to one item more
pub one_item_more : (answers : List (List Reply)) (replies : List Reply)
    → all_replies (answers ++ replies ∷ []) ≡ all_replies answers ++ replies
one_item_more answers replies =
    flat_map-append (λ (rs : List Reply). rs) answers (replies ∷ [])
    ∙ ap (λ rs. all_replies answers ++ rs) (append-nil replies)

-- are sent behind those so far
pub progress_sends : (conn : ℕ) (answers : List (List Reply)) (replies : List Reply)
    (before here there : WireState)
    → SendsAll conn (all_replies answers) before here → SendsAll conn replies here there
    → SendsAll conn (all_replies (answers ++ replies ∷ [])) before there
progress_sends conn answers replies before here there first then_sent =
    subst (λ rs. SendsAll conn rs before there) (sym (one_item_more answers replies))
    (sends-append conn (all_replies answers) replies before here there first then_sent)

abbrev pub progress_goes_on : (conn : ℕ) (all : List Item) (first : Core) (before : WireState)
    (item : Item) (items : List Item) (now : Core) (here : WireState) (next : Core)
    (there : WireState)
    → Progress conn all first before (item ∷ items) now here → (replies : List Reply)
    → AnswersItem conn item going replies now next here there
    → Progress conn all first before items next there
progress_goes_on conn all first before item items now here next there progress replies answers = record {
  answers = progress.answers ++ replies ∷ [];
  steps = λ later after ending steps.
      subst (λ rs. Steps first.form first.limit first.state all rs after ending)
      (sym (append_assoc progress.answers (replies ∷ []) later))
      (progress.steps (replies ∷ later) after ending
      (more (step_of_first now.form first.form now.limit first.limit progress.form progress.limit
      now.state item replies next.state going answers.step) steps));
  sends = progress_sends conn progress.answers replies before here there progress.sends
      answers.sends;
  form = answers.form ∙ progress.form;
  limit = answers.limit ∙ progress.limit;
}

abbrev pub progress_stops : (conn : ℕ) (all : List Item) (first : Core) (before : WireState)
    (item : Item) (items : List Item) (now : Core) (here : WireState) (next : Core)
    (there : WireState)
    (ending : Ending) → ending ≢ going
    → (replies : List Reply)
    → AnswersItem conn item ending replies now next here there
    → (progress : Progress conn all first before (item ∷ items) now here)
    → AnswersItems conn all ending (all_replies (progress.answers ++ replies ∷ [])) first next before there
progress_stops conn all first before item items now here next there ending ends replies answers progress = record {
  answers = progress.answers ++ replies ∷ [];
  all = refl;
  steps = progress.steps (replies ∷ []) next.state ending
      (last (step_of_first now.form first.form now.limit first.limit progress.form progress.limit now.state item replies next.state ending answers.step) ends);
  sends = progress_sends conn progress.answers replies before here there progress.sends
      answers.sends;
  form = answers.form ∙ progress.form;
  limit = answers.limit ∙ progress.limit;
}

abbrev pub progress_ends : (conn : ℕ) (all : List Item) (first : Core) (before : WireState)
    (now : Core) (here : WireState) (next : Core) (there : WireState)
    → (progress : Progress conn all first before [] now here) → next ≡ now
    → SendsAll conn [] here there
    → AnswersItems conn all going (all_replies progress.answers) first next before there
progress_ends conn all first before now here next there progress same nothing = record {
  answers = progress.answers;
  all = refl;
  steps = subst (λ (core : Core). Steps first.form first.limit first.state all progress.answers
      core.state going) (sym same)
      (subst (λ replies. Steps first.form first.limit first.state all replies now.state going)
      (append-nil progress.answers)
      (progress.steps [] now.state going none));
  sends = subst (λ replies. SendsAll conn replies before there)
      (append-nil (all_replies progress.answers))
      (sends-append conn (all_replies progress.answers) [] before here there progress.sends
      nothing);
  form = ap (λ (core : Core). core.form) same ∙ progress.form;
  limit = ap (λ (core : Core). core.limit) same ∙ progress.limit;
}

each-set : (lines : List UnfinishedLine) (conn : ℕ) (held : UnfinishedLine) → ((k : ℕ) → IsClean (held_at k lines)) → IsClean held
    → (k : ℕ) → IsClean (held_at k (set lines conn held))
each-set [] conn held clean here k = clean k
each-set (x ∷ xs) zero held clean here zero = here
each-set (x ∷ xs) zero held clean here (suc k) = clean (suc k)
each-set (x ∷ xs) (suc conn) held clean here zero = clean zero
each-set (x ∷ xs) (suc conn) held clean here (suc k) = each-set xs conn held (λ j. clean (suc j)) here k

-- the texts of all connections stay clean where one's text is
pub clean-set : (lines : List UnfinishedLine) (conn : ℕ) (held : UnfinishedLine) → AreClean lines → IsClean held → AreClean (set lines conn held)
clean-set lines conn held clean here =
    record { count = length-set lines conn held ∙ clean.count; clean = each-set lines conn held clean.clean here }

-- the items so far were answered over a site, and these are left
pub record Reaches (conn : ℕ) (all : List Item) (first : Journaled) (before : WireState) (p : Crashes)
    (items : List Item) (now : Journaled) (here : WireState) (q : Crashes) : Type 0 where
  pub progress : Progress conn all first.machine before items now.machine here
  pub saves : SavesJournal going first now (span before.site here.site p q)
  pub acknowledges : Acknowledges first.machine.form (length first.machine.state.history)
      now.machine.state.history first.machine.state.renewed
      (all_replies progress.answers) (span before.site here.site p q)

pub reach_begins : (conn : ℕ) (items : List Item) (j : Journaled) (w : WireState) (p : Crashes) → AreLawful w.site p
    → FitsJournal j w.site p → Reaches conn items j w p items j w p
reach_begins conn items j w p lawful fits =
    let x = j.machine.form in
    let h = j.machine.state in
    let saves = saves_none x h (kept j.store) w.site p lawful fits.fits in
    record {
      progress = progress_begins conn items j.machine w;
      saves = saves;
      acknowledges = saves_acknowledges going x h h (kept j.store) conn [] w w p p lawful saves
          (nothing_sent conn w) no_item;
    }

-- the run goes on only after `More`
pub ends_run : (result : Result Go Stop) (ending : Ending) → (result ≡ Ok More → ⊥) → EndsBy result ending → ending ≢ going
ends_run (Ok More) ending stops answered is = stops refl
ends_run (Ok Stopped) ending stops answered is = let e : stopped ≡ going = sym answered ∙ is in cc
ends_run (Err Disk) ending stops answered is = let e : failed answered.0 ≡ going = sym answered.1 ∙ is in cc

-- what an item saved, for the expression of the start
saves_of_first : (ending : Ending) (conn : ℕ) (all items : List Item) (first now next : Journaled) (before here there : WireState) (p q r : Crashes)
    → AreLawful there.site r → Reaches conn all first before p items now here q
    → SavesJournal ending now next (span here.site there.site q r) → SavesJournal ending first next (span before.site there.site p r)
saves_of_first ending conn all items first now next before here there p q r lawful reach saves =
    saves_join ending first.machine.form first.machine.state now.machine.state next.machine.state
    (kept now.store) (kept next.store) before.site here.site there.site p q r lawful reach.saves
    (subst (λ x. Saves ending x now.machine.state next.machine.state (kept next.store) (span here.site there.site q r)) reach.progress.form saves)

-- what was acknowledged so far, and with an item
reach_acknowledges : (ending : Ending) (conn : ℕ) (all items : List Item)
    (first now next : Journaled) (before here there : WireState) (p q r : Crashes)
    → AreLawful here.site q → (reach : Reaches conn all first before p items now here q)
    → (replies : List Reply)
    → SavesJournal ending now next (span here.site there.site q r) → SendsAll conn replies here there
    → Acknowledges now.machine.form (length now.machine.state.history)
    (with_failed ending next.machine.state.history) now.machine.state.renewed replies
    (span here.site there.site q r)
    → Acknowledges first.machine.form (length first.machine.state.history)
    (with_failed ending next.machine.state.history) first.machine.state.renewed
    (all_replies reach.progress.answers ++ replies) (span before.site there.site p r)
reach_acknowledges ending conn all items first now next before here there p q r lawful reach replies
    saves sends acknowledges =
    let x = first.machine.form in
    let h = first.machine.state.history in
    let mid = now.machine.state.history in
    let new = with_failed ending next.machine.state.history in
    let longer = sym (ap length reach.saves.grows) ∙ length-append h reach.saves.rest in
    acknowledges_join x h mid new saves.rest first.machine.state.renewed conn (all_replies reach.progress.answers) replies
    before here there p q r lawful reach.saves.passes.left.later
    saves.passes.left_since reach.progress.sends sends reach.saves.sends saves.sends saves.told
    reach.acknowledges
    (subst (λ y. Acknowledges y (length mid) new first.machine.state.renewed replies (span here.site there.site q r))
    reach.progress.form
    (subst (λ n. Acknowledges now.machine.form (length mid) new n replies (span here.site there.site q r))
    reach.saves.renewed acknowledges))
    saves.grows (omega (arith, longer))

-- of the replies to an item behind those so far
reach_item_acknowledges : (ending : Ending) (conn : ℕ) (all items : List Item)
    (first now next : Journaled) (before here there : WireState) (p q r : Crashes)
    → AreLawful here.site q → (reach : Reaches conn all first before p items now here q)
    → (replies : List Reply)
    → SavesJournal ending now next (span here.site there.site q r) → SendsAll conn replies here there
    → Acknowledges now.machine.form (length now.machine.state.history)
    (with_failed ending next.machine.state.history) now.machine.state.renewed replies
    (span here.site there.site q r)
    → Acknowledges first.machine.form (length first.machine.state.history)
    (with_failed ending next.machine.state.history) first.machine.state.renewed
    (all_replies (reach.progress.answers ++ replies ∷ [])) (span before.site there.site p r)
reach_item_acknowledges ending conn all items first now next before here there p q r lawful reach
    replies saves sends acknowledges =
    subst (λ rs. Acknowledges first.machine.form (length first.machine.state.history)
    (with_failed ending next.machine.state.history) first.machine.state.renewed rs (span before.site there.site p r))
    (sym (one_item_more reach.progress.answers replies))
    (reach_acknowledges ending conn all items first now next before here there p q r lawful reach
    replies saves sends acknowledges)

-- an item is answered that ends so
record ItemGoes (conn : ℕ) (item : Item) (ending : Ending) (now next : Journaled)
    (here there : WireState) (q r : Crashes) : Type 0 where
  pub replies : List Reply
  pub made : AnswersItem conn item ending replies now.machine next.machine here there
  pub saves : SavesJournal ending now next (span here.site there.site q r)
  pub acknowledges : Acknowledges now.machine.form (length now.machine.state.history)
      (with_failed ending next.machine.state.history) now.machine.state.renewed
      replies (span here.site there.site q r)

-- one item more was answered
reach_goes_on : (conn : ℕ) (all : List Item) (first : Journaled) (before : WireState) (p : Crashes)
    (item : Item) (others : List Item)
    (now : Journaled) (here : WireState) (next : Journaled) (there : WireState) (q r : Crashes)
    → AreLawful here.site q → AreLawful there.site r
    → Reaches conn all first before p (item ∷ others) now here q
    → ItemGoes conn item going now next here there q r
    → Reaches conn all first before p others next there r
reach_goes_on conn all first before p item others now here next there q r lawful_here lawful reach
    goes = record {
      progress = progress_goes_on conn all first.machine before item others now.machine here
          next.machine there reach.progress goes.replies goes.made;
      saves = saves_of_first going conn all (item ∷ others) first now next before here there p q r
          lawful reach goes.saves;
      acknowledges = reach_item_acknowledges going conn all (item ∷ others) first now next before here
          there p q r lawful_here reach goes.replies
          goes.saves goes.made.sends goes.acknowledges;
    }

-- the journal fits where the items so far were answered
pub reach_fits : (conn : ℕ) (all items : List Item) (first now : Journaled) (before here : WireState) (p q : Crashes)
    → FitsJournal first before.site p → Reaches conn all first before p items now here q
    → FitsJournal now here.site q
reach_fits conn all items first now before here p q fits reach = record {
  attached = reach.progress.sends.site.attached ∙ fits.attached;
  fits = subst (λ x. FitsWith x now.machine.state (kept now.store) here.site q)
      (sym reach.progress.form) reach.saves.fits;
}

module _ (conn : ℕ) (all : List Item) (first : Journaled) (before : WireState) (p : Crashes)
    (held : UnfinishedLine) (piece : List ℕ) (after_it : UnfinishedLine)
    (now next : Journaled) (here there : WireState) (q r : Crashes) where
  -- an item of a piece was taken, and the rest of the piece is left
  pub taken_goes_on : (used : ℕ) (go : Go) → AreLawful here.site q → AreLawful there.site r
      → Reaches conn all first before p (completes held piece) now here q
      → TakesOne conn held piece used (Ok go) after_it now next (wire_span here there q r) → go ≡ More
      → Reaches conn all first before p (completes after_it (take (length piece - used) (drop used piece))) next there r
  taken_goes_on used go lawful_here lawful reach one goes =
      let rest = drop used piece in
      let over = one.answers in
      let is : over.ending ≡ going = over.answered ∙ ap ending_after goes in
      let goes_on : ItemGoes conn one.item going now next here there q r =
      subst (λ e. ItemGoes conn one.item e now next here there q r) is
      (record { replies = over.replies; made = over.made; saves = over.saves; acknowledges = over.acknowledges }) in
      let others = completes (holds_after held (take used piece)) rest in
      let begun : Reaches conn all first before p (one.item ∷ others) now here q =
      subst (λ its. Reaches conn all first before p its now here q)
      (items_behind held piece one.item used one.feeds) reach in
      let same : others ≡ completes after_it (take (length piece - used) rest) =
      ap (λ h. completes h rest) (sym one.held_is) ∙ ap (completes after_it) (sym (take_rest piece used)) in
      subst (λ its. Reaches conn all first before p its next there r) same
      (reach_goes_on conn all first before p one.item others now here next there q r lawful_here
      lawful begun goes_on)

  -- an item was taken that ended the run
  pub taken_stops : (used : ℕ) (result : Result Go Stop) → (result ≡ Ok More → ⊥)
      → AreLawful here.site q → AreLawful there.site r
      → Reaches conn all first before p (completes held piece) now here q
      → TakesOne conn held piece used result after_it now next (wire_span here there q r)
      → OverJournal (AnswersItems conn all) result first next (wire_span before there p r)
  taken_stops used result ends lawful_here lawful reach one =
      let rest = drop used piece in
      let over = one.answers in
      let others = completes (holds_after held (take used piece)) rest in
      let begun : Reaches conn all first before p (one.item ∷ others) now here q =
      subst (λ its. Reaches conn all first before p its now here q)
      (items_behind held piece one.item used one.feeds) reach in
      record {
        ending = over.ending;
        replies = all_replies (begun.progress.answers ++ over.replies ∷ []);
        answered = over.answered;
        made = progress_stops conn all first.machine before one.item others now.machine here
            next.machine there
            over.ending (ends_run result over.ending ends over.answered) over.replies over.made
            begun.progress;
        saves = saves_of_first over.ending conn all (one.item ∷ others) first now next before here
            there p q r lawful begun over.saves;
        acknowledges = reach_item_acknowledges over.ending conn all (one.item ∷ others) first now
            next before here there p q r lawful_here begun over.replies
            over.saves over.made.sends over.acknowledges;
      }

  -- the piece was taken to its end
  pub taken_ends : AreLawful here.site q → AreLawful there.site r
      → Reaches conn all first before p (completes held piece) now here q
      → TakesNone held piece after_it now next (wire_span here there q r)
      → OverJournal (AnswersItems conn all) (Ok More) first next (wire_span before there p r)
  taken_ends lawful_here lawful reach none_taken =
      let rests = none_taken.rests in
      let left : Reaches conn all first before p [] now here q =
      subst (λ its. Reaches conn all first before p its now here q) none_taken.completes_none
      reach in
      let nothing : SendsAll conn [] here there =
      subst (λ w. SendsAll conn [] here w) (sym rests.wire) (nothing_sent conn here) in
      let x = now.machine.form in
      let h = now.machine.state in
      let so_far = all_replies left.progress.answers in
      let w = next.machine.state in
      record {
        ending = going;
        replies = so_far;
        answered = refl;
        made = progress_ends conn all first.machine before now.machine here next.machine there
            left.progress rests.machine nothing;
        saves = saves_of_first going conn all [] first now next before here there p q r lawful left
            rests.saves;
        acknowledges = subst (λ replies. Acknowledges first.machine.form
            (length first.machine.state.history) w.history first.machine.state.renewed replies
            (span before.site there.site p r))
            (append-nil so_far)
            (reach_acknowledges going conn all [] first now next before here there p q r lawful_here
            left [] rests.saves nothing
            (saves_acknowledges going x h w (kept next.store) conn [] here there q r lawful
            rests.saves nothing no_item));
      }

  -- what is held behind the rest is what is held behind the piece
  pub taken_holds : (used : ℕ) (result : Result Go Stop) → TakesOne conn held piece used result after_it now next (wire_span here there q r)
      → holds_after held piece ≡ holds_after after_it (take (length piece - used) (drop used piece))
  taken_holds used result one =
      held_behind held piece used ∙ ap (λ h. holds_after h (drop used piece)) (sym one.held_is)
      ∙ ap (holds_after after_it) (sym (take_rest piece used))

  -- what is held behind an item is clean
  pub taken_clean : (used : ℕ) (result : Result Go Stop) → TakesOne conn held piece used result after_it now next (wire_span here there q r) → IsClean after_it
  taken_clean used result one = subst IsClean (sym one.held_is) (clean_after held (take used piece))

  -- an item takes at least as many bytes as tickets
  pub taken_tickets : (used : ℕ) (result : Result Go Stop) → TakesOne conn held piece used result after_it now next (wire_span here there q r) → IsClean held
      → next.machine.state.number + length (take (length piece - used) (drop used piece)) ≤ now.machine.state.number + length piece
  taken_tickets used result one clean =
      let some = takes_a_byte held piece one.item used one.feeds clean in
      let rest : length (take (length piece - used) (drop used piece)) ≡ length piece - used =
      ap length (take_rest piece used) ∙ length-drop used piece in
      rw rest (omega (arith, some, one.feeds.within, one.answers.made.number))

  -- the rest of a piece is shorter
  pub taken_shorter : (used : ℕ) (result : Result Go Stop) → TakesOne conn held piece used result after_it now next (wire_span here there q r) → IsClean held
      → length (take (length piece - used) (drop used piece)) < length piece
  taken_shorter used result one clean =
      let some = takes_a_byte held piece one.item used one.feeds clean in
      let rest : length (take (length piece - used) (drop used piece)) ≡ length piece - used =
      ap length (take_rest piece used) ∙ length-drop used piece in
      rw rest (omega (arith, some, one.feeds.within))

each-none : (n k : ℕ) → IsClean (held_at k (replicate n (unfinished [])))
each-none zero k = refl
each-none (suc n) zero = refl
each-none (suc n) (suc k) = each-none n k

-- no text so far is clean
pub clean_at_start : AreClean (replicate 64 (unfinished []))
clean_at_start = record { count = length-replicate 64 (unfinished []); clean = each-none 64 }

-- a manager with these parts
abbrev pub managed : Journaled → List UnfinishedLine → List Bool → Bool → ManagerState
managed j lines marks ended = record {
  form = j.machine.form;
  limit = j.machine.limit;
  machine = j.machine.state;
  store = kept j.store;
  lines = lines;
  marks = marks;
  ended = ended;
}

-- whether the run ended, by the answer
abbrev pub ended_by : Result Go Stop → Bool
ended_by (Ok More) = false
ended_by _ = true

ended_as : (result : Result Go Stop) (ending : Ending) → EndsBy result ending
    → ended_by result ≡ has_ended ending
ended_as (Ok More) ending answered = ap has_ended (sym answered)
ended_as (Ok Stopped) ending answered = ap has_ended (sym answered)
ended_as (Err Disk) ending answered = ap has_ended (sym answered.1)

goes_on_after : (result : Result Go Stop) (ending : Ending) → EndsBy result ending → ending ≡ going
    → result ≡ Ok More
goes_on_after (Ok More) ending answered goes = refl
goes_on_after (Ok Stopped) ending answered goes = let e : stopped ≡ going = sym answered ∙ goes in
    cc
goes_on_after (Err Disk) ending answered goes = let e : failed answered.0 ≡ going = sym answered.1
    ∙ goes in cc

-- the bytes of a connection were taken
pub bytes_taken : (conn : ℕ) (bytes : List ℕ) (result : Result Go Stop) (j next : Journaled)
    (lines : List UnfinishedLine) (marks : List Bool)
    (was ended : Bool) (behind : UnfinishedLine) (gone : Bool) (a b : SiteState) (p q : Crashes)
    → ended ≡ ended_by result → (result ≡ Ok More → behind ≡ holds_after (held_at conn lines) bytes)
    → OverJournal (AnswersItems conn (completes (held_at conn lines) bytes)) result j next
    (wire_stretch (get_or marks conn false) gone (span a b p q))
    → OverRun (TakesBytes conn bytes) result (managed j lines marks was)
    (managed next (set lines conn behind) (set marks conn gone) ended)
    (wire_stretch (get_or marks conn false) false (span a b p q))
bytes_taken conn bytes result j next lines marks was ended behind gone a b p q ends holds over =
    record {
      ending = over.ending;
      replies = over.replies;
      answered = over.answered;
      made = record {
        answers = over.made.answers;
        all = over.made.all;
        marked = gone;
        steps = over.made.steps;
        sends = over.made.sends;
        lines = λ goes. ap (set lines conn)
            (holds (goes_on_after result over.ending over.answered goes));
        marks = refl;
        ended = ends ∙ ended_as result over.ending over.answered;
        form = over.made.form;
        limit = over.made.limit;
      };
      saves = over.saves;
      acknowledges = over.acknowledges;
    }

-- within a list what stands for the items behind it doesn't matter
pub get_or_any : (lines : List UnfinishedLine) (index : ℕ) (one two : UnfinishedLine)
    → index < length lines → get_or lines index one ≡ get_or lines index two
get_or_any [] index one two within = absurd (omega arith)
get_or_any (line ∷ lines) zero one two within = refl
get_or_any (line ∷ lines) (suc index) one two within = get_or_any lines index one two (omega arith)
