-- What sending an event's replies makes of the text and of the list of sends.
use Rattle.std.proofs.Common.{◌≡◌, inl, inr, ℕ, ◌+◌, ◌<◌, Bool, true, false, List, [], ◌∷◌, ◌++◌}
use Rattle.std.proofs.Common.{length, get_or, refl, sym, ◌∙◌, ap, subst, append_assoc, append-nil}
use Rattle.std.proofs.Common.{arith, Option, Some, None, true≢false}
use Rattle.std.proofs.lemmas.List.{length-append, length-set, get_or-set_same, get_or-set_other}
use Rattle.std.specs.Option.{option_map}
use Rattle.std.specs.Io.KnownBytes.{append_known}
use Rattle.ix_expr.specs.Form.{Form}
use Rattle.ix_lines.specs.Feeding.{UnfinishedLine}
use Rattle.ix_outside.specs.Contents.{GivenEvent, SentBytes, Contents, Sends, SendsWhole, SendsPart}
use Rattle.ix_outside.specs.Contents.{send_text, with_pair, with_gone}
use Rattle.ix_outside.specs.Sink.{AppendsPart}
use Rattle.ix_outside.specs.declared.event.Event.{Event}
use Rattle.ix_outside.specs.declared.event.EventKind.{EventKind}
use Rattle.ix_outside.specs.declared.event.EventKind.TheVariants.{Bytes, Closed, End}
use Rattle.ix_proto.specs.declared.reply.Reply.{Reply}
use Rattle.ix_manager.specs.Machine.{MachineState}
use Rattle.ix_manager.specs.Runs.{Ending, Steps, none}
use Rattle.ix_manager.specs.Handled.{ManagerState, SendsReplies, Handles, completed_by, held_at}
use Rattle.ix_manager.specs.Wire.{SendsInOrder, done, silent, sent, lost, reply_line, all_replies}
use Rattle.ix_manager.specs.Wire.{replies_text, run_text, marks_after, SentReplies, PairsWhole}
use Rattle.ix_manager.specs.Wire.{PairsFront, Wire, begin, takes}
use Rattle.ix_manager.specs.RunLaws.{given_event, Carries, WireGoesOn, SentRepliesAreTheWire}
use Rattle.ix_manager.specs.RunLaws.{TellsReplies, UnmarkedRepliesAreTheText}

-- a reply's line is sent whole, or a front of it
abbrev Whole : ℕ → Reply → Contents → Contents → Type 0
Whole conn reply = SendsWhole conn (reply_line reply)

abbrev Part : ℕ → Reply → Contents → Contents → Type 0
Part conn reply = SendsPart conn (reply_line reply)

append_twice : (known : Option (List ℕ)) (a b : List ℕ) → append_known (append_known known a) b ≡ append_known known (a ++ b)
append_twice None a b = refl
append_twice (Some bytes) a b = ap Some (append_assoc bytes a b)

append_nothing : (known : Option (List ℕ)) → known ≡ append_known known []
append_nothing None = refl
append_nothing (Some bytes) = ap Some (sym (append-nil bytes))

-- on a marked connection nothing is sent
pub silent_keeps : {S : Type 0} {whole front : Reply → S → S → Type 0} {replies : List Reply} {marked : Bool} {s after : S}
    → SendsInOrder whole front replies true s marked after → (after ≡ s) × (marked ≡ true)
silent_keeps done = (refl, refl)
silent_keeps (silent rest) = silent_keeps rest

-- replies that leave the connection unmarked
pub sent_whole : (conn : ℕ) {replies : List Reply} {marked : Bool} {s after : Contents}
    → SendsInOrder (Whole conn) (Part conn) replies false s marked after → marked ≡ false
    → after.text ≡ append_known s.text (replies_text conn replies)
sent_whole conn (done {s = s}) open_still = append_nothing s.text
sent_whole conn (sent {reply = reply} {replies = replies} {s = s} goes rest) open_still =
    sent_whole conn rest open_still ∙ ap (λ t. append_known t (replies_text conn replies)) goes.text
    ∙ append_twice s.text (send_text conn (reply_line reply)) (replies_text conn replies)
sent_whole conn (lost part rest) open_still = absurd (true≢false open_still)

-- replies of which some front was sent
pub sent_part : (conn : ℕ) {replies : List Reply} {marked : Bool} {s after : Contents}
    → SendsInOrder (Whole conn) (Part conn) replies false s marked after → AppendsPart s.text (replies_text conn replies) after.text
sent_part conn (done {s = s}) = ([], ([], refl), append_nothing s.text)
sent_part conn (sent {reply = reply} {replies = replies} {s = s} goes rest) =
    let others = sent_part conn rest in
    let line : List ℕ = send_text conn (reply_line reply) in (
      line ++ others.0,
      (others.1.0, append_assoc line others.0 others.1.0 ∙ ap (λ t. line ++ t) others.1.1),
      others.2 ∙ ap (λ t. append_known t others.0) goes.text ∙ append_twice s.text line others.0,
    )
sent_part conn (lost {reply = reply} {replies = replies} part rest) =
    let told = part.text in (
      told.0,
      (told.1.0 ++ replies_text conn replies, sym (append_assoc told.0 told.1.0 (replies_text conn replies)) ∙ ap (λ t. t ++ replies_text conn replies) told.1.1),
      ap (λ (c : Contents). c.text) (silent_keeps rest).0 ∙ told.2,
    )

-- the replies to an event, by the mark that they leave
pub replies_told : (old : ManagerState) (event : Event) (last : List (List Reply)) (new : ManagerState) (before after : Contents)
    (told : SendsReplies old event last new before after) → get_or old.marks event.conn false ≡ false
    → TellsReplies told.marked before (replies_text event.conn (all_replies last)) after
replies_told old event last new before after told unmarked_before =
    let sends = subst (λ m. SendsInOrder (Whole event.conn) (Part event.conn) (all_replies last) m before told.marked after) unmarked_before told.sends in
    (λ open_still. sent_whole event.conn sends open_still, λ _. sent_part event.conn sends)

-- on a marked connection
pub marked_silent : (old : ManagerState) (event : Event) (last : List (List Reply)) (new : ManagerState) (before after : Contents)
    (told : SendsReplies old event last new before after) → get_or old.marks event.conn false ≡ true
    → (after ≡ before) × (told.marked ≡ true)
marked_silent old event last new before after told marked_before =
    silent_keeps (subst (λ m. SendsInOrder (Whole event.conn) (Part event.conn) (all_replies last) m before told.marked after) marked_before told.sends)

-- the marks of other connections stay, and their number
pub marks_count : (kind : EventKind) (conn : ℕ) (marked : Bool) (marks : List Bool) → length (marks_after kind conn marked marks) ≡ length marks
marks_count (Bytes n) conn marked marks = length-set marks conn marked
marks_count Closed conn marked marks = length-set marks conn false
marks_count End conn marked marks = length-set marks conn marked

pub marks_others : (kind : EventKind) (conn : ℕ) (marked : Bool) (marks : List Bool) (other : ℕ) → (other ≡ conn → ⊥)
    → get_or (marks_after kind conn marked marks) other false ≡ get_or marks other false
marks_others (Bytes n) conn marked marks other isnt = get_or-set_other marks conn other marked false isnt
marks_others Closed conn marked marks other isnt = get_or-set_other marks conn other false false isnt
marks_others End conn marked marks other isnt = get_or-set_other marks conn other marked false isnt

-- closing completes nothing, and so answers nothing
no_steps : {x : Form} {limit : ℕ} {s after : MachineState} {answers : List (List Reply)} {ending : Ending} → Steps x limit s [] answers after ending → answers ≡ []
no_steps none = refl

no_answers : {x : Form} {limit : ℕ} {s after : MachineState} {answers : List (List Reply)} {ending : Ending} (kind : EventKind) (h : UnfinishedLine) (bytes : List ℕ)
    → Steps x limit s (completed_by kind h bytes) answers after ending → kind ≡ Closed → answers ≡ []
no_answers (Bytes n) h bytes steps closed = cc
no_answers Closed h bytes steps closed = no_steps steps
no_answers End h bytes steps closed = no_steps steps

-- the mark that the replies to an event leave
new_mark : (kind : EventKind) (conn : ℕ) (marked : Bool) (marks : List Bool) → conn < length marks → (kind ≡ Closed → marked ≡ false)
    → get_or (marks_after kind conn marked marks) conn false ≡ marked
new_mark (Bytes n) conn marked marks within closed = get_or-set_same marks conn marked false within
new_mark Closed conn marked marks within closed = get_or-set_same marks conn false false within ∙ sym (closed refl)
new_mark End conn marked marks within closed = get_or-set_same marks conn marked false within

nothing_sent : {S : Type 0} {whole front : Reply → S → S → Type 0} {replies : List Reply} {was marked : Bool} {s after : S}
    → SendsInOrder whole front replies was s marked after → replies ≡ [] → marked ≡ was
nothing_sent done nothing = refl
nothing_sent (silent rest) nothing = cc
nothing_sent (sent goes rest) nothing = cc
nothing_sent (lost part rest) nothing = cc

-- the replies to an event that is handled, by the new mark
pub handled_told : (old : ManagerState) (event : Event) (bytes : List ℕ) (ending : Ending) (new : ManagerState) (before after : Contents)
    (handled : Handles old event bytes ending new before after) → event.conn < length old.marks → get_or old.marks event.conn false ≡ false
    → TellsReplies (get_or new.marks event.conn false) before (replies_text event.conn (all_replies handled.answers)) after
handled_told old event bytes ending new before after handled within unmarked_before =
    subst (λ m. TellsReplies m before (replies_text event.conn (all_replies handled.answers)) after) (sym is)
    (replies_told old event handled.answers new before after handled.sends unmarked_before)
  where
    closed_unmarked : event.kind ≡ Closed → handled.sends.marked ≡ false
    closed_unmarked closed =
        nothing_sent handled.sends.sends (ap all_replies (no_answers event.kind (held_at event.conn old.lines) bytes handled.takes.steps closed))
        ∙ unmarked_before

    is : get_or new.marks event.conn false ≡ handled.sends.marked
    is = ap (λ marks. get_or marks event.conn false) handled.sends.marks ∙ new_mark event.kind event.conn handled.sends.marked old.marks within closed_unmarked

-- the text of a run with one more event
pub run_text-push : (events : List GivenEvent) (answers : List (List (List Reply))) (given : GivenEvent) (last : List (List Reply)) → length events ≡ length answers
    → run_text (events ++ given ∷ []) (answers ++ last ∷ []) ≡ run_text events answers ++ replies_text given.event.conn (all_replies last)
run_text-push [] [] given last same = append-nil (replies_text given.event.conn (all_replies last))
run_text-push [] (first ∷ answers) given last same = absurd (omega arith)
run_text-push (event ∷ events) [] given last same = absurd (omega arith)
run_text-push (event ∷ events) (first ∷ answers) given last same =
    let text : List ℕ = replies_text event.event.conn (all_replies first) in
    ap (λ t. text ++ t) (run_text-push events answers given last (omega arith))
    ∙ sym (append_assoc text (run_text events answers) (replies_text given.event.conn (all_replies last)))

-- how many marks there are stays
pub handled_marks : (old : ManagerState) (event : Event) (bytes : List ℕ) (ending : Ending) (new : ManagerState) (before after : Contents)
    → Handles old event bytes ending new before after → length new.marks ≡ length old.marks
handled_marks old event bytes ending new before after handled =
    ap length handled.sends.marks ∙ marks_count event.kind event.conn handled.sends.marked old.marks

-- the text that the replies of a run made goes on to be that of the longer run, or a front of it
pub run_text_told : (known : Option (List ℕ)) (events : List GivenEvent) (answers : List (List (List Reply)))
    (old : ManagerState) (event : Event) (bytes : List ℕ) (ending : Ending) (new : ManagerState) (before after : Contents)
    (handled : Handles old event bytes ending new before after) → length events ≡ length answers
    → event.conn < length old.marks → get_or old.marks event.conn false ≡ false → before.text ≡ append_known known (run_text events answers)
    → (get_or new.marks event.conn false ≡ false
    → after.text ≡ append_known known (run_text (events ++ given_event event bytes ∷ []) (answers ++ handled.answers ∷ [])))
    × (get_or new.marks event.conn false ≡ true
    → AppendsPart known (run_text (events ++ given_event event bytes ∷ []) (answers ++ handled.answers ∷ [])) after.text)
run_text_told known events answers old event bytes ending new before after handled same within unmarked_before is =
    let told = handled_told old event bytes ending new before after handled within unmarked_before in
    let text : List ℕ = run_text events answers in
    let replies : List ℕ = replies_text event.conn (all_replies handled.answers) in
    let longer : run_text (events ++ given_event event bytes ∷ []) (answers ++ handled.answers ∷ []) ≡ text ++ replies =
    run_text-push events answers (given_event event bytes) handled.answers same in (
      λ open_still.
          told.0 open_still ∙ ap (λ t. append_known t replies) is ∙ append_twice known text replies ∙ ap (append_known known) (sym longer),
      λ lost_now.
          let part = told.1 lost_now in (
            text ++ part.0,
            (part.1.0, append_assoc text part.0 part.1.0 ∙ ap (λ t. text ++ t) part.1.1 ∙ sym longer),
            part.2 ∙ ap (λ t. append_known t part.0) is ∙ append_twice known text part.0,
          ),
    )

pub unmarked_replies_are_the_text : UnmarkedRepliesAreTheText
unmarked_replies_are_the_text = (replies_told, marked_silent, handled_told, run_text-push)

pub not_told : {A : Type 0} {told : Option A} {value : A} → told ≡ None → told ≡ Some value → ⊥
not_told isnt is = cc

pub some_is : {A : Type 0} {a b : A} → Some a ≡ Some b → a ≡ b
some_is e = cc

-- replies that are sent on a marked connection are so over anything
silent_over : {S T : Type 0} {whole front : Reply → S → S → Type 0}
    {whole' front' : Reply → T → T → Type 0} {replies : List Reply} {marked : Bool} {s after : S}
    (t : T) → SendsInOrder whole front replies true s marked after
    → SendsInOrder whole' front' replies true t marked t
silent_over t done = done
silent_over t (silent rest) = silent (silent_over t rest)

-- sends with the replies that those of a run carry
abbrev with_replies : List Reply → Sends → SentReplies
with_replies replies sends = record { sends = sends; replies = replies }

-- sends that are told, by the sends alone
pub wire_sends : (conn : ℕ) {replies : List Reply} {was marked : Bool} {before after : Contents}
    (s s' : Sends) (so_far : List Reply)
    → SendsInOrder (Whole conn) (Part conn) replies was before marked after → before.sends ≡ Some s
    → after.sends ≡ Some s'
    → (part : Carries replies s.sent s'.sent marked)
    × SendsInOrder (PairsWhole conn) (PairsFront conn) replies was (with_replies so_far s) marked
    (with_replies (so_far ++ part.carried) s')
wire_sends conn {was = was} s s' so_far done told told' =
    let same : s ≡ s' = some_is (sym told ∙ told') in
    let count : length s'.sent ≡ length s.sent = ap (λ (t : Sends). length t.sent) (sym same) in
    let goes : Sends → List Reply → Type 0 =
    λ t rs. SendsInOrder (PairsWhole conn) (PairsFront conn) [] was (with_replies so_far s) was
    (with_replies rs t) in (
      record {
        carried = [];
        silent = [];
        all = refl;
        count = omega (arith, count);
        whole =
            inl refl;
      },
      subst (λ t. goes t (so_far ++ [])) same
          (subst (λ rs. goes s rs) (sym (append-nil so_far)) done),
    )
wire_sends conn s s' so_far (silent {reply = reply} {replies = replies} rest) told told' =
    let same : s ≡ s' = some_is (sym told
    ∙ sym (ap (λ (c : Contents). c.sends) (silent_keeps rest).0) ∙ told') in
    let count : length s'.sent ≡ length s.sent = ap (λ (t : Sends). length t.sent) (sym same) in
    let goes : Sends → List Reply → Type 0 =
    λ t rs. SendsInOrder (PairsWhole conn) (PairsFront conn) (reply ∷ replies) true
    (with_replies so_far s) true (with_replies rs t) in (
      record {
        carried = [];
        silent = reply ∷ replies;
        all = refl;
        count =
            omega (arith, count);
        whole = inr refl;
      },
      subst (λ t. goes t (so_far ++ [])) same
          (subst (λ rs. goes s rs) (sym (append-nil so_far))
          (silent (silent_over (with_replies so_far s) rest))),
    )
wire_sends conn s s' so_far (sent {reply = reply} {replies = replies} {marked = marked} goes rest)
    told told' =
    let line = reply_line reply in
    let others = wire_sends conn (with_pair conn line s) s' (so_far ++ reply ∷ []) rest
    (goes.sends ∙ ap (option_map (with_pair conn line)) told) told' in
    let one = length-append s.sent (record { conn = conn; bytes = line } ∷ []) in
    let count = others.0.count in (
      record {
        carried = reply ∷ others.0.carried;
        silent = others.0.silent;
        all = ap (λ rs. reply ∷ rs) others.0.all;
        count = omega (arith, one, count);
        whole = others.0.whole;
      },
      subst (λ rs. SendsInOrder (PairsWhole conn) (PairsFront conn) (reply ∷ replies) false
          (with_replies so_far s) marked (with_replies rs s'))
          (append_assoc so_far (reply ∷ []) others.0.carried) (sent refl others.1),
    )
wire_sends conn s s' so_far (lost {reply = reply} {replies = replies} part rest) told told' =
    elim part.sends [
      | inl front ↦
          let now = sym (front.sends ∙ ap (option_map (with_gone conn front.front)) told)
          ∙ sym (ap (λ (c : Contents). c.sends) (silent_keeps rest).0) ∙ told' in
          let same : with_gone conn front.front s ≡ s' = some_is now in
          let count = ap (λ (t : Sends). length t.sent) (sym same)
          ∙ length-append s.sent (record { conn = conn; bytes = front.front } ∷ []) in
          let one : List Reply = so_far ++ reply ∷ [] in (
            record {
              carried = reply ∷ [];
              silent = replies;
              all = refl;
              count =
                  omega (arith, count);
              whole = inr refl;
            },
            subst (λ t. SendsInOrder (PairsWhole conn) (PairsFront conn) (reply ∷ replies) false
                (with_replies so_far s) true (with_replies one t)) same
                (lost (front.front, front.is_front, refl)
                (silent_over (with_replies one (with_gone conn front.front s)) rest)),
          )
      | inr isnt ↦ absurd (not_told (ap (λ (c : Contents). c.sends) (silent_keeps rest).0 ∙ isnt) told')
    ]

-- the replies that sends carry, of those that were sent in order
pub carries : (conn : ℕ) {replies : List Reply} {was marked : Bool} {before after : Contents}
    (s s' : Sends)
    → SendsInOrder (Whole conn) (Part conn) replies was before marked after → before.sends ≡ Some s
    → after.sends ≡ Some s'
    → Carries replies s.sent s'.sent marked
carries conn s s' sends told told' = (wire_sends conn s s' [] sends told told').0

-- sends that aren't told stay so
pub untold_sends : (conn : ℕ) {replies : List Reply} {was marked : Bool} {before after : Contents}
    → SendsInOrder (Whole conn) (Part conn) replies was before marked after → before.sends ≡ None → after.sends ≡ None
untold_sends conn done untold = untold
untold_sends conn (silent rest) untold = untold_sends conn rest untold
untold_sends conn (sent {reply = reply} goes rest) untold = untold_sends conn rest (goes.sends ∙ ap (option_map (with_pair conn (reply_line reply))) untold)
untold_sends conn (lost part rest) untold = elim part.sends [
  | inl front ↦ untold_sends conn rest (front.sends ∙ ap (option_map (with_gone conn front.front)) untold)
  | inr isnt ↦ ap (λ (c : Contents). c.sends) (silent_keeps rest).0 ∙ isnt
]

-- one more event on the wire
pub wire_goes_on : WireGoesOn
wire_goes_on start events answers so_far s' old event bytes last new before after wire told is is' =
    let sends = wire_sends event.conn so_far.sends s' so_far.replies told.sends is is' in
    let behind = with_replies (so_far.replies ++ sends.0.carried) s' in (
      sends.0,
      subst (λ marks. Wire start (events ++ given_event event bytes ∷ []) (answers ++ last ∷ [])
          marks behind) (sym told.marks)
          (takes (given_event event bytes) last told.marked wire sends.1),
    )

-- pairs behind those of before, as many as the replies that they carry
pub record PairsBehind (before : List SentBytes) (so_far : List Reply) (after : SentReplies) :
    Type 0 where
  pub pairs : List SentBytes
  pub behind : after.sends.sent ≡ before ++ pairs
  pub count : length after.replies ≡ length so_far + length pairs

next_pair : (before : SentReplies) (reply : Reply) (pair : SentBytes) (between after : SentReplies)
    → between.sends.sent ≡ before.sends.sent ++ pair ∷ []
    → between.replies ≡ before.replies ++ reply ∷ []
    → PairsBehind between.sends.sent between.replies after
    → PairsBehind before.sends.sent before.replies after
next_pair before reply pair between after sends replies others =
    let one = ap length replies ∙ length-append before.replies (reply ∷ []) in
    let count = others.count in
    record {
      pairs = pair ∷ others.pairs;
      behind = others.behind ∙ ap (λ s. s ++ others.pairs) sends
          ∙ append_assoc before.sends.sent (pair ∷ []) others.pairs;
      count = omega (arith, one, count);
    }

no_pair : (before after : SentReplies) → after ≡ before
    → PairsBehind before.sends.sent before.replies after
no_pair before after same =
    let count = ap (λ (t : SentReplies). length t.replies) same in
    record {
      pairs = [];
      behind = ap (λ (t : SentReplies). t.sends.sent) same
          ∙ sym (append-nil before.sends.sent);
      count = omega (arith, count);
    }

order_pairs : (conn : ℕ) {replies : List Reply} {was marked : Bool} {before after : SentReplies}
    → SendsInOrder (PairsWhole conn) (PairsFront conn) replies was before marked after
    → PairsBehind before.sends.sent before.replies after
order_pairs conn (done {s = s}) = no_pair s s refl
order_pairs conn (silent {s = s} {after = after} rest) = no_pair s after (silent_keeps rest).0
order_pairs conn (sent {reply = reply} {s = s} {between = between} {after = after} goes rest) =
    next_pair s reply (record { conn = conn; bytes = reply_line reply }) between after
    (ap (λ (t : SentReplies). t.sends.sent) goes) (ap (λ (t : SentReplies). t.replies) goes)
    (order_pairs conn rest)
order_pairs conn (lost {reply = reply} {s = s} {between = between} {after = after} part rest) =
    next_pair s reply (record { conn = conn; bytes = part.0 }) between after
    (ap (λ (t : SentReplies). t.sends.sent) part.2) (ap (λ (t : SentReplies). t.replies) part.2)
    (no_pair between after (silent_keeps rest).0)

-- what is sent in a run stands behind what was sent before, one pair for each of the replies that
-- are carried
pub wire_pairs : {start : Sends} {events : List GivenEvent} {answers : List (List (List Reply))}
    {marks : List Bool} {so_far : SentReplies}
    → Wire start events answers marks so_far → PairsBehind start.sent [] so_far
wire_pairs begin = record { pairs = []; behind = sym (append-nil _); count = refl }
wire_pairs (takes {s = s} {after = after} given last marked wire sends) =
    let first = wire_pairs wire in
    let more = order_pairs given.event.conn sends in
    let one = first.count in
    let two = more.count in
    let both = length-append first.pairs more.pairs in
    record {
      pairs = first.pairs ++ more.pairs;
      behind = more.behind ∙ ap (λ pairs. pairs ++ more.pairs) first.behind
          ∙ append_assoc _ first.pairs more.pairs;
      count = omega (arith, one, two, both);
    }

pub sent_replies_are_the_wire : SentRepliesAreTheWire
sent_replies_are_the_wire = (wire_goes_on, λ old event last new before after told untold. untold_sends event.conn told.sends untold)
