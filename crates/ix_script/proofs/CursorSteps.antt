-- Steps of a place in a script, by its parts.
use Rattle.std.proofs.Common.{◌≡◌, ℕ, ◌<◌, min, drop, true, false, cond, List, [], ◌∷◌, length, refl, sym, ◌∙◌, ap, subst}
use Rattle.ix_outside.specs.declared.event.Event.{Event}
use Rattle.ix_outside.specs.declared.event.EventKind.TheVariants.{Closed}
use Rattle.ix_script.specs.inside.Cursor.{IsBare, IsCursorAt, left_of, open_bytes, later_events}
use Rattle.ix_script.specs.declared.cursor.Cursor.{Cursor}
use Rattle.ix_script.specs.Events.{bytes_event, closed_event, end_event, is_close, text_bytes, line_event}
use Rattle.ix_script.specs.Grammar.{IsScriptLine}
use Rattle.ix_lines.specs.TextLines.{lines_of}
use Rattle.ix_script.specs.Pieces.{left_after}
use Rattle.ix_script.specs.inside.Progress.{events_at, with_bytes}
use Rattle.ix_lines.proofs.LineLists.{lines_of-none}
use Rattle.ix_script.proofs.LineParts.{events_step, some_bytes}
use Rattle.ix_script.proofs.LeftEvents.{with_bytes-some, with_bytes-none, with_bytes-more, events_some, bare_next, bare_left, left_open}

module _ (now old_conn moment conn : ℕ) (idle rest line next text : List ℕ) (none : idle ≡ []) (lines : lines_of rest ≡ line ∷ lines_of next) (parts : IsScriptLine line moment conn text) where
  begun : with_bytes now old_conn idle (events_at now (lines_of rest)) ≡ line_event moment conn text ∷ events_at moment (lines_of next)
  begun = with_bytes-none now old_conn idle (events_at now (lines_of rest)) none ∙ ap (events_at now) lines ∙ events_step now moment conn line text (lines_of next) parts

  -- a line that closes its connection
  pub closed_step : is_close text ≡ true
      → with_bytes now old_conn idle (events_at now (lines_of rest)) ≡ closed_event moment conn ∷ with_bytes moment conn idle (events_at moment (lines_of next))
  closed_step closes =
      begun ∙ ap (λ t. cond t (closed_event moment conn) (bytes_event moment conn (text_bytes text)) ∷ events_at moment (lines_of next)) closes
      ∙ sym (ap (λ es. closed_event moment conn ∷ es) (with_bytes-none moment conn idle (events_at moment (lines_of next)) none))

  -- a line with bytes
  pub open_step : (open_now : List ℕ) → open_now ≡ text_bytes text → is_close text ≡ false
      → (with_bytes moment conn open_now (events_at moment (lines_of next)) ≡ with_bytes now old_conn idle (events_at now (lines_of rest))) × (0 < length open_now)
  open_step open_now same goes_on =
      let some : 0 < length open_now = subst (λ t. 0 < length t) (sym same) (some_bytes text parts.more) in (
        with_bytes-some moment conn open_now (events_at moment (lines_of next)) some ∙ ap (λ t. bytes_event moment conn t ∷ events_at moment (lines_of next)) same
            ∙ sym (begun ∙ ap (λ t. cond t (closed_event moment conn) (bytes_event moment conn (text_bytes text)) ∷ events_at moment (lines_of next)) goes_on),
        some,
      )

-- the end
pub end_left : (now conn : ℕ) (idle rest : List ℕ) → idle ≡ [] → length rest ≡ 0 → with_bytes now conn idle (events_at now (lines_of rest)) ≡ end_event now ∷ []
end_left now conn idle rest none empty = with_bytes-none now conn idle (events_at now (lines_of rest)) none ∙ ap (events_at now) (lines_of-none rest empty)

-- some events are to come, the end at least
pub left_some : (cursor : Cursor) → 0 < length (left_of cursor)
left_some cursor = with_bytes-more cursor.moment cursor.conn (open_bytes cursor) (later_events cursor) (events_some cursor.moment (lines_of cursor.rest.now))

-- a Closed comes next
pub closed_bare : (old new : Cursor) (event : Event) → event ≡ record { conn = new.conn; moment = new.moment; kind = Closed }
    → left_of old ≡ closed_event new.moment new.conn ∷ left_of new → IsBare old event new
closed_bare old new event is first =
    subst (λ (e : Event). IsBare old e new) (sym is) (record {
      fits = λ room. (new.in_range, tt);
      none = λ buf. refl;
      next = λ room. bare_next room (closed_event new.moment new.conn) (left_of old) (left_of new) first refl;
      left = λ room. bare_left room (closed_event new.moment new.conn) (left_of old) (left_of new) first refl (left_some new);
    })

-- what a buffer leaves
pub given_left : (old begun new : Cursor) (room count : ℕ) → IsCursorAt old begun → count ≡ min (length (open_bytes begun)) room → open_bytes new ≡ drop count (open_bytes begun)
    → later_events new ≡ later_events begun → new.moment ≡ begun.moment → new.conn ≡ begun.conn → left_of new ≡ left_after room (left_of old)
given_left old begun new room count start is open_now later moment conn =
    (λ i. with_bytes (moment i) (conn i) (open_now i) (later i))
    ∙ left_open room count begun.moment begun.conn (open_bytes begun) (later_events begun) (events_some begun.moment (lines_of begun.rest.now)) start.some is
    ∙ ap (left_after room) start.same
