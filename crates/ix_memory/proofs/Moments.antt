-- What one call makes of what a crash may leave.
use Rattle.std.proofs.Common.{◌≡◌, ◌⊎◌, ℕ, List, [], ◌∷◌, ◌++◌, length, Bool, Some, None}
use Rattle.std.proofs.Common.{inl, inr, sym, ap, subst, arith}
use Rattle.std.proofs.lemmas.List.{append-nil}
use Rattle.ix_outside.specs.Contents.{GivenEvent, SentBytes, Sends}
use Rattle.ix_outside.specs.Counts.{Counts}
use Rattle.ix_outside.specs.Crashes.{Left, OneCall, IsSentByThen, stretch_of}
use Rattle.ix_memory.specs.PlanState.{fresh_plan}
use Rattle.ix_memory.specs.declared.past.Effect.{Effect}
use Rattle.ix_memory.specs.inside.MemorySiteState.{MemorySiteState, state_of, crashes_of}
use Rattle.ix_memory.specs.inside.Moments.{LeavesImage, LeftSince}
use Rattle.ix_memory.specs.inside.PastCalls.{PastCall}
use Rattle.ix_memory.specs.lemmas.Lawful.{LeftSince-now, told_sends}

-- since a tick before a call: what was left by then, or what was left since the call began
LeftSince-split : (call : PastCall) (calls : List PastCall) (file : List ℕ) (sent : List SentBytes)
    (t : ℕ) (left : Left) → LeftSince (call ∷ calls) file sent t left
    → LeftSince calls call.file call.sent t left
    ⊎ LeftSince (call ∷ calls) file sent (length calls) left
LeftSince-split call calls file sent t left (inl before) = inl before
LeftSince-split call calls file sent t left (inr (inl within)) =
    inr (inr (inl (omega arith, within.1, within.2)))
LeftSince-split call calls file sent t left (inr (inr behind)) =
    inr (inr (inr (omega arith, behind.1, behind.2)))

-- since a call began: what might be left before it, or what may be left behind it
LeftSince-images : (call : PastCall) (calls : List PastCall) (file : List ℕ) (sent : List SentBytes)
    (left : Left) → LeftSince (call ∷ calls) file sent (length calls) left
    → LeavesImage calls call.file left.image ⊎ LeavesImage (call ∷ calls) file left.image
LeftSince-images call calls file sent left (inl before) =
    inl (LeftSince-now calls call.file call.sent left before).0
LeftSince-images call calls file sent left (inr (inl within)) = inr within.1
LeftSince-images call calls file sent left (inr (inr behind)) = inr behind.1

-- what had been sent by then
LeftSince-sent : (call : PastCall) (calls : List PastCall) (file : List ℕ) (sent : List SentBytes)
    (left : Left) → IsSentByThen call.sent sent sent
    → LeftSince (call ∷ calls) file sent (length calls) left → IsSentByThen call.sent sent left.sent
LeftSince-sent call calls file sent left whole (inl before) =
    inl (LeftSince-now calls call.file call.sent left before).1
LeftSince-sent call calls file sent left whole (inr (inl within)) = within.2
LeftSince-sent call calls file sent left whole (inr (inr behind)) =
    subst (λ then. IsSentByThen call.sent sent then) (sym behind.2) whole

-- a call from one site to the other
abbrev pub Calls : MemorySiteState → MemorySiteState → Type 0
Calls old new = OneCall (stretch_of state_of crashes_of old new)

-- a call of this effect, with the file and the sends before it
abbrev pub call_on : Effect → MemorySiteState → PastCall
call_on effect old = record { effect = effect; file = old.image; sent = old.sends.sent }

-- the site with a call in front of those before, whatever else changed
abbrev pub behind_call : Effect → MemorySiteState → MemorySiteState → MemorySiteState
behind_call effect old new = record new { past = call_on effect old ∷ old.past }

one_call-behind : (effect : Effect) (old new : MemorySiteState)
    → IsSentByThen old.sends.sent new.sends.sent new.sends.sent
    → Calls old (behind_call effect old new)
one_call-behind effect old new whole = record {
  passes = record {
    left = record {
      later = omega arith;
      still = λ t image le past. (past.0, inl past.1);
      nothing_else = λ t image le since.
          elim (LeftSince-split call old.past new.image sent t _ since.1) [
            | inl before ↦ inl (since.0, before)
            | inr here ↦ inr (since.0, here)
          ];
    };
    left_since = record {
      later = omega arith;
      still = λ t left le past. inl past;
      nothing_else = λ t left le since. LeftSince-split call old.past new.image sent t left since;
    };
  };
  images = λ image left. LeftSince-images call old.past new.image sent _ left.1;
  sent = λ before after told told' left since.
      let P : List SentBytes → List SentBytes → Type 0 = λ a b. IsSentByThen a b left.sent in
      subst (λ a. P a after.sent) (was before told) (subst (P old.sends.sent) (is after told')
      (LeftSince-sent call old.past new.image sent left whole since));
  moments = λ before after told told' left now then.
      let P : List SentBytes → List SentBytes → Type 0 = λ a b. IsSentByThen a b left.sent in
      inr (inl (
        omega arith,
        now,
        subst (λ a. P a sent) (sym (was before told))
            (subst (P before.sent) (sym (is after told')) then),
      ));
}
  where
    call : PastCall
    call = call_on effect old

    sent : List SentBytes
    sent = new.sends.sent

    was : (sends : Sends) → (state_of old).contents.sends ≡ Some sends → old.sends.sent ≡ sends.sent
    was sends told = ap (λ (s : Sends). s.sent) (told_sends old.told old.given old.sends sends told)

    is : (sends : Sends) → (state_of new).contents.sends ≡ Some sends → new.sends.sent ≡ sends.sent
    is sends told = ap (λ (s : Sends). s.sent) (told_sends new.told new.given new.sends sends told)

-- a call that was put in front of those before
one_call : (effect : Effect) (old new : MemorySiteState)
    → new.past ≡ call_on effect old ∷ old.past
    → IsSentByThen old.sends.sent new.sends.sent new.sends.sent → Calls old new
one_call effect old new past whole =
    let P : List PastCall → Type 0 = λ calls. Calls old (record new { past = calls }) in
    subst P (sym past) (one_call-behind effect old new whole)

-- what a site shows of itself
pub record Shown : Type 0 where
  pub given : List GivenEvent
  pub sends : Sends
  pub image : List ℕ
  pub attached : Bool
  pub name : List ℕ
  pub past : List PastCall
  pub told : Bool
  pub counts : Counts

-- a site that shows this
abbrev pub showing : Shown → MemorySiteState
showing shown = record {
  plan = fresh_plan [] None 0;
  coming = [];
  last = 0;
  given = shown.given;
  sends = shown.sends;
  image = shown.image;
  attached = shown.attached;
  name = shown.name;
  past = shown.past;
  told = shown.told;
  longest_read = 0;
  counts = shown.counts;
}

-- one that sends nothing
pub quiet_call : (effect : Effect) (old new : Shown)
    → new.past ≡ call_on effect (showing old) ∷ old.past → new.sends.sent ≡ old.sends.sent
    → Calls (showing old) (showing new)
quiet_call effect old new past same = one_call effect (showing old) (showing new) past (inl same)

-- one that sends a pair
pub pair_call : (effect : Effect) (old new : Shown) (conn : ℕ) (bytes : List ℕ)
    → new.past ≡ call_on effect (showing old) ∷ old.past
    → new.sends.sent ≡ old.sends.sent ++ record { conn = conn; bytes = bytes } ∷ []
    → Calls (showing old) (showing new)
pair_call effect old new conn bytes past more =
    one_call effect (showing old) (showing new) past (inr (record {
      conn = conn;
      bytes = bytes;
      front = bytes;
      whole = more;
      is_front = ([], append-nil bytes);
      part = more;
    }))
