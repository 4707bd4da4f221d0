-- How what a crash may leave goes on from one call to the next.
use Rattle.std.proofs.Common.{◌≡◌, ℕ, ◌+◌, ◌≤◌, List, [], ◌∷◌, ◌++◌, length, length-append, Option, None, Some, inl, inr, refl, ◌∙◌, ap, subst, arith}
use Rattle.ix_outside.specs.Contents.{SentBytes}
use Rattle.ix_outside.specs.Crashes.{Crashes, AreLawful, Elapses, Passes, OneCall, IsSentByThen}
use Rattle.ix_outside.specs.Disk.{Disk, MakesFile}
use Rattle.ix_outside.specs.SiteState.{SiteState, OnlyDisk}
use Rattle.ix_outside.specs.inside.DiskCalls.{KeepsOpened, DiskCalls, LeavesOnly, span}

-- no call passes no time
pub Elapses-none : {A : Type 0} (now : ℕ) (since : ℕ → A → Type 0) → Elapses now now since since
Elapses-none now since = record {
  later = omega arith;
  still = λ t x le past. past;
  nothing_else = λ t x le past. inl past;
}

-- two stretches make one, where what is left since later is left since earlier
pub Elapses-join : {A : Type 0} (a b c : ℕ) (past mid since : ℕ → A → Type 0)
    → ((t u : ℕ) (x : A) → t ≤ u → since u x → since t x)
    → Elapses a b past mid → Elapses b c mid since → Elapses a c past since
Elapses-join a b c past mid since earlier first second = record {
  later = let one = first.later in let two = second.later in omega arith;
  still = λ t x le p. second.still t x (let one = first.later in omega arith) (first.still t x le p);
  nothing_else = λ t x le s.
      elim (second.nothing_else t x (let one = first.later in omega arith) s) [
        | inl m ↦ elim (first.nothing_else t x le m) [
          | inl p ↦ inl p
          | inr r ↦ inr (second.still a x first.later r)
        ]
        | inr r ↦ inr (earlier a b x first.later r)
      ];
}

pub Passes-none : (now : SiteState) (crashes : Crashes) → Passes (span now now crashes crashes)
Passes-none now crashes =
    record { left = Elapses-none now.tick crashes.left; left_since = Elapses-none now.tick crashes.left_since }

pub Passes-join : (old mid new : SiteState) (was then is : Crashes) → AreLawful new is
    → Passes (span old mid was then) → Passes (span mid new then is) → Passes (span old new was is)
Passes-join old mid new was then is lawful first second = record {
  left = Elapses-join old.tick mid.tick new.tick was.left then.left is.left lawful.left_earlier first.left second.left;
  left_since = Elapses-join old.tick mid.tick new.tick was.left_since then.left_since is.left_since
      lawful.since_earlier first.left_since second.left_since;
}

-- one call more: where what may have been left so far has P, and what may be left behind it has P
pub LeavesOnly-call : (P : List ℕ → Type 0) (old mid new : SiteState) (was then is : Crashes) → AreLawful mid then
    → Passes (span old mid was then) → LeavesOnly P (span old mid was then) → OneCall (span mid new then is)
    → ((image : List ℕ) → is.now image → P image) → LeavesOnly P (span old new was is)
LeavesOnly-call P old mid new was then is lawful before so_far call behind image left =
    elim (call.passes.left.nothing_else old.tick image before.left.later left) [
      | inl earlier ↦ so_far image earlier
      | inr since ↦ elim (call.images image since) [
        | inl now ↦ so_far image (lawful.left_earlier old.tick mid.tick image before.left.later ((lawful.left_now image).1 now))
        | inr now ↦ behind image now
      ]
    ]

-- before any call
pub LeavesOnly-none : (P : List ℕ → Type 0) (old : SiteState) (was : Crashes) → AreLawful old was
    → ((image : List ℕ) → was.now image → P image) → LeavesOnly P (span old old was was)
LeavesOnly-none P old was lawful now image left = now image ((lawful.left_now image).0 left)

-- two stretches, of which each leaves only what has P
pub LeavesOnly-join : (P : List ℕ → Type 0) (old mid new : SiteState) (was then is : Crashes)
    → LeavesOnly P (span old mid was then) → Elapses mid.tick new.tick then.left is.left → old.tick ≤ mid.tick
    → LeavesOnly P (span mid new then is) → LeavesOnly P (span old new was is)
LeavesOnly-join P old mid new was then is first passes le second image left =
    elim (passes.nothing_else old.tick image le left) [
      | inl earlier ↦ first image earlier
      | inr since ↦ second image since
    ]

longer_is_another : {A : Type 0} (xs : List A) (x : A) → xs ≡ xs ++ x ∷ [] → ⊥
longer_is_another xs x same =
    let counts : length xs ≡ length (xs ++ x ∷ []) = ap length same in
    let more : length (xs ++ x ∷ []) ≡ length xs + 1 = length-append xs (x ∷ []) in
    let no : length xs ≡ length xs + 1 = counts ∙ more in absurd (omega arith)

-- in a call that sends nothing all that was sent is what had been sent
pub sent-nothing : (before sent : List SentBytes) → IsSentByThen before before sent → sent ≡ before
sent-nothing before sent (inl same) = same
sent-nothing before sent (inr front) = absurd (longer_is_another before _ front.whole)

pub KeepsOpened-none : (disk : Option Disk) → KeepsOpened disk disk
KeepsOpened-none None = refl
KeepsOpened-none (Some disk) = (tt, refl)

pub KeepsOpened-join : (old mid new : Option Disk) → KeepsOpened old mid → KeepsOpened mid new → KeepsOpened old new
KeepsOpened-join None mid new first second =
    let P : Option Disk → Type 0 = λ disk. KeepsOpened disk new in subst P first second
KeepsOpened-join (Some old) None new first second = absurd first
KeepsOpened-join (Some old) (Some mid) None first second = absurd second
KeepsOpened-join (Some old) (Some mid) (Some new) first second = (tt, second.1 ∙ first.1)

-- a call that changes the file so keeps what was attached
pub KeepsOpened-makes : (R : List ℕ → List ℕ → Type 0) (old new : Option Disk) → MakesFile R old new → KeepsOpened old new
KeepsOpened-makes R None new makes = makes
KeepsOpened-makes R (Some old) None makes = makes
KeepsOpened-makes R (Some old) (Some new) makes = (tt, makes.1)

-- no call
pub DiskCalls-none : (now : SiteState) (crashes : Crashes) → AreLawful now crashes → DiskCalls (span now now crashes crashes)
DiskCalls-none now crashes lawful = record {
  rest = record { disk = omega arith; wire = refl; send = refl; contents = refl; held = refl };
  attached = refl;
  opened = KeepsOpened-none now.disk;
  passes = Passes-none now crashes;
  sent = λ sends told left since. ((lawful.since_now sends told left.image left.sent).0 since).1;
}

-- one call of the disk
pub DiskCalls-one : (old new : SiteState) (was is : Crashes) → OneCall (span old new was is) → OnlyDisk old new
    → new.attached ≡ old.attached → KeepsOpened old.disk new.disk → DiskCalls (span old new was is)
DiskCalls-one old new was is call rest attached opened = record {
  rest = rest;
  attached = attached;
  opened = opened;
  passes = call.passes;
  sent = λ sends told left since.
      sent-nothing sends.sent left.sent (call.sent sends sends told (ap (λ contents. contents.sends) rest.contents ∙ told) left since);
}

-- two stretches
pub DiskCalls-join : (old mid new : SiteState) (was then is : Crashes) → AreLawful new is
    → DiskCalls (span old mid was then) → DiskCalls (span mid new then is) → DiskCalls (span old new was is)
DiskCalls-join old mid new was then is lawful first second = record {
  rest = record {
    disk = let one = first.rest.disk in let two = second.rest.disk in omega arith;
    wire = second.rest.wire ∙ first.rest.wire;
    send = second.rest.send ∙ first.rest.send;
    contents = second.rest.contents ∙ first.rest.contents;
    held = second.rest.held ∙ first.rest.held;
  };
  attached = second.attached ∙ first.attached;
  opened = KeepsOpened-join old.disk mid.disk new.disk first.opened second.opened;
  passes = Passes-join old mid new was then is lawful first.passes second.passes;
  sent = λ sends told left since.
      elim (second.passes.left_since.nothing_else old.tick left first.passes.left_since.later since) [
        | inl earlier ↦ first.sent sends told left earlier
        | inr later ↦ second.sent sends (ap (λ contents. contents.sends) first.rest.contents ∙ told) left later
      ];
}
