-- Worlds that time leads to: what comes to a store comes in the run too.
use Rattle.std.proofs.Common.{◌≡◌, ◌≢◌, ℕ, zero, suc, ◌+◌, Bool, true, false, if◌then◌else◌, List, [], ◌∷◌, ◌++◌, Some, slice_get, refl, sym, ap, ◌∙◌, subst}
use Rattle.std.proofs.lemmas.Bool.{eq-eqb, ne_eqb}
use Rattle.ix_words.specs.Each.{Each, item, Member, here, there}
use Rattle.ix_blocks.specs.Register.{Register, Transaction, seen_of, fits, changed, apply}
use Rattle.ix_blocks.specs.declared.claim.Commit.{Commit}
use Rattle.ix_blocks.specs.declared.claim.Commit.TheVariants.{Applied, Refused}
use Rattle.ix_blocks.specs.Owners.{Sent, number, OwnerState, Event, attaches, syncs, comes, hears, elsewhere, World, stands, come, come_one, hear, happens, after_events}
use Rattle.ix_blocks.specs.FileLaws.{NobodySyncs}
use Rattle.ix_blocks.specs.Stores.{Arrival, on_these, on_others, arrive, after_arrivals, WasSent}
use Rattle.ix_blocks.specs.inside.StoreCalls.{Meanwhile, answer_of}
use Rattle.ix_blocks.proofs.Runs.{run-append}

-- each of these was sent in the world
abbrev pub Covers : World → List Transaction → Type 0
Covers w sent = (t : Transaction) → Member t sent → (s : Sent) × Member s w.sent × (s.transaction ≡ t)

-- a world after this one, with this register, in which nothing more was sent and each owner stands as it did
pub record Later (w : World) (target : Register) : Type 0 where
  pub events : List Event
  pub quiet : NobodySyncs events
  pub register : (after_events events w).register ≡ target
  pub sent : (after_events events w).sent ≡ w.sent
  pub standing : (who : ℕ) → (after_events events w).standing who ≡ w.standing who

pub quiet-append : (before after : List Event) → NobodySyncs before → NobodySyncs after → NobodySyncs (before ++ after)
quiet-append [] after h k = k
quiet-append (attaches who ∷ before) after h k = quiet-append before after h k
quiet-append (syncs who unsynced ∷ before) after h k = elim h [ ]
quiet-append (comes which ∷ before) after h k = quiet-append before after h k
quiet-append (hears which ∷ before) after h k = quiet-append before after h k
quiet-append (elsewhere ∷ before) after h k = quiet-append before after h k

pub place : {A : Type 0} {x : A} {xs : List A} → Member x xs → (which : ℕ) × (slice_get xs which ≡ Some x)
place here = (zero, refl)
place (there m) = let p = place m in (suc p.0, p.1)

come-register : (w : World) (s : Sent) (b : Bool) → (come w s b).register ≡ (if b then changed s.transaction w.register else w.register)
come-register w s true = refl
come-register w s false = refl

come-sent : (w : World) (s : Sent) (b : Bool) → (come w s b).sent ≡ w.sent
come-sent w s true = refl
come-sent w s false = refl

come-standing : (w : World) (s : Sent) (b : Bool) (who : ℕ) → (come w s b).standing who ≡ w.standing who
come-standing w s true who = refl
come-standing w s false who = refl

later-none : (w : World) → Later w w.register
later-none w = record { events = []; quiet = tt; register = refl; sent = refl; standing = λ who. refl }

later-join : (w : World) (mid register : Register) (first : Later w mid) → Later (after_events first.events w) register → Later w register
later-join w mid register first second =
    let at = run-append first.events second.events w in
    record {
      events = first.events ++ second.events;
      quiet = quiet-append first.events second.events first.quiet second.quiet;
      register = ap (λ (x : World). x.register) at ∙ second.register;
      sent = ap (λ (x : World). x.sent) at ∙ second.sent ∙ first.sent;
      standing = λ who. ap (λ (x : World). x.standing who) at ∙ second.standing who ∙ first.standing who;
    }

-- one that was sent comes
later-comes : (w : World) (s : Sent) → Member s w.sent → Later w (apply s.transaction w.register)
later-comes w s m =
    let p = place m in
    let b = fits s.transaction w.register in
    record {
      events = comes p.0 ∷ [];
      quiet = tt;
      register = ap (λ f. (come_one w f).register) p.1 ∙ come-register w s (fits s.transaction w.register);
      sent = ap (λ f. (come_one w f).sent) p.1 ∙ come-sent w s (fits s.transaction w.register);
      standing = λ who. ap (λ f. (come_one w f).standing who) p.1 ∙ come-standing w s (fits s.transaction w.register) who;
    }

later-arrives : (w : World) (sent : List Transaction) → Covers w sent → (arrival : Arrival) → WasSent sent arrival → Later w (arrive w.register arrival)
later-arrives w sent covers (on_these t) m =
    let c = covers t m in
    subst (λ x. Later w (apply x w.register)) c.2 (later-comes w c.0 c.1)
later-arrives w sent covers on_others m =
    record { events = elsewhere ∷ []; quiet = tt; register = refl; sent = refl; standing = λ who. refl }

covers-later : (w v : World) (sent : List Transaction) → v.sent ≡ w.sent → Covers w sent → Covers v sent
covers-later w v sent e covers t m = let c = covers t m in (c.0, subst (Member c.0) (sym e) c.1, c.2)

pub later-arrivals : (arrivals : List Arrival) (w : World) (sent : List Transaction) → Covers w sent → Each (WasSent sent) arrivals → Later w (after_arrivals arrivals w.register)
later-arrivals [] w sent covers were = later-none w
later-arrivals (arrival ∷ arrivals) w sent covers (item was were) =
    let one = later-arrives w sent covers arrival was in
    later-join w _ _ one
    (subst (λ r. Later (after_events one.events w) (after_arrivals arrivals r)) one.register
    (later-arrivals arrivals (after_events one.events w) sent (covers-later w (after_events one.events w) sent one.sent covers) were))

pub later-passes : (w : World) (sent : List Transaction) (before after : Register) → Covers w sent → w.register ≡ before → Meanwhile sent before after → Later w after
later-passes w sent before after covers e p =
    subst (Later w) (ap (after_arrivals p.arrivals) e ∙ sym p.makes) (later-arrivals p.arrivals w sent covers p.were_sent)

-- a transaction comes, and its owner hears the answer
pub record Heard (w : World) (s : Sent) : Type 0 where
  pub events : List Event
  pub quiet : NobodySyncs events
  pub register : (after_events events w).register ≡ apply s.transaction w.register
  pub sent : (after_events events w).sent ≡ w.sent
  pub own : (after_events events w).standing s.owner ≡ hear (w.standing s.owner) (number s) (answer_of s.transaction w.register)
  pub others : (other : ℕ) → other ≢ s.owner → (after_events events w).standing other ≡ w.standing other

-- the owner at the moment at which it is told
owner-hears : (w : World) (s : Sent) (says : Commit) → (stands w s.owner (hear (w.standing s.owner) (number s) says)).standing s.owner ≡ hear (w.standing s.owner) (number s) says
owner-hears w s says = ap (λ b. if b then hear (w.standing s.owner) (number s) says else w.standing s.owner) (eq-eqb s.owner s.owner refl)

other-hears : (w : World) (s : Sent) (now : OwnerState) (other : ℕ) → other ≢ s.owner → (stands w s.owner now).standing other ≡ w.standing other
other-hears w s now other n = ap (λ b. if b then now else w.standing other) (ne_eqb other s.owner n)

module _ (w : World) (s : Sent) where
  abbrev heard-now : Bool → World
  heard-now b = happens (come w s b) (hears zero)

  heard-register : (b : Bool) → fits s.transaction w.register ≡ b → (heard-now b).register ≡ apply s.transaction w.register
  heard-register true e = sym (ap (λ b. if b then changed s.transaction w.register else w.register) e)
  heard-register false e = sym (ap (λ b. if b then changed s.transaction w.register else w.register) e)

  heard-sent : (b : Bool) → (heard-now b).sent ≡ w.sent
  heard-sent true = refl
  heard-sent false = refl

  heard-own : (b : Bool) → fits s.transaction w.register ≡ b → (heard-now b).standing s.owner ≡ hear (w.standing s.owner) (number s) (answer_of s.transaction w.register)
  heard-own true e =
      owner-hears (come w s true) s (Applied (w.register.newest + 1))
      ∙ sym (ap (λ b. hear (w.standing s.owner) (number s) (if b then Applied (w.register.newest + 1) else Refused (seen_of w.register))) e)
  heard-own false e =
      owner-hears (come w s false) s (Refused (seen_of w.register))
      ∙ sym (ap (λ b. hear (w.standing s.owner) (number s) (if b then Applied (w.register.newest + 1) else Refused (seen_of w.register))) e)

  heard-others : (b : Bool) (other : ℕ) → other ≢ s.owner → (heard-now b).standing other ≡ w.standing other
  heard-others true other n = other-hears (come w s true) s _ other n
  heard-others false other n = other-hears (come w s false) s _ other n

  pub heard : Member s w.sent → Heard w s
  heard m =
      let p = place m in
      record {
        events = comes p.0 ∷ hears zero ∷ [];
        quiet = tt;
        register = ap (λ f. (happens (come_one w f) (hears zero)).register) p.1 ∙ heard-register (fits s.transaction w.register) refl;
        sent = ap (λ f. (happens (come_one w f) (hears zero)).sent) p.1 ∙ heard-sent (fits s.transaction w.register);
        own = ap (λ f. (happens (come_one w f) (hears zero)).standing s.owner) p.1 ∙ heard-own (fits s.transaction w.register) refl;
        others = λ other n. ap (λ f. (happens (come_one w f) (hears zero)).standing other) p.1 ∙ heard-others (fits s.transaction w.register) other n;
      }
