-- Runs that go on as a store does.
use Rattle.std.proofs.Common.{◌≡◌, ◌≢◌, ◌⊎◌, inl, inr, ℕ, ◌≤◌, List, ◌++◌, append_assoc, Option, None, Some, sym, ap, ◌∙◌, subst}
use Rattle.std.proofs.lemmas.Bool.Decides.{eqb_tells}
use Rattle.std.proofs.lemmas.Option.{none-some}
use Rattle.ix_words.specs.Each.{Member}
use Rattle.ix_blocks.specs.Register.{Register, Transaction, apply}
use Rattle.ix_blocks.specs.declared.blocks.Blocks.{Blocks}
use Rattle.ix_blocks.specs.declared.claim.Claim.{Claim}
use Rattle.ix_blocks.specs.Owners.{Sent, number, owns, Event, World, hear, empty_store, world_after}
use Rattle.ix_blocks.specs.Laws.{last_owner, HasWritten}
use Rattle.ix_blocks.specs.FileBlocks.{HoldsFile}
use Rattle.ix_blocks.specs.FileLaws.{NobodySyncs}
use Rattle.ix_blocks.specs.Stores.{Store}
use Rattle.ix_blocks.specs.inside.StoreCalls.{Meanwhile, answer_of}
use Rattle.ix_blocks.specs.Protocol.{HasKeysOf, IsLast, Owns}
use Rattle.ix_blocks.specs.inside.OwnerCalls.{RunsOn}
use Rattle.ix_blocks.proofs.Runs.{run-append, after-fine, stands-after, looks_tell, over-run}
use Rattle.ix_blocks.proofs.Moving.{Moves, passes-move, kept-at, keeps-holds}
use Rattle.ix_blocks.proofs.Later.{Covers, later-passes, heard, quiet-append}

-- the run goes on to this register, and each owner stands as it did
pub record Onward (newest : ℕ) (run : List Event) (target : Register) : Type 0 where
  pub events : List Event
  pub quiet : NobodySyncs events
  pub register : (world_after newest (run ++ events)).register ≡ target
  pub sent : (world_after newest (run ++ events)).sent ≡ (world_after newest run).sent
  pub standing : (who : ℕ) → (world_after newest (run ++ events)).standing who ≡ (world_after newest run).standing who
  pub moves : Moves (world_after newest run).register target

pub bounded : (newest : ℕ) (run : List Event) → (world_after newest run).register.revision ≤ (world_after newest run).register.newest
bounded newest run = (after-fine newest run).newest

pub onward : (newest : ℕ) (run : List Event) (sent : List Transaction) (before after : Register) → Covers (world_after newest run) sent → (world_after newest run).register ≡ before → Meanwhile sent before after → Onward newest run after
onward newest run sent before after covers e p =
    let l = later-passes (world_after newest run) sent before after covers e p in
    let at = run-append run l.events (empty_store newest) in
    record {
      events = l.events;
      quiet = l.quiet;
      register = ap (λ (x : World). x.register) at ∙ l.register;
      sent = ap (λ (x : World). x.sent) at ∙ l.sent;
      standing = λ who. ap (λ (x : World). x.standing who) at ∙ l.standing who;
      moves = subst (λ r. Moves r after) (sym e) (passes-move sent before after (subst (λ (r : Register). r.revision ≤ r.newest) e (bounded newest run)) p);
    }

-- a transaction of the run comes, and its owner hears the answer
pub record HeardOn (newest : ℕ) (run : List Event) (s : Sent) : Type 0 where
  pub events : List Event
  pub quiet : NobodySyncs events
  pub register : (world_after newest (run ++ events)).register ≡ apply s.transaction (world_after newest run).register
  pub sent : (world_after newest (run ++ events)).sent ≡ (world_after newest run).sent
  pub own : (world_after newest (run ++ events)).standing s.owner ≡ hear ((world_after newest run).standing s.owner) (number s) (answer_of s.transaction (world_after newest run).register)
  pub others : (other : ℕ) → other ≢ s.owner → (world_after newest (run ++ events)).standing other ≡ (world_after newest run).standing other

pub heard-on : (newest : ℕ) (run : List Event) (s : Sent) → Member s (world_after newest run).sent → HeardOn newest run s
heard-on newest run s m =
    let h = heard (world_after newest run) s m in
    let at = run-append run h.events (empty_store newest) in
    record {
      events = h.events;
      quiet = h.quiet;
      register = ap (λ (x : World). x.register) at ∙ h.register;
      sent = ap (λ (x : World). x.sent) at ∙ h.sent;
      own = ap (λ (x : World). x.standing s.owner) at ∙ h.own;
      others = λ other n. ap (λ (x : World). x.standing other) at ∙ h.others other n;
    }

pub covers-same : (v w : World) (sent : List Transaction) → v.sent ≡ w.sent → Covers w sent → Covers v sent
covers-same v w sent e covers t m = let c = covers t m in (c.0, subst (Member c.0) (sym e) c.1, c.2)

-- the end of a run that goes on to a store
pub goes-on : (newest : ℕ) (run : List Event) (who : ℕ) (store : Store) (P : World → Type 0) → Covers (world_after newest run) store.sent → (o : Onward newest run store.register) → P (world_after newest (run ++ o.events)) → RunsOn newest run who store P
goes-on newest run who store P covers o p =
    record {
      events = o.events;
      quiet = o.quiet;
      leads = record { register = o.register; sent = covers-same (world_after newest (run ++ o.events)) (world_after newest run) store.sent o.sent covers };
      others = λ other n. o.standing other;
      holds = p;
    }

pub goes-join : (newest : ℕ) (run events : List Event) (who : ℕ) (store : Store) (P : World → Type 0) → NobodySyncs events → ((other : ℕ) → other ≢ who → (world_after newest (run ++ events)).standing other ≡ (world_after newest run).standing other) → RunsOn newest (run ++ events) who store P → RunsOn newest run who store P
goes-join newest run events who store P quiet others g =
    let at : world_after newest (run ++ (events ++ g.events)) ≡ world_after newest ((run ++ events) ++ g.events) = ap (world_after newest) (sym (append_assoc run events g.events)) in
    record {
      events = events ++ g.events;
      quiet = quiet-append events g.events quiet g.quiet;
      leads = subst (λ w. HasKeysOf w store) (sym at) g.leads;
      others = λ other n. ap (λ (x : World). x.standing other) at ∙ g.others other n ∙ others other n;
      holds = subst P (sym at) g.holds;
    }

-- an owner that is the last behind a run was the last before it
last_or_not : (who : ℕ) (last : Option ℕ) → (last ≡ Some who) ⊎ (last ≢ Some who)
last_or_not who None = inr (λ e. none-some who e)
last_or_not who (Some n) = elim (eqb_tells n who) [
  | inl e ↦ inl (ap Some e.1)
  | inr e ↦ inr (λ f. e.1 (ap (λ (o : Option ℕ). elim o [ None ↦ n | Some m ↦ m ]) f))
]

pub was-last : (newest : ℕ) (run events : List Event) (who : ℕ) (claim : Claim) → (world_after newest run).standing who ≡ owns claim → IsLast who (world_after newest (run ++ events)) → IsLast who (world_after newest run)
was-last newest run events who claim stands last =
    elim (last_or_not who (last_owner (world_after newest run).changes)) [
      | inl e ↦ e
      | inr n ↦
          let k = (stands-after newest run who claim stands).1 in
          let written : HasWritten who 0 (world_after newest run).changes = record { change = k.first.change; among = k.first.among; is_theirs = k.first.theirs; has_number = k.attach } in
          let at = run-append run events (empty_store newest) in
          let over = over-run who events (world_after newest run) (after-fine newest run) (record { written = written; past = n }) in
          absurd (over.past (sym (ap (λ (x : World). last_owner x.changes) at) ∙ last))
    ]

-- what an owner has stays while the run goes on
pub owns-onward : (newest : ℕ) (run : List Event) (target : Register) (blocks : Blocks) (who : ℕ) (synced : List ℕ) → Owns blocks who synced (world_after newest run) → (o : Onward newest run target) → Owns blocks who synced (world_after newest (run ++ o.events))
owns-onward newest run target blocks who synced own o =
    record {
      claim = own.claim;
      knows = own.knows;
      stands = o.standing who ∙ own.stands;
      differs = own.differs;
      holds = λ last.
          let before = was-last newest run o.events who own.claim own.stands last in
          let was = (looks_tell newest run who own.claim own.stands).1 before in
          let is = (looks_tell newest (run ++ o.events) who own.claim (o.standing who ∙ own.stands)).1 last in
          let same : target.revision ≡ (world_after newest run).register.revision = ap (λ (r : Register). r.revision) (sym o.register) ∙ is ∙ sym was in
          subst (HoldsFile synced) (sym o.register)
          (keeps-holds synced (world_after newest run).register target (kept-at _ target (bounded newest run) o.moves same) (own.holds before));
    }
