-- A sync over a store, as a part of a run.
use Rattle.std.proofs.Common.{◌≡◌, ◌⊎◌, inl, inr, ℕ, ◌+◌, ◌==◌, ◌&&◌, Bool, true, false, if◌then◌else◌, List, [], ◌∷◌, ◌++◌, append_assoc, Some, refl, sym, ap, ◌∙◌, subst}
use Rattle.std.proofs.lemmas.Bool.{eq-eqb}
use Rattle.ix_words.specs.Each.{Member, here, there}
use Rattle.ix_words.proofs.Each.{Member-left, Member-either}
use Rattle.ix_words.proofs.Canon.{Member-cases}
use Rattle.ix_blocks.specs.Register.{Transaction, apply, image}
use Rattle.ix_blocks.specs.declared.blocks.Blocks.{Blocks}
use Rattle.ix_blocks.specs.declared.claim.Claim.{Claim}
use Rattle.ix_blocks.specs.declared.claim.Commit.{Commit}
use Rattle.ix_blocks.specs.declared.claim.Commit.TheVariants.{Applied, Refused}
use Rattle.ix_blocks.specs.Owners.{Sent, OwnerState, outside, attaching, waits, owns, ended, Unsynced, Event, syncs, World, sync_of, stands, sync, sync_next, learn, hear, empty_store, world_after}
use Rattle.ix_blocks.specs.Laws.{HasWritten}
use Rattle.ix_blocks.specs.FileBlocks.{DiffersIn, brings, HoldsFile}
use Rattle.ix_blocks.specs.FileLaws.{NobodySyncs, world_with_sync}
use Rattle.ix_blocks.specs.Stores.{Store, after_arrivals, WhateverComes}
use Rattle.ix_blocks.specs.inside.StoreCalls.{answer_of, SendsOne, AnswersSo, sent_with}
use Rattle.ix_blocks.specs.Protocol.{HasKeysOf, IsLast, Owns}
use Rattle.ix_blocks.specs.inside.OwnerCalls.{RunsOn, with_sync}
use Rattle.ix_blocks.proofs.Runs.{run-append, answered}
use Rattle.ix_blocks.proofs.Cutting.{held_image}
use Rattle.ix_blocks.proofs.Syncing.{each_moment}
use Rattle.ix_blocks.proofs.Later.{Covers, quiet-append}
use Rattle.ix_blocks.proofs.Onward.{onward, heard-on, covers-same, goes-on, goes-join, was-last}

-- the world right after a sync is sent
module _ (newest : ℕ) (run : List Event) (who : ℕ) (claim : Claim) (u : Unsynced) (stands_so : (world_after newest run).standing who ≡ owns claim) where
  abbrev pub mine : Sent
  mine = record { owner = who; transaction = sync_of claim u }

  abbrev pub sent-run : List Event
  sent-run = run ++ syncs who u ∷ []

  pub sent-world : world_after newest (run ++ syncs who u ∷ []) ≡ sync_next (world_after newest run) who claim u
  sent-world = run-append run (syncs who u ∷ []) (empty_store newest) ∙ ap (sync (world_after newest run) who u) stands_so

  pub sent-register : (world_after newest (run ++ syncs who u ∷ [])).register ≡ (world_after newest run).register
  sent-register = ap (λ (x : World). x.register) sent-world

  pub sent-covers : (sent : List Transaction) → Covers (world_after newest run) sent → Covers (world_after newest (run ++ syncs who u ∷ [])) (sent ++ sync_of claim u ∷ [])
  sent-covers sent covers t m =
      let e = ap (λ (x : World). x.sent) sent-world in
      elim (Member-either sent (sync_of claim u ∷ []) m) [
        | inl k ↦ (let c = covers t k in (c.0, subst (Member c.0) (sym e) (there c.1), c.2))
        | inr k ↦ elim (Member-cases k) [
          | inl f ↦ (mine, subst (Member mine) (sym e) here, sym f)
          | inr n ↦ elim n [ ]
        ]
      ]

  pub sent-mine : Member mine (world_after newest (run ++ syncs who u ∷ [])).sent
  sent-mine = subst (Member mine) (sym (ap (λ (x : World). x.sent) sent-world)) here

  abbrev pub counted : Claim
  counted = record claim { sequence = claim.sequence + 1 }

  pub sent-waits : (world_after newest (run ++ syncs who u ∷ [])).standing who ≡ waits counted
  sent-waits =
      ap (λ (x : World). x.standing who) sent-world
      ∙ ap (λ b. if b then waits counted else (world_after newest run).standing who) (eq-eqb who who refl)

  new-covers : (old new : Store) → HasKeysOf (world_after newest run) old → (new.sent ≡ old.sent) ⊎ (new.sent ≡ sent_with old (sync_of claim u)) → Covers (world_after newest (run ++ syncs who u ∷ [])) new.sent
  new-covers old new is (inl e) t m = sent-covers old.sent is.sent t (Member-left (subst (Member t) e m) (sync_of claim u ∷ []))
  new-covers old new is (inr e) t m = sent-covers old.sent is.sent t (subst (Member t) e m)

  -- no answer came
  pub unanswered : (old new : Store) → HasKeysOf (world_after newest run) old → SendsOne (sync_of claim u) old new → (P : World → Type 0) → ((w : World) → w.standing who ≡ waits counted → P w) → RunsOn newest (run ++ syncs who u ∷ []) who new P
  unanswered old new is sends P waiting =
      let o = onward newest (run ++ syncs who u ∷ []) (sent_with old (sync_of claim u)) old.register new.register (sent-covers old.sent is.sent) (sent-register ∙ is.register) sends.register in
      goes-on newest (run ++ syncs who u ∷ []) who new P (new-covers old new is sends.sent) o (waiting _ (o.standing who ∙ sent-waits))

  -- an answer came
  pub heard-answer : (old new : Store) (says : Commit) → HasKeysOf (world_after newest run) old → SendsOne (sync_of claim u) old new → AnswersSo (sync_of claim u) says old new → (P : World → Type 0) → ((events : List Event) → NobodySyncs events → (world_after newest ((run ++ syncs who u ∷ []) ++ events)).standing who ≡ learn counted says → P (world_after newest ((run ++ syncs who u ∷ []) ++ events))) → RunsOn newest (run ++ syncs who u ∷ []) who new P
  heard-answer old new says is sends answer P learnt =
      let all : List Transaction = sent_with old (sync_of claim u) in
      let covers : Covers (world_after newest (run ++ syncs who u ∷ [])) (sent_with old (sync_of claim u)) = sent-covers old.sent is.sent in
      let o1 = onward newest (run ++ syncs who u ∷ []) (sent_with old (sync_of claim u)) old.register answer.moment covers (sent-register ∙ is.register) answer.until in
      let h = heard-on newest ((run ++ syncs who u ∷ []) ++ o1.events) mine (subst (Member mine) (sym o1.sent) sent-mine) in
      let c1 = covers-same (world_after newest ((run ++ syncs who u ∷ []) ++ o1.events)) (world_after newest (run ++ syncs who u ∷ [])) (sent_with old (sync_of claim u)) o1.sent covers in
      let c2 = covers-same (world_after newest (((run ++ syncs who u ∷ []) ++ o1.events) ++ h.events)) (world_after newest ((run ++ syncs who u ∷ []) ++ o1.events)) (sent_with old (sync_of claim u)) h.sent c1 in
      let came = h.register ∙ ap (apply (sync_of claim u)) o1.register in
      let o2 = onward newest (((run ++ syncs who u ∷ []) ++ o1.events) ++ h.events) (sent_with old (sync_of claim u)) (apply (sync_of claim u) answer.moment) new.register c2 came answer.since in
      let end-covers = covers-same (world_after newest (((run ++ syncs who u ∷ []) ++ o1.events) ++ h.events)) (world_after newest (run ++ syncs who u ∷ [])) new.sent (h.sent ∙ o1.sent) (new-covers old new is sends.sent) in
      let same : (run ++ syncs who u ∷ []) ++ ((o1.events ++ h.events) ++ o2.events) ≡ (((run ++ syncs who u ∷ []) ++ o1.events) ++ h.events) ++ o2.events =
      sym (append_assoc (run ++ syncs who u ∷ []) (o1.events ++ h.events) o2.events)
      ∙ ap (λ x. x ++ o2.events) (sym (append_assoc (run ++ syncs who u ∷ []) o1.events h.events)) in
      let own =
      o2.standing who ∙ h.own
      ∙ ap (λ st. hear st (claim.sequence + 1) (answer_of (sync_of claim u) (world_after newest ((run ++ syncs who u ∷ []) ++ o1.events)).register)) (o1.standing who ∙ sent-waits)
      ∙ ap (λ r. hear (waits counted) (claim.sequence + 1) (answer_of (sync_of claim u) r)) o1.register
      ∙ ap (hear (waits counted) (claim.sequence + 1)) (sym answer.answers)
      ∙ ap (λ b. if b then learn counted says else waits counted) (eq-eqb (claim.sequence + 1) (claim.sequence + 1) refl) in
      goes-join newest (run ++ syncs who u ∷ []) o1.events who new P o1.quiet (λ other n. o1.standing other)
      (goes-join newest ((run ++ syncs who u ∷ []) ++ o1.events) h.events who new P h.quiet h.others
      (goes-on newest (((run ++ syncs who u ∷ []) ++ o1.events) ++ h.events) who new P end-covers o2
      (subst (λ r. P (world_after newest r)) same
      (learnt ((o1.events ++ h.events) ++ o2.events)
      (quiet-append (o1.events ++ h.events) o2.events (quiet-append o1.events h.events o1.quiet h.quiet) o2.quiet)
      (subst (λ r. (world_after newest r).standing who ≡ learn counted says) (sym same) own)))))

-- what the answer makes of the number
number-of : OwnerState → ℕ
number-of outside = 0
number-of attaching = 0
number-of (waits claim) = 0
number-of (owns claim) = claim.sequence
number-of ended = 0

learnt-number : (c now : Claim) (says : Commit) → learn c says ≡ owns now → now.sequence ≡ c.sequence
unfolding number-of
learnt-number c now (Applied revision) e = sym (ap number-of e)
learnt-number c now (Refused seen) e = chosen ((seen.head.owner == c.owner) && (seen.head.sequence == c.sequence)) e
  where
    chosen : (b : Bool) → (if b then owns (record c { revision = seen.revision }) else ended) ≡ owns now → now.sequence ≡ c.sequence
    chosen true f = sym (ap number-of f)
    chosen false f = absurd (cc)

-- nothing but the synced file and the one in memory is in the store, once the sync is sent
pub one-of-two : (newest : ℕ) (run events : List Event) (who : ℕ) (claim : Claim) (changes synced file : List ℕ) → (world_after newest run).standing who ≡ owns claim → IsLast who (world_after newest run) → HoldsFile synced (world_after newest run).register → DiffersIn changes synced file → NobodySyncs events → (HoldsFile synced (world_after newest ((run ++ syncs who (brings changes file) ∷ []) ++ events)).register × ¬ HasWritten who (claim.sequence + 1) (world_after newest ((run ++ syncs who (brings changes file) ∷ []) ++ events)).changes) ⊎ HoldsFile file (world_after newest ((run ++ syncs who (brings changes file) ∷ []) ++ events)).register
one-of-two newest run events who claim changes synced file stands last holds differs quiet =
    let at : world_after newest ((run ++ syncs who (brings changes file) ∷ []) ++ events) ≡ world_with_sync (world_after newest run) who (brings changes file) events =
    ap (world_after newest) (append_assoc run (syncs who (brings changes file) ∷ []) events) ∙ run-append run (syncs who (brings changes file) ∷ events) (empty_store newest) in
    elim (each_moment newest run events who claim changes synced file stands last holds differs quiet) [
      | inl h ↦ inl (subst (λ (w : World). HoldsFile synced w.register × ¬ HasWritten who (claim.sequence + 1) w.changes) (sym at) (h.holds, h.not_yet))
      | inr h ↦ inr (subst (λ (w : World). HoldsFile file w.register) (sym at) h)
    ]

-- after Ok the file in memory is the synced one
pub sync-owns : (newest : ℕ) (run events : List Event) (who : ℕ) (old new : Blocks) (synced : List ℕ) (own : Owns old who synced (world_after newest run)) (now : Claim) (says : Commit) → NobodySyncs events → (world_after newest ((run ++ syncs who (brings old.file.changed.items old.file.bytes.items) ∷ []) ++ events)).standing who ≡ learn (record own.claim { sequence = own.claim.sequence + 1 }) says → learn (record own.claim { sequence = own.claim.sequence + 1 }) says ≡ owns now → new.claim ≡ Some now → new.file.changed.items ≡ [] → new.file.bytes.items ≡ old.file.bytes.items → Owns new who new.file.bytes.items (world_after newest ((run ++ syncs who (brings old.file.changed.items old.file.bytes.items) ∷ []) ++ events))
sync-owns newest run events who old new synced own now says quiet stands learnt knows clean same =
    let u : Unsynced = brings old.file.changed.items old.file.bytes.items in
    let standing = stands ∙ learnt in
    record {
      claim = now;
      knows = knows;
      stands = standing;
      differs = λ n low e. refl;
      holds = λ last.
          let before = was-last newest run (syncs who (brings old.file.changed.items old.file.bytes.items) ∷ events) who own.claim own.stands
          (subst (λ r. IsLast who (world_after newest r)) (append_assoc run (syncs who (brings old.file.changed.items old.file.bytes.items) ∷ []) events) last) in
          elim (one-of-two newest run events who own.claim old.file.changed.items synced old.file.bytes.items own.stands before (own.holds before) own.differs quiet) [
            | inl h ↦ absurd (h.1 (subst (λ n. HasWritten who n (world_after newest ((run ++ syncs who (brings old.file.changed.items old.file.bytes.items) ∷ []) ++ events)).changes)
                (learnt-number (record own.claim { sequence = own.claim.sequence + 1 }) now says learnt)
                (answered newest ((run ++ syncs who (brings old.file.changed.items old.file.bytes.items) ∷ []) ++ events) who now standing)))
            | inr h ↦ subst (λ f. HoldsFile f (world_after newest ((run ++ syncs who (brings old.file.changed.items old.file.bytes.items) ∷ []) ++ events)).register) (sym same) h
          ];
    }

-- whatever comes after a sync
pub whole : (newest : ℕ) (run : List Event) (who : ℕ) (synced : List ℕ) (blocks : Blocks) (new : Store) (P : World → Type 0) → Owns blocks who synced (world_after newest run) → IsLast who (world_after newest run) → RunsOn newest (with_sync run who blocks) who new P → WhateverComes (λ register. (image register ≡ synced) ⊎ (image register ≡ blocks.file.bytes.items)) new
whole newest run who synced blocks new P own last g arrivals were =
    let sent-run : List Event = with_sync run who blocks in
    let o = onward newest (with_sync run who blocks ++ g.events) new.sent new.register (after_arrivals arrivals new.register) g.leads.sent g.leads.register (record { arrivals = arrivals; were_sent = were; makes = refl }) in
    let at : (world_after newest (with_sync run who blocks ++ (g.events ++ o.events))).register ≡ after_arrivals arrivals new.register =
    ap (λ r. (world_after newest r).register) (sym (append_assoc (with_sync run who blocks) g.events o.events)) ∙ o.register in
    elim (one-of-two newest run (g.events ++ o.events) who own.claim blocks.file.changed.items synced blocks.file.bytes.items own.stands last (own.holds last) own.differs (quiet-append g.events o.events g.quiet o.quiet)) [
      | inl h ↦ inl (ap image (sym at) ∙ held_image synced _ h.0)
      | inr h ↦ inr (ap image (sym at) ∙ held_image blocks.file.bytes.items _ h)
    ]

-- whatever comes while no sync is sent
pub owned-stays : (newest : ℕ) (run : List Event) (who : ℕ) (synced : List ℕ) (blocks : Blocks) (store : Store) → HasKeysOf (world_after newest run) store → Owns blocks who synced (world_after newest run) → IsLast who (world_after newest run) → WhateverComes (λ register. image register ≡ synced) store
owned-stays newest run who synced blocks store is own last arrivals were =
    let u : Unsynced = brings [] synced in
    let covers : Covers (world_after newest (run ++ syncs who (brings [] synced) ∷ [])) store.sent =
    λ t m. sent-covers newest run who own.claim (brings [] synced) own.stands store.sent is.sent t (Member-left m (sync_of own.claim (brings [] synced) ∷ [])) in
    let o = onward newest (run ++ syncs who (brings [] synced) ∷ []) store.sent store.register (after_arrivals arrivals store.register) covers
    (sent-register newest run who own.claim (brings [] synced) own.stands ∙ is.register) (record { arrivals = arrivals; were_sent = were; makes = refl }) in
    ap image (sym o.register) ∙ held_image synced (world_after newest ((run ++ syncs who (brings [] synced) ∷ []) ++ o.events)).register
    (elim (one-of-two newest run o.events who own.claim [] synced synced own.stands last (own.holds last) (λ n low e. refl) o.quiet) [ inl h ↦ h.0 | inr h ↦ h ])
