-- An attach over a store, as a part of a run.
use Rattle.std.proofs.Common.{◌≡◌, ◌≢◌, inl, inr, ℕ, if◌then◌else◌, List, [], ◌∷◌, ◌++◌, append_assoc, refl, sym, ap, ◌∙◌, subst}
use Rattle.std.proofs.lemmas.Bool.{eq-eqb, ne_eqb}
use Rattle.ix_words.specs.Each.{Member, here, there}
use Rattle.ix_words.proofs.Each.{Member-left, Member-either}
use Rattle.ix_words.proofs.Canon.{Member-cases}
use Rattle.ix_blocks.specs.Register.{Register, Transaction, seen_of, apply}
use Rattle.ix_blocks.specs.declared.claim.Seen.{Seen}
use Rattle.ix_blocks.specs.declared.claim.Commit.{Commit}
use Rattle.ix_blocks.specs.Owners.{Sent, number, outside, attaching, Event, attaches, World, attach_of, attach, hear, empty_store, world_after}
use Rattle.ix_blocks.specs.FileLaws.{NobodySyncs}
use Rattle.ix_blocks.specs.Stores.{Store}
use Rattle.ix_blocks.specs.inside.StoreCalls.{Meanwhile, SeesHead, TimePasses, AnswersSo, answer_of, sent_with}
use Rattle.ix_blocks.specs.Protocol.{HasKeysOf}
use Rattle.ix_blocks.specs.inside.OwnerCalls.{RunsOn}
use Rattle.ix_blocks.proofs.Runs.{run-append}
use Rattle.ix_blocks.proofs.Later.{Covers, quiet-append}
use Rattle.ix_blocks.proofs.Onward.{Onward, onward, heard-on, covers-same, goes-join}

-- one run goes on to another, in which nobody syncs, and all but this owner stand as they did
pub record Chain (newest who : ℕ) (run target : List Event) : Type 0 where
  pub events : List Event
  pub quiet : NobodySyncs events
  pub same : run ++ events ≡ target
  pub others : (other : ℕ) → other ≢ who → (world_after newest target).standing other ≡ (world_after newest run).standing other

pub chain-join : (newest who : ℕ) (run mid target : List Event) → Chain newest who run mid → Chain newest who mid target → Chain newest who run target
chain-join newest who run mid target a b =
    record {
      events = a.events ++ b.events;
      quiet = quiet-append a.events b.events a.quiet b.quiet;
      same = sym (append_assoc run a.events b.events) ∙ ap (λ r. r ++ b.events) a.same ∙ b.same;
      others = λ other n. b.others other n ∙ a.others other n;
    }

pub chain-onward : (newest who : ℕ) (run : List Event) (target : Register) (o : Onward newest run target) → Chain newest who run (run ++ o.events)
chain-onward newest who run target o = record { events = o.events; quiet = o.quiet; same = refl; others = λ other n. o.standing other }

pub goes-chain : (newest who : ℕ) (run target : List Event) (store : Store) (P : World → Type 0) → Chain newest who run target → RunsOn newest target who store P → RunsOn newest run who store P
goes-chain newest who run target store P chain g =
    goes-join newest run chain.events who store P chain.quiet
    (λ other n. ap (λ r. (world_after newest r).standing other) chain.same ∙ chain.others other n)
    (subst (λ r. RunsOn newest r who store P) (sym chain.same) g)

-- an attach was sent
module _ (newest : ℕ) (run : List Event) (who : ℕ) (seen : Seen) (old mid : Store) (is : HasKeysOf (world_after newest run) old) (fresh : (world_after newest run).standing who ≡ outside) (sees : SeesHead seen old mid) (time : TimePasses old mid) where
  looks : Onward newest run sees.moment
  looks = onward newest run old.sent old.register sees.moment is.sent is.register sees.until

  pub record Sent-on : Type 0 where
    pub target : List Event
    pub chain : Chain newest who run target
    pub mine : Sent
    pub is_theirs : mine.owner ≡ who
    pub is_attach : mine.transaction ≡ attach_of seen
    pub was_sent : Member mine (world_after newest target).sent
    pub register : (world_after newest target).register ≡ mid.register
    pub covers : Covers (world_after newest target) (mid.sent ++ attach_of seen ∷ [])
    pub waits : (world_after newest target).standing who ≡ attaching

  pub attach-sent : Sent-on
  attach-sent =
      let o = looks in
      let r1 : List Event = run ++ o.events in
      let w1 : World = world_after newest (run ++ o.events) in
      let mine : Sent = record { owner = who; transaction = attach_of (seen_of (world_after newest (run ++ o.events)).register) } in
      let at : world_after newest ((run ++ o.events) ++ attaches who ∷ []) ≡ attach (world_after newest (run ++ o.events)) who outside =
      run-append (run ++ o.events) (attaches who ∷ []) (empty_store newest) ∙ ap (attach (world_after newest (run ++ o.events)) who) (o.standing who ∙ fresh) in
      let e : mine.transaction ≡ attach_of seen = ap (λ (r : Register). attach_of (seen_of r)) o.register ∙ ap attach_of sees.holds in
      let member : Member mine (world_after newest ((run ++ o.events) ++ attaches who ∷ [])).sent = subst (Member mine) (sym (ap (λ (x : World). x.sent) at)) here in
      let covers1 : Covers (world_after newest (run ++ o.events)) old.sent = covers-same (world_after newest (run ++ o.events)) (world_after newest run) old.sent o.sent is.sent in
      let covers2 : Covers (world_after newest ((run ++ o.events) ++ attaches who ∷ [])) (old.sent ++ attach_of seen ∷ []) = λ t m. elim (Member-either old.sent (attach_of seen ∷ []) m) [
        | inl k ↦ (let c = covers1 t k in (c.0, subst (Member c.0) (sym (ap (λ (x : World). x.sent) at)) (there c.1), c.2))
        | inr k ↦ elim (Member-cases k) [
          | inl f ↦ (mine, member, e ∙ sym f)
          | inr n ↦ elim n [ ]
        ]
      ] in
      let r2 = ap (λ (x : World). x.register) at ∙ o.register in
      let o2 = onward newest ((run ++ o.events) ++ attaches who ∷ []) old.sent sees.moment mid.register (λ t m. covers2 t (Member-left m (attach_of seen ∷ []))) r2 sees.since in
      let step : Chain newest who (run ++ o.events) ((run ++ o.events) ++ attaches who ∷ []) = record {
        events = attaches who ∷ [];
        quiet = tt;
        same = refl;
        others = λ other n. ap (λ (x : World). x.standing other) at ∙ ap (λ b. if b then attaching else (world_after newest (run ++ o.events)).standing other) (ne_eqb other who n);
      } in
      record {
        target = ((run ++ o.events) ++ attaches who ∷ []) ++ o2.events;
        chain = chain-join newest who run (run ++ o.events) (((run ++ o.events) ++ attaches who ∷ []) ++ o2.events) (chain-onward newest who run sees.moment o)
            (chain-join newest who (run ++ o.events) ((run ++ o.events) ++ attaches who ∷ []) (((run ++ o.events) ++ attaches who ∷ []) ++ o2.events) step (chain-onward newest who ((run ++ o.events) ++ attaches who ∷ []) mid.register o2));
        mine = mine;
        is_theirs = refl;
        is_attach = e;
        was_sent = subst (Member mine) (sym o2.sent) member;
        register = o2.register;
        covers = covers-same (world_after newest (((run ++ o.events) ++ attaches who ∷ []) ++ o2.events)) (world_after newest ((run ++ o.events) ++ attaches who ∷ [])) (mid.sent ++ attach_of seen ∷ []) o2.sent
            (subst (λ s. Covers (world_after newest ((run ++ o.events) ++ attaches who ∷ [])) (s ++ attach_of seen ∷ [])) (sym time.sent) covers2);
        waits = o2.standing who ∙ ap (λ (x : World). x.standing who) at ∙ ap (λ b. if b then attaching else (world_after newest (run ++ o.events)).standing who) (eq-eqb who who refl);
      }

  -- it was answered
  pub record Answered-on (says : Commit) (new : Store) : Type 0 where
    pub target : List Event
    pub chain : Chain newest who run target
    pub moment : Register
    pub says_so : says ≡ answer_of (attach_of seen) moment
    pub register : (world_after newest target).register ≡ apply (attach_of seen) moment
    pub covers : Covers (world_after newest target) (mid.sent ++ attach_of seen ∷ [])
    pub stands : (world_after newest target).standing who ≡ hear attaching 0 says
    pub since : Meanwhile (sent_with mid (attach_of seen)) (apply (attach_of seen) moment) new.register

  pub attach-answered : (says : Commit) (new : Store) → AnswersSo (attach_of seen) says mid new → Answered-on says new
  attach-answered says new answer =
      let s = attach-sent in
      let o = onward newest s.target (sent_with mid (attach_of seen)) mid.register answer.moment s.covers s.register answer.until in
      let h = heard-on newest (s.target ++ o.events) s.mine (subst (Member s.mine) (sym o.sent) s.was_sent) in
      let step : Chain newest who (s.target ++ o.events) ((s.target ++ o.events) ++ h.events) =
      record { events = h.events; quiet = h.quiet; same = refl; others = λ other n. h.others other (λ e. n (e ∙ s.is_theirs)) } in
      record {
        target = (s.target ++ o.events) ++ h.events;
        chain = chain-join newest who run s.target ((s.target ++ o.events) ++ h.events) s.chain
            (chain-join newest who s.target (s.target ++ o.events) ((s.target ++ o.events) ++ h.events) (chain-onward newest who s.target answer.moment o) step);
        moment = answer.moment;
        says_so = answer.answers;
        register = h.register ∙ ap (apply s.mine.transaction) o.register ∙ ap (λ t. apply t answer.moment) s.is_attach;
        covers = covers-same (world_after newest ((s.target ++ o.events) ++ h.events)) (world_after newest s.target) (mid.sent ++ attach_of seen ∷ []) (h.sent ∙ o.sent) s.covers;
        stands =
            ap (λ n. (world_after newest ((s.target ++ o.events) ++ h.events)).standing n) (sym s.is_theirs)
            ∙ h.own
            ∙ ap (λ n. hear ((world_after newest (s.target ++ o.events)).standing n) (number s.mine) (answer_of s.mine.transaction (world_after newest (s.target ++ o.events)).register)) s.is_theirs
            ∙ ap (λ st. hear st (number s.mine) (answer_of s.mine.transaction (world_after newest (s.target ++ o.events)).register)) (o.standing who ∙ s.waits)
            ∙ ap (λ n. hear attaching n (answer_of s.mine.transaction (world_after newest (s.target ++ o.events)).register)) (ap (λ (t : Transaction). t.head.sequence) s.is_attach)
            ∙ ap (hear attaching 0) (ap (answer_of s.mine.transaction) o.register ∙ ap (λ t. answer_of t answer.moment) s.is_attach ∙ sym answer.answers);
        since = answer.since;
      }
