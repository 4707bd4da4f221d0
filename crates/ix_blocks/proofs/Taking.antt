-- An attach that took a file over, and one that didn't.
use Rattle.std.proofs.Common.{◌≡◌, ◌⊎◌, inl, inr, ℕ, ◌+◌, ◌≤◌, Bool, true, false, if◌then◌else◌, List, [], ◌∷◌, ◌++◌, length, Some, refl, sym, ap, ◌∙◌, subst}
use Rattle.ix_words.specs.Each.{no_item, Member}
use Rattle.ix_words.proofs.Each.{Each-append, Each-weaker, Member-left}
use Rattle.ix_blocks.specs.Register.{Register, Transaction, seen_of, fits, changed, apply}
use Rattle.ix_blocks.specs.declared.blocks.Blocks.{Blocks}
use Rattle.ix_blocks.specs.declared.claim.Claim.{Claim}
use Rattle.ix_blocks.specs.declared.claim.Seen.{Seen}
use Rattle.ix_blocks.specs.declared.claim.Commit.{Commit}
use Rattle.ix_blocks.specs.declared.claim.Commit.TheVariants.{Applied, Refused}
use Rattle.ix_blocks.specs.declared.keys.Fault.{Fault}
use Rattle.ix_blocks.specs.declared.keys.Fault.TheVariants.{NoAnswer, Ended}
use Rattle.ix_blocks.specs.Owners.{outside, attaching, ended, Event, World, attach_of, hear, world_after}
use Rattle.ix_blocks.specs.FileBlocks.{block_count, HoldsFile}
use Rattle.ix_blocks.specs.Stores.{Store, Arrival, on_these, on_others, after_arrivals, WasSent}
use Rattle.ix_blocks.specs.inside.StoreCalls.{Meanwhile, SeesHead, TimePasses, SendsOne, AnswersSo, answer_of, sent_with}
use Rattle.ix_blocks.specs.Protocol.{HasKeysOf, IsLast, Owns}
use Rattle.ix_blocks.specs.inside.OwnerCalls.{RunsOn, HasEnded, TakesFile, TakesNothing}
use Rattle.ix_blocks.specs.inside.Reading.{ReadsFront}
use Rattle.ix_blocks.proofs.Runs.{looks_tell}
use Rattle.ix_blocks.proofs.Moving.{passes-move, kept-at}
use Rattle.ix_blocks.proofs.Later.{Covers}
use Rattle.ix_blocks.proofs.Onward.{Onward, onward, bounded, covers-same, goes-on, owns-onward}
use Rattle.ix_blocks.proofs.Attaching.{chain-onward, goes-chain, attach-sent, Answered-on, attach-answered}

arrivals-join : (xs ys : List Arrival) (r : Register) → after_arrivals (xs ++ ys) r ≡ after_arrivals ys (after_arrivals xs r)
arrivals-join [] ys r = refl
arrivals-join (x ∷ xs) ys r = arrivals-join xs ys _

pub passes-none : (sent : List Transaction) (r : Register) → Meanwhile sent r r
passes-none sent r = record { arrivals = []; were_sent = no_item; makes = refl }

pub passes-join : (sent : List Transaction) (a b c : Register) → Meanwhile sent a b → Meanwhile sent b c → Meanwhile sent a c
passes-join sent a b c first second = record {
  arrivals = first.arrivals ++ second.arrivals;
  were_sent = Each-append first.were_sent second.were_sent;
  makes = second.makes ∙ ap (after_arrivals second.arrivals) first.makes ∙ sym (arrivals-join first.arrivals second.arrivals a);
}

pub passes-more : (few all : List Transaction) (a b : Register) → ((t : Transaction) → Member t few → Member t all) → Meanwhile few a b → Meanwhile all a b
passes-more few all a b more p = record { arrivals = p.arrivals; were_sent = Each-weaker was p.were_sent; makes = p.makes }
  where
    was : (x : Arrival) → WasSent few x → WasSent all x
    was (on_these t) m = more t m
    was on_others m = m

-- the head that an attach put
module _ (seen : Seen) (moment : Register) (revision : ℕ) (says : Applied revision ≡ answer_of (attach_of seen) moment) where
  abbrev made : Register
  made = apply (attach_of seen) moment

  put-at : (apply (attach_of seen) moment).revision ≡ revision
  put-at = chosen (fits (attach_of seen) moment) says
    where
      chosen : (b : Bool) → Applied revision ≡ (if b then Applied (moment.newest + 1) else Refused (seen_of moment)) → (if b then changed (attach_of seen) moment else moment).revision ≡ revision
      chosen true e = ap (λ (c : Commit). elim c [ Applied r ↦ r | Refused s ↦ moment.newest + 1 ]) (sym e)
      chosen false e = absurd (cc)

  put-length : (apply (attach_of seen) moment).head.length ≡ seen.head.length
  put-length = chosen (fits (attach_of seen) moment) says
    where
      chosen : (b : Bool) → Applied revision ≡ (if b then Applied (moment.newest + 1) else Refused (seen_of moment)) → (if b then changed (attach_of seen) moment else moment).head.length ≡ seen.head.length
      chosen true e = refl
      chosen false e = absurd (cc)

-- what was read behind that is what was there then
read-holds : (start : Register) (at : ℕ) (file : List ℕ) (sent : List Transaction) (old new : Store) → ((t : Transaction) → Member t old.sent → Member t sent) → start.revision ≤ start.newest → start.revision ≡ at → start.head.length ≡ length file → Meanwhile sent start old.register → ReadsFront at (block_count file) file old new → HoldsFile file start
read-holds start at file sent old new more bound e as_long since read =
    record {
      length = as_long;
      blocks = λ n low.
          let m = read.blocks n low in
          let until = passes-join sent start old.register m.moment since (passes-more old.sent sent old.register m.moment more m.until) in
          let k = kept-at start m.moment bound (passes-move sent start m.moment bound until) (m.holds.0 ∙ sym e) in
          ap (λ (f : ℕ → List ℕ). f n) (sym k.blocks) ∙ m.holds.1;
    }

pub sent-covers : (w : World) (t : Transaction) (mid new : Store) → Covers w (mid.sent ++ t ∷ []) → (new.sent ≡ mid.sent) ⊎ (new.sent ≡ sent_with mid t) → Covers w new.sent
sent-covers w t mid new covers (inl e) x m = covers x (Member-left (subst (Member x) e m) (t ∷ []))
sent-covers w t mid new covers (inr e) x m = covers x (subst (Member x) e m)

among-sent : (t : Transaction) (mid new : Store) → (new.sent ≡ mid.sent) ⊎ (new.sent ≡ sent_with mid t) → (x : Transaction) → Member x new.sent → Member x (sent_with mid t)
among-sent t mid new (inl e) x m = Member-left (subst (Member x) e m) (t ∷ [])
among-sent t mid new (inr e) x m = subst (Member x) e m

module _ (seen : Seen) (old mid : Store) (sees : SeesHead seen old mid) (time : TimePasses old mid) where
  abbrev pub t : Transaction
  t = attach_of seen

  -- behind the answer time passes
  module _ (newest : ℕ) (run : List Event) (who : ℕ) (is : HasKeysOf (world_after newest run) old) (fresh : (world_after newest run).standing who ≡ outside) (says : Commit) (new last : Store) (sends : SendsOne (attach_of seen) mid new) (answers : AnswersSo (attach_of seen) says mid new) (later : TimePasses new last) where
    abbrev pub answered-there : Answered-on newest run who seen old mid is fresh sees time says new
    answered-there = attach-answered newest run who seen old mid is fresh sees time says new answers

    pub to-the-end : (P : World → Type 0) → ((o : Onward newest answered-there.target new.register) → (o' : Onward newest (answered-there.target ++ o.events) last.register) → P (world_after newest ((answered-there.target ++ o.events) ++ o'.events))) → RunsOn newest answered-there.target who last P
    to-the-end P f =
        let a = answered-there in
        let o = onward newest a.target (sent_with mid (attach_of seen)) (apply (attach_of seen) a.moment) new.register a.covers a.register a.since in
        let covers = covers-same (world_after newest (a.target ++ o.events)) (world_after newest a.target) (mid.sent ++ attach_of seen ∷ []) o.sent a.covers in
        let o' = onward newest (a.target ++ o.events) (sent_with mid (attach_of seen)) new.register last.register covers o.register
        (passes-more new.sent (sent_with mid (attach_of seen)) new.register last.register (among-sent (attach_of seen) mid new sends.sent) later.register) in
        goes-chain newest who a.target (a.target ++ o.events) last P (chain-onward newest who a.target new.register o)
        (goes-on newest (a.target ++ o.events) who last P
        (subst (Covers (world_after newest (a.target ++ o.events))) (sym later.sent) (sent-covers (world_after newest (a.target ++ o.events)) (attach_of seen) mid new covers sends.sent))
        o' (f o o'))

  pub take-over : (blocks : Blocks) (revision : ℕ) (new last : Store) → SendsOne (attach_of seen) mid new → AnswersSo (attach_of seen) (Applied revision) mid new → ReadsFront revision (block_count blocks.file.bytes.items) blocks.file.bytes.items new last → seen.head.length ≡ length blocks.file.bytes.items → blocks.claim ≡ Some (record { owner = revision; revision = revision; sequence = 0 }) → TakesFile blocks old last
  take-over blocks revision new last sends answers read as_long knows newest run who is fresh =
      let file : List ℕ = blocks.file.bytes.items in
      let a = attach-answered newest run who seen old mid is fresh sees time (Applied revision) new answers in
      let claim : Claim = record { owner = revision; revision = revision; sequence = 0 } in
      let at : (world_after newest a.target).register.revision ≡ revision = ap (λ (r : Register). r.revision) a.register ∙ put-at seen a.moment revision a.says_so in
      let is_last : IsLast who (world_after newest a.target) = (looks_tell newest a.target who claim a.stands).0 at in
      let bound : (apply (attach_of seen) a.moment).revision ≤ (apply (attach_of seen) a.moment).newest = subst (λ (r : Register). r.revision ≤ r.newest) a.register (bounded newest a.target) in
      let made-file : HoldsFile blocks.file.bytes.items (apply (attach_of seen) a.moment) =
      read-holds (apply (attach_of seen) a.moment) revision blocks.file.bytes.items (sent_with mid (attach_of seen)) new last (among-sent (attach_of seen) mid new sends.sent) bound (put-at seen a.moment revision a.says_so)
      (put-length seen a.moment revision a.says_so ∙ as_long) a.since read in
      let holds : HoldsFile blocks.file.bytes.items (world_after newest a.target).register = subst (HoldsFile blocks.file.bytes.items) (sym a.register) made-file in
      let own : Owns blocks who blocks.file.bytes.items (world_after newest a.target) = record { claim = claim; knows = knows; stands = a.stands; differs = λ n low e. refl; holds = λ l. holds } in
      let behind = to-the-end newest run who is fresh (Applied revision) new last sends answers read.time (Owns blocks who blocks.file.bytes.items)
      (λ o o'. owns-onward newest (a.target ++ o.events) last.register blocks who blocks.file.bytes.items (owns-onward newest a.target new.register blocks who blocks.file.bytes.items own o) o') in
      record {
        events = a.chain.events;
        quiet = a.chain.quiet;
        holds = subst (λ r. IsLast who (world_after newest r) × HoldsFile blocks.file.bytes.items (world_after newest r).register) (sym a.chain.same) (is_last, holds);
        behind = subst (λ r. RunsOn newest r who last (Owns blocks who blocks.file.bytes.items)) (sym a.chain.same) behind;
      }

  pub take-nothing : (fault : Fault) (says : Commit) (new last : Store) → SendsOne (attach_of seen) mid new → AnswersSo (attach_of seen) says mid new → TimePasses new last → (fault ≡ Ended → hear attaching 0 says ≡ ended) → TakesNothing fault old last
  take-nothing fault says new last sends answers later f newest run who is fresh =
      let a = attach-answered newest run who seen old mid is fresh sees time says new answers in
      goes-chain newest who run a.target last (λ world. fault ≡ Ended → HasEnded who world) a.chain
      (to-the-end newest run who is fresh says new last sends answers later (λ world. fault ≡ Ended → HasEnded who world)
      (λ o o' e. o'.standing who ∙ o.standing who ∙ a.stands ∙ f e))

  pub send-nothing : (new : Store) → SendsOne (attach_of seen) mid new → TakesNothing NoAnswer old new
  send-nothing new sends newest run who is fresh =
      let s = attach-sent newest run who seen old mid is fresh sees time in
      let o = onward newest s.target (sent_with mid (attach_of seen)) mid.register new.register s.covers s.register sends.register in
      goes-chain newest who run s.target new (λ world. NoAnswer ≡ Ended → HasEnded who world) s.chain
      (goes-on newest s.target who new (λ world. NoAnswer ≡ Ended → HasEnded who world)
      (sent-covers (world_after newest s.target) (attach_of seen) mid new s.covers sends.sent) o (λ e. absurd (cc)))

pub look-nothing : (old new : Store) → TimePasses old new → TakesNothing NoAnswer old new
look-nothing old new time newest run who is fresh =
    let o = onward newest run old.sent old.register new.register is.sent is.register time.register in
    goes-on newest run who new (λ world. NoAnswer ≡ Ended → HasEnded who world) (subst (Covers (world_after newest run)) (sym time.sent) is.sent) o (λ e. absurd (cc))

pub no-time : (s : Store) → TimePasses s s
no-time s = record { register = passes-none s.sent s.register; sent = refl }

-- an attach that wasn't applied
pub refused-ends : (says : Commit) → ((r : ℕ) → says ≡ Applied r → ⊥) → hear attaching 0 says ≡ ended
refused-ends (Applied r) n = absurd (n r refl)
refused-ends (Refused seen) n = refl

-- the calls of an attach, one behind the other
pub record Looked (seen : Seen) (a b : Store) : Type 0 where
  pub sees : SeesHead seen a b
  pub time : TimePasses a b

pub record Committed (seen : Seen) (says : Commit) (a b : Store) : Type 0 where
  pub sends : SendsOne (attach_of seen) a b
  pub answers : AnswersSo (attach_of seen) says a b
