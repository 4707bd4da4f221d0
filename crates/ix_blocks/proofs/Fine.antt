-- What holds of every world that a run leads to.
use Rattle.std.proofs.Common.{◌≡◌, ◌⊎◌, inl, inr, ℕ, ◌+◌, ◌<◌, ◌≤◌, List, [], None}
use Rattle.ix_words.specs.Each.{Member}
use Rattle.ix_blocks.specs.Register.{Register}
use Rattle.ix_blocks.specs.declared.claim.Head.{Head}
use Rattle.ix_blocks.specs.declared.claim.Claim.{Claim}
use Rattle.ix_blocks.specs.declared.claim.Commit.{Commit}
use Rattle.ix_blocks.specs.declared.claim.Commit.TheVariants.{Applied, Refused}
use Rattle.ix_blocks.specs.Owners.{Sent, number, Answer, Change, OwnerState, outside, attaching, waits, owns, ended, World}
use Rattle.ix_blocks.specs.Laws.{numbers_of, transactions_of, Descends}
use Rattle.ix_blocks.proofs.Changes.{guard, Leads, ByLast}

-- the owner made this revision
pub record Made (changes : List Change) (who revision : ℕ) : Type 0 where
  pub change : Change
  pub among : Member change changes
  pub theirs : change.sent.owner ≡ who
  pub made : change.revision ≡ revision

-- its guard is a revision that its owner made before, and its head has the one that the attach made
pub record IsSync (changes : List Change) (sent : Sent) : Type 0 where
  pub counted : 0 < number sent
  pub base : Made changes sent.owner (guard sent)
  pub later : number base.change.sent < number sent
  pub first : Made changes sent.owner sent.transaction.head.owner
  pub attach : number first.change.sent ≡ 0

-- it puts the head that was seen at its guard
pub record IsAttach (register : Register) (sent : Sent) : Type 0 where
  pub no_owner : sent.transaction.head.owner ≡ 0
  pub no_number : number sent ≡ 0
  pub no_puts : sent.transaction.puts ≡ []
  pub none_gone : sent.transaction.gone_from ≡ None
  pub as_long : guard sent ≡ register.revision → sent.transaction.head.length ≡ register.head.length

-- an attach put the head, or nobody did; or it is the head of the change that made this revision
abbrev pub PutBy : List Change → Head → ℕ → Type 0
PutBy changes head revision = (head.owner ≡ 0) ⊎ ((change : Change) × Member change changes × (change.revision ≡ revision) × (change.sent.transaction.head ≡ head))

-- an answer is true
abbrev pub Tells : List Change → Sent → Commit → Type 0
Tells changes sent (Applied revision) = (change : Change) × Member change changes × (change.sent ≡ sent) × (change.revision ≡ revision)
Tells changes sent (Refused seen) = PutBy changes seen.head seen.revision

-- what an owner knows is true
pub record Knows (changes : List Change) (who : ℕ) (claim : Claim) : Type 0 where
  pub first : Made changes who claim.owner
  pub attach : number first.change.sent ≡ 0
  pub base : Made changes who claim.revision

-- the numbers of what the owner sent are below this one
abbrev pub Below : ℕ → ℕ → List Sent → Type 0
Below who n sent = (s : Sent) → Member s sent → s.owner ≡ who → number s < n

abbrev pub Stands : List Sent → List Change → ℕ → OwnerState → Type 0
Stands sent changes who outside = Below who 0 sent
Stands sent changes who attaching = Below who 1 sent
Stands sent changes who (waits claim) = Below who (claim.sequence + 1) sent × (known : Knows changes who claim) × (number known.base.change.sent < claim.sequence)
Stands sent changes who (owns claim) = Below who (claim.sequence + 1) sent × (known : Knows changes who claim) × (number known.base.change.sent ≡ claim.sequence)
Stands sent changes who ended = Unit {0}

pub record Fine (world : World) : Type 0 where
  pub newest : world.register.revision ≤ world.register.newest
  pub leads : Leads world.register.revision world.changes
  pub were_sent : (c : Change) → Member c world.changes → Member c.sent world.sent
  pub head : PutBy world.changes world.register.head world.register.revision
  pub guards : (s : Sent) → Member s world.sent → guard s ≤ world.register.revision
  pub kinds : (s : Sent) → Member s world.sent → IsAttach world.register s ⊎ IsSync world.changes s
  pub one_attach : (s t : Sent) → Member s world.sent → Member t world.sent → s.owner ≡ t.owner → number s ≡ 0 → number t ≡ 0 → s ≡ t
  pub answered : (a : Answer) → Member a world.answers → Member a.to world.sent × Tells world.changes a.to a.says
  pub standings : (who : ℕ) → Stands world.sent world.changes who (world.standing who)
  pub by_last : ByLast world.changes
  pub in_order : (who : ℕ) → Descends (numbers_of who (transactions_of world.changes))
  pub numbered : (who : ℕ) → Descends (numbers_of who world.sent)

-- what holds over some changes holds over more

abbrev pub Among : List Change → List Change → Type 0
Among cs ds = (c : Change) → Member c cs → Member c ds

module _ {cs ds : List Change} (more : Among cs ds) where
  abbrev pub made-more : {who revision : ℕ} → Made cs who revision → Made ds who revision
  made-more m = record { change = m.change; among = more m.change m.among; theirs = m.theirs; made = m.made }

  pub sync-more : {s : Sent} → IsSync cs s → IsSync ds s
  sync-more h = record { counted = h.counted; base = made-more h.base; later = h.later; first = made-more h.first; attach = h.attach }

  pub put-more : {head : Head} {revision : ℕ} → PutBy cs head revision → PutBy ds head revision
  put-more (inl z) = inl z
  put-more (inr h) = inr (h.0, more h.0 h.1, h.2, h.3)

  pub tells-more : (s : Sent) (says : Commit) → Tells cs s says → Tells ds s says
  tells-more s (Applied r) h = (h.0, more h.0 h.1, h.2, h.3)
  tells-more s (Refused seen) h = put-more h

  abbrev pub knows-more : {who : ℕ} {claim : Claim} → Knows cs who claim → Knows ds who claim
  knows-more k = record { first = made-more k.first; attach = k.attach; base = made-more k.base }

  pub stands-more : (sent : List Sent) (who : ℕ) (standing : OwnerState) → Stands sent cs who standing → Stands sent ds who standing
  stands-more sent who outside h = h
  stands-more sent who attaching h = h
  stands-more sent who (waits claim) h = (h.0, knows-more h.1, h.2)
  stands-more sent who (owns claim) h = (h.0, knows-more h.1, h.2)
  stands-more sent who ended h = h
