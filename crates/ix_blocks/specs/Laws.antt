-- What is claimed of several owners of one file, as statements over every run.
use Rattle.std.specs.Prelude.{◌≡◌, ◌≢◌, ◌↔◌, ℕ, ◌<◌, ◌==◌, if◌then◌else◌, List, [], ◌∷◌, ◌++◌, ⊤}
use Rattle.std.specs.Prelude.{Option, None, Some, map}
use Rattle.ix_words.specs.Each.{Each, Member}
use Rattle.ix_blocks.specs.Register.{Register, apply, image}
use Rattle.ix_blocks.specs.declared.claim.Claim.{Claim}
use Rattle.ix_blocks.specs.Owners.{Sent, number, Change, owns, Event, world_after}

-- the owner of the last attach among these changes, the newest first
abbrev pub last_owner : List Change → Option ℕ
last_owner [] = None
last_owner (change ∷ changes) =
    if number change.sent == 0 then Some change.sent.owner else last_owner changes

-- the owner's transaction of this number changed the register
pub record HasWritten (who count : ℕ) (changes : List Change) : Type 0 where
  pub change : Change
  pub among : Member change changes
  pub is_theirs : change.sent.owner ≡ who
  pub has_number : number change.sent ≡ count

-- a transaction changes nothing
abbrev pub WritesNothing : Register → Sent → Type 0
WritesNothing register sent = apply sent.transaction register ≡ register

-- where `old` has attached and then another owner, no transaction that `old` ever sends changes
-- anything, then or at any later moment
abbrev pub EarlierOwnersWriteNothing : Type 0
EarlierOwnersWriteNothing = (newest : ℕ) (before after : List Event) (old new : ℕ)
    → HasWritten old 0 (world_after newest before).changes
    → last_owner (world_after newest before).changes ≡ Some new → old ≢ new
    → (sent : Sent) → Member sent (world_after newest (before ++ after)).sent → sent.owner ≡ old
    → WritesNothing (world_after newest (before ++ after)).register sent

-- a sync that would change something is of the owner that attached last
abbrev pub SyncsAreOfTheLastOwner : Type 0
SyncsAreOfTheLastOwner = (newest : ℕ) (events : List Event) (sent : Sent)
    → Member sent (world_after newest events).sent → number sent ≢ 0
    → last_owner (world_after newest events).changes ≢ Some sent.owner
    → WritesNothing (world_after newest events).register sent

-- the numbers of this owner's transactions among these, the newest first
abbrev pub numbers_of : ℕ → List Sent → List ℕ
numbers_of who [] = []
numbers_of who (sent ∷ rest) =
    if sent.owner == who then number sent ∷ numbers_of who rest else numbers_of who rest

-- the transactions that made these changes
abbrev pub transactions_of : List Change → List Sent
transactions_of changes = map (λ change. change.sent) changes

-- each is above all behind it
abbrev pub Descends : List ℕ → Type 0
Descends [] = ⊤
Descends (n ∷ numbers) = Each (λ m. m < n) numbers × Descends numbers

-- each transaction of an owner changes the register once at most, and they do so in the order in
-- which they were sent, which is that of their numbers
abbrev pub EachWritesOnceInOrder : Type 0
EachWritesOnceInOrder = (newest : ℕ) (events : List Event) (who : ℕ)
    → Descends (numbers_of who (transactions_of (world_after newest events).changes))
    × Descends (numbers_of who (world_after newest events).sent)

-- an attach, whenever it comes, leaves the file as it is
abbrev pub AttachesKeepTheFile : Type 0
AttachesKeepTheFile = (newest : ℕ) (events : List Event) (sent : Sent)
    → Member sent (world_after newest events).sent → number sent ≡ 0
    → image (apply sent.transaction (world_after newest events).register)
    ≡ image (world_after newest events).register

-- of an owner that waits for no answer, the last transaction that it sent has changed the register
abbrev pub AnsweredWritesStand : Type 0
AnsweredWritesStand = (newest : ℕ) (events : List Event) (who : ℕ) (claim : Claim)
    → (world_after newest events).standing who ≡ owns claim
    → HasWritten who claim.sequence (world_after newest events).changes

-- and where no other owner attached since, nothing that was ever sent changes the file
abbrev pub SettledFilesStay : Type 0
SettledFilesStay = (newest : ℕ) (events : List Event) (who : ℕ) (claim : Claim)
    → (world_after newest events).standing who ≡ owns claim
    → last_owner (world_after newest events).changes ≡ Some who
    → (sent : Sent) → Member sent (world_after newest events).sent
    → image (apply sent.transaction (world_after newest events).register)
    ≡ image (world_after newest events).register

-- an owner that waits for no answer finds the head at the revision that it knows exactly where it
-- is the one that attached last
abbrev pub LooksTellWhoOwns : Type 0
LooksTellWhoOwns = (newest : ℕ) (events : List Event) (who : ℕ) (claim : Claim)
    → (world_after newest events).standing who ≡ owns claim
    → ((world_after newest events).register.revision ≡ claim.revision)
    ↔ (last_owner (world_after newest events).changes ≡ Some who)
