-- What a call of a sync makes, from what the store made of it.
use Rattle.std.proofs.Common.{◌≡◌, ℕ, ◌+◌, List, [], Some, Ok, Err, sym, ap, ◌∙◌, subst}
use Rattle.ix_blocks.specs.Register.{Transaction}
use Rattle.ix_blocks.specs.declared.blocks.Blocks.{Blocks}
use Rattle.ix_blocks.specs.declared.claim.Claim.{Claim}
use Rattle.ix_blocks.specs.declared.claim.Commit.{Commit}
use Rattle.ix_blocks.specs.declared.keys.Fault.TheVariants.{NoAnswer, Ended}
use Rattle.ix_blocks.specs.Owners.{owns, ended, Unsynced, World, sync_of, learn}
use Rattle.ix_blocks.specs.FileBlocks.{brings}
use Rattle.ix_blocks.specs.Stores.{Store}
use Rattle.ix_blocks.specs.inside.StoreCalls.{SendsOne, AnswersSo}
use Rattle.ix_blocks.specs.Protocol.{Owns}
use Rattle.ix_blocks.specs.inside.OwnerCalls.{Waits, HasEnded, Syncs, LeavesOneOfTwo}
use Rattle.ix_blocks.proofs.Tellings.{some-same}
use Rattle.ix_blocks.proofs.Syncs.{unanswered, heard-answer, sync-owns, whole}

module _ (old : Blocks) (claim : Claim) (t : Transaction) (knows : old.claim ≡ Some claim) (is_sync : t ≡ sync_of claim (brings old.file.changed.items old.file.bytes.items)) (before after : Store) (sends : SendsOne t before after) where
  abbrev unsynced : Unsynced
  unsynced = brings old.file.changed.items old.file.bytes.items

  module _ {who : ℕ} {synced : List ℕ} {w : World} (own : Owns old who synced w) where
    same-claim : claim ≡ own.claim
    same-claim = some-same claim own.claim (sym knows ∙ own.knows)

    is-own : t ≡ sync_of own.claim (brings old.file.changed.items old.file.bytes.items)
    is-own = is_sync ∙ ap (λ c. sync_of c (brings old.file.changed.items old.file.bytes.items)) same-claim

  pub sync-unanswered : (new : Blocks) → Syncs {T = Unit {0}} (Err NoAnswer) old new before after
  sync-unanswered new newest run who synced is own =
      unanswered newest run who own.claim (brings old.file.changed.items old.file.bytes.items) own.stands before after is
      (subst (λ x. SendsOne x before after) (is-own own) sends) (Waits who) (λ w e. (record own.claim { sequence = own.claim.sequence + 1 }, e))

  pub unanswered-whole : LeavesOneOfTwo old before after
  unanswered-whole newest run who synced is own last =
      whole newest run who synced old after (Waits who) own last (sync-unanswered old newest run who synced is own)

  module _ (counted : Claim) (says : Commit) (is_counted : counted ≡ record claim { sequence = claim.sequence + 1 }) (answers : AnswersSo t says before after) where
    learns-own : {who : ℕ} {synced : List ℕ} {w : World} (own : Owns old who synced w) → learn counted says ≡ learn (record own.claim { sequence = own.claim.sequence + 1 }) says
    learns-own own = ap (λ c. learn c says) (is_counted ∙ ap (λ (c : Claim). record c { sequence = c.sequence + 1 }) (same-claim own))

    pub sync-ended : learn counted says ≡ ended → (new : Blocks) → Syncs {T = Unit {0}} (Err Ended) old new before after
    sync-ended learnt new newest run who synced is own =
        heard-answer newest run who own.claim (brings old.file.changed.items old.file.bytes.items) own.stands before after says is
        (subst (λ x. SendsOne x before after) (is-own own) sends) (subst (λ x. AnswersSo x says before after) (is-own own) answers)
        (HasEnded who) (λ events quiet stands. stands ∙ sym (learns-own own) ∙ learnt)

    pub ended-whole : learn counted says ≡ ended → LeavesOneOfTwo old before after
    ended-whole learnt newest run who synced is own last =
        whole newest run who synced old after (HasEnded who) own last (sync-ended learnt old newest run who synced is own)

    module _ (now : Claim) (learnt : learn counted says ≡ owns now) (new : Blocks) (knows_now : new.claim ≡ Some now) (clean : new.file.changed.items ≡ []) (same : new.file.bytes.items ≡ old.file.bytes.items) where
      pub sync-done : Syncs {T = Unit {0}} (Ok tt) old new before after
      sync-done newest run who synced is own =
          heard-answer newest run who own.claim (brings old.file.changed.items old.file.bytes.items) own.stands before after says is
          (subst (λ x. SendsOne x before after) (is-own own) sends) (subst (λ x. AnswersSo x says before after) (is-own own) answers)
          (Owns new who new.file.bytes.items)
          (λ events quiet stands. sync-owns newest run events who old new synced own now says quiet stands (sym (learns-own own) ∙ learnt) knows_now clean same)

      pub done-whole : LeavesOneOfTwo old before after
      done-whole newest run who synced is own last =
          whole newest run who synced old after (Owns new who new.file.bytes.items) own last (sync-done newest run who synced is own)
