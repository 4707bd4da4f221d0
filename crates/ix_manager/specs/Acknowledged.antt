-- Which actions were acknowledged, and the images that keep each of them.
use Rattle.std.specs.Prelude.{◌≡◌, ℕ, ◌≤◌, List, ◌∷◌, ◌++◌, length}
use Rattle.ix_journal.specs.History.{PlainHistory}
use Rattle.ix_expr.specs.Form.{Form}
use Rattle.ix_outside.specs.Contents.{SentBytes}
use Rattle.ix_outside.specs.Crashes.{Left}
use Rattle.ix_proto.specs.declared.reply.Outcome.TheVariants as became
use Rattle.ix_proto.specs.declared.reply.Reply.{Reply}
use Rattle.ix_proto.specs.declared.reply.Reply.TheVariants.{Confirmed, Entry, Outcome}
use Rattle.ix_journal.specs.declared.entries.Renewed.{Renewed}
use Rattle.ix_manager.specs.Images.{Keeps}
use Rattle.ix_manager.specs.Machine.{count_of}

-- the reply tells of the history's action of this number: that it was confirmed, that its ticket
-- was, or which one it is
abbrev pub TellsNumber : ℕ → Reply → Type 0
TellsNumber n (Confirmed number) = number ≡ n
TellsNumber n (Outcome (became.Confirmed place)) = place ≡ n
TellsNumber n (Entry number a) = number ≡ n
TellsNumber n _ = ⊥

-- The history's action of this number was acknowledged: of a reply that tells of it at least one
-- byte had been sent. The sends carry the replies one by one, in order; no send carries those that
-- are left over.
pub data IsAcknowledged (n : ℕ) : List Reply → List SentBytes → Type 0 where
  first : {reply : Reply} {replies : List Reply} {sent : List SentBytes}
      (conn byte : ℕ) (bytes : List ℕ)
      → TellsNumber n reply
      → IsAcknowledged n (reply ∷ replies) (record { conn = conn; bytes = byte ∷ bytes } ∷ sent)
  later : {reply : Reply} {pair : SentBytes} {replies : List Reply} {sent : List SentBytes}
      → IsAcknowledged n replies sent → IsAcknowledged n (reply ∷ replies) (pair ∷ sent)

-- An image that a crash left, and what had been sent by then: it keeps at least so many actions of
-- this history, the first ones and no others, and each that was acknowledged by then. The sends
-- behind those of before carry these replies, each one of them. The carried actions stand for this.
pub record KeepsAcknowledged (x : Form) (least : ℕ) (history : PlainHistory) (renewed : Renewed)
    (replies : List Reply) (before : List SentBytes) (left : Left) : Type 0 where
  pub keeps : Keeps x least history left.image
  pub sent : List SentBytes
  pub behind : left.sent ≡ before ++ sent
  pub carried : length sent ≤ length replies
  pub acknowledged : (n : ℕ) → IsAcknowledged n replies sent → n ≤ count_of renewed keeps.kept
