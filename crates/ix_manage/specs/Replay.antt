-- What `replay` puts.
use Rattle.std.specs.Prelude.{◌≡◌, ℕ, ◌≤◌, List, [], ◌∷◌, ◌++◌, length, Option}
use Rattle.ix_manage.specs.Limits.{most_file_bytes}
use Rattle.ix_words.specs.Each.{Each}
use Rattle.ix_manager.specs.Runs.{Opening}
use Rattle.ix_outside.specs.Contents.{GivenEvent, send_text}
use Rattle.ix_outside.specs.Counts.{Counts}
use Rattle.ix_outside.specs.Files.{Listing, HasFile, HasLonger}
use Rattle.ix_proto.specs.declared.reply.Reply.{Reply}
use Rattle.ix_manager.specs.Wire.{all_replies, replies_text, reply_line}
use Rattle.ix_script.specs.Events.{HasEvents}
use Rattle.ix_script.specs.Grammar.{IsFirstScriptFault}
use Rattle.ix_script.specs.Pieces.{pieces_of}
use Rattle.ix_manage.specs.Session.{IsNoEnd, Session, SessionEnds, Takes, replay_text}

-- the script of this name has these events, with whole pieces
pub record ReadsEvents (files : Option Listing) (name : List ℕ)
    (events : List GivenEvent) : Type 0 where
  pub bytes : List ℕ
  pub file : HasFile files name bytes
  pub short : length bytes ≤ most_file_bytes
  pub has : HasEvents bytes events

-- the script of this name has this fault: its length, or that of its first line that isn't in the
-- grammar
pub data HasBadScript (files : Option Listing) (name : List ℕ) : ℕ → ℕ → Type 0 where
  too_long : HasLonger files name most_file_bytes → HasBadScript files name 34 most_file_bytes
  bad_line : {bytes : List ℕ} {code at : ℕ}
      → HasFile files name bytes → length bytes ≤ most_file_bytes → IsFirstScriptFault bytes code at
      → HasBadScript files name code at

-- these are the first events, in pieces of at most 4,096 bytes
abbrev pub AreFirst : List GivenEvent → List GivenEvent → Type 0
AreFirst events taken = taken ≡ pieces_of 4096 (length taken) events

-- the first so many of these pieces have the end among them
abbrev pub EndsWithin : ℕ → List GivenEvent → Type 0
EndsWithin turns events = ¬ Each IsNoEnd (pieces_of 4096 turns events)

-- a session takes the first of a script's events
pub record Plays (turns : ℕ) (events : List GivenEvent) (session : Session) : Type 0 where
  pub takes : Takes turns session
  pub first : AreFirst events session.taken

-- The put of a reply to the last event failed: what was put before it, and what it was to put. The
-- replies behind it are silent.
pub data LosesReply (opening : Opening)
    : List GivenEvent → List (List (List Reply)) → List ℕ → List ℕ → Type 0 where
  loses : (before : List GivenEvent) (given : GivenEvent)
      (answers : List (List (List Reply))) (last : List (List Reply))
      (sent : List Reply) (lost : Reply) (silent : List Reply)
      → all_replies last ≡ sent ++ lost ∷ silent
      → LosesReply opening (before ++ given ∷ []) (answers ++ last ∷ [])
      (replay_text opening before answers ++ replies_text given.event.conn sent)
      (send_text given.event.conn (reply_line lost))

-- the text of a session: the line of the history, and the replies
abbrev pub session_text : Session → List ℕ
session_text session = replay_text session.opening session.taken session.answers

-- how a replay's session ends: behind its text, or at a put of a reply that failed
pub data ReplayEnds (turns : ℕ) (before after : Counts) (session : Session)
    : ℕ → List ℕ → List ℕ → Type 0 where
  ends : {status : ℕ} {whole part : List ℕ}
      → SessionEnds turns before after (session_text session) session status whole part
      → ReplayEnds turns before after session status whole part
  lost_reply : {whole part : List ℕ}
      → LosesReply session.opening session.taken session.answers whole part
      → ReplayEnds turns before after session 10 whole part
