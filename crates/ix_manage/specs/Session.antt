-- What a run made of the protocol machine, its text, and how it ends.
use Rattle.std.specs.Prelude.{◌≡◌, ◌≢◌, ◌⊎◌, ℕ, ◌≤◌, List, [], ◌∷◌, ◌++◌, length, codes, decimal}
use Rattle.ix_words.specs.Each.{Each}
use Rattle.ix_journal.specs.History.{Spent}
use Rattle.ix_outside.specs.Contents.{GivenEvent}
use Rattle.ix_outside.specs.Counts.{Counts, Rose}
use Rattle.ix_outside.specs.declared.event.EventKind.TheVariants.{End}
use Rattle.ix_proto.specs.declared.reply.Reply.{Reply}
use Rattle.ix_manager.specs.Machine.{MachineState, count_of}
use Rattle.ix_manager.specs.Runs.{Ending, Opening, Run, going, stopped, failed}
use Rattle.ix_manager.specs.Wire.{run_text}
use Rattle.ix_manage.specs.ActionLines.{line}
use Rattle.ix_manage.specs.Puts.{LastLine}

-- what a run of the machine started from, the events that it took, the replies to each item that
-- each of them completed, the machine's last state, and whether the run goes on
pub record Session : Type 0 where
  pub opening : Opening
  pub taken : List GivenEvent
  pub answers : List (List (List Reply))
  pub last : MachineState
  pub ending : Ending

-- the line that tells how many actions were confirmed
abbrev pub length_line : ℕ → List ℕ
length_line length = line (codes "history " ++ decimal length)

-- the line that is put before any event is taken
abbrev pub history_line : Opening → List ℕ
history_line opening = length_line (count_of opening.renewed opening.history)

-- that line of the history, and behind it the replies to events
abbrev pub replay_text : Opening → List GivenEvent → List (List (List Reply)) → List ℕ
replay_text opening taken answers = history_line opening ++ run_text taken answers

-- not the end
abbrev pub IsNoEnd : GivenEvent → Type 0
IsNoEnd given = given.event.kind ≢ End

-- these are the events before the last, and the last
abbrev pub IsUpTo : List GivenEvent → List GivenEvent → GivenEvent → Type 0
IsUpTo taken before last = taken ≡ before ++ last ∷ []

-- a session is a run over its events, at most so many, none of them behind the end
pub record Takes (turns : ℕ) (session : Session) : Type 0 where
  pub run : Run session.opening session.taken session.answers session.last session.ending
  pub few : length session.taken ≤ turns
  pub before_the_end : (before : List GivenEvent) (last : GivenEvent)
      → IsUpTo session.taken before last → Each IsNoEnd before

-- the last event taken was the end, or brought `stop`
abbrev pub IsOver : Session → Type 0
IsOver session =
    ((before : List GivenEvent) × (last : GivenEvent)
    × IsUpTo session.taken before last × (last.event.kind ≡ End))
    ⊎ (session.ending ≡ stopped)

-- none of the events taken was the end, and none ended the run
abbrev pub MayGoOn : Session → Type 0
MayGoOn session = Each IsNoEnd session.taken × (session.ending ≡ going)

-- How a session ends under the most turns, where this text was put before the last line, by the
-- status: what is put whole, and what a put was to put that failed. With 5 the disk failed at a
-- confirm; with 7 as many events as turns were taken, and the run may still go on.
pub data SessionEnds (turns : ℕ) (before after : Counts) (text : List ℕ) (session : Session)
    : ℕ → List ℕ → List ℕ → Type 0 where
  over : IsOver session → SessionEnds turns before after text session 0 text []
  out_of_turns : {status : ℕ} {whole part : List ℕ}
      → length session.taken ≡ turns → MayGoOn session
      → LastLine 7 text (line (codes "refused turns")) status whole part
      → SessionEnds turns before after text session status whole part
  disk_failed : {spent : Spent} {status : ℕ} {whole part : List ℕ}
      → session.ending ≡ failed spent → Rose before.disk after.disk
      → LastLine 5 text (line (codes "refused disk")) status whole part
      → SessionEnds turns before after text session status whole part
  lost_history : session.taken ≡ []
      → SessionEnds turns before after text session 10 [] (history_line session.opening)
