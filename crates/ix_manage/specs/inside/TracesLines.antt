-- A trace of the bytes of an actions file.
use Rattle.std.specs.Prelude.{◌≡◌, ◌≢◌, ℕ, List, [], ◌∷◌, ◌++◌, Option, None}
use Rattle.std.specs.Io.KnownBytes.{append_known}
use Rattle.ix_engine.specs.inside.Engine.{EngineState}
use Rattle.ix_outside.specs.Counts.{Rose}
use Rattle.ix_outside.specs.Sink.{AppendsPart}
use Rattle.ix_outside.specs.SinkState.{SinkState}
use Rattle.ix_values.specs.PlainAction.{PlainAction, Word}
use Rattle.ix_expr.specs.Form.{Form}
use Rattle.ix_manage.specs.ActionLines.{HasActions}
use Rattle.ix_manage.specs.Session.{Session}
use Rattle.ix_manage.specs.Trace.{TraceAnswers, Traces}
use Rattle.ix_manage.specs.declared.refusal.Refusal.TheVariants.{Memory}
use Rattle.ix_manage.specs.declared.early_end.EarlyEnd.{EarlyEnd}
use Rattle.ix_manage.specs.declared.early_end.EarlyEnd.TheVariants.{Refused, Words, OtherExpression}
use Rattle.ix_manage.specs.declared.early_end.EarlyEnd.TheVariants.{Output}

-- what `trace` may put for a form, a limit and the bytes of an actions file, by the status
pub record TracesLines (x : Form) (limit : ℕ) (bytes : List ℕ) (status : ℕ) (whole part : List ℕ)
    (session : Option Session) : Type 0 where
  pub actions : Word
  pub has : HasActions bytes actions
  pub traces : Traces x limit actions status whole part
  pub no_session : session ≡ None

-- an action's line, and the history after it
abbrev pub AnswersOne : EngineState → PlainAction → List ℕ → Word → Type 0
AnswersOne engine action text after =
    TraceAnswers engine.form engine.limit engine.history (action ∷ []) text after

-- some front of a text was put, and this is left of it
abbrev pub PutsFront : List ℕ → List ℕ → SinkState → SinkState → Type 0
PutsFront text left old new =
    (put : List ℕ) × (put ++ left ≡ text) × (new.written ≡ append_known old.written put)

-- the put of the answers that were held failed
abbrev pub LosesHeld : List ℕ → SinkState → SinkState → Type 0
LosesHeld held old new =
    (held ≢ []) × AppendsPart old.written held new.written × Rose old.faults new.faults

-- memory ran out, and the answers that were held were put; or their put failed
abbrev pub StopsAnswer : List ℕ → SinkState → SinkState → EarlyEnd → Type 0
StopsAnswer held old new (Refused refusal) =
    (refusal ≡ Memory) × (new.written ≡ append_known old.written held)
StopsAnswer held old new (Words text) = ⊥
StopsAnswer held old new (OtherExpression kept) = ⊥
StopsAnswer held old new Output = LosesHeld held old new
