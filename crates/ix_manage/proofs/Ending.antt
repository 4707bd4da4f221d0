-- How a run ends, by what its parts say.
use Rattle.std.proofs.Common.{◌≡◌, ℕ, ◌≤◌, List, [], Option, Some, Result, Ok, Err, IfOk, IfErr}
use Rattle.std.proofs.Common.{length, refl, sym, subst}
use Rattle.ix_expr.specs.Form.{Form}
use Rattle.ix_parse.specs.Faults.{StandsFor, IsPlaced, IsFirstFault}
use Rattle.ix_parse.specs.Symbols.{Meaning}
use Rattle.ix_parse.specs.declared.Placed.{Placed}
use Rattle.ix_outside.specs.Contents.{GivenEvent}
use Rattle.ix_lines.specs.TextLines.{lines_of}
use Rattle.ix_outside.specs.Files.{Listing, HasFile}
use Rattle.ix_outside.specs.FilesState.{FilesState, OnlyFaults}
use Rattle.ix_outside.specs.SiteState.{SiteState}
use Rattle.ix_outside.proofs.Counting.{Rose-earlier}
use Rattle.ix_script.specs.Events.{HasEvents}
use Rattle.ix_script.specs.Grammar.{IsFirstScriptFault}
use Rattle.ix_cli.specs.Words.{Job, trace, replay, follow}
use Rattle.ix_manage.specs.Around.{around_of}
use Rattle.ix_manage.specs.Command.{expression_of, limit_of}
use Rattle.ix_manage.specs.FollowLines.{FollowEnds}
use Rattle.ix_manage.specs.Ends.{JobEnds, ReadsRest, bad_text, bad_actions, large, lost_expression, lost_actions, no_memory, traced, bad_script, lost_script, long_lines, lost_lines, followed}
use Rattle.ix_manage.specs.inside.Refusal.{HasLongLines, longer, RefusesExpression, RefusesActions, RefusesLines, RefusesScript, RefusesStart, RefusesText, IsBadScript}
use Rattle.ix_manage.specs.Puts.{LastLine}
use Rattle.ix_manage.specs.Session.{Session}
use Rattle.ix_manage.specs.Replay.{HasBadScript, ReadsEvents, bad_line}
use Rattle.ix_manage.specs.Trace.{HasBadActions, within, large_line, ReadsForm, ReadsPlaced, Starts, Traces}
use Rattle.ix_manage.specs.inside.Following.{FollowsLines}
use Rattle.ix_manage.specs.inside.Linting.{placed_meaning}
use Rattle.ix_manage.specs.inside.Pasts.{EndsWith}
use Rattle.ix_manage.specs.inside.TracesLines.{TracesLines}
use Rattle.ix_manage.specs.declared.refusal.Refusal.{Refusal}
use Rattle.ix_manage.specs.declared.refusal.Refusal.TheVariants.{Bad, Lost, Large, Memory}
use Rattle.ix_manage.specs.declared.refusal.Input.TheVariants.{Expression, Actions, Script, Lines}

module _ (files later : FilesState) (name text passed : List ℕ) (same : passed ≡ text) (file : HasFile files.contents name text) where
  -- a text that is read is that of the file
  pub placed_ok : (r : Result Placed Refusal) → IfOk r (λ x. IsPlaced passed (placed_meaning x)) → IfOk r (λ x. ReadsPlaced files.contents name (placed_meaning x))
  placed_ok (Ok x) reads = record { text = text; file = file; placed = subst (λ t. IsPlaced t (placed_meaning x)) same reads }
  placed_ok (Err refusal) reads = tt

  -- what refuses the text refuses the file
  pub placed_err : (r : Result Placed Refusal) → IfErr r (RefusesText passed) → IfErr r (RefusesExpression files later name)
  placed_err (Ok x) why = tt
  placed_err (Err (Bad Expression code at)) why = within file (subst (λ t. IsFirstFault t code at) same why)
  placed_err (Err Memory) why = why
  placed_err (Err _) why = absurd why

-- what is read with its places is read
pub stands_placed : (text : List ℕ) (x : Meaning) → IsPlaced text x → StandsFor text x.form
stands_placed text x is = record { places = x.places; means = is.means; well_formed = is.well_formed }

pub reads_placed : (files : Option Listing) (name : List ℕ) (x : Meaning) → ReadsPlaced files name x → ReadsForm files name x.form
reads_placed files name x reads = record { text = reads.text; file = reads.file; stands = stands_placed reads.text x reads.placed }

-- what refuses the file refuses the start
pub start_refused : (files later : FilesState) (name : List ℕ) (limit : ℕ) (refusal : Refusal)
    → RefusesExpression files later name refusal → RefusesStart files later name limit refusal
start_refused files later name limit (Bad Expression code at) why = why
start_refused files later name limit (Lost Expression) why = why
start_refused files later name limit Memory why = why
start_refused files later name limit _ why = absurd why

-- what refuses a file behind another load refuses it from the start on
pub actions_refused_later : (files mid later : FilesState) (name : List ℕ) (refusal : Refusal) → OnlyFaults files mid
    → RefusesActions mid later name refusal → RefusesActions files later name refusal
actions_refused_later files mid later name (Bad Actions code at) only why =
    subst (λ known. HasBadActions known name code at) only.contents why
actions_refused_later files mid later name (Lost Actions) only why = Rose-earlier files.faults mid.faults later.faults only.faults why
actions_refused_later files mid later name Memory only why = why
actions_refused_later files mid later name _ only why = absurd why

pub lines_refused_later : (files mid later : FilesState) (name : List ℕ) (refusal : Refusal) → OnlyFaults files mid
    → RefusesLines mid later name refusal → RefusesLines files later name refusal
lines_refused_later files mid later name (Bad Lines code at) only why =
    subst (λ known. HasLongLines known name code at) only.contents why
lines_refused_later files mid later name (Lost Lines) only why = Rose-earlier files.faults mid.faults later.faults only.faults why
lines_refused_later files mid later name Memory only why = why
lines_refused_later files mid later name _ only why = absurd why

pub script_refused_later : (files mid later : FilesState) (name : List ℕ) (refusal : Refusal) → OnlyFaults files mid
    → RefusesScript mid later name refusal → RefusesScript files later name refusal
script_refused_later files mid later name (Bad Script code at) only why =
    subst (λ known. HasBadScript known name code at) only.contents why
script_refused_later files mid later name (Lost Script) only why = Rose-earlier files.faults mid.faults later.faults only.faults why
script_refused_later files mid later name Memory only why = why
script_refused_later files mid later name _ only why = absurd why

-- what refuses the file of its expression refuses a job
pub expression_refused : (files later : FilesState) (job : Job) (expression : List ℕ)
    → expression_of job ≡ Some expression → (refusal : Refusal) → RefusesExpression files later expression refusal
    → EndsWith files later job refusal
expression_refused files later job expression is (Bad Expression code at) why status whole part last site = bad_text is why refl last
expression_refused files later job expression is (Lost Expression) why status whole part last site = lost_expression is why refl last
expression_refused files later job expression is Memory why status whole part last site = no_memory last
expression_refused files later job expression is _ why _ _ _ _ _ = absurd why

-- what refuses the start of an engine or of a follower refuses a job
pub refused_start : (files later : FilesState) (job : Job) (expression : List ℕ)
    → expression_of job ≡ Some expression → ReadsRest files.contents job → (refusal : Refusal)
    → RefusesStart files later expression (limit_of job) refusal → EndsWith files later job refusal
refused_start files later job expression is rest (Bad Expression code at) why status whole part last site = bad_text is why refl last
refused_start files later job expression is rest (Large most) why status whole part last site =
    large is rest why.1 (subst (λ l. LastLine 3 [] (large_line l) status whole part) why.0 last)
refused_start files later job expression is rest (Lost Expression) why status whole part last site = lost_expression is why refl last
refused_start files later job expression is rest Memory why status whole part last site = no_memory last
refused_start files later job expression is rest _ why _ _ _ _ _ = absurd why

-- how a trace ends, by what its parts say
module _ (files later : FilesState) (expression actions : List ℕ) (limit : ℕ) where
  abbrev traces : Job
  traces = trace expression actions limit

  pub refused_actions : (x : Form) → Starts files.contents expression limit x → (refusal : Refusal)
      → RefusesActions files later actions refusal → EndsWith files later traces refusal
  refused_actions x starts (Bad Actions code at) why status whole part last site =
      bad_actions starts why refl last
  refused_actions x starts (Lost Actions) why status whole part last site = lost_actions starts why refl last
  refused_actions x starts Memory why status whole part last site = no_memory last
  refused_actions x starts _ why _ _ _ _ _ = absurd why

  pub trace_ends_run : (x : Form) (most : ℕ) (then : Option Listing) (bytes passed : List ℕ)
      → Starts files.contents expression limit x → most ≡ limit → then ≡ files.contents
      → HasFile then actions bytes → length bytes ≤ 67108864 → passed ≡ bytes
      → (status : ℕ) (whole part : List ℕ) (session : Option Session)
      → TracesLines x most passed status whole part session
      → (site : SiteState) → JobEnds (around_of files later site site) traces status whole part session
  trace_ends_run x most then bytes passed starts same_limit same file short is status whole part session may site =
      let read = subst (λ b. TracesLines x most b status whole part session) is may in
      subst (JobEnds (around_of files later site site) traces status whole part) (sym read.no_session)
      (traced starts (record {
        bytes = bytes;
        file = subst (λ f. HasFile f actions bytes) same file;
        short = short;
        has = read.has;
      })
      (subst (λ l. Traces x l read.actions status whole part) same_limit read.traces))

-- how a follow ends, by what its parts say
module _ (files later : FilesState) (expression lines : List ℕ) (limit : ℕ) where
  abbrev follows : Job
  follows = follow expression lines limit

  pub refused_lines : (x : Form) → Starts files.contents expression limit x → (refusal : Refusal)
      → RefusesLines files later lines refusal → EndsWith files later follows refusal
  refused_lines x starts (Bad Lines code at) (longer why) status whole part last site = long_lines starts why refl last
  refused_lines x starts (Lost Lines) why status whole part last site = lost_lines starts why refl last
  refused_lines x starts Memory why status whole part last site = no_memory last
  refused_lines x starts _ why _ _ _ _ _ = absurd why

  pub follow_ends_run : (x : Form) (most : ℕ) (then : Option Listing) (bytes passed : List ℕ)
      → Starts files.contents expression limit x → most ≡ limit → then ≡ files.contents
      → HasFile then lines bytes → length bytes ≤ 67108864 → passed ≡ bytes
      → (status : ℕ) (whole part : List ℕ) (session : Option Session)
      → FollowsLines x most passed status whole part session
      → (site : SiteState) → JobEnds (around_of files later site site) follows status whole part session
  follow_ends_run x most then bytes passed starts same_limit same file short is status whole part session may site =
      let read = subst (λ b. FollowsLines x most b status whole part session) is may in
      subst (JobEnds (around_of files later site site) follows status whole part) (sym read.no_session)
      (followed starts
      (record { file = subst (λ f. HasFile f lines bytes) same file; short = short })
      (subst (λ l. FollowEnds x l (lines_of bytes) status whole part) same_limit read.ends))

-- how a replay ends, by what its parts say
module _ (files later : FilesState) (expression journal script : List ℕ) (limit turns : ℕ) where
  abbrev replays : Job
  replays = replay expression journal script limit turns

  pub replay_refused : (x : Form) → ReadsForm files.contents expression x → (refusal : Refusal)
      → RefusesScript files later script refusal → EndsWith files later replays refusal
  replay_refused x reads (Bad Script code at) why status whole part last site = bad_script reads why refl last
  replay_refused x reads (Lost Script) why status whole part last site = lost_script reads why refl last
  replay_refused x reads Memory why status whole part last site = no_memory last
  replay_refused x reads _ why _ _ _ _ _ = absurd why

-- a script that was loaded is read
pub replay_reads : (files : Option Listing) (script bytes passed : List ℕ) → HasFile files script bytes
    → length bytes ≤ 67108864 → passed ≡ bytes → (events : List GivenEvent) → HasEvents passed events
    → ReadsEvents files script events
replay_reads files script bytes passed file short same events has = record {
  bytes = bytes;
  file = file;
  short = short;
  has = subst (λ b. HasEvents b events) same has;
}

-- a script's fault is one of its file
pub script_refused : (files later : FilesState) (name bytes passed : List ℕ) → HasFile files.contents name bytes
    → length bytes ≤ 67108864 → passed ≡ bytes
    → (refusal : Refusal) → IsBadScript passed refusal → RefusesScript files later name refusal
script_refused files later name bytes passed file short same (Bad Script code at) why =
    bad_line file short (subst (λ b. IsFirstScriptFault b code at) same why)
script_refused files later name bytes passed file short same _ why = absurd why
