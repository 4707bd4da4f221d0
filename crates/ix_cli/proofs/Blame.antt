-- Words that one command refuses, where they begin with its name, and words that begin with none.
use Rattle.std.proofs.Common.{◌≡◌, ◌≢◌, ◌∙◌, ◌==◌, ℕ, Bool, true, false, List, [], ◌∷◌, map}
use Rattle.std.proofs.Common.{option_map, sym, ap, subst, refl, Some, inl, inr, slice_get}
use Rattle.std.proofs.Common.{codes, Result, Ok, Err, MatchResult, true≢false}
use Rattle.std.proofs.lemmas.Bool.{eq-eqb, eqb-true}
use Rattle.std.specs.Prelude.{if◌then◌else◌, unwrap_or}
use Rattle.std.specs.Result.{IsErrAnd}
use Rattle.clap.specs.Words.{App, Text, fault_of}
use Rattle.ix_cli.specs.Commands.{trace_command, replay_command, serve_command, work_command}
use Rattle.ix_cli.specs.Commands.{simplify_command, bound_command, follow_command, lint_command}
use Rattle.ix_cli.specs.Commands.{why_command, next_command, stuck_command, renew_command}
use Rattle.ix_cli.specs.Words.{Refuses}
use Rattle.ix_cli.specs.declared.fault.WordsFault.{WordsFault}
use Rattle.ix_cli.specs.declared.fault.WordsFault.TheVariants.{Bad, Memory}
use Rattle.ix_cli.specs.inside.Jobs.{Explains}
use Rattle.ix_cli.specs.inside.Matches.{Blames}
use Rattle.ix_cli.proofs.PlainCommands.{trace_name, replay_name, serve_name, work_name}
use Rattle.ix_cli.proofs.PlainCommands.{simplify_name, bound_name, follow_name, lint_name}
use Rattle.ix_cli.proofs.PlainCommands.{why_name, next_name, stuck_name, renew_name}
use Rattle.ix_cli.proofs.Named.{first_and_third, initial, trace_initial, replay_initial, serve_initial}
use Rattle.ix_cli.proofs.Named.{work_initial, simplify_initial, bound_initial, follow_initial}
use Rattle.ix_cli.proofs.Named.{lint_initial, why_initial, next_initial, stuck_initial, renew_initial}

-- `?` hands a fault up as it is
pub handed_up : {T : Type 0} (r : Result T WordsFault) (fault : WordsFault) (P : T → Type 0)
    (Q : WordsFault → Type 0) → IsErrAnd r (λ f. f ≡ fault) → Q fault → MatchResult r P Q
handed_up (Ok x) fault P Q bad h = absurd bad
handed_up (Err f) fault P Q same h = rw same h

-- a command that is another's equal refuses the same
pub blamed_as : {a b : App} (words : List Text) (fault : WordsFault) → a ≡ b
    → Blames a words fault → Blames b words fault
blamed_as words fault same blamed = subst (λ (app : App). Blames app words fault) same blamed

-- the command whose name begins so
abbrev command_at : ℕ → App
command_at n =
    if n == 29793 then trace_command else
    if n == 29296 then replay_command else
    if n == 29554 then serve_command else
    if n == 30578 then work_command else
    if n == 29549 then simplify_command else
    if n == 25205 then bound_command else
    if n == 26220 then follow_command else
    if n == 27758 then lint_command else
    if n == 30585 then why_command else
    if n == 28280 then next_command else
    if n == 29557 then stuck_command else
    renew_command

-- the command is told by how its name begins
abbrev pub IsKnown : App → Type 0
IsKnown command = command ≡ command_at (initial command)

pub trace_known : IsKnown trace_command
trace_known = sym (ap command_at trace_initial)

pub replay_known : IsKnown replay_command
replay_known = sym (ap command_at replay_initial)

pub serve_known : IsKnown serve_command
serve_known = sym (ap command_at serve_initial)

pub work_known : IsKnown work_command
work_known = sym (ap command_at work_initial)

pub simplify_known : IsKnown simplify_command
simplify_known = sym (ap command_at simplify_initial)

pub bound_known : IsKnown bound_command
bound_known = sym (ap command_at bound_initial)

pub follow_known : IsKnown follow_command
follow_known = sym (ap command_at follow_initial)

pub lint_known : IsKnown lint_command
lint_known = sym (ap command_at lint_initial)

pub why_known : IsKnown why_command
why_known = sym (ap command_at why_initial)

pub next_known : IsKnown next_command
next_known = sym (ap command_at next_initial)

pub stuck_known : IsKnown stuck_command
stuck_known = sym (ap command_at stuck_initial)

pub renew_known : IsKnown renew_command
renew_known = sym (ap command_at renew_initial)

module _ (words : List Text) where
  -- a command refuses words that begin with a name that begins otherwise
  other : (command : App) (name : Text) → slice_get words 0 ≡ Some name
      → (first_and_third name ≡ initial command → ⊥) → Refuses command words
  other command name first apart =
      inl (λ same. apart (ap (λ o. first_and_third (unwrap_or o [])) (sym first ∙ same)))

  -- words that begin with a command's name, and that it refuses, each command refuses
  module _ (command : App) (known : IsKnown command)
      (first : slice_get words 0 ≡ Some command.top.name) (refused : fault_of command words ≢ [])
    where
      refuses : (each : App) → IsKnown each → Refuses each words
      refuses each is = go (initial command == initial each) refl
        where
          go : (same : Bool) → (initial command == initial each) ≡ same → Refuses each words
          go true same = inr (subst (λ (app : App). fault_of app words ≢ [])
              (known ∙ ap command_at (eqb-true _ _ same) ∙ sym is) refused)
          go false differ = other each command.top.name first
              (λ alike. true≢false (sym (eq-eqb _ _ alike) ∙ differ))

  -- so they name no job
  pub blamed : (command : App) → IsKnown command → slice_get words 0 ≡ Some command.top.name
      → (fault : WordsFault) → Blames command words fault → Explains words fault
  blamed command known first Memory refused = tt
  blamed command known first (Bad text) refused = (
    refuses command known first refused trace_command trace_known,
    refuses command known first refused replay_command replay_known,
    refuses command known first refused serve_command serve_known,
    refuses command known first refused work_command work_known,
    refuses command known first refused simplify_command simplify_known,
    refuses command known first refused bound_command bound_known,
    refuses command known first refused follow_command follow_known,
    refuses command known first refused lint_command lint_known,
    refuses command known first refused why_command why_known,
    refuses command known first refused next_command next_known,
    refuses command known first refused stuck_command stuck_known,
    refuses command known first refused renew_command renew_known,
  )

  not_named : (command : App) (name called : Text) → slice_get words 0 ≡ Some name
      → command.top.name ≡ called → name ≢ called → Refuses command words
  not_named command name called first same apart =
      inl (λ is. apart (ap (λ o. unwrap_or o []) (sym first ∙ is) ∙ same))

  -- words that begin with no command's name
  pub unknown_blamed : (name : Text) → slice_get words 0 ≡ Some name
      → name ≢ codes "trace"
      → name ≢ codes "replay"
      → name ≢ codes "serve"
      → name ≢ codes "work"
      → name ≢ codes "simplify"
      → name ≢ codes "bound"
      → name ≢ codes "follow"
      → name ≢ codes "lint"
      → name ≢ codes "why"
      → name ≢ codes "next"
      → name ≢ codes "stuck"
      → name ≢ codes "renew"
      → (fault : WordsFault) → Explains words fault
  unknown_blamed name first no_trace no_replay no_serve no_work no_simplify no_bound no_follow
      no_lint no_why no_next no_stuck no_renew Memory = tt
  unknown_blamed name first no_trace no_replay no_serve no_work no_simplify no_bound no_follow
      no_lint no_why no_next no_stuck no_renew (Bad text) = (
        not_named trace_command name (codes "trace") first trace_name no_trace,
        not_named replay_command name (codes "replay") first replay_name no_replay,
        not_named serve_command name (codes "serve") first serve_name no_serve,
        not_named work_command name (codes "work") first work_name no_work,
        not_named simplify_command name (codes "simplify") first simplify_name no_simplify,
        not_named bound_command name (codes "bound") first bound_name no_bound,
        not_named follow_command name (codes "follow") first follow_name no_follow,
        not_named lint_command name (codes "lint") first lint_name no_lint,
        not_named why_command name (codes "why") first why_name no_why,
        not_named next_command name (codes "next") first next_name no_next,
        not_named stuck_command name (codes "stuck") first stuck_name no_stuck,
        not_named renew_command name (codes "renew") first renew_name no_renew,
      )

-- the text of the first word
pub first_text : {A : Type 0} (text_of : A → Text) (items : List A) (item : A)
    → Some item ≡ slice_get items 0 → slice_get (map text_of items) 0 ≡ Some (text_of item)
first_text text_of [] item is = cc
first_text text_of (x ∷ items) item is = ap (option_map text_of) (sym is)
