-- Words name one job at most, and none where each command refuses them.
use Rattle.std.proofs.Common.{◌≡◌, ◌∙◌, ◌==◌, ℕ, ◌+◌, ◌*◌, List, [], refl, sym, ap, codes}
use Rattle.std.proofs.Common.{inl, inr, slice_get, slice_index}
use Rattle.std.specs.Prelude.{if◌then◌else◌, unwrap_or}
use Rattle.std.specs.Str.Parse.{digits_value, without_leading_plus}
use Rattle.clap.specs.Words.{App, Text, all_of, first_of, matches_of, one_of}
use Rattle.ix_cli.specs.Commands.{trace_command, replay_command, serve_command, work_command}
use Rattle.ix_cli.specs.Commands.{simplify_command, bound_command, follow_command, lint_command}
use Rattle.ix_cli.specs.Commands.{why_command, next_command, stuck_command, renew_command}
use Rattle.ix_cli.specs.Words.{IsTaken, Job, Names, NamesNoJob, Refuses, Says, SaysNumber}
use Rattle.ix_cli.specs.Words.{trace, replay, serve, work, simplify, bound, follow, lint, why}
use Rattle.ix_cli.specs.Words.{next, stuck, renew}

-- the first byte of a name and the third one, as one number
abbrev pub first_and_third : Text → ℕ
first_and_third name = 256 * slice_index name 0 + slice_index name 2

-- those of a command's name
abbrev pub initial : App → ℕ
initial command = first_and_third command.top.name

pub trace_initial : initial trace_command ≡ 29793
unfolding trace_command
trace_initial = refl

pub replay_initial : initial replay_command ≡ 29296
unfolding replay_command
replay_initial = refl

pub serve_initial : initial serve_command ≡ 29554
unfolding serve_command
serve_initial = refl

pub work_initial : initial work_command ≡ 30578
unfolding work_command
work_initial = refl

pub simplify_initial : initial simplify_command ≡ 29549
unfolding simplify_command
simplify_initial = refl

pub bound_initial : initial bound_command ≡ 25205
unfolding bound_command
bound_initial = refl

pub follow_initial : initial follow_command ≡ 26220
unfolding follow_command
follow_initial = refl

pub lint_initial : initial lint_command ≡ 27758
unfolding lint_command
lint_initial = refl

pub why_initial : initial why_command ≡ 30585
unfolding why_command
why_initial = refl

pub next_initial : initial next_command ≡ 28280
unfolding next_command
next_initial = refl

pub stuck_initial : initial stuck_command ≡ 29557
unfolding stuck_command
stuck_initial = refl

pub renew_initial : initial renew_command ≡ 29294
unfolding renew_command
renew_initial = refl

-- The job of what clap matches for the command whose name begins so.
module _ (words : List Text) where
  abbrev text : App → Text → Text
  text command name = unwrap_or (first_of name (matches_of command words)) []

  abbrev number : App → Text → ℕ
  number command name =
      digits_value 10 (without_leading_plus (unwrap_or (one_of name (matches_of command words)) []))

  abbrev job_at : ℕ → Job
  job_at n =
      if n == 29793 then
      trace (text trace_command (codes "EXPR")) (text trace_command (codes "ACTIONS"))
      (number trace_command (codes "nodes"))
      else
      if n == 29296 then
      replay (text replay_command (codes "EXPR")) (text replay_command (codes "JOURNAL"))
      (text replay_command (codes "SCRIPT")) (number replay_command (codes "nodes"))
      (number replay_command (codes "turns"))
      else
      if n == 29554 then
      serve (text serve_command (codes "EXPR")) (text serve_command (codes "JOURNAL"))
      (text serve_command (codes "SOCKET")) (number serve_command (codes "nodes"))
      (number serve_command (codes "turns"))
      else
      if n == 30578 then
      work (number work_command (codes "N")) (number work_command (codes "SEED"))
      (number work_command (codes "nodes"))
      else
      if n == 29549 then
      simplify (text simplify_command (codes "EXPR"))
      else
      if n == 25205 then
      bound (text bound_command (codes "EXPR")) (number bound_command (codes "K"))
      else
      if n == 26220 then
      follow (text follow_command (codes "EXPR")) (text follow_command (codes "LINES"))
      (number follow_command (codes "nodes"))
      else
      if n == 27758 then
      lint (text lint_command (codes "EXPR"))
      else
      if n == 30585 then
      why (text why_command (codes "EXPR")) (text why_command (codes "ACTIONS"))
      (text why_command (codes "ACTION")) (number why_command (codes "nodes"))
      else
      if n == 28280 then
      next (text next_command (codes "EXPR")) (text next_command (codes "ACTIONS"))
      (unwrap_or (all_of (codes "VALUE") (matches_of next_command words)) [])
      (number next_command (codes "nodes"))
      else
      if n == 29557 then
      stuck (text stuck_command (codes "EXPR")) (text stuck_command (codes "VALUES"))
      (number stuck_command (codes "nodes")) (number stuck_command (codes "states"))
      else
      renew (text renew_command (codes "EXPR")) (text renew_command (codes "JOURNAL"))
      (text renew_command (codes "NEW")) (number renew_command (codes "nodes"))

  named_text : (command : App) (name : Text) {value : Text} → Says command words name value
      → value ≡ text command name
  named_text command name said = sym (ap (λ o. unwrap_or o []) said)

  named_number : (command : App) (name : Text) {least most value : ℕ}
      → SaysNumber command words name least most value → value ≡ number command name
  named_number command name said =
      said.same
      ∙ sym (ap (λ o. digits_value 10 (without_leading_plus (unwrap_or o []))) said.said)

  -- the command's name begins as the first word does
  begins : {command : App} (n : ℕ) → initial command ≡ n → IsTaken command words
      → job_at (first_and_third (unwrap_or (slice_get words 0) [])) ≡ job_at n
  begins n is taken = ap job_at (ap (λ o. first_and_third (unwrap_or o [])) taken.name ∙ is)

  named : (job : Job) → Names words job
      → job ≡ job_at (first_and_third (unwrap_or (slice_get words 0) []))
  named (trace a b c) x =
      (λ i. trace
      (named_text trace_command (codes "EXPR") x.1 i)
      (named_text trace_command (codes "ACTIONS") x.2 i)
      (named_number trace_command (codes "nodes") x.3 i))
      ∙ sym (begins 29793 trace_initial x.0)
  named (replay a b c d e) x =
      (λ i. replay
      (named_text replay_command (codes "EXPR") x.1 i)
      (named_text replay_command (codes "JOURNAL") x.2 i)
      (named_text replay_command (codes "SCRIPT") x.3 i)
      (named_number replay_command (codes "nodes") x.4 i)
      (named_number replay_command (codes "turns") x.5 i))
      ∙ sym (begins 29296 replay_initial x.0)
  named (serve a b c d e) x =
      (λ i. serve
      (named_text serve_command (codes "EXPR") x.1 i)
      (named_text serve_command (codes "JOURNAL") x.2 i)
      (named_text serve_command (codes "SOCKET") x.3 i)
      (named_number serve_command (codes "nodes") x.4 i)
      (named_number serve_command (codes "turns") x.5 i))
      ∙ sym (begins 29554 serve_initial x.0)
  named (work a b c) x =
      (λ i. work
      (named_number work_command (codes "N") x.1 i)
      (named_number work_command (codes "SEED") x.2 i)
      (named_number work_command (codes "nodes") x.3 i))
      ∙ sym (begins 30578 work_initial x.0)
  named (simplify a) x =
      (λ i. simplify
      (named_text simplify_command (codes "EXPR") x.1 i))
      ∙ sym (begins 29549 simplify_initial x.0)
  named (bound a b) x =
      (λ i. bound
      (named_text bound_command (codes "EXPR") x.1 i)
      (named_number bound_command (codes "K") x.2 i))
      ∙ sym (begins 25205 bound_initial x.0)
  named (follow a b c) x =
      (λ i. follow
      (named_text follow_command (codes "EXPR") x.1 i)
      (named_text follow_command (codes "LINES") x.2 i)
      (named_number follow_command (codes "nodes") x.3 i))
      ∙ sym (begins 26220 follow_initial x.0)
  named (lint a) x =
      (λ i. lint
      (named_text lint_command (codes "EXPR") x.1 i))
      ∙ sym (begins 27758 lint_initial x.0)
  named (why a b c d) x =
      (λ i. why
      (named_text why_command (codes "EXPR") x.1 i)
      (named_text why_command (codes "ACTIONS") x.2 i)
      (named_text why_command (codes "ACTION") x.3 i)
      (named_number why_command (codes "nodes") x.4 i))
      ∙ sym (begins 30585 why_initial x.0)
  named (next a b c d) x =
      (λ i. next
      (named_text next_command (codes "EXPR") x.1 i)
      (named_text next_command (codes "ACTIONS") x.2 i)
      (sym x.3 i)
      (named_number next_command (codes "nodes") x.4 i))
      ∙ sym (begins 28280 next_initial x.0)
  named (stuck a b c d) x =
      (λ i. stuck
      (named_text stuck_command (codes "EXPR") x.1 i)
      (named_text stuck_command (codes "VALUES") x.2 i)
      (named_number stuck_command (codes "nodes") x.3 i)
      (named_number stuck_command (codes "states") x.4 i))
      ∙ sym (begins 29557 stuck_initial x.0)
  named (renew a b c d) x =
      (λ i. renew
      (named_text renew_command (codes "EXPR") x.1 i)
      (named_text renew_command (codes "JOURNAL") x.2 i)
      (named_text renew_command (codes "NEW") x.3 i)
      (named_number renew_command (codes "nodes") x.4 i))
      ∙ sym (begins 29294 renew_initial x.0)

  pub one_job : (job other : Job) → Names words job → Names words other → job ≡ other
  one_job job other x y = named job x ∙ sym (named other y)

  -- a command that takes the words doesn't refuse them
  taken_refused : {command : App} → IsTaken command words → Refuses command words → ⊥
  taken_refused taken (inl name) = name taken.name
  taken_refused taken (inr fault) = fault taken.taken

  pub no_job : (job : Job) → NamesNoJob words → Names words job → ⊥
  no_job (trace a b c) none named = taken_refused named.0 none.0
  no_job (replay a b c d e) none named = taken_refused named.0 none.1
  no_job (serve a b c d e) none named = taken_refused named.0 none.2
  no_job (work a b c) none named = taken_refused named.0 none.3
  no_job (simplify a) none named = taken_refused named.0 none.4
  no_job (bound a b) none named = taken_refused named.0 none.5
  no_job (follow a b c) none named = taken_refused named.0 none.6
  no_job (lint a) none named = taken_refused named.0 none.7
  no_job (why a b c d) none named = taken_refused named.0 none.8
  no_job (next a b c d) none named = taken_refused named.0 none.9
  no_job (stuck a b c d) none named = taken_refused named.0 none.10
  no_job (renew a b c d) none named = taken_refused named.0 none.11
