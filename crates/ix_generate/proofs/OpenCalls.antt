-- A patient's open call is its last granted ask, where that is a call.
use Rattle.std.proofs.Common.{◌≡◌, ◌≢◌, ◌∙◌, ◌<◌, ◌==◌, ℕ, Bool, true, false, List, [], ◌∷◌, ◌++◌}
use Rattle.std.proofs.Common.{length, refl, sym, ap, subst, arith, Option, Some, None}
use Rattle.std.proofs.Common.{◌%◌, ◌/◌, true≢false}
use Rattle.std.specs.Prelude.{find, option_and_then, reverse, slice_set}
use Rattle.std.specs.List.{slice_index_or}
use Rattle.std.proofs.lemmas.Bool.Decides.{Decides-eqb}
use Rattle.std.proofs.lemmas.List.{get_or-set_other, get_or-set_same, length-set, reverse-append}
use Rattle.std.proofs.lemmas.List.{get_or-replicate}
use Rattle.ix_generate.specs.Workload.{Ask, PlainWorkload, begun_workload, call, open_call, perform}
use Rattle.ix_generate.specs.Workload.{ask_for, behind_draw, drawn, with_granted}
use Rattle.rand_pcg.specs.Pcg.{pcg32}
use Rattle.ix_generate.specs.History.{RunsWorkload, ask_behind, begins, called_to, granted, is_for}
use Rattle.ix_generate.specs.History.{last_call, refused}

-- the last call behind one more ask
last_more : (done : List Ask) (ask : Ask) (patient : ℕ) → last_call (done ++ ask ∷ []) patient
    ≡ option_and_then called_to (find (is_for patient) (ask ∷ reverse done))
last_more done ask patient =
    ap (λ asks. option_and_then called_to (find (is_for patient) asks))
    (reverse-append done (ask ∷ []))

-- the open calls behind one that was set
module _ (calls : List (Option ℕ)) (asked patient : ℕ) (set : Option ℕ) where
  set_here : asked < length calls → (asked == patient) ≡ true
      → slice_index_or (slice_set calls asked set) patient None ≡ set
  set_here lt same =
      let is : asked ≡ patient = (Decides-eqb asked patient).0 same in
      subst (λ (p : ℕ). slice_index_or (slice_set calls asked set) p None ≡ set) is
      (get_or-set_same calls asked set None lt)

  set_elsewhere : (asked == patient) ≡ false
      → slice_index_or (slice_set calls asked set) patient None ≡ slice_index_or calls patient None
  set_elsewhere other =
      let apart : patient ≢ asked = λ is.
      true≢false (sym ((Decides-eqb asked patient).1 (sym is)) ∙ other) in
      get_or-set_other calls asked patient set None apart

-- what a workload keeps, after these were granted
record Keeps (workload : PlainWorkload) (done : List Ask) : Type 0 where
  all : length workload.calls ≡ 40
  last : (patient : ℕ) → patient < 40 → open_call workload patient ≡ last_call done patient

-- one more ask is granted
set_last : (workload : PlainWorkload) (done : List Ask) (ask : Ask) (asked : ℕ) (set : Option ℕ)
    → asked < 40 → Keeps workload done
    → ((patient : ℕ) → is_for patient ask ≡ (asked == patient)) → called_to ask ≡ set
    → Keeps (record workload { calls = slice_set workload.calls asked set }) (done ++ ask ∷ [])
set_last workload done ask asked set lt kept for is = record {
  all = length-set workload.calls asked set ∙ kept.all;
  last = λ patient small.
      go patient small (asked == patient) refl ∙ sym (last_more done ask patient);
}
  where
    go : (patient : ℕ) → patient < 40 → (same : Bool) → (asked == patient) ≡ same
        → slice_index_or (slice_set workload.calls asked set) patient None
        ≡ option_and_then called_to (find (is_for patient) (ask ∷ reverse done))
    go patient small true same =
        let inside : asked < length workload.calls = omega (arith, kept.all) in
        set_here workload.calls asked patient set inside same
        ∙ rw (for patient, same) (sym is)
    go patient small false other =
        set_elsewhere workload.calls asked patient set other
        ∙ rw (for patient, other) (kept.last patient small)

granted_last : (workload : PlainWorkload) (done : List Ask) (called : Option ℕ)
    (patient examination : ℕ) → patient < 40 → Keeps workload done
    → Keeps (with_granted workload (ask_for called patient examination))
    (done ++ ask_for called patient examination ∷ [])
granted_last workload done None patient examination lt kept =
    set_last workload done (call patient examination) patient (Some examination) lt kept
    (λ other. refl) refl
granted_last workload done (Some called) patient examination lt kept =
    set_last workload done (perform patient called) patient None lt kept (λ other. refl) refl

begun_keeps : (seed : ℕ) → Keeps (begun_workload seed) []
begun_keeps seed = record {
  all = refl;
  last = λ patient small. get_or-replicate 40 patient None None small;
}

run_keeps : {seed : ℕ} {history : List Ask} {workload : PlainWorkload}
    → RunsWorkload seed history workload → Keeps workload history
run_keeps {seed = seed} begins = begun_keeps seed
run_keeps (refused {workload = workload} run) =
    let kept = run_keeps run in
    record { all = kept.all; last = kept.last }
run_keeps (granted {history = history} {workload = workload} run) =
    let kept = run_keeps run in
    let number = (pcg32 workload.generator).0 in
    granted_last (behind_draw workload) history (open_call workload (number % 40)) (number % 40)
    (number / 40 % 10) (omega arith) (record { all = kept.all; last = kept.last })

-- what is drawn goes by the history
pub drawn_behind : (seed : ℕ) (history : List Ask) (workload : PlainWorkload)
    → RunsWorkload seed history workload
    → drawn workload ≡ ask_behind history (pcg32 workload.generator).0
drawn_behind seed history workload run =
    let number = (pcg32 workload.generator).0 in
    ap (λ called. ask_for called (number % 40) (number / 40 % 10))
    ((run_keeps run).last (number % 40) (omega arith))
