-- The asks of a work, one after the other.
use Rattle.std.proofs.Common.{◌≡◌, ◌∙◌, ◌+◌, ◌<◌, ℕ, suc, Bool, true, false, List, [], ◌∷◌, ◌++◌}
use Rattle.std.proofs.Common.{length, refl, sym, ap, ap₂, subst, arith}
use Rattle.std.proofs.lemmas.List.{length_push, map_push}
use Rattle.ix_values.specs.PlainAction.{PlainAction, Word}
use Rattle.ix_expr.specs.Form.{Form}
use Rattle.ix_can.specs.TreeOf.{tree_size}
use Rattle.ix_engine.specs.Allowed.{IsAllowed}
use Rattle.ix_engine.specs.inside.Engine.{Allows, EngineState, Permits, extended_by}
use Rattle.ix_generate.specs.Workload.{Ask, PlainWorkload, asked_action, begun_workload, behind_draw, drawn}
use Rattle.ix_generate.specs.Workload.{with_granted}
use Rattle.ix_generate.specs.History.{RunsWorkload, begins, generator_behind}
use Rattle.ix_generate.specs.History.{granted as more_granted, refused as more_refused}
use Rattle.ix_generate.proofs.Draws.{begun_generator, drawn_generator, drawn_then}
use Rattle.ix_generate.proofs.Draws.{granted_generator}
use Rattle.ix_manage.specs.Work.{Asked, grant, history_of, next_ask, none, refuse}
use Rattle.ix_manage.specs.inside.Working.{AsksNext, HasAsked, granted, refused}

-- an ask that is allowed is granted, and joins the history
pub allowed_granted : (s : EngineState) (old new : PlainWorkload) (a : PlainAction) (after : Word)
    → a ≡ asked_action (drawn old) → Allows s a → after ≡ extended_by s a
    → new ≡ with_granted (behind_draw old) (drawn old)
    → AsksNext s old true after new
allowed_granted s old new a after drawn_is allows longer then =
    subst (AsksNext s old true after) (sym then)
    (subst (λ history. AsksNext s old true history (with_granted (behind_draw old) (drawn old)))
    (sym (longer ∙ ap (extended_by s) drawn_is))
    (granted (subst (Allows s) drawn_is allows)))

-- one that isn't is refused, and leaves the history
not_allowed : (s : EngineState) (old new : PlainWorkload) (a : PlainAction) (after : Word)
    → a ≡ asked_action (drawn old) → ¬ Allows s a → after ≡ s.history → new ≡ behind_draw old
    → AsksNext s old false after new
not_allowed s old new a after drawn_is not same then =
    subst (AsksNext s old false after) (sym then)
    (subst (λ history. AsksNext s old false history (behind_draw old)) (sym same)
    (refused (λ allows. not (subst (Allows s) (sym drawn_is) allows))))

module _ (s : EngineState) (old new : PlainWorkload) (a : PlainAction) (after : Word)
    (drawn_is : a ≡ asked_action (drawn old)) (same : after ≡ s.history) (then : new ≡ behind_draw old)
  where
    pub unpermitted_refused : ¬ Permits s a → AsksNext s old false after new
    unpermitted_refused not =
        not_allowed s old new a after drawn_is (λ allows. not allows.permitted) same then

    pub full_refused : length s.history ≡ 1000000 → AsksNext s old false after new
    full_refused full = not_allowed s old new a after drawn_is
        (λ allows. (let room = allows.room in absurd (omega (arith, room, full)))) same then

    pub large_refused : s.limit < tree_size s.form (extended_by s a) → AsksNext s old false after new
    large_refused large = not_allowed s old new a after drawn_is
        (λ allows. (let within = allows.within in absurd (omega (arith, within, large)))) same then

-- as many are granted and refused as were asked
pub all_counted : {x : Form} {limit seed count refusals : ℕ} {asks : List Ask}
    → Asked x limit seed count asks refusals → length asks + refusals ≡ count
all_counted none = refl
all_counted {seed = seed} (grant {count = count} {granted = asks} before allowed) =
    omega (arith, all_counted before, length_push asks (next_ask seed count asks))
all_counted (refuse before not) = omega (arith, all_counted before)

pub begins_behind : (x : Form) (limit seed : ℕ) (history : Word) → history ≡ []
    → HasAsked x limit seed 0 0 0 history (begun_workload seed)
begins_behind x limit seed history empty = record {
  asks = [];
  asked = none;
  granted_is = refl;
  history_is = empty;
  runs = begins;
  drawn_so_far = begun_generator seed;
}

module _ (x : Form) (limit seed count granted_so_far refused_so_far : ℕ) (engine : EngineState)
    (workload : PlainWorkload) (form : engine.form ≡ x) (most : engine.limit ≡ limit)
    (it : HasAsked x limit seed count granted_so_far refused_so_far engine.history workload)
  where
    abbrev ask : Ask
    ask = next_ask seed count it.asks

    drawn_is : drawn workload ≡ ask
    drawn_is = drawn_then seed count it.asks workload it.runs it.drawn_so_far

    allowed_is : Allows engine (asked_action (drawn workload))
        ≡ IsAllowed x limit (history_of it.asks) (asked_action ask)
    allowed_is = λ i. IsAllowed (form i) (most i) (it.history_is i) (asked_action (drawn_is i))

    generator_is : (behind_draw workload).generator
        ≡ generator_behind seed (suc count)
    generator_is = drawn_generator seed count workload it.drawn_so_far

    pub one_granted : (after : Word) (next : PlainWorkload)
        → AsksNext engine workload true after next
        → HasAsked x limit seed (suc count) (suc granted_so_far) refused_so_far after next
    one_granted after next (granted allows) = record {
      asks = it.asks ++ ask ∷ [];
      asked = grant it.asked (subst (λ (T : Type 0). T) allowed_is allows);
      granted_is = omega (arith, it.granted_is, length_push it.asks ask);
      history_is = ap₂ (λ history a. history ++ asked_action a ∷ []) it.history_is drawn_is
          ∙ sym (map_push asked_action it.asks ask);
      runs = subst (λ a. RunsWorkload seed (it.asks ++ a ∷ []) (with_granted (behind_draw workload) (drawn workload))) drawn_is
          (more_granted it.runs);
      drawn_so_far = granted_generator (behind_draw workload) (drawn workload) ∙ generator_is;
    }

    pub one_refused : (after : Word) (next : PlainWorkload)
        → AsksNext engine workload false after next
        → HasAsked x limit seed (suc count) granted_so_far (suc refused_so_far) after next
    one_refused after next (refused not) = record {
      asks = it.asks;
      asked = refuse it.asked (subst (λ (T : Type 0). ¬ T) allowed_is not);
      granted_is = it.granted_is;
      history_is = it.history_is;
      runs = more_refused it.runs;
      drawn_so_far = generator_is;
    }

    -- the counts by other names
    abbrev Behind : ℕ → ℕ → ℕ → Word → PlainWorkload → Type 0
    Behind now given denied = HasAsked x limit seed now given denied

    pub then_granted : (answer : Bool) (after : Word) (next : PlainWorkload) (given denied : ℕ)
        → AsksNext engine workload answer after next → answer ≡ true
        → given ≡ granted_so_far + 1 → denied ≡ refused_so_far
        → Behind (count + 1) given denied after next
    then_granted answer after next given denied asks answered one same =
        let now : count + 1 ≡ suc count = omega arith in
        let more : given ≡ suc granted_so_far = omega (arith, one) in
        let asked = subst (λ b. AsksNext engine workload b after next) answered asks in
        subst (λ n. Behind n given denied after next) (sym now)
        (subst (λ n. Behind (suc count) n denied after next) (sym more)
        (subst (λ n. Behind (suc count) (suc granted_so_far) n after next) (sym same)
        (one_granted after next asked)))

    pub then_refused : (answer : Bool) (after : Word) (next : PlainWorkload) (given denied : ℕ)
        → AsksNext engine workload answer after next → answer ≡ false
        → given ≡ granted_so_far → denied ≡ refused_so_far + 1
        → Behind (count + 1) given denied after next
    then_refused answer after next given denied asks answered same one =
        let now : count + 1 ≡ suc count = omega arith in
        let more : denied ≡ suc refused_so_far = omega (arith, one) in
        let asked = subst (λ b. AsksNext engine workload b after next) answered asks in
        subst (λ n. Behind n given denied after next) (sym now)
        (subst (λ n. Behind (suc count) n denied after next) (sym same)
        (subst (λ n. Behind (suc count) granted_so_far n after next) (sym more)
        (one_refused after next asked)))
