use Rattle.std.proofs.Common.{refl, sym, ◌∙◌, true≢false}
use Rattle.std.proofs.lemmas.List.{length-map}
use Rattle.ix_next.specs.Lists.{again, full, other}
use Rattle.ix_next.proofs.list.next_value.Goals as goal

pub returns-in_default : goal.returns-in_default
returns-in_default c = other (λ is. c.in_default.ensures is.given is.is)

pub returns-then-stands_in : goal.returns-then-stands_in
returns-then-stands_in c =
    again (record { given = c.in-Some.value; is = c.in-Some.ensures }) (c.if-stands_in.ensures.0 refl)

pub returns-then-before-eq-VALUE_LIMIT : goal.returns-then-before-eq-VALUE_LIMIT
returns-then-before-eq-VALUE_LIMIT c =
    full (record { given = c.in-Some.value; is = c.in-Some.ensures }) (λ member. absurd (true≢false (sym (c.if-stands_in.ensures.1 member))))
    (length-map c.args.before.now (λ l. l.now) ∙ c.if-before-eq-VALUE_LIMIT.true)
