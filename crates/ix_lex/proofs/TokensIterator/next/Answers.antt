use Rattle.std.proofs.Common.{◌≡◌, ◌+◌, ◌-◌, arith, take, drop, ap, ℕ}
use Rattle.ix_lex.specs.inside.Items.{pieces_left}
use Rattle.ix_lex.proofs.NextPiece.{no_blank_next, next-end, next-token, next-bad, item_lowers}
use Rattle.ix_lex.proofs.TokensIterator.next.Goals as goal

pub first_token-requires : goal.first_token-requires
first_token-requires c = no_blank_next c.args.self.now.text.now c.args.self.now.place c.blanks_len.result c.blanks_len.ensures c.in-Some.first.now c.in-Some.after.now c.in-Some.ensures.cases.0

pub returns-in_default-clause-steps : goal.returns-in_default-clause-steps
returns-in_default-clause-steps c = next-end c.args.self.now.text.now c.args.self.now.place c.blanks_len.result c.blanks_len.ensures c.in_default.ensures.cases

pub returns-in-Some-first_token-clause-steps : goal.returns-in-Some-first_token-clause-steps
returns-in-Some-first_token-clause-steps c =
    let m = c.in-Some-first_token.length in
    let start = c.args.self.now.place + c.blanks_len.result in
    let e : start + m - start ≡ m = omega arith in
    next-token c.args.self.now.text.now c.args.self.now.place c.blanks_len.result c.blanks_len.ensures c.in-Some.first.now c.in-Some.after.now _ c.in-Some-first_token.kind m c.in-Some.ensures.cases.0 c.in-Some-first_token.ensures
    (ap (λ (n : ℕ). take n (drop start c.args.self.now.text.now)) e)

pub returns-in-None-clause-steps : goal.returns-in-None-clause-steps
returns-in-None-clause-steps c = next-bad c.args.self.now.text.now c.args.self.now.place c.blanks_len.result c.blanks_len.ensures c.in-Some.first.now c.in-Some.after.now c.in-Some.ensures.cases.0 c.in-None.ensures

pub returns-in-Some-first_token-clause-goes : goal.returns-in-Some-first_token-clause-goes
returns-in-Some-first_token-clause-goes c = item_lowers pieces_left _ _ _ _ (returns-in-Some-first_token-clause-steps c)

pub returns-in-None-clause-goes : goal.returns-in-None-clause-goes
returns-in-None-clause-goes c = item_lowers pieces_left _ _ _ _ (returns-in-None-clause-steps c)
