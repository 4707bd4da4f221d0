use Rattle.std.proofs.Common.{◌≡◌, ◌+◌, ◌++◌, ◌∷◌, suc, take, drop, sym, ap, ◌∙◌, arith}
use Rattle.std.proofs.lemmas.List.{take-append-drop, take_rest}
use Rattle.ix_entries.proofs.Places.{found, missing, searchable}
use Rattle.ix_entries.proofs.around.Goals as goal

pub returns-in-Ok-clause-without : goal.returns-in-Ok-clause-without
returns-in-Ok-clause-without g c =
    let at = found g.met.K.Ord.total c.args.entries.now c.args.key.now c.in-Ok.place c.requires c.in-Ok.ensures.bound c.in-Ok.ensures.position in
    let next : c.in-Ok.place + 1 ≡ suc c.in-Ok.place = omega arith in
    ap (λ l. take c.in-Ok.place c.args.entries.now ++ l) (take_rest c.args.entries.now (c.in-Ok.place + 1) ∙ ap (λ n. drop n c.args.entries.now) next) ∙ at.removed

pub returns-in-Ok-clause-with : goal.returns-in-Ok-clause-with
returns-in-Ok-clause-with g c = λ same item.
    let at = found g.met.K.Ord.total c.args.entries.now c.args.key.now c.in-Ok.place c.requires c.in-Ok.ensures.bound c.in-Ok.ensures.position in
    let next : c.in-Ok.place + 1 ≡ suc c.in-Ok.place = omega arith in
    ap (λ l. take c.in-Ok.place c.args.entries.now ++ (c.args.key.now, item) ∷ l) (take_rest c.args.entries.now (c.in-Ok.place + 1) ∙ ap (λ n. drop n c.args.entries.now) next) ∙ at.beside same item

pub returns-in-Err-clause-without : goal.returns-in-Err-clause-without
returns-in-Err-clause-without g c =
    let cut = c.in-Err.ensures.position (searchable g.met.K.Ord.total c.args.entries.now c.args.key.now c.requires) in
    let at = missing g.met.K.Ord.total c.args.entries.now c.args.key.now c.in-Err.place c.in-Err.ensures.bound cut.0 cut.1 in
    ap (λ l. take c.in-Err.place c.args.entries.now ++ l) (take_rest c.args.entries.now c.in-Err.place) ∙ take-append-drop c.in-Err.place c.args.entries.now ∙ sym at.removed

pub returns-in-Err-clause-with : goal.returns-in-Err-clause-with
returns-in-Err-clause-with g c = λ same item.
    let cut = c.in-Err.ensures.position (searchable g.met.K.Ord.total c.args.entries.now c.args.key.now c.requires) in
    let at = missing g.met.K.Ord.total c.args.entries.now c.args.key.now c.in-Err.place c.in-Err.ensures.bound cut.0 cut.1 in
    ap (λ l. take c.in-Err.place c.args.entries.now ++ (c.args.key.now, item) ∷ l) (take_rest c.args.entries.now c.in-Err.place) ∙ at.inserted item
