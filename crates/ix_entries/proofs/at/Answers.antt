use Rattle.std.proofs.Common.{sym, ap}
use Rattle.std.specs.Option.{unwrap_or}
use Rattle.ix_entries.proofs.Places.{found, missing, searchable}
use Rattle.ix_entries.proofs.at.Goals as goal

pub returns-in-Ok : goal.returns-in-Ok
returns-in-Ok g c =
    sym (ap (λ o. unwrap_or o c.args.common.now) ((found g.met.K.Ord.total c.args.entries.now c.args.key.now c.in-Ok.place c.requires c.in-Ok.ensures.bound c.in-Ok.ensures.position).looked_up c.index-entries-place.result))

pub returns-in-Err : goal.returns-in-Err
returns-in-Err g c =
    let cut = c.in-Err.ensures.position (searchable g.met.K.Ord.total c.args.entries.now c.args.key.now c.requires) in
    sym (ap (λ o. unwrap_or o c.args.common.now) (missing g.met.K.Ord.total c.args.entries.now c.args.key.now c.in-Err.field-0 c.in-Err.ensures.bound cut.0 cut.1).looked_up)
