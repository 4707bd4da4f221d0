use Rattle.std.proofs.Common.{Option, Ok, Err, refl, subst, sym, ◌∙◌, arith}
use Rattle.ix_lines.specs.Feeding.{completes}
use Rattle.ix_manager.specs.declared.answering.Taken.{Taken}
use Rattle.ix_manager.specs.declared.faults.Go.TheVariants.{Stopped}
use Rattle.ix_manager.specs.inside.Clean.{IsClean}
use Rattle.ix_manager.specs.inside.TakenItems.{TakesOne, TakesItem}
use Rattle.ix_manager.specs.inside.WireState.{wired, wire_span}
use Rattle.ix_manager.proofs.TakeLemmas.{reach_begins, reach_fits, taken_goes_on, taken_stops, taken_ends, taken_holds, taken_clean, taken_tickets, clean_after}
use Rattle.ix_manager.proofs.answering.take_piece.Goals as goal

-- all items are left
pub items-init : goal.items-init
items-init g c =
    let site = c.args.site.now in
    let start = wired c.args.gone.now (g.S.Site.state site) in (
      reach_begins c.args.piece.conn (completes c.args.lines.now c.args.piece.bytes.now) c.args.journaled.now start (g.S.Site.crashes site)
          (g.met.S.Site.lawful site) c.requires.fits,
      refl,
      c.requires.clean,
      omega arith,
    )

pub take_item-requires-clause-fits : goal.take_item-requires-clause-fits
take_item-requires-clause-fits g c =
    let start = wired c.args.gone.now (g.S.Site.state c.args.site.now) in
    let here = wired c.items.gone (g.S.Site.state c.items.site) in
    reach_fits c.args.piece.conn (completes c.args.lines.now c.args.piece.bytes.now) (completes c.items.lines c.items.rest.now)
    c.args.journaled.now c.items.journaled start here (g.S.Site.crashes c.args.site.now) (g.S.Site.crashes c.items.site)
    c.requires.fits c.items.invariant.0

-- `stop` was taken
pub returns-in-Stopped-clause-answers : goal.returns-in-Stopped-clause-answers
returns-in-Stopped-clause-answers g c =
    let start = wired c.args.gone.now (g.S.Site.state c.args.site.now) in
    let here = wired c.items.gone (g.S.Site.state c.items.site) in
    let there = wired c.take_item.new.gone (g.S.Site.state c.take_item.new.site) in
    let p = g.S.Site.crashes c.args.site.now in
    let q = g.S.Site.crashes c.items.site in
    let r = g.S.Site.crashes c.take_item.new.site in
    let item = λ (o : Option Taken). TakesItem c.args.piece.conn c.items.lines c.items.rest.now (Ok o) c.take_item.new.lines
    c.items.journaled c.take_item.new.journaled (wire_span here there q r) in
    let taken = subst item c.in-Ok-Some.field-0-is c.in-Ok-Some.ensures in
    let one = subst (λ go. TakesOne c.args.piece.conn c.items.lines c.items.rest.now c.in-Ok-Some.taken.used (Ok go) c.take_item.new.lines
    c.items.journaled c.take_item.new.journaled (wire_span here there q r)) c.in-Stopped.is taken in
    taken_stops c.args.piece.conn (completes c.args.lines.now c.args.piece.bytes.now) c.args.journaled.now start p c.items.lines c.items.rest.now
    c.take_item.new.lines c.items.journaled c.take_item.new.journaled here there q r c.in-Ok-Some.taken.used (Ok Stopped) (λ e. cc)
    (g.met.S.Site.lawful c.items.site) (g.met.S.Site.lawful c.take_item.new.site)
    c.items.invariant.0 one

pub returns-in-Stopped-clause-clean : goal.returns-in-Stopped-clause-clean
returns-in-Stopped-clause-clean g c =
    let here = wired c.items.gone (g.S.Site.state c.items.site) in
    let there = wired c.take_item.new.gone (g.S.Site.state c.take_item.new.site) in
    let q = g.S.Site.crashes c.items.site in
    let r = g.S.Site.crashes c.take_item.new.site in
    let item = λ (o : Option Taken). TakesItem c.args.piece.conn c.items.lines c.items.rest.now (Ok o) c.take_item.new.lines
    c.items.journaled c.take_item.new.journaled (wire_span here there q r) in
    let taken = subst item c.in-Ok-Some.field-0-is c.in-Ok-Some.ensures in
    subst IsClean (sym taken.held_is) (clean_after c.items.lines _)

-- an item was taken
pub items-preserved : goal.items-preserved
items-preserved g c =
    let start = wired c.args.gone.now (g.S.Site.state c.args.site.now) in
    let here = wired c.items.gone (g.S.Site.state c.items.site) in
    let there = wired c.take_item.new.gone (g.S.Site.state c.take_item.new.site) in
    let p = g.S.Site.crashes c.args.site.now in
    let q = g.S.Site.crashes c.items.site in
    let r = g.S.Site.crashes c.take_item.new.site in
    let conn = c.args.piece.conn in
    let all = completes c.args.lines.now c.args.piece.bytes.now in
    let first = c.args.journaled.now in
    let lines = c.items.lines in
    let rest = c.items.rest.now in
    let after_it = c.take_item.new.lines in
    let now = c.items.journaled in
    let next = c.take_item.new.journaled in
    let used = c.in-Ok-Some.taken.used in
    let go = c.in-Ok-Some.taken.go in
    let item = λ (o : Option Taken). TakesItem c.args.piece.conn c.items.lines c.items.rest.now (Ok o) c.take_item.new.lines
    c.items.journaled c.take_item.new.journaled (wire_span here there q r) in
    let taken = subst item c.in-Ok-Some.field-0-is c.in-Ok-Some.ensures in
    let one = taken in
    let left = taken_tickets conn all first start p lines rest after_it now next here there q r used (Ok go) one c.items.invariant.2 in (
      taken_goes_on conn all first start p lines rest after_it now next here there q r used go
          (g.met.S.Site.lawful c.items.site) (g.met.S.Site.lawful c.take_item.new.site)
          c.items.invariant.0 one c.in_default.is,
      c.items.invariant.1 ∙ taken_holds conn all first start p lines rest after_it now next here there q r used (Ok go) one,
      taken_clean conn all first start p lines rest after_it now next here there q r used (Ok go) one,
      omega (arith, left, c.items.invariant.3),
    )

-- the piece was taken to its end
pub returns-in-Ok-None-clause-answers : goal.returns-in-Ok-None-clause-answers
returns-in-Ok-None-clause-answers g c =
    let start = wired c.args.gone.now (g.S.Site.state c.args.site.now) in
    let here = wired c.items.gone (g.S.Site.state c.items.site) in
    let there = wired c.take_item.new.gone (g.S.Site.state c.take_item.new.site) in
    let p = g.S.Site.crashes c.args.site.now in
    let q = g.S.Site.crashes c.items.site in
    let r = g.S.Site.crashes c.take_item.new.site in
    let item = λ (o : Option Taken). TakesItem c.args.piece.conn c.items.lines c.items.rest.now (Ok o) c.take_item.new.lines
    c.items.journaled c.take_item.new.journaled (wire_span here there q r) in
    let none_taken = subst item c.in-Ok-None.field-0-is c.in-Ok-None.ensures in
    taken_ends c.args.piece.conn (completes c.args.lines.now c.args.piece.bytes.now) c.args.journaled.now start p c.items.lines c.items.rest.now
    c.take_item.new.lines c.items.journaled c.take_item.new.journaled here there q r
    (g.met.S.Site.lawful c.items.site) (g.met.S.Site.lawful c.take_item.new.site)
    c.items.invariant.0 none_taken

pub returns-in-Ok-None-clause-clean : goal.returns-in-Ok-None-clause-clean
returns-in-Ok-None-clause-clean g c =
    let here = wired c.items.gone (g.S.Site.state c.items.site) in
    let there = wired c.take_item.new.gone (g.S.Site.state c.take_item.new.site) in
    let q = g.S.Site.crashes c.items.site in
    let r = g.S.Site.crashes c.take_item.new.site in
    let item = λ (o : Option Taken). TakesItem c.args.piece.conn c.items.lines c.items.rest.now (Ok o) c.take_item.new.lines
    c.items.journaled c.take_item.new.journaled (wire_span here there q r) in
    let none_taken = subst item c.in-Ok-None.field-0-is c.in-Ok-None.ensures in
    subst IsClean (sym none_taken.held_is) (clean_after c.items.lines c.items.rest.now)

-- the disk failed
pub returns-in-Err-clause-answers : goal.returns-in-Err-clause-answers
returns-in-Err-clause-answers g c =
    let start = wired c.args.gone.now (g.S.Site.state c.args.site.now) in
    let here = wired c.items.gone (g.S.Site.state c.items.site) in
    let there = wired c.take_item.new.gone (g.S.Site.state c.take_item.new.site) in
    let p = g.S.Site.crashes c.args.site.now in
    let q = g.S.Site.crashes c.items.site in
    let r = g.S.Site.crashes c.take_item.new.site in
    taken_stops c.args.piece.conn (completes c.args.lines.now c.args.piece.bytes.now) c.args.journaled.now start p c.items.lines c.items.rest.now
    c.take_item.new.lines c.items.journaled c.take_item.new.journaled here there q r c.in-Err.ensures.0 (Err c.in-Err.stop) (λ e. cc)
    (g.met.S.Site.lawful c.items.site) (g.met.S.Site.lawful c.take_item.new.site)
    c.items.invariant.0 c.in-Err.ensures.1

pub returns-in-Err-clause-clean : goal.returns-in-Err-clause-clean
returns-in-Err-clause-clean g c =
    let e = c.in-Err.ensures.1.held_is in
    subst IsClean (sym e) (clean_after c.items.lines _)
