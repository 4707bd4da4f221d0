use Rattle.std.proofs.Common.{◌≡◌, ap, ◌∙◌, refl, get_or, false}
use Rattle.ix_store.specs.inside.KeptBy.{kept}
use Rattle.ix_manager.specs.inside.Core.{Core}
use Rattle.ix_manager.specs.inside.WireState.{wired}
use Rattle.ix_manager.specs.Handled.{ManagerState}
use Rattle.ix_manager.proofs.HandleLemmas.{at_moment, without_line, moment_fits, bytes_over, bytes_failed, bytes_fit, closed_handled, end_handled, rest_over}
use Rattle.ix_manager.proofs.manager.Manager.handle.Goals as goal

-- bytes came
pub returns-in-Bytes-clause-handles : goal.returns-in-Bytes-clause-handles
returns-in-Bytes-clause-handles g c =
    let i = c.self.inside in
    let with_core : Core → ManagerState = λ (k : Core). record {
      form = k.form;
      limit = k.limit;
      machine = k.state;
      store = kept i.journaled.store;
      lines = i.lines.items;
      marks = i.marks;
      ended = i.ended;
    } in
    let between = with_core c.raise.new.self in
    let same : between ≡ at_moment c.args.event.moment c.args.self.now = ap with_core c.raise.ensures ∙ ap (at_moment c.args.event.moment) c.self.view_is in
    let marked = get_or i.marks c.args.event.conn false in
    let before = wired marked (g.S.Site.state c.args.site.now) in
    let after = wired false (g.S.Site.state c.take_bytes.new.site) in
    bytes_over c.args.self.now between c.take_bytes.new.self c.args.event c.in-Bytes.field-0 c.args.bytes.now c.take_bytes.result before after
    (g.S.Site.crashes c.args.site.now) (g.S.Site.crashes c.take_bytes.new.site) c.in-Bytes.is same c.take_bytes.ensures.takes refl

pub returns-in-Bytes-clause-failed : goal.returns-in-Bytes-clause-failed
returns-in-Bytes-clause-failed g c =
    let i = c.self.inside in
    let with_core : Core → ManagerState = λ (k : Core). record {
      form = k.form;
      limit = k.limit;
      machine = k.state;
      store = kept i.journaled.store;
      lines = i.lines.items;
      marks = i.marks;
      ended = i.ended;
    } in
    let between = with_core c.raise.new.self in
    let same : between ≡ at_moment c.args.event.moment c.args.self.now = ap with_core c.raise.ensures ∙ ap (at_moment c.args.event.moment) c.self.view_is in
    let marked = get_or i.marks c.args.event.conn false in
    let before = wired marked (g.S.Site.state c.args.site.now) in
    let after = wired false (g.S.Site.state c.take_bytes.new.site) in
    bytes_failed c.args.self.now between c.take_bytes.new.self c.args.event c.in-Bytes.field-0 c.args.bytes.now c.take_bytes.result before after
    (g.S.Site.crashes c.args.site.now) (g.S.Site.crashes c.take_bytes.new.site) c.in-Bytes.is same c.take_bytes.ensures.takes

pub returns-in-Bytes-clause-fits : goal.returns-in-Bytes-clause-fits
returns-in-Bytes-clause-fits g c =
    let i = c.self.inside in
    let with_core : Core → ManagerState = λ (k : Core). record {
      form = k.form;
      limit = k.limit;
      machine = k.state;
      store = kept i.journaled.store;
      lines = i.lines.items;
      marks = i.marks;
      ended = i.ended;
    } in
    let between = with_core c.raise.new.self in
    let same : between ≡ at_moment c.args.event.moment c.args.self.now = ap with_core c.raise.ensures ∙ ap (at_moment c.args.event.moment) c.self.view_is in
    let marked = get_or i.marks c.args.event.conn false in
    let before = wired marked (g.S.Site.state c.args.site.now) in
    let after = wired false (g.S.Site.state c.take_bytes.new.site) in
    bytes_fit c.args.self.now between c.take_bytes.new.self c.args.event c.in-Bytes.field-0 c.args.bytes.now c.take_bytes.result before after
    (g.S.Site.crashes c.args.site.now) (g.S.Site.crashes c.take_bytes.new.site) c.in-Bytes.is same c.take_bytes.ensures.takes

-- the connection was closed
pub returns-in-Closed-clause-handles : goal.returns-in-Closed-clause-handles
returns-in-Closed-clause-handles g c =
    let i = c.self.inside in
    let with_core : Core → ManagerState = λ (k : Core). record {
      form = k.form;
      limit = k.limit;
      machine = k.state;
      store = kept i.journaled.store;
      lines = i.lines.items;
      marks = i.marks;
      ended = i.ended;
    } in
    let site = c.args.site.now in
    let between = with_core c.raise.new.self in
    let same : between ≡ at_moment c.args.event.moment c.args.self.now = ap with_core c.raise.ensures ∙ ap (at_moment c.args.event.moment) c.self.view_is in
    let machine = ap (λ (m : ManagerState). m.machine) (c.close.ensures ∙ ap (without_line c.args.event.conn) same) in
    rest_over c.args.self.now c.close.new.self c.args.event c.args.bytes.now (g.S.Site.state site) (g.S.Site.crashes site) (g.met.S.Site.lawful site) c.requires.fits
    (closed_handled c.args.self.now between c.close.new.self c.args.event c.args.bytes.now
    (g.S.Site.state site).contents c.in-Closed.is c.requires.going same c.close.ensures) refl
    machine

-- the end came
pub returns-in-End-clause-handles : goal.returns-in-End-clause-handles
returns-in-End-clause-handles g c =
    let i = c.self.inside in
    let with_core : Core → ManagerState = λ (k : Core). record {
      form = k.form;
      limit = k.limit;
      machine = k.state;
      store = kept i.journaled.store;
      lines = i.lines.items;
      marks = i.marks;
      ended = i.ended;
    } in
    let site = c.args.site.now in
    let between = with_core c.raise.new.self in
    let same : between ≡ at_moment c.args.event.moment c.args.self.now = ap with_core c.raise.ensures ∙ ap (at_moment c.args.event.moment) c.self.view_is in
    rest_over c.args.self.now between c.args.event c.args.bytes.now (g.S.Site.state site) (g.S.Site.crashes site) (g.met.S.Site.lawful site) c.requires.fits
    (end_handled c.args.self.now between c.args.event c.args.bytes.now
    (g.S.Site.state site).contents c.in-End.is c.requires.going same) refl
    (ap (λ (m : ManagerState). m.machine) same)

-- at a later moment the store goes on to fit
pub take_bytes-requires-clause-fits : goal.take_bytes-requires-clause-fits
take_bytes-requires-clause-fits g c =
    let i = c.self.inside in
    let with_core : Core → ManagerState = λ (k : Core). record {
      form = k.form;
      limit = k.limit;
      machine = k.state;
      store = kept i.journaled.store;
      lines = i.lines.items;
      marks = i.marks;
      ended = i.ended;
    } in
    let between = with_core c.raise.new.self in
    let same : between ≡ at_moment c.args.event.moment c.args.self.now = ap with_core c.raise.ensures ∙ ap (at_moment c.args.event.moment) c.self.view_is in
    let site = c.args.site.now in
    moment_fits c.args.self.now between c.args.event.moment (g.S.Site.state site) (g.S.Site.crashes site) same c.requires.fits
