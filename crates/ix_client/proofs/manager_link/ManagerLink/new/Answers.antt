use Rattle.std.specs.Prelude.{is_err}
use Rattle.std.proofs.Common.{◌≡◌, Some, false, refl, sym, ◌∙◌, ap, subst}
use Rattle.ix_parse.specs.Faults.{StandsFor}
use Rattle.ix_memory.specs.inside.MemorySiteState.{MemorySiteState}
use Rattle.ix_client.specs.inside.ManagerCalls.{FailsToStart}
use Rattle.ix_client.proofs.CallCounts.{of_err}
use Rattle.ix_client.proofs.StartedLemmas.{tells_started, where_worked}
use Rattle.ix_client.proofs.manager_link.ManagerLink.new.Goals as goal

pub returns-in-Ok-start-clause-tells : goal.returns-in-Ok-start-clause-tells
returns-in-Ok-start-clause-tells c = λ told.
    let copied : c.in-Ok.kept.items ≡ c.args.text.now = c.in-Ok.ensures.items_if_clones_equal (λ x y same. same) in
    let works : is_err c.attach.result ≡ false = sym c.is_err.ensures.value ∙ c.if-is_err.false in
    let attached = where_worked c.attach.result works c.attach.ensures.ok in
    tells_started c.args.text.now c.deref.result.now c.args.limit c.in-Ok-start.manager c.args.site c.attach.new.self c.start.new.site
    (record {
      text = c.in-Ok.kept.items;
      limit = c.args.limit;
      manager = Some c.in-Ok-start.manager;
      site = c.start.new.site;
      fail = c.args.fail.items;
      calls = 0;
      line = c.new.result.items;
      faults = 0;
      balks = 0;
    })
    (c.deref.ensures.value ∙ copied)
    (ap (λ (site : MemorySiteState). site.image) attached) (ap (λ (site : MemorySiteState). site.told) attached)
    c.start.ensures.told c.in-Ok-start.ensures.started refl refl told

pub returns-in-Err-clause-none : goal.returns-in-Err-clause-none
returns-in-Err-clause-none c = λ told x stands.
    let copied : c.in-Ok.kept.items ≡ c.args.text.now = c.in-Ok.ensures.items_if_clones_equal (λ x y same. same) in
    let works : is_err c.attach.result ≡ false = sym c.is_err.ensures.value ∙ c.if-is_err.false in
    let attached = where_worked c.attach.result works c.attach.ensures.ok in
    let is = ap (λ (site : MemorySiteState). site.image) attached in
    let still = ap (λ (site : MemorySiteState). site.told) attached in
    subst (λ image. FailsToStart x c.args.limit image c.in-Err.fault) is
    (of_err (FailsToStart x c.args.limit c.attach.new.self.image) c.start.result c.in-Err.fault c.in-Err.is
    (c.start.ensures.none (still ∙ told) x (subst (λ t. StandsFor t x) (sym (c.deref.ensures.value ∙ copied)) stands)))
