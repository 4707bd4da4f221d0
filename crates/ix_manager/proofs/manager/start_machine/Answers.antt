use Rattle.std.proofs.Common.{◌≡◌, ℕ, [], sym, subst, ap, ◌∙◌}
use Rattle.std.specs.List.{zip}
use Rattle.ix_expr.specs.CanonicalText.{canonical_text}
use Rattle.ix_expr.specs.Form.{Form}
use Rattle.ix_journal.specs.Entries.{renewed_of}
use Rattle.ix_journal.specs.History.{PlainHistory}
use Rattle.ix_journal.specs.declared.entries.Renewed.{Renewed}
use Rattle.ix_manager.specs.Machine.{start_of}
use Rattle.ix_store.specs.inside.KeptBy.{kept}
use Rattle.ix_manager.specs.inside.Core.{Core}
use Rattle.ix_manager.specs.inside.OverSite.{FitsWith}
use Rattle.ix_manager.proofs.StartLemmas.{begun_fits}
use Rattle.ix_manager.proofs.manager.start_machine.Goals as goal

-- a machine at its start
abbrev at_start : Form → ℕ → PlainHistory → Renewed → ℕ → Core
at_start x limit history renewed boot =
    record { form = x; limit = limit; state = start_of history renewed boot; noted = [] }

-- the images are those of the boot
pub returns-in_err-boot-clause-images : goal.returns-in_err-boot-clause-images
returns-in_err-boot-clause-images g c =
    c.boot.ensures.images (canonical_text c.args.engine.form) (zip c.args.tickets.items c.args.engine.history) c.requires.fits

pub returns-clause-images : goal.returns-clause-images
returns-clause-images g c =
    c.boot.ensures.images (canonical_text c.args.engine.form) (zip c.args.tickets.items c.args.engine.history) c.requires.fits

pub returns-clause-fits : goal.returns-clause-fits
returns-clause-fits g c =
    let site = c.boot.new.site in
    let history = zip c.args.tickets.items c.args.engine.history in
    let ok = c.in_ok-boot.ensures in
    let machine : c.new-machine.result ≡ at_start c.args.engine.form c.args.engine.limit history
    (renewed_of (kept c.args.store).marks) c.in_ok-boot.boot =
    c.new-machine.ensures
    ∙ ap (λ (r : Renewed). at_start c.args.engine.form c.args.engine.limit history r c.in_ok-boot.boot) c.renewed-renewed.ensures.value in
    record {
      attached = c.boot.ensures.calls.attached ∙ c.requires.attached;
      fits = subst (λ (core : Core). FitsWith core.form core.state (kept c.boot.new.self) (g.S.Site.state site) (g.S.Site.crashes site))
          (sym machine)
          (begun_fits c.args.engine.form history (kept c.args.store) (kept c.boot.new.self) c.in_ok-boot.boot (g.S.Site.state site)
          (g.S.Site.crashes site) ok.works (ok.fits (canonical_text c.args.engine.form) history c.requires.fits)
          c.args.store.sound.within ok.number ok.booted);
    }
