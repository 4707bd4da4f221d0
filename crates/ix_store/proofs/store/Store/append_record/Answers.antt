use Rattle.std.proofs.Common.{ℕ, ◌+◌, ◌∷◌, [], ◌∙◌, ap, arith, length, subst, sym}
use Rattle.std.proofs.lemmas.List.{length-append}
use Rattle.ix_journal.specs.Entries.{behind}
use Rattle.ix_journal.specs.Format.{farthest_gate, record_of}
use Rattle.ix_journal.specs.inside.Counting.{AreNotMany, AreSound}
use Rattle.ix_journal.specs.inside.Writing.{entry_written}
use Rattle.ix_journal.proofs.OrderLemmas.{entry_near, sound-behind}
use Rattle.ix_store.specs.inside.KeptBy.{kept}
use Rattle.ix_store.proofs.Appended.{place_behind, place_gate, recorded_images, gated_images}
use Rattle.ix_store.proofs.Appended.{fits_more}
use Rattle.ix_store.proofs.store.Store.append_record.Goals as goal

-- the record is written
pub write_through-requires-clause-place : goal.write_through-requires-clause-place
write_through-requires-clause-place g c =
    let fits = c.requires.journal in
    place_behind _ _ _ fits.0 fits.1 (g.met.S.Site.lawful c.args.site.now) fits.2

pub returns-in_err-write_through-clause-images : goal.returns-in_err-write_through-clause-images
returns-in_err-write_through-clause-images g c text history fits =
    let first = c.write_through in
    recorded_images _ _ _ _ first.ensures.calls
    (g.met.S.Site.lawful c.args.site.now) (g.met.S.Site.lawful first.new.site)
    (kept c.args.self.now) text history fits c.as_slice.result.now first.ensures.images
    (entry_written c.args.written.now)

-- the gate is opened
pub write_through-requires-2-clause-place : goal.write_through-requires-2-clause-place
write_through-requires-2-clause-place g c =
    let first = c.write_through in
    let fits = c.requires.journal in
    place_gate _ _ _ _ first.ensures.calls
    (g.met.S.Site.lawful c.args.site.now) (g.met.S.Site.lawful first.new.site)
    (kept c.args.self.now) fits.0 fits.1 fits.2 c.as_slice.result.now first.ensures.images

pub returns-in_err-write_through-2-clause-images :
    goal.returns-in_err-write_through-2-clause-images
returns-in_err-write_through-2-clause-images g c text history fits disk told =
    let first = c.write_through in
    let done = c.in_ok-write_through.ensures in
    gated_images _ _ _ _ first.ensures.calls
    (g.met.S.Site.lawful c.args.site.now) (g.met.S.Site.lawful first.new.site)
    (kept c.args.self.now) text history fits c.as_slice.result.now first.ensures.images
    (entry_written c.args.written.now) (record {
      valid = c.record_bytes.ensures.valid;
      follows = c.requires.follows;
      few = c.requires.few;
    })
    (c.as_slice.ensures.value ∙ c.record_bytes.ensures.bytes) done.written done.settled _ _
    disk told c.write_through-2.ensures.calls c.write_through-2.ensures.images

pub returns-clause-images : goal.returns-clause-images
returns-clause-images g c text history fits disk told =
    let first = c.write_through in
    let done = c.in_ok-write_through.ensures in
    gated_images _ _ _ _ first.ensures.calls
    (g.met.S.Site.lawful c.args.site.now) (g.met.S.Site.lawful first.new.site)
    (kept c.args.self.now) text history fits c.as_slice.result.now first.ensures.images
    (entry_written c.args.written.now) (record {
      valid = c.record_bytes.ensures.valid;
      follows = c.requires.follows;
      few = c.requires.few;
    })
    (c.as_slice.ensures.value ∙ c.record_bytes.ensures.bytes) done.written done.settled _ _
    disk told c.write_through-2.ensures.calls c.write_through-2.ensures.images

pub returns-clause-appended : goal.returns-clause-appended
returns-clause-appended g c text history fits =
    let first = c.write_through in
    let second = c.write_through-2 in
    let done = c.in_ok-write_through.ensures in
    let long = c.len.ensures.value ∙ sym (ap length c.as_slice.ensures.value) in
    fits_more _ _ _ _ first.ensures.calls
    (g.met.S.Site.lawful c.args.site.now) (g.met.S.Site.lawful first.new.site)
    (kept c.args.self.now) text history fits c.as_slice.result.now first.ensures.images
    (entry_written c.args.written.now) (record {
      valid = c.record_bytes.ensures.valid;
      follows = c.requires.follows;
      few = c.requires.few;
    })
    (c.as_slice.ensures.value ∙ c.record_bytes.ensures.bytes) done.written done.settled
    (g.S.Site.state second.new.site) (g.S.Site.crashes second.new.site)
    c.in_ok-write_through-2.ensures.written c.in_ok-write_through-2.ensures.settled
    _ (ap (λ (n : ℕ). c.args.self.now.gate + n) long)
    (c.passed-marks.ensures ∙ ap (behind c.args.self.now.marks) c.entry.ensures)

pub invariant_of-self-2 : goal.invariant_of-self-2
invariant_of-self-2 g c =
    let entry = entry_written c.args.written.now in
    let old = c.args.self.now in
    let near = old.near in
    let bytes = ap length c.record_bytes.ensures.bytes in
    let valid = c.record_bytes.ensures.valid in
    let sound = old.sound in
    let few = c.requires.few in
    let most = entry_near old.marks entry sound valid c.requires.follows (omega (arith, few.1)) in
    let sound_behind = sound-behind old.marks entry sound valid c.requires.follows in
    let marked = c.passed-marks.ensures ∙ ap (behind old.marks) c.entry.ensures in
    record {
      near = omega (
        arith,
        c.len.ensures.value,
        bytes,
        most,
        ap farthest_gate marked,
        length-append (record_of entry) (0 ∷ []),
      );
      few = subst AreNotMany (sym marked) few;
      sound = subst AreSound (sym marked) sound_behind;
    }
