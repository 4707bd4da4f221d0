-- One call more, which may write all of the bytes or their first half.
use Rattle.std.proofs.Common.{◌≤◌, length, refl, arith}
use Rattle.ix_outside.specs.Disk.{Torn}
use Rattle.ix_memory.specs.declared.past.Effect.TheVariants.{Kept, Wrote}
use Rattle.ix_memory.proofs.Moments.{quiet_call}
use Rattle.ix_memory.proofs.Tearing.{torn_none, torn_by, torn_half}
use Rattle.ix_memory.proofs.Tearing.{write_leaves, part_leaves, keeps_leaving, makes_told, opened_stays}
use Rattle.ix_memory.proofs.site.MemorySiteSite.write_at.Goals as goal
use Rattle.ix_memory.proofs.site.MemorySiteSite.write_at.Goals.{in-Fails, in_default}

pub returns-in-Works-clause-now : goal.returns-in-Works-clause-now
returns-in-Works-clause-now c =
    let at = c.args.at in
    let bytes = c.args.bytes.now in
    let image = c.self.inside.image.items in
    let torn = torn_by at (length bytes) bytes image
    (omega (arith, c.if-start-len.true, c.len.ensures)) (omega arith) in
    rw (← c.self.view_is, c.write.ensures.items)
    (write_leaves at (length bytes) _ _ _ _ _ c.add.ensures torn)

pub returns-in-Works-clause-call : goal.returns-in-Works-clause-call
returns-in-Works-clause-call c = rw (← c.self.view_is)
    (quiet_call (Wrote c.args.at (length c.args.bytes.now)) _ _ c.add.ensures refl)

pub returns-clause-file : goal.returns-clause-file
returns-clause-file c =
    let at = c.args.at in
    let bytes = c.args.bytes.now in
    let image = c.self.inside.image.items in
    elim c.match-fate.branch [
      | in-Fails w ↦
          let within : at ≤ length image =
          omega (arith, w.if-start-len-2.true, c.self.inside.image.ok.0) in
          rw (w.self-inside-is, w.write-in-Fails.ensures.items, w.add-in-Fails.ensures, ← c.self.view_is)
          (makes_told (Torn at (length bytes)) _ _ _ _ _ (torn_half at bytes image within)
          (opened_stays (Wrote at (length bytes)) (λ opened before. refl) c.self.inside.attached _ _ _ _))
      | in_default w ↦ rw (w.self-inside-is, w.add-in_default.ensures, ← c.self.view_is)
          (makes_told (Torn at (length bytes)) _ _ _ _ _ (torn_none at (length bytes) image)
          (opened_stays Kept (λ opened before. refl) c.self.inside.attached _ _ _ _))
    ]

pub returns-clause-now : goal.returns-clause-now
returns-clause-now c =
    let at = c.args.at in
    let bytes = c.args.bytes.now in
    let image = c.self.inside.image.items in
    elim c.match-fate.branch [
      | in-Fails w ↦
          let within : at ≤ length image =
          omega (arith, w.if-start-len-2.true, c.self.inside.image.ok.0) in
          let torn = torn_half at bytes image within in
          rw (w.self-inside-is, w.write-in-Fails.ensures.items, ← c.self.view_is)
          (part_leaves at (length bytes) _ _ _ _ _ w.add-in-Fails.ensures torn)
      | in_default w ↦ rw (w.self-inside-is, ← c.self.view_is)
          (keeps_leaving (Torn at (length bytes)) _ _ _ _ w.add-in_default.ensures
          (torn_none at (length bytes)))
    ]

pub returns-clause-call : goal.returns-clause-call
returns-clause-call c = elim c.match-fate.branch [
  | in-Fails w ↦ rw (w.self-inside-is, ← c.self.view_is)
      (quiet_call (Wrote c.args.at (length c.args.bytes.now)) _ _ w.add-in-Fails.ensures refl)
  | in_default w ↦ rw (w.self-inside-is, ← c.self.view_is)
      (quiet_call Kept _ _ w.add-in_default.ensures refl)
]
