-- What a send that failed leaves is a part of it.
use Rattle.std.proofs.Common.{[], false, ap, refl}
use Rattle.ix_outside.specs.Contents.{Sends}
use Rattle.ix_memory.specs.declared.past.Effect.TheVariants.{Kept}
use Rattle.ix_memory.specs.inside.MemorySiteState.{half_of}
use Rattle.ix_memory.proofs.Moments.{Shown, quiet_call, pair_call}
use Rattle.ix_memory.proofs.SendingPart.{half_is_part, nothing_is_part}
use Rattle.ix_memory.proofs.site.MemorySiteSite.send.Goals as goal
use Rattle.ix_memory.proofs.site.MemorySiteSite.send.Goals.{in-Fails, in-Full}

pub returns-clause-contents : goal.returns-clause-contents
returns-clause-contents c = elim c.match-make.branch [
  | in-Fails w ↦ rw (w.self-inside-is, ← c.self.view_is) (half_is_part _ _ _ _ _ _ w.send_gone.ensures.sends)
  | in-Full w ↦ rw (w.self-inside-is, ← c.self.view_is) (nothing_is_part _ _ _ _ _)
]

pub returns-in-Works-clause-call : goal.returns-in-Works-clause-call
returns-in-Works-clause-call c = rw (← c.self.view_is)
    (pair_call Kept _ _ c.args.conn c.args.bytes.now c.add.ensures
    (ap (λ (s : Sends). s.sent) c.send.ensures.sends))

pub returns-clause-call : goal.returns-clause-call
returns-clause-call c = elim c.match-make.branch [
  | in-Fails w ↦ rw (w.self-inside-is, ← c.self.view_is)
      (pair_call Kept _ _ c.args.conn (half_of c.args.bytes.now) c.add.ensures
      (ap (λ (s : Sends). s.sent) w.send_gone.ensures.sends))
  | in-Full w ↦
      let new : Shown = record {
        given = [];
        sends = c.self.inside.sent.sends;
        image = c.self.inside.image.items;
        attached = c.self.inside.attached;
        name = [];
        past = c.add.new.self;
        told = false;
        counts = record {
          disk = c.self.inside.disk;
          wire = c.self.inside.wire;
          send = c.saturating_add-self-inside.result;
        };
      } in
      rw (w.self-inside-is, ← c.self.view_is) (quiet_call Kept _ new c.add.ensures refl)
]
