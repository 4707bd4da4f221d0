-- A look at the head, as a part of a run.
use Rattle.std.proofs.Common.{◌≡◌, ℕ, List, ◌++◌, sym, ap, ◌∙◌, subst}
use Rattle.ix_blocks.specs.Register.{Register}
use Rattle.ix_blocks.specs.declared.blocks.Blocks.{Blocks}
use Rattle.ix_blocks.specs.declared.claim.Seen.{Seen}
use Rattle.ix_blocks.specs.Owners.{Event, World, world_after}
use Rattle.ix_blocks.specs.Stores.{Store}
use Rattle.ix_blocks.specs.inside.StoreCalls.{SeesHead, TimePasses}
use Rattle.ix_blocks.specs.Protocol.{HasKeysOf, IsLast, Owns}
use Rattle.ix_blocks.specs.inside.OwnerCalls.{RunsOn, RunsThrough}
use Rattle.ix_blocks.proofs.Runs.{looks_tell}
use Rattle.ix_blocks.proofs.Later.{Covers}
use Rattle.ix_blocks.proofs.Onward.{onward, covers-same, goes-on, owns-onward}

pub still-covers : (w : World) (old new : Store) → Covers w old.sent → TimePasses old new → Covers w new.sent
still-covers w old new covers time = subst (Covers w) (sym time.sent) covers

-- time passes, and what an owner has stays
pub owner-waits : (newest : ℕ) (run : List Event) (who : ℕ) (synced : List ℕ) (blocks : Blocks) (old new : Store) → HasKeysOf (world_after newest run) old → Owns blocks who synced (world_after newest run) → TimePasses old new → RunsOn newest run who new (Owns blocks who synced)
owner-waits newest run who synced blocks old new is own time =
    let o = onward newest run old.sent old.register new.register is.sent is.register time.register in
    goes-on newest run who new (Owns blocks who synced) (still-covers (world_after newest run) old new is.sent time) o (owns-onward newest run new.register blocks who synced own o)

-- a look between tells whether the owner is the last
pub looked : (newest : ℕ) (run : List Event) (who : ℕ) (synced : List ℕ) (blocks : Blocks) (old new : Store) (seen : Seen) (P : World → Type 0) → HasKeysOf (world_after newest run) old → (own : Owns blocks who synced (world_after newest run)) → TimePasses old new → SeesHead seen old new → ((w : World) → (w.register.revision ≡ own.claim.revision → IsLast who w) → (IsLast who w → w.register.revision ≡ own.claim.revision) → w.register.revision ≡ seen.revision → P w) → RunsThrough newest run who new P (Owns blocks who synced)
looked newest run who synced blocks old new seen P is own time sees f =
    let o1 = onward newest run old.sent old.register sees.moment is.sent is.register sees.until in
    let mid = owns-onward newest run sees.moment blocks who synced own o1 in
    let covers = covers-same (world_after newest (run ++ o1.events)) (world_after newest run) old.sent o1.sent is.sent in
    let o2 = onward newest (run ++ o1.events) old.sent sees.moment new.register covers o1.register sees.since in
    let tells = looks_tell newest (run ++ o1.events) who own.claim (o1.standing who ∙ own.stands) in
    record {
      events = o1.events;
      quiet = o1.quiet;
      holds = f (world_after newest (run ++ o1.events)) tells.0 tells.1 (ap (λ (r : Register). r.revision) o1.register ∙ ap (λ (s : Seen). s.revision) sees.holds);
      behind = goes-on newest (run ++ o1.events) who new (Owns blocks who synced) (still-covers (world_after newest (run ++ o1.events)) old new covers time) o2 (owns-onward newest (run ++ o1.events) new.register blocks who synced mid o2);
    }
