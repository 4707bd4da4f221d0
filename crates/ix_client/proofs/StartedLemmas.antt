-- A link whose manager was started.
use Rattle.std.proofs.Common.{◌≡◌, ℕ, List, Option, Some, None, Result, Ok, Err, true, false, true≢false, ◌∙◌, ap, subst}
use Rattle.std.specs.Prelude.{IfSome, OnOk, is_err}
use Rattle.ix_memory.specs.inside.MemorySiteState.{MemorySiteState}
use Rattle.ix_parse.specs.Faults.{StandsFor}
use Rattle.ix_manager.specs.Handled.{ManagerState}
use Rattle.ix_manager.specs.Images.{IsStartable}
use Rattle.ix_manager.specs.Runs.{opening_of}
use Rattle.ix_client.specs.inside.ManagerLinks.{IsLinked, IsManagerWhere, ManagerLinkState, link_state, told_by, told_of}
use Rattle.ix_client.specs.inside.Passing.{StartedFrom}
use Rattle.ix_client.specs.inside.Starting.{TellsStarted}
use Rattle.ix_client.proofs.TellLemmas.{is_told}

-- what was started, where something was, manages
manages_where : (text : List ℕ) (limit : ℕ) (kept : Option ManagerState) (before after : MemorySiteState)
    → IfSome kept (λ m. StartedFrom text limit m before after) → IsManagerWhere text limit kept after
manages_where text limit None before after started = tt
manages_where text limit (Some m) before after started = started.manages

-- the link stays one after its manager was started again, or couldn't be
pub linked_again : (text read : List ℕ) (limit : ℕ) (manager kept : Option ManagerState) (before after : MemorySiteState)
    → IsLinked text limit manager before → read ≡ text → after.attached ≡ true
    → IfSome kept (λ m. StartedFrom read limit m before after) → IsLinked text limit kept after
linked_again text read limit manager kept before after is same attached started = record {
  least = is.least;
  most = is.most;
  attached = attached;
  manages = subst (λ t. IsManagerWhere t limit kept after) same (manages_where read limit kept before after started);
}

-- a link that was just made tells its manager
pub tells_started : (text kept : List ℕ) (limit : ℕ) (m : ManagerState) (first before after : MemorySiteState) (link : ManagerLinkState) → kept ≡ text
    → before.image ≡ first.image → before.told ≡ first.told → after.told ≡ before.told → StartedFrom kept limit m before after
    → link.manager ≡ Some m → link.site ≡ after → first.told ≡ true → TellsStarted text limit first.image (link_state link)
tells_started text kept limit m first before after link copied same still stays is has over told =
    let was : before.told ≡ true = still ∙ told in
    let tells : told_of (Some m) after ≡ Some (told_by m) = is_told m after is.manages.over (stays ∙ was) in
    record {
      told = told_by m;
      is = ap (λ o. told_of o link.site) has ∙ ap (told_of (Some m)) over ∙ tells;
      stands = subst (λ t. StandsFor t m.form) copied is.manages.stands;
      limit_is = is.manages.limit_is;
      startable = subst (λ l. IsStartable (opening_of m.form l m.machine.history m.machine.renewed m.machine.boot) first.image) is.manages.limit_is
          (subst (IsStartable (opening_of m.form m.limit m.machine.history m.machine.renewed m.machine.boot)) same (is.startable was));
      machine = is.machine;
    }

-- a call worked
pub where_worked : {P T E : Type 0} (result : Result T E) → is_err result ≡ false → OnOk result P → P
where_worked (Ok done) works is = is
where_worked (Err fault) works is = absurd (true≢false works)
