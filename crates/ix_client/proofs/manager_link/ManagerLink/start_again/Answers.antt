use Rattle.std.proofs.Common.{sym, subst}
use Rattle.ix_client.specs.declared.manager_link.ManagerLink.TheInside.{Inside}
use Rattle.ix_client.specs.inside.ManagerLinks.{IsLinked}
use Rattle.ix_client.proofs.StartedLemmas.{linked_again}
use Rattle.ix_client.proofs.manager_link.ManagerLink.start_again.Goals as goal
use Rattle.ix_client.proofs.manager_link.ManagerLink.start_again.Goals.{then-is_none, else-is_none}

pub invariant_of-self : goal.invariant_of-self
invariant_of-self c =
    let now = c.start_or_none-manager in
    let linked : IsLinked c.self.inside.text.items c.self.inside.limit now.result now.new.site =
    linked_again c.self.inside.text.items c.deref.result.now c.self.inside.limit c.self.inside.manager now.result c.self.inside.site now.new.site
    c.self.invariant c.deref.ensures.value now.ensures.attached now.ensures.started in
    elim c.if-is_none.branch [
      | then-is_none w ↦ subst (λ (s : Inside). IsLinked s.text.items s.limit now.result s.site) (sym w.self-inside-is) linked
      | else-is_none w ↦ subst (λ (s : Inside). IsLinked s.text.items s.limit now.result s.site) (sym w.self-inside-is) linked
    ]
