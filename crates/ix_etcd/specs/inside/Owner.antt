-- Whether an owner of a file is sure of it.
use Rattle.std.specs.Prelude.{Bool, false, Option, None, Some}
use Rattle.ix_etcd.specs.declared.owned.Owned.{Owned}

-- it is sure of a file that it has
abbrev pub is_sure : {K : Type 0} → Option (Owned K) → Bool
is_sure None = false
is_sure (Some owned) = owned.sure
