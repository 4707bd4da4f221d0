-- What the statuses of answers are.
use Rattle.std.specs.Prelude.{ℕ, ◌==◌, ◌&&◌, nat_le, nat_lt, not, if◌then◌else◌}
use Rattle.ix_etcd.specs.declared.gateway.Kind.{Kind}
use Rattle.ix_etcd.specs.declared.gateway.Kind.TheVariants.{Says, Refuses, AsksElsewhere}
use Rattle.ix_etcd.specs.declared.gateway.Trouble.TheVariants.{Full, Refused}

-- 200 says something; 429 is that nothing more is taken; any other from 400 to 499, but 408,
-- refuses the request; all others are of a member that can't answer now
abbrev pub status_kind : ℕ → Kind
status_kind status =
    if status == 200 then Says
    else if status == 429 then Refuses Full
    else if nat_le 400 status && nat_lt status 500 && not (status == 408) then Refuses Refused
    else AsksElsewhere
