use Rattle.std.proofs.Common.{◌≡◌, ◌++◌, take, drop}
use Rattle.ix_words.specs.Canon.{put_once}
use Rattle.ix_values.specs.Order.{text_cmp}
use Rattle.ix_next.proofs.atoms.put.Given as goal

-- the value belongs behind those before the place
abbrev pub invariant-loop-place : goal.invariant-loop-place
invariant-loop-place l = record {
  same : l.values.items ≡ l.initial.values.items;
  behind : put_once text_cmp l.value l.values.items ≡ take l.place l.values.items ++ put_once text_cmp l.value (drop l.place l.values.items);
}
