use Rattle.std.proofs.Common.{◌≡◌, ◌+◌, ◌++◌, take, vec_len, vec_capacity}
use Rattle.ix_tree.proofs.share.with_shared_entries.Given as goal

abbrev pub invariant-loop-entry : goal.invariant-loop-entry
invariant-loop-entry l = record {
  items : l.all.items ≡ l.initial.all.items ++ take l.entry-index l.entries;
  len : vec_len l.all ≡ vec_len l.initial.all + l.entry-index;
  capacity : vec_capacity l.all ≡ vec_capacity l.initial.all;
}
