use Rattle.std.proofs.Common.{◌≡◌, ◌+◌, ◌++◌, take, vec_len, vec_capacity}
use Rattle.ix_tree.proofs.share.with_shared.Given as goal

abbrev pub invariant-loop-knot : goal.invariant-loop-knot
invariant-loop-knot l = record {
  items : l.all.items ≡ l.initial.all.items ++ take l.knot-index l.knots;
  len : vec_len l.all ≡ vec_len l.initial.all + l.knot-index;
  capacity : vec_capacity l.all ≡ vec_capacity l.initial.all;
}
