use Rattle.std.proofs.Common.{◌≡◌, ◌*◌, length, min}
use Rattle.ix_blocks.specs.inside.StoreCalls.{WhereTold}
use Rattle.ix_blocks.specs.inside.Reading.{ReadsFront}
use Rattle.ix_blocks.proofs.blocks.read_file.Given as goal

-- all blocks so far are whole, and were read
abbrev pub invariant-loop-number : goal.invariant-loop-number
invariant-loop-number g l = record {
  long : length l.bytes.items ≡ min (l.number * 4096) l.length;
  reads : WhereTold (ReadsFront l.at l.number l.bytes.items) (g.K.Keys.state l.fn.keys) (g.K.Keys.state l.keys);
}
