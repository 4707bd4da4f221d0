use Rattle.std.proofs.Common.{◌≡◌, ◌+◌, ◌*◌, ◌++◌, List, ℕ, length, length-append, sym, ap, ◌∙◌, subst, arith}
use Rattle.ix_blocks.specs.Stores.{Store}
use Rattle.ix_blocks.specs.inside.StoreCalls.{WhereTold, TimePasses, ReadsBlock}
use Rattle.ix_blocks.specs.inside.Reading.{ReadsFront}
use Rattle.ix_blocks.proofs.Cutting.{begins}
use Rattle.ix_blocks.proofs.Tellings.{told-same, told-both, told-join}
use Rattle.ix_blocks.proofs.ReadingOn.{time-join, front-none, front-more}
use Rattle.ix_blocks.proofs.blocks.read_file.Goals as goal

pub loop-number-init : goal.loop-number-init
loop-number-init g c =
    let e = ap length c.new-bytes.ensures.items in
    record {
      long = omega (arith, e);
      reads = told-same (ReadsFront c.args.at 0 c.new-bytes.result.items) _ (front-none c.args.at c.new-bytes.result.items);
    }

pub returns-in_err-block-clause-rest : goal.returns-in_err-block-clause-rest
returns-in_err-block-clause-rest g c =
    told-join (ReadsFront c.args.at c.loop-number.number c.loop-number.bytes.items) TimePasses TimePasses _ _ _
    (λ a b d front time. time-join a b d front.time time) c.loop-number.invariant.reads c.read_block.ensures.rest

pub returns-in_default-clause-rest : goal.returns-in_default-clause-rest
returns-in_default-clause-rest g c =
    told-join (ReadsFront c.args.at c.loop-number.number c.loop-number.bytes.items) TimePasses TimePasses _ _ _
    (λ a b d front time. time-join a b d front.time time) c.loop-number.invariant.reads c.read_block.ensures.rest

pub loop-number-preserved : goal.loop-number-preserved
loop-number-preserved g c =
    let n = c.loop-number.number in
    let block = c.in_ok-block.block.items in
    let made : c.extend_from_slice.new.self.items ≡ c.loop-number.bytes.items ++ c.in_ok-block.block.items = c.in-Ok.ensures.items ∙ ap (λ (xs : List ℕ). c.loop-number.bytes.items ++ xs) c.deref.ensures.value in
    let low = begins c.loop-number.number c.args.length (omega (arith, c.loop-number-test.true, c.div_ceil-number-end.ensures)) in
    let so_far : length c.loop-number.bytes.items ≡ c.loop-number.number * 4096 = omega (arith, c.loop-number.invariant.long, low) in
    let longer : length c.extend_from_slice.new.self.items ≡ length c.loop-number.bytes.items + length c.in_ok-block.block.items = ap length made ∙ length-append c.loop-number.bytes.items c.in_ok-block.block.items in
    let count : length c.in_ok-block.block.items ≡ c.min-count.result = c.in_ok-block.ensures.count in
    record {
      long = omega (arith, longer, so_far, count, c.min-count.ensures, low);
      reads = subst (λ (xs : List ℕ). WhereTold (ReadsFront c.args.at (c.loop-number.number + 1) xs) (g.K.Keys.state c.args.keys.now) (g.K.Keys.state c.read_block.new.keys)) (sym made)
          (told-join (ReadsFront c.args.at c.loop-number.number c.loop-number.bytes.items) (λ (a b : Store). TimePasses a b × ReadsBlock c.loop-number.number c.args.at c.in_ok-block.block.items a b)
          (ReadsFront c.args.at (c.loop-number.number + 1) (c.loop-number.bytes.items ++ c.in_ok-block.block.items)) _ _ _
          (λ a b d front both. front-more c.args.at c.loop-number.number c.loop-number.bytes.items c.in_ok-block.block.items a b d so_far (omega (arith, count, c.min-count.ensures)) front both.0 both.1)
          c.loop-number.invariant.reads
          (told-both TimePasses (ReadsBlock c.loop-number.number c.args.at c.in_ok-block.block.items) (λ (a b : Store). TimePasses a b × ReadsBlock c.loop-number.number c.args.at c.in_ok-block.block.items a b) _ _
          (λ a b t r. (t, r)) c.read_block.ensures.rest c.in_ok-block.ensures.reads));
    }
