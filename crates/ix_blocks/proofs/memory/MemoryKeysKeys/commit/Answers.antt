use Rattle.ix_blocks.specs.inside.MemoryStore.{store_of}
use Rattle.ix_blocks.specs.inside.PlainBlocks.{plain_request}
use Rattle.ix_blocks.proofs.InMemory.{sends-nothing, sends, sends-on, come-passes, come-answers}
use Rattle.ix_blocks.proofs.memory.MemoryKeysKeys.commit.Goals as goal

pub returns-in_default-clause-rest : goal.returns-in_default-clause-rest
returns-in_default-clause-rest c =
    sends-nothing (plain_request c.args.request) (store_of c.args.self.now) (store_of c.send.new.self) c.in_default.ensures.err

pub returns-then-not-begin-clause-rest : goal.returns-then-not-begin-clause-rest
returns-then-not-begin-clause-rest c =
    sends (plain_request c.args.request) (store_of c.args.self.now) (store_of c.send.new.self) (store_of c.begin.new.self) c.in-Ok.ensures.sent c.in-Ok.ensures.register c.begin.ensures

pub returns-clause-answers : goal.returns-clause-answers
returns-clause-answers c =
    come-answers (plain_request c.args.request) (store_of c.args.self.now) (store_of c.send.new.self) (store_of c.begin.new.self) (store_of c.come.new.self) c.in-Ok.which c.come.result
    c.in-Ok.ensures.sent c.in-Ok.ensures.register c.begin.ensures c.in-Ok.ensures.number c.come.ensures.says c.come.ensures.register

pub returns-clause-rest : goal.returns-clause-rest
returns-clause-rest c =
    sends-on (plain_request c.args.request) (store_of c.args.self.now) (store_of c.send.new.self) (store_of c.begin.new.self) c.in-Ok.ensures.sent c.in-Ok.ensures.register c.begin.ensures
    (store_of c.come.new.self) c.in-Ok.which c.in-Ok.ensures.number
    (come-passes (store_of c.begin.new.self) (store_of c.come.new.self) c.in-Ok.which c.come.result c.come.ensures.within c.come.ensures.register c.come.ensures.sent c.come.ensures.err)
