use Rattle.std.proofs.Common.{◌+◌, ◌∙◌, length, sym, ap, arith}
use Rattle.ix_store.proofs.ReadCalls.{stays_join, stayed_of}
use Rattle.ix_store.proofs.Reading.{is_head, covers_few}
use Rattle.ix_store.proofs.Told.{of_told, to_told}
use Rattle.ix_store.proofs.read.read_head.Goals as goal

-- fewer bytes are there than stand in front of a text
pub returns-then-len-ne-FRONT_LENGTH-clause-head :
    goal.returns-then-len-ne-FRONT_LENGTH-clause-head
returns-then-len-ne-FRONT_LENGTH-clause-head g c =
    to_told _ (g.S.Site.state c.args.site.now).disk (λ told is.
    let first = of_told _ _ told is c.in_ok-read_more.ensures.front 0 c.new-head.ensures.items in
    let counted = c.len.ensures ∙ c.read_more.new.front.ok.0 ∙ ap length first in
    is_head told.file c.read_more.new.front.items 7 first (omega arith)
    (covers_few told.file 7 (λ e. c.if-len-ne-FRONT_LENGTH.true (counted ∙ e))))

pub returns-clause-head : goal.returns-clause-head
returns-clause-head g c =
    to_told _ (g.S.Site.state c.args.site.now).disk (λ told is.
    let length_of = c.text_length-length in
    let stays = c.read_more.ensures.reads.stays in
    let both = stays_join _ _ _ stays c.read_more-2.ensures.reads.stays in
    let first = of_told _ _ told is c.in_ok-read_more.ensures.front 0 c.new-head.ensures.items in
    let second = of_told _ _ told is (stayed_of _ _ _ stays c.in_ok-read_more-2.ensures.front)
    7 first in
    let third = of_told _ _ told is (stayed_of _ _ _ both c.in_ok-read_more-3.ensures.front)
    (7 + length_of.result) second in
    is_head told.file c.read_more-3.new.front.items (7 + length_of.result + 2) third
    (omega arith) (λ head text behind w.
    let e = length_of.ensures.value told.file head text behind
    (sym first ∙ sym c.deref.ensures.value) w in omega arith))
