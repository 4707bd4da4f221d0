use Rattle.std.proofs.Common.{ℕ, List, ◌++◌, length, take, drop, ◌∙◌, ap}
use Rattle.ix_store.proofs.ReadCalls.{reads_none, reads_one}
use Rattle.ix_store.proofs.Reading.{more_read}
use Rattle.ix_store.proofs.Told.{of_told, to_told}
use Rattle.ix_store.proofs.read.read_more.Goals as goal

pub returns-in_err-piece-clause-reads : goal.returns-in_err-piece-clause-reads
returns-in_err-piece-clause-reads g c = reads_none _ _ (g.met.S.Site.lawful c.args.site.now)

pub returns-in_err-read-clause-reads : goal.returns-in_err-read-clause-reads
returns-in_err-read-clause-reads g c =
    let read = c.read_at.ensures in
    reads_one _ _ _ _ (g.met.S.Site.lawful c.args.site.now) c.requires read.attached read.call
    read.rest read.file read.now

pub returns-clause-front :
    goal.returns-clause-front
returns-clause-front g c =
    to_told _ (g.S.Site.state c.args.site.now).disk (λ told is so_far front_is.
    let counted = of_told _ _ told is c.in_ok-read.ensures.value in
    let same = of_told _ _ told is c.in_ok-read.ensures.bytes in
    let sized = c.in_ok-piece.ensures.len in
    let rest = drop (length c.read_at.new.buf) c.in_ok-piece.piece.items in
    let front = c.args.front.now.items in
    let buffer = c.deref.ensures.value
    ∙ ap (λ (n : ℕ). take n (c.read_at.new.buf ++ rest)) sized in
    let made = c.in_ok-extend_from_slice.ensures.items
    ∙ ap (λ (b : List ℕ). front ++ take c.in_ok-read.read b) buffer in
    more_read told.file front c.deref_mut.result.now c.read_at.new.buf rest
    c.extend_from_slice.new.self.items so_far c.len.result c.in_ok-read.read c.args.count
    front_is (c.len.ensures ∙ c.args.front.now.ok.0) (c.deref_mut.ensures.len ∙ sized)
    c.read_at.auto.buf counted same made)

pub returns-clause-reads :
    goal.returns-clause-reads
returns-clause-reads g c =
    let read = c.read_at.ensures in
    reads_one _ _ _ _ (g.met.S.Site.lawful c.args.site.now) c.requires read.attached read.call
    read.rest read.file read.now

pub returns-in_err-extend_from_slice-clause-reads : goal.returns-in_err-extend_from_slice-clause-reads
returns-in_err-extend_from_slice-clause-reads g c =
    let read = c.read_at.ensures in
    reads_one _ _ _ _ (g.met.S.Site.lawful c.args.site.now) c.requires read.attached read.call
    read.rest read.file read.now
