use Rattle.std.proofs.Common.{◌≡◌, ◌+◌, List, [], ◌++◌, length, take, drop, ℕ}
use Rattle.std.proofs.Common.{sym, ◌∙◌, subst, arith}
use Rattle.std.proofs.lemmas.List.{length-take}
use Rattle.ix_store.specs.inside.Reading.{ReadsOn}
use Rattle.ix_store.proofs.ReadCalls.{reads_one}
use Rattle.ix_store.proofs.Reading.{feeds_took, piece_read, end_read}
use Rattle.ix_store.proofs.Told.{of_told, to_told}
use Rattle.ix_store.proofs.records.feed.Goals as goal

pub returns-in_err-count-clause-reads : goal.returns-in_err-count-clause-reads
returns-in_err-count-clause-reads g c =
    let read = c.read_at.ensures in
    reads_one _ _ _ _ (g.met.S.Site.lawful c.args.site.now) c.requires.attached read.attached
    read.call read.rest read.file read.now

pub returns-then-count-eq0-clause-fed : goal.returns-then-count-eq0-clause-fed
returns-then-count-eq0-clause-fed g c =
    let at = c.args.at in
    let disk = (g.S.Site.state c.args.site.now).disk in
    subst (ReadsOn disk at c.args.slide.now at) (sym c.ended.ensures)
    (ReadsOn.told_the_end (to_told (λ file. drop at file ≡ []) disk (λ told is.
    let value = of_told _ _ told is c.in_ok-count.ensures.value in
    let none = c.if-count-eq0.true in
    end_read told.file at 4096 (sym none ∙ value) (omega arith))))

pub returns-then-count-eq0-clause-reads : goal.returns-then-count-eq0-clause-reads
returns-then-count-eq0-clause-reads g c =
    let read = c.read_at.ensures in
    reads_one _ _ _ _ (g.met.S.Site.lawful c.args.site.now) c.requires.attached read.attached
    read.call read.rest read.file read.now

pub returns-clause-fed : goal.returns-clause-fed
returns-clause-fed g c =
    let at = c.args.at in
    let disk = (g.S.Site.state c.args.site.now).disk in
    let taken = c.take-taken.result in
    let count = c.in_ok-count.count in
    let buf = c.read_at.new.buf in
    let old = c.args.slide.now in
    let piece = take taken (take count buf) in
    let within = c.in_ok-count.ensures.within in
    let counted = c.take-taken.ensures.count in
    let same_room = c.read_at.auto.buf in
    let some = c.if-count-eq0.false in
    let room = c.requires.room in
    let read = length-take count buf in
    let long : length piece ≡ taken = omega (arith, length-take taken (take count buf)) in
    let P : List ℕ → Type 0 = λ file. drop at file ≡ piece ++ drop (at + taken) file in
    subst (ReadsOn disk at old (at + taken)) (sym c.take-taken.ensures.kept)
    (feeds_took disk at old piece taken long (omega arith) (omega arith)
    (to_told P disk (λ told is.
    piece_read told.file buf at count taken 4096
    (of_told _ _ told is c.in_ok-count.ensures.value) (omega arith) same_room
    (of_told _ _ told is c.in_ok-count.ensures.bytes))))

pub returns-clause-reads : goal.returns-clause-reads
returns-clause-reads g c =
    let read = c.read_at.ensures in
    reads_one _ _ _ _ (g.met.S.Site.lawful c.args.site.now) c.requires.attached read.attached
    read.call read.rest read.file read.now
