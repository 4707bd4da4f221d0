use Rattle.std.proofs.Common.{◌≡◌, ◌+◌, ◌≤◌, length, take, drop}
use Rattle.std.proofs.Common.{refl, sym, ◌∙◌, ap, subst, arith}
use Rattle.std.proofs.lemmas.List.{take_rest}
use Rattle.ix_journal.specs.History.{PlainHistory}
use Rattle.ix_journal.specs.Kept.{Kept, empty_at, extended}
use Rattle.ix_journal.specs.declared.entries.Marks.{Marks}
use Rattle.ix_journal.specs.Slide.{Leaves}
use Rattle.ix_journal.specs.Entries.{renewed_of}
use Rattle.ix_journal.specs.inside.Counting.{AreMany, AreNotMany}
use Rattle.ix_store.specs.declared.fault.OpenFault.TheVariants as fault
use Rattle.ix_store.specs.inside.Reading.{ReadsOn}
use Rattle.ix_store.specs.inside.Steps.{ClosesWith, StopsReading}
use Rattle.ix_store.proofs.ReadCalls.{reads_none, reads_join}
use Rattle.ix_store.proofs.Reading.{IsOnWay, Reached, starts_on_way, starts_reached}
use Rattle.ix_store.proofs.Reading.{fed_on_way, fed_less, fed_reached}
use Rattle.ix_store.proofs.Reading.{marks_within, next_on_way, next_less, next_reached, lent_many, text_lent}
use Rattle.ix_store.proofs.Reading.{closes, damages}
use Rattle.ix_store.proofs.Told.{of_told, to_told, made}
use Rattle.ix_store.proofs.records.read_records.Goals as goal

pub records-init : goal.records-init
records-init g c =
    let head = c.args.head.now in
    let first = c.args.first in
    let count = c.take.result in
    let items = c.new-history.result in
    let slide = c.take.new.self in
    let none = sym c.new-history.ensures in
    let empty = ap (λ (k : Kept). length k.bytes) c.new-slide.ensures in
    let behind = ap length (take_rest head first) in
    let counted = c.take.ensures.count in
    let first_slide = extended (empty_at first) (take count (drop first head)) in
    let slide_is : slide ≡ first_slide =
    c.take.ensures.kept
    ∙ (λ i. extended (c.new-slide.ensures i) (take count (take_rest head first i))) in
    let within = c.requires.within in
    let disk = (g.S.Site.state c.args.site.now).disk in
    record {
      reads = reads_none _ _ (g.met.S.Site.lawful c.args.site.now);
      counts = refl;
      way = subst (IsOnWay first (first + count) items) (sym slide_is)
          (subst (λ (w : PlainHistory). IsOnWay first (first + count) w first_slide) none
          (starts_on_way head first count within (omega arith)));
      reached = to_told (Reached first (first + count) items slide) disk (λ told is.
          subst (λ (k : Kept). Reached first (first + count) items k told.file) (sym slide_is)
          (subst (λ (w : PlainHistory). Reached first (first + count) w first_slide told.file) none
          (starts_reached head first count within (omega arith) told.file
          (of_told _ _ told is c.requires.head))));
    }

-- more bytes are read
pub records-smaller-in-More : goal.records-smaller-in-More
records-smaller-in-More g c =
    let now = c.records in
    let same = subst (λ a. Leaves now.slide a c.next.follows.lender-at-none) c.in-More.is c.next.follows.holds-at-none in
    let fed = subst (λ (k : Kept). ReadsOn (g.S.Site.state now.site).disk now.at k c.in_ok-at-in-More.at
    c.feed.new.slide) same c.in_ok-at-in-More.ensures.fed in
    fed_less c.args.first now.at now.history now.slide c.in-More.ensures.tells _ _ _ fed

pub returns-in_err-at-in-More-clause-reads : goal.returns-in_err-at-in-More-clause-reads
returns-in_err-at-in-More-clause-reads g c =
    reads_join _ _ _ _ _ _ (g.met.S.Site.lawful c.feed.new.site) c.records.invariant.reads c.feed.ensures.reads

pub records-preserved-in-More : goal.records-preserved-in-More
records-preserved-in-More g c =
    let now = c.records in
    let items = now.history in
    let tells = c.in-More.ensures.tells in
    let next = c.in_ok-at-in-More.at in
    let new = c.feed.new.slide in
    let same = subst (λ a. Leaves now.slide a c.next.follows.lender-at-none) c.in-More.is c.next.follows.holds-at-none in
    let fed = subst (λ (k : Kept). ReadsOn (g.S.Site.state now.site).disk now.at k next new)
    same c.in_ok-at-in-More.ensures.fed in
    record {
      reads = reads_join _ _ _ _ _ _ (g.met.S.Site.lawful c.feed.new.site) now.invariant.reads
          c.feed.ensures.reads;
      counts = c.in_ok-at-in-More.ensures.failed ∙ now.invariant.counts;
      way = fed_on_way c.args.first now.at items now.slide tells _ next new fed now.invariant.way;
      reached = to_told (Reached c.args.first next items new)
          (g.S.Site.state c.args.site.now).disk (λ told is.
          let there = made _ _ _ told is now.invariant.reads.stays in
          fed_reached c.args.first now.at items now.slide tells told.file _ there.disk there.told
          there.makes next new fed (of_told _ _ told is now.invariant.reached));
    }

-- a record is lent
pub of_text-entry-requires : goal.of_text-entry-requires
of_text-entry-requires g c = text_lent c.records.slide c.in-Record.text c.in-Record.ensures.tells

pub are_many-requires : goal.are_many-requires
are_many-requires g c =
    let now = c.records in
    let new = c.next.follows.lender-at-none in
    let leaves = subst (λ a. Leaves now.slide a new) c.in-Record.is c.next.follows.holds-at-none in
    subst (λ (m : Marks). (renewed_of m).boots ≤ m.boots) (sym c.marks.ensures)
    (marks_within now.slide new c.in-Record.text c.of_text-entry.result c.of_text-entry.ensures leaves
    c.args.first now.at now.history now.invariant.way)

-- it makes too many
pub returns-then-are_many-clause-file : goal.returns-then-are_many-clause-file
returns-then-are_many-clause-file g c =
    let now = c.records in
    let items = now.history in
    let new = c.next.follows.lender-at-none in
    let leaves = subst (λ a. Leaves now.slide a new) c.in-Record.is c.next.follows.holds-at-none in
    let many = subst AreMany c.marks.ensures (c.are_many.ensures.many c.if-are_many.true) in
    to_told (StopsReading c.args.first fault.Many) (g.S.Site.state c.args.site.now).disk
    (λ told is.
    lent_many now.slide new c.in-Record.text c.of_text-entry.result c.of_text-entry.ensures leaves c.args.first
    now.at items told.file (of_told _ _ told is now.invariant.reached) now.invariant.way many)

-- it is kept
pub records-smaller : goal.records-smaller
records-smaller g c =
    let now = c.records in
    let new = c.next.follows.lender-at-none in
    let leaves = subst (λ a. Leaves now.slide a new) c.in-Record.is c.next.follows.holds-at-none in
    let few = subst AreNotMany c.marks.ensures (c.are_many.ensures.few c.if-are_many.false) in
    next_less now.slide new c.in-Record.text c.of_text-entry.result c.of_text-entry.ensures leaves c.args.first
    now.at now.history few now.invariant.way

pub records-preserved : goal.records-preserved
records-preserved g c =
    let now = c.records in
    let items = now.history in
    let new = c.next.follows.lender-at-none in
    let text = c.in-Record.text in
    let entry = c.of_text-entry.result in
    let says = c.of_text-entry.ensures in
    let leaves = subst (λ a. Leaves now.slide a new) c.in-Record.is c.next.follows.holds-at-none in
    let few = subst AreNotMany c.marks.ensures (c.are_many.ensures.few c.if-are_many.false) in
    let pushed = c.in_ok-keep-in-Record.ensures in
    record {
      reads = now.invariant.reads;
      counts = now.invariant.counts;
      way = subst (λ (h : PlainHistory). IsOnWay c.args.first now.at h new) (sym pushed)
          (next_on_way now.slide new text entry says leaves c.args.first now.at items few now.invariant.way);
      reached = to_told (Reached c.args.first now.at c.keep.new.history new)
          (g.S.Site.state c.args.site.now).disk (λ told is.
          subst (λ (h : PlainHistory). Reached c.args.first now.at h new told.file) (sym pushed)
          (next_reached now.slide new text entry says leaves c.args.first now.at items
          told.file (of_told _ _ told is now.invariant.reached)));
    }

-- damage, or a closed gate
pub returns-in-Damaged-clause-file : goal.returns-in-Damaged-clause-file
returns-in-Damaged-clause-file g c =
    let now = c.records in
    to_told (StopsReading c.args.first (fault.Damaged c.in-Damaged.at))
    (g.S.Site.state c.args.site.now).disk (λ told is.
    damages c.args.first now.at now.history now.slide told.file
    (of_told _ _ told is now.invariant.reached) now.invariant.way c.in-Damaged.at
    c.in-Damaged.ensures.tells)

pub returns-in-Closed-clause-file : goal.returns-in-Closed-clause-file
returns-in-Closed-clause-file g c =
    let now = c.records in
    let items = now.history in
    let gate = c.in-Closed.gate in
    let new = c.next.follows.lender-at-none in
    let same = subst (λ a. Leaves now.slide a new) c.in-Closed.is c.next.follows.holds-at-none in
    let marks = c.marks-marks.ensures ∙ ap (λ (k : Kept). k.marks) same in
    to_told (λ file. ClosesWith file c.args.first items c.marks-marks.result gate)
    (g.S.Site.state c.args.site.now).disk (λ told is.
    subst (λ (m : Marks). ClosesWith told.file c.args.first items m gate) (sym marks)
    (closes c.args.first now.at items now.slide told.file
    (of_told _ _ told is now.invariant.reached) now.invariant.way gate c.in-Closed.ensures.tells))
