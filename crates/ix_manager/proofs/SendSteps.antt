-- How sends go on one after the other.
use Rattle.std.proofs.Common.{◌≡◌, ◌⊎◌, ℕ, ◌≤◌, Bool, true, false, List, [], ◌∷◌, ◌++◌, length, filter, Option, None, Result, Ok, Err, OnErr, inl, inr, refl, sym, ◌∙◌, subst, arith}
use Rattle.std.proofs.lemmas.List.{length-map}
use Rattle.std.proofs.lemmas.List.Sums.{length-filter, count_by-le-length}
use Rattle.std.specs.Result.{is_err}
use Rattle.ix_outside.specs.Counts.{Counts, Rose}
use Rattle.ix_outside.specs.Crashes.{Crashes}
use Rattle.ix_outside.specs.SiteState.{SiteState, OnlySend}
use Rattle.ix_outside.specs.Disk.{Disk}
use Rattle.ix_outside.specs.inside.DiskCalls.{DiskCalls, KeepsOpened, span}
use Rattle.ix_outside.proofs.Passing.{KeepsOpened-none, KeepsOpened-join}
use Rattle.ix_outside.proofs.Counting.{Rose-later, Rose-earlier}
use Rattle.ix_outside.specs.Contents.{Contents, SendsWhole, SendsPart, SendsBytes}
use Rattle.ix_values.specs.PlainAction.{PlainAction}
use Rattle.ix_watch.specs.inside.Watches.{PlainWatch, has_changed, changes_of}
use Rattle.ix_proto.specs.declared.reply.Reply.{Reply}
use Rattle.ix_proto.specs.declared.reply.Reply.TheVariants as reply
use Rattle.ix_manager.specs.inside.Core.{change_replies}
use Rattle.ix_manager.specs.Wire.{SendsInOrder, done, silent, sent, lost, reply_line}
use Rattle.ix_manager.specs.inside.OverSite.{OnlyServes}
use Rattle.ix_manager.specs.inside.WireState.{WireState, wired, SendsAll, poll_replies}

module _ {S : Type 0} (whole front : Reply → S → S → Type 0) where
  -- a marked connection stays marked
  stays_gone : {replies : List Reply} {marked later : Bool} {s after : S}
      → SendsInOrder whole front replies marked s later after → marked ≡ true → later ≡ true
  stays_gone done e = e
  stays_gone (silent rest) e = refl
  stays_gone (sent here rest) e = cc
  stays_gone (lost here rest) e = refl

  -- replies behind replies
  pub in_order-append : {xs ys : List Reply} {marked between later : Bool} {s t u : S}
      → SendsInOrder whole front xs marked s between t → SendsInOrder whole front ys between t later u
      → SendsInOrder whole front (xs ++ ys) marked s later u
  in_order-append done second = second
  in_order-append {ys = ys} {later = later} {u = u} (silent {reply = reply} {replies = replies} {s = s} rest) second =
      let both : SendsInOrder whole front (replies ++ ys) true s later u = in_order-append rest second in
      let e : later ≡ true = stays_gone both refl in
      let P : Bool → Type 0 = λ b. SendsInOrder whole front (replies ++ ys) true s b u in
      let Q : Bool → Type 0 = λ b. SendsInOrder whole front (reply ∷ (replies ++ ys)) true s b u in
      subst Q (sym e) (silent (subst P e both))
  in_order-append (sent here rest) second = sent here (in_order-append rest second)
  in_order-append {ys = ys} {later = later} {u = u} (lost {reply = reply} {replies = replies} {s = s} {between = between} here rest) second =
      let both : SendsInOrder whole front (replies ++ ys) true between later u = in_order-append rest second in
      let e : later ≡ true = stays_gone both refl in
      let P : Bool → Type 0 = λ b. SendsInOrder whole front (replies ++ ys) true between b u in
      let Q : Bool → Type 0 = λ b. SendsInOrder whole front (reply ∷ (replies ++ ys)) false s b u in
      subst Q (sym e) (lost here (subst P e both))

-- a mark is new in the first sends or in the later ones
marks-join : (before then now : Counts) (old between new : Bool)
    → (old ≡ false → between ≡ true → Rose before.send then.send) → (between ≡ false → new ≡ true → Rose then.send now.send)
    → before.send ≤ then.send → then.send ≤ now.send → old ≡ false → new ≡ true → Rose before.send now.send
marks-join before then now old true new first second le le2 e f = Rose-later before.send then.send now.send (first e refl) le2
marks-join before then now old false new first second le le2 e f = Rose-earlier before.send then.send now.send le (second refl f)

-- what was attached stays over a send
sent_opened : (old new : Option Disk) → (new ≡ old) ⊎ (new ≡ None) → KeepsOpened old new ⊎ (new ≡ None)
sent_opened old new (inl same) = inl (subst (KeepsOpened old) (sym same) (KeepsOpened-none old))
sent_opened old new (inr none) = inr none

join_opened : (old mid new : Option Disk) → KeepsOpened old mid ⊎ (mid ≡ None) → KeepsOpened mid new ⊎ (new ≡ None)
    → KeepsOpened old new ⊎ (new ≡ None)
join_opened old mid new first (inr none) = inr none
join_opened old mid new (inl kept) (inl keeps) = inl (KeepsOpened-join old mid new kept keeps)
join_opened old mid new (inr none) (inl keeps) = let P : Option Disk → Type 0 = λ disk. KeepsOpened disk new in inr (subst P none keeps)

-- no call
pub serves_none : (site : SiteState) → OnlyServes site site
serves_none site =
    record { disk = omega arith; wire = refl; send = omega arith; attached = refl; opened = inl (KeepsOpened-none site.disk); held = refl }

-- two stretches
pub serves_join : (a b c : SiteState) → OnlyServes a b → OnlyServes b c → OnlyServes a c
serves_join a b c first second = record {
  disk = omega (arith, first.disk, second.disk);
  wire = second.wire ∙ first.wire;
  send = omega (arith, first.send, second.send);
  attached = second.attached ∙ first.attached;
  opened = join_opened a.disk b.disk c.disk first.opened second.opened;
  held = second.held ∙ first.held;
}

-- a send
serves_send : (old new : SiteState) → OnlySend old new → OnlyServes old new
serves_send old new only = record {
  disk = omega (arith, only.disk);
  wire = only.wire;
  send = only.send;
  attached = only.attached;
  opened = sent_opened old.disk new.disk only.file;
  held = only.held;
}

-- nothing is sent
pub nothing_sent : (conn : ℕ) (w : WireState) → SendsAll conn [] w w
nothing_sent conn w = record {
  order = done;
  marks = λ e f. absurd (let h : false ≡ true = sym e ∙ f in cc);
  site = serves_none w.site;
}

-- replies are sent, and then further ones
pub sends-append : (conn : ℕ) (xs ys : List Reply) (a b c : WireState) → SendsAll conn xs a b → SendsAll conn ys b c → SendsAll conn (xs ++ ys) a c
sends-append conn xs ys a b c first second = record {
  order = in_order-append (λ reply. SendsWhole conn (reply_line reply)) (λ reply. SendsPart conn (reply_line reply)) first.order second.order;
  marks = marks-join a.site.counts b.site.counts c.site.counts a.gone b.gone c.gone
      first.marks second.marks first.site.send second.site.send;
  site = serves_join a.site b.site c.site first.site second.site;
}

-- calls of the disk send nothing
pub disk_sent : (conn : ℕ) (gone : Bool) (old new : SiteState) (was is : Crashes) → DiskCalls (span old new was is) → SendsAll conn [] (wired gone old) (wired gone new)
disk_sent conn gone old new was is calls =
    let whole : Reply → Contents → Contents → Type 0 = λ reply. SendsWhole conn (reply_line reply) in
    let front : Reply → Contents → Contents → Type 0 = λ reply. SendsPart conn (reply_line reply) in
    record {
      order = subst (λ told. SendsInOrder whole front [] gone old.contents gone told) (sym calls.rest.contents) done;
      marks = λ e f. absurd (let h : false ≡ true = sym e ∙ f in cc);
      site = record {
        disk = calls.rest.disk;
        wire = calls.rest.wire;
        send = omega (arith, calls.rest.send);
        attached = calls.attached;
        opened = inl calls.opened;
        held = calls.rest.held;
      };
    }

-- on a marked connection nothing is sent
pub silent_sent : (conn : ℕ) (reply : Reply) (w : WireState) → w.gone ≡ true → SendsAll conn (reply ∷ []) w w
silent_sent conn reply w e =
    let whole : Reply → Contents → Contents → Type 0 = λ reply. SendsWhole conn (reply_line reply) in
    let front : Reply → Contents → Contents → Type 0 = λ reply. SendsPart conn (reply_line reply) in
    let told = w.site.contents in
    let P : Bool → Type 0 = λ m. SendsInOrder whole front (reply ∷ []) m told m told in
    let nothing = nothing_sent conn w in
    record { order = subst P (sym e) (silent done); marks = nothing.marks; site = nothing.site }

-- what a send made of the wire, by its answer
pub one_sent : {T E : Type 0} (conn : ℕ) (reply : Reply) (bytes : List ℕ) (result : Result T E) (before after : WireState)
    → bytes ≡ reply_line reply → before.gone ≡ false → after.gone ≡ is_err result
    → SendsBytes conn bytes result before.site.contents after.site.contents
    → OnErr result (Rose before.site.counts.send after.site.counts.send)
    → OnlySend before.site after.site
    → SendsAll conn (reply ∷ []) before after
one_sent conn reply bytes (Ok value) before after same unmarked_before gone sends failed rest =
    let whole : Reply → Contents → Contents → Type 0 = λ reply. SendsWhole conn (reply_line reply) in
    let front : Reply → Contents → Contents → Type 0 = λ reply. SendsPart conn (reply_line reply) in
    let told = before.site.contents in
    let tells = after.site.contents in
    let here : whole reply told tells = subst (λ t. SendsWhole conn t told tells) same sends in
    let P : Bool → Bool → Type 0 = λ m n. SendsInOrder whole front (reply ∷ []) m told n tells in
    record {
      order = subst (λ m. P m after.gone) (sym unmarked_before) (subst (λ n. P false n) (sym gone) (sent here done));
      marks = λ e f. absurd (let h : false ≡ true = sym gone ∙ f in cc);
      site = serves_send before.site after.site rest;
    }
one_sent conn reply bytes (Err fault) before after same unmarked_before gone sends failed rest =
    let whole : Reply → Contents → Contents → Type 0 = λ reply. SendsWhole conn (reply_line reply) in
    let front : Reply → Contents → Contents → Type 0 = λ reply. SendsPart conn (reply_line reply) in
    let told = before.site.contents in
    let tells = after.site.contents in
    let here : front reply told tells = subst (λ t. SendsPart conn t told tells) same sends in
    let P : Bool → Bool → Type 0 = λ m n. SendsInOrder whole front (reply ∷ []) m told n tells in
    record {
      order = subst (λ m. P m after.gone) (sym unmarked_before) (subst (λ n. P false n) (sym gone) (lost here done));
      marks = λ e f. failed;
      site = serves_send before.site after.site rest;
    }

-- there are no more changes than watches
pub few_changes : (name : List ℕ) (watches : List PlainWatch) → length (changes_of name watches) ≤ length watches
few_changes name watches =
    let kept = filter (has_changed name) watches in
    let same : length (changes_of name watches) ≡ length kept = length-map kept _ in
    omega (arith, same, length-filter (has_changed name) watches, count_by-le-length (has_changed name) watches)

-- each change is one reply
pub count_replies : (changes : List (PlainAction × Bool)) → length (change_replies changes) ≡ length changes
count_replies changes = length-map changes _

-- the first change is sent, and then the others
pub first_sent : (conn : ℕ) (changes others : List (PlainAction × Bool)) (action : PlainAction) (answer : Bool) (a b c : WireState)
    → changes ≡ (action, answer) ∷ others → SendsAll conn (reply.Change answer action ∷ []) a b → SendsAll conn (change_replies others) b c
    → SendsAll conn (change_replies changes) a c
first_sent conn changes others action answer a b c e first later =
    subst (λ xs. SendsAll conn (change_replies xs) a c) (sym e) (sends-append conn (reply.Change answer action ∷ []) (change_replies others) a b c first later)

-- there are no more changes to send
pub none_left : (conn : ℕ) (changes : List (PlainAction × Bool)) (w : WireState) → changes ≡ [] → SendsAll conn (change_replies changes) w w
none_left conn changes w e = subst (λ xs. SendsAll conn (change_replies xs) w w) (sym e) (nothing_sent conn w)

-- the number of the changes is sent, and then each of them
pub poll_sent : (conn : ℕ) (changes all : List (PlainAction × Bool)) (count : ℕ) (a b c : WireState)
    → changes ≡ all → count ≡ length (change_replies all)
    → SendsAll conn (reply.Changes count ∷ []) a b → SendsAll conn (change_replies changes) b c → SendsAll conn (poll_replies all) a c
poll_sent conn changes all count a b c e f first later =
    sends-append conn (reply.Changes (length (change_replies all)) ∷ []) (change_replies all) a b c
    (subst (λ n. SendsAll conn (reply.Changes n ∷ []) a b) f first) (subst (λ xs. SendsAll conn (change_replies xs) b c) e later)
