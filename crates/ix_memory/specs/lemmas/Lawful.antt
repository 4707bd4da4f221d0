-- What a crash may leave of a site in memory agrees with what it tells.
use Rattle.std.specs.Prelude.{◌≡◌, ℕ, ◌≤◌, List, [], ◌∷◌, length, Bool, true, false}
use Rattle.std.specs.Prelude.{Option, Some, unwrap_or}
use Rattle.std.proofs.Common.{inl, inr, refl, sym, ◌∙◌, ap, arith}
use Rattle.std.proofs.lemmas.Option.{none-some}
use Rattle.ix_outside.specs.Contents.{GivenEvent, SentBytes, Sends}
use Rattle.ix_outside.specs.Crashes.{Left, AreLawful}
use Rattle.ix_outside.specs.Disk.{HasNothingOpened, Opened, OfFile}
use Rattle.ix_memory.specs.inside.MemorySiteState.{MemorySiteState, told_contents, told_disk}
use Rattle.ix_memory.specs.inside.MemorySiteState.{opened_where, state_of, crashes_of}
use Rattle.ix_memory.specs.inside.Moments.{LeavesImage, LeftSince}
use Rattle.ix_memory.specs.inside.PastCalls.{PastCall}

-- a tick since which something was left isn't above the last one
pub LeftSince-by_now : (calls : List PastCall) (file : List ℕ) (sent : List SentBytes) (t : ℕ)
    (left : Left) → LeftSince calls file sent t left → t ≤ length calls
LeftSince-by_now [] file sent t left since = since.0
LeftSince-by_now (call ∷ calls) file sent t left (inl before) =
    let le : t ≤ length calls = LeftSince-by_now calls call.file call.sent t left before in
    omega arith
LeftSince-by_now (call ∷ calls) file sent t left (inr (inl within)) =
    let le = within.0 in omega arith
LeftSince-by_now (call ∷ calls) file sent t left (inr (inr behind)) = behind.0

-- what is left since a later tick is left since an earlier one
pub LeftSince-earlier : (calls : List PastCall) (file : List ℕ) (sent : List SentBytes) (t u : ℕ)
    (left : Left) → t ≤ u → LeftSince calls file sent u left → LeftSince calls file sent t left
LeftSince-earlier [] file sent t u left le since =
    (let now = since.0 in omega arith, since.1, since.2)
LeftSince-earlier (call ∷ calls) file sent t u left le (inl before) =
    inl (LeftSince-earlier calls call.file call.sent t u left le before)
LeftSince-earlier (call ∷ calls) file sent t u left le (inr (inl within)) =
    inr (inl (let now = within.0 in omega arith, within.1, within.2))
LeftSince-earlier (call ∷ calls) file sent t u left le (inr (inr behind)) =
    inr (inr (let now = behind.0 in omega arith, behind.1, behind.2))

-- since this very tick just what may be left now is, beside all that was sent
pub LeftSince-now : (calls : List PastCall) (file : List ℕ) (sent : List SentBytes) (left : Left)
    → LeftSince calls file sent (length calls) left
    → LeavesImage calls file left.image × (left.sent ≡ sent)
LeftSince-now [] file sent left since = (since.1, since.2)
LeftSince-now (call ∷ calls) file sent left (inl before) =
    let le : length (call ∷ calls) ≤ length calls =
    LeftSince-by_now calls call.file call.sent _ left before in absurd (omega arith)
LeftSince-now (call ∷ calls) file sent left (inr (inl within)) =
    let le = within.0 in absurd (omega arith)
LeftSince-now (call ∷ calls) file sent left (inr (inr behind)) = (behind.1, behind.2)

pub now-LeftSince : (calls : List PastCall) (file : List ℕ) (sent : List SentBytes) (left : Left)
    → LeavesImage calls file left.image → left.sent ≡ sent
    → LeftSince calls file sent (length calls) left
now-LeftSince [] file sent left leaves all = (omega arith, leaves, all)
now-LeftSince (call ∷ calls) file sent left leaves all = inr (inr (omega arith, leaves, all))

-- the sends that are told are the site's
pub told_sends : (is_told : Bool) (given : List GivenEvent) (mine sends : Sends)
    → (told_contents is_told given mine).sends ≡ Some sends → mine ≡ sends
told_sends true given mine sends told =
    ap (λ o. unwrap_or o mine) told
told_sends false given mine sends told = absurd (none-some sends told)

told_file : (is_told : Bool) (now : List ℕ → Type 0) (file : List ℕ) (opened : Option Opened)
    → now file → OfFile now (told_disk is_told file opened)
told_file true now file opened reads = reads
told_file false now file opened reads = tt

-- where nothing is attached, nothing is told of an attach
told_nothing_opened : (is_told attached : Bool) (file name : List ℕ) (calls : List PastCall)
    → attached ≡ false
    → HasNothingOpened (told_disk is_told file (opened_where attached name calls))
told_nothing_opened true false file name calls none = refl
told_nothing_opened true true file name calls none = absurd (let e : true ≡ false = none in cc)
told_nothing_opened false attached file name calls none = tt

pub memory_is_lawful : (site : MemorySiteState) → AreLawful (state_of site) (crashes_of site)
memory_is_lawful site = record {
  unattached = told_nothing_opened site.told site.attached site.image site.name site.past;
  file = told_file site.told (LeavesImage site.past site.image) site.image _ (inl refl);
  left_now = λ image. (
    (λ left. (LeftSince-now site.past site.image site.sends.sent _ left.1).0),
    (λ now. (site.sends.sent, now-LeftSince site.past site.image site.sends.sent _ now refl)),
  );
  left_earlier = λ t u image le left.
      (left.0, LeftSince-earlier site.past site.image site.sends.sent t u _ le left.1);
  since_now = λ sends told image sent.
      let same : site.sends.sent ≡ sends.sent =
      ap (λ (s : Sends). s.sent) (told_sends site.told site.given site.sends sends told) in (
        (λ since.
            let now = LeftSince-now site.past site.image site.sends.sent _ since in
            (now.0, now.1 ∙ same)),
        (λ now. now-LeftSince site.past site.image site.sends.sent _ now.0 (now.1 ∙ sym same)),
      );
  since_earlier = LeftSince-earlier site.past site.image site.sends.sent;
  since_left = λ t left since. (left.sent, since);
  left_since = λ sends told t image left. left;
}
