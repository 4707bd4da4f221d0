-- A store in memory, as its calls change it.
use Rattle.std.proofs.Common.{◌≡◌, ◌≢◌, inl, inr, ℕ, zero, suc, ◌+◌, ◌<◌, ◌==◌, if◌then◌else◌, nat_lt, List, [], ◌∷◌, ◌++◌, length, map, get_or, Option, None, Some, Result, Ok, Err, IfOk, OnOk, OnErr, refl, sym, ap, ap₂, ◌∙◌, subst, arith}
use Rattle.std.proofs.lemmas.Bool.{eq-eqb, ne_eqb}
use Rattle.std.proofs.lemmas.List.{map-append, get_or_append_left, get_or-map}
use Rattle.std.proofs.Math.Seq.{get_or-append_seam}
use Rattle.ix_words.specs.Each.{no_item, item, Member, here, there}
use Rattle.ix_blocks.specs.Register.{Register, Transaction, seen_of, changed, apply, put_block, put_blocks, delete_from}
use Rattle.ix_blocks.specs.declared.claim.Commit.{Commit}
use Rattle.ix_blocks.specs.declared.claim.Commit.TheVariants.{Applied, Refused}
use Rattle.ix_blocks.specs.declared.request.Request.{Request}
use Rattle.ix_blocks.specs.inside.PlainBlocks.{plain_request}
use Rattle.ix_blocks.specs.declared.keys.Unanswered.{Unanswered}
use Rattle.ix_blocks.specs.Owners.{raised_elsewhere}
use Rattle.ix_blocks.specs.Stores.{Store, on_these, on_others}
use Rattle.ix_blocks.specs.inside.StoreCalls.{Meanwhile, TimePasses, answer_of, sent_with, SendsOne, AnswersSo}
use Rattle.ix_blocks.specs.inside.MemoryStore.{asks_nothing, blocks_behind, blocks_after, picked}
use Rattle.ix_blocks.proofs.Taking.{passes-join}

pub time-same : (a b : Store) → b.register ≡ a.register → b.sent ≡ a.sent → TimePasses a b
time-same a b e f = record { register = record { arrivals = []; were_sent = no_item; makes = e }; sent = f }

pub time-rises : (a b : Store) → b.register ≡ raised_elsewhere a.register → b.sent ≡ a.sent → TimePasses a b
time-rises a b e f = record { register = record { arrivals = on_others ∷ []; were_sent = item tt no_item; makes = e }; sent = f }

placed : (xs : List Transaction) (which : ℕ) → which < length xs → Member (get_or xs which asks_nothing) xs
placed [] which low = absurd (omega (arith, low))
placed (x ∷ xs) zero low = here
placed (x ∷ xs) (suc which) low = there (placed xs which (omega (arith, low)))

pub time-comes : (a b : Store) (which : ℕ) → which < length a.sent → b.register ≡ apply (get_or a.sent which asks_nothing) a.register → b.sent ≡ a.sent → TimePasses a b
time-comes a b which low e f =
    record {
      register = record { arrivals = on_these (get_or a.sent which asks_nothing) ∷ []; were_sent = item (placed a.sent which low) no_item; makes = e };
      sent = f;
    }

-- whatever a transaction that comes is answered
pub come-passes : (a b : Store) (which : ℕ) (r : Result Commit Unanswered) → OnOk r (which < length a.sent) → OnOk r (b.register ≡ apply (get_or a.sent which asks_nothing) a.register) → b.sent ≡ a.sent → OnErr r (b ≡ a) → TimePasses a b
come-passes a b which (Ok says) low e f same = time-comes a b which low e f
come-passes a b which (Err u) low e f same = time-same a b (ap (λ (s : Store). s.register) same) f

-- a transaction that doesn't fit
pub refused : (t : Transaction) (r : Register) → t.guard ≢ r.revision → Refused (seen_of r) ≡ answer_of t r
refused t r n = sym (ap (λ b. if b then Applied (r.newest + 1) else Refused (seen_of r)) (ne_eqb t.guard r.revision n))

pub refused-register : (t : Transaction) (r : Register) → t.guard ≢ r.revision → r ≡ apply t r
refused-register t r n = sym (ap (λ b. if b then changed t r else r) (ne_eqb t.guard r.revision n))

-- and one that does
pub applied : (t : Transaction) (r : Register) (newest : ℕ) → t.guard ≡ r.revision → newest ≡ r.newest + 1 → Applied newest ≡ answer_of t r
applied t r newest e f = ap Applied f ∙ sym (ap (λ b. if b then Applied (r.newest + 1) else Refused (seen_of r)) (eq-eqb t.guard r.revision e))

pub applied-register : (t : Transaction) (r made : Register) → t.guard ≡ r.revision → made ≡ changed t r → made ≡ apply t r
applied-register t r made e f = f ∙ sym (ap (λ b. if b then changed t r else r) (eq-eqb t.guard r.revision e))

after-append : (blocks : ℕ → List ℕ) (xs ys : List Transaction) → blocks_after blocks (xs ++ ys) ≡ blocks_after (blocks_after blocks xs) ys
after-append blocks [] ys = refl
after-append blocks (x ∷ xs) ys = after-append (blocks_behind blocks x) xs ys

pub one-more : (sent : List Transaction) (places : List ℕ) (which : ℕ) → blocks_after (λ n. []) (picked sent (places ++ which ∷ [])) ≡ blocks_behind (blocks_after (λ n. []) (picked sent places)) (get_or sent which asks_nothing)
one-more sent places which =
    ap (blocks_after (λ n. [])) (map-append (λ w. get_or sent w asks_nothing) places (which ∷ []))
    ∙ after-append (λ n. []) (picked sent places) (get_or sent which asks_nothing ∷ [])

pub register-made : (t : Transaction) (r made : Register) → made.head ≡ t.head → made.revision ≡ r.newest + 1 → made.newest ≡ r.newest + 1 → made.blocks ≡ blocks_behind r.blocks t → made ≡ changed t r
register-made t r made h v n b = λ i. record { head = h i; revision = v i; blocks = b i; newest = n i }

-- what is sent later makes no difference to what was applied
pub picked-more : (sent more : List Transaction) (places : List ℕ) → ((place : ℕ) → place < length places → get_or places place 0 < length sent) → picked (sent ++ more) places ≡ picked sent places
picked-more sent more [] low = refl
picked-more sent more (which ∷ places) low =
    ap₂ (λ t ts. t ∷ ts) (get_or_append_left sent more asks_nothing which (low zero (omega arith)))
    (picked-more sent more places (λ place h. low (suc place) (omega (arith, h))))

-- a call that sends
pub sends-nothing : (t : Transaction) (a b : Store) → b ≡ a → SendsOne t a b
sends-nothing t a b e =
    record {
      register = record { arrivals = []; were_sent = no_item; makes = ap (λ (s : Store). s.register) e };
      sent = inl (ap (λ (s : Store). s.sent) e);
    }

module _ (t : Transaction) (a b c : Store) (sent : b.sent ≡ a.sent ++ t ∷ []) (register : b.register ≡ a.register) (time : TimePasses b c) where
  pub sent-passes : Meanwhile (sent_with a t) a.register c.register
  sent-passes = subst (λ (x : List Transaction). Meanwhile x a.register c.register) sent (subst (λ (r : Register). Meanwhile b.sent r c.register) register time.register)

  pub sends : SendsOne t a c
  sends = record { register = sent-passes; sent = inr (time.sent ∙ sent) }

  module _ (d : Store) (which : ℕ) (number : which ≡ length a.sent) where
    own : get_or c.sent which asks_nothing ≡ t
    own = ap₂ (λ (xs : List Transaction) n. get_or xs n asks_nothing) (time.sent ∙ sent) number ∙ get_or-append_seam a.sent t [] asks_nothing

    pub answers : (says : Commit) → says ≡ answer_of (get_or c.sent which asks_nothing) c.register → d.register ≡ apply (get_or c.sent which asks_nothing) c.register → AnswersSo t says a d
    answers says e f =
        record {
          moment = c.register;
          until = sent-passes;
          answers = e ∙ ap (λ x. answer_of x c.register) own;
          since = record { arrivals = []; were_sent = no_item; makes = f ∙ ap (λ x. apply x c.register) own };
        }

    pub sends-on : TimePasses c d → SendsOne t a d
    sends-on later =
        record {
          register = passes-join (sent_with a t) a.register c.register d.register sent-passes (subst (λ (x : List Transaction). Meanwhile x c.register d.register) (time.sent ∙ sent) later.register);
          sent = inr (later.sent ∙ time.sent ∙ sent);
        }

-- bytes of one block
pub put-at : (puts : List (ℕ × List ℕ)) (f g : ℕ → List ℕ) (number : ℕ) → f number ≡ g number → put_blocks f puts number ≡ put_blocks g puts number
put-at [] f g number e = e
put-at (put ∷ puts) f g number e = put-at puts (put_block f put) (put_block g put) number (ap (λ x. if number == put.0 then put.1 else x) e)

pub put-this : (put : ℕ × List ℕ) (puts : List (ℕ × List ℕ)) (bytes : List ℕ) (number : ℕ) → put.0 ≡ number → put_blocks (λ n. put.1) puts number ≡ put_blocks (λ n. bytes) (put ∷ puts) number
put-this put puts bytes number e = put-at puts (λ n. put.1) (put_block (λ n. bytes) put) number (sym (ap (λ b. if b then put.1 else bytes) (eq-eqb number put.0 (sym e))))

pub put-another : (put : ℕ × List ℕ) (puts : List (ℕ × List ℕ)) (bytes : List ℕ) (number : ℕ) → put.0 ≢ number → put_blocks (λ n. bytes) puts number ≡ put_blocks (λ n. bytes) (put ∷ puts) number
put-another put puts bytes number d = put-at puts (λ n. bytes) (put_block (λ n. bytes) put) number (sym (ap (λ b. if b then put.1 else bytes) (ne_eqb number put.0 (λ e. d (sym e)))))

pub behind-at : (t : Transaction) (f g : ℕ → List ℕ) (number : ℕ) → f number ≡ g number → blocks_behind f t number ≡ blocks_behind g t number
behind-at t f g number e = chosen t.gone_from
  where
    same : put_blocks f t.puts number ≡ put_blocks g t.puts number
    same = put-at t.puts f g number e

    chosen : (gone : Option ℕ) → delete_from (put_blocks f t.puts) gone number ≡ delete_from (put_blocks g t.puts) gone number
    chosen None = same
    chosen (Some from) = ap (λ x. if nat_lt number from then x else []) same

pub after-at : (ts : List Transaction) (f g : ℕ → List ℕ) (number : ℕ) → f number ≡ g number → blocks_after f ts number ≡ blocks_after g ts number
after-at [] f g number e = e
after-at (t ∷ ts) f g number e = after-at ts (blocks_behind f t) (blocks_behind g t) number (behind-at t f g number e)

-- what a call of `come` says of a request
pub asked : (items : List Request) (which : ℕ) (r : Request) → which < length items → r ≡ get_or items which r → get_or (map plain_request items) which asks_nothing ≡ plain_request r
asked items which r low e = get_or-map plain_request items which r asks_nothing low ∙ ap plain_request (sym e)

-- what a call of `commit` tells of its last step
pub come-answers : (t : Transaction) (a b c d : Store) (which : ℕ) (r : Result Commit Unanswered) → b.sent ≡ a.sent ++ t ∷ [] → b.register ≡ a.register → TimePasses b c → which ≡ length a.sent → IfOk r (λ says. says ≡ answer_of (get_or c.sent which asks_nothing) c.register) → OnOk r (d.register ≡ apply (get_or c.sent which asks_nothing) c.register) → IfOk r (λ says. AnswersSo t says a d)
come-answers t a b c d which (Ok says) sent register time number e f = answers t a b c sent register time d which number says e f
come-answers t a b c d which (Err u) sent register time number e f = tt
