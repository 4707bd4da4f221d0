-- What a request lends tells which one it is.
use Rattle.std.proofs.Common.{◌≡◌, ℕ, List, Bor, ◌∙◌, subst}
use Rattle.ix_values.specs.PlainAction.{PlainAction, text_of}
use Rattle.ix_values.specs.Texts.{IsAction}
use Rattle.ix_values.proofs.TextsApart.{texts_apart}
use Rattle.ix_proto.specs.Requests.{PlainRequest, ask, may, watch, drop_watch, IsRequest}
use Rattle.ix_proto.specs.inside.Lends.{LendsRequest}
use Rattle.ix_proto.specs.declared.request.Request.{Request}
use Rattle.ix_proto.specs.declared.request.Request.TheVariants as lent

-- a property of the requests that a request may stand for
abbrev pub OfEach : Request → (PlainRequest → Type 0) → Type 0
OfEach request P = (plain : PlainRequest) → IsRequest plain → LendsRequest request plain → P plain

-- two actions of one text are the same
same_action : (text : List ℕ) (a b : PlainAction) → IsAction a → text_of a ≡ text → IsAction b → text ≡ text_of b → a ≡ b
same_action text a b va ta vb tb = texts_apart a b va vb (ta ∙ tb)

module _ (P : PlainRequest → Type 0) where
  pub ask_is : (text : Bor (List ℕ)) (lease : ℕ) (a : PlainAction) → IsAction a → text_of a ≡ text.now → P (ask a lease) → OfEach (lent.Ask text lease) P
  ask_is text lease a va ta p (ask b l) valid lends =
      subst (λ (n : ℕ). P (ask b n)) lends.1 (subst (λ (c : PlainAction). P (ask c lease)) (same_action text.now a b va ta valid.0 lends.0) p)
  ask_is text lease a va ta p _ valid lends = elim lends [ ]

  pub may_is : (text : Bor (List ℕ)) (a : PlainAction) → IsAction a → text_of a ≡ text.now → P (may a) → OfEach (lent.May text) P
  may_is text a va ta p (may b) valid lends = subst (λ (c : PlainAction). P (may c)) (same_action text.now a b va ta valid lends) p
  may_is text a va ta p _ valid lends = elim lends [ ]

  pub watch_is : (name text : Bor (List ℕ)) (n : List ℕ) (a : PlainAction) → n ≡ name.now → IsAction a → text_of a ≡ text.now → P (watch n a) → OfEach (lent.Watch name text) P
  watch_is name text n a e va ta p (watch m b) valid lends =
      subst (λ (k : List ℕ). P (watch k b)) (e ∙ lends.0)
      (subst (λ (c : PlainAction). P (watch n c)) (same_action text.now a b va ta valid.1 lends.1) p)
  watch_is name text n a e va ta p _ valid lends = elim lends [ ]

  pub drop_is : (name text : Bor (List ℕ)) (n : List ℕ) (a : PlainAction) → n ≡ name.now → IsAction a → text_of a ≡ text.now → P (drop_watch n a) → OfEach (lent.Drop name text) P
  drop_is name text n a e va ta p (drop_watch m b) valid lends =
      subst (λ (k : List ℕ). P (drop_watch k b)) (e ∙ lends.0)
      (subst (λ (c : PlainAction). P (drop_watch n c)) (same_action text.now a b va ta valid.1 lends.1) p)
  drop_is name text n a e va ta p _ valid lends = elim lends [ ]
