-- TraceAnswers to one action and to several.
use Rattle.std.proofs.Common.{◌≡◌, ◌≢◌, ◌⊎◌, inl, inr, ℕ, List, [], ◌∷◌, ◌++◌, refl, sym, ap, subst, ◌∙◌, append_assoc, arith, length}
use Rattle.std.proofs.lemmas.List.{append-nil}
use Rattle.ix_values.specs.PlainAction.{PlainAction, Word}
use Rattle.ix_expr.specs.Form.{Form}
use Rattle.ix_outside.specs.Sink.{IsFront}
use Rattle.ix_journal.proofs.KindLemmas.{cons_head, cons_tail}
use Rattle.ix_manage.specs.Trace.{TraceAnswers, Verdict, done, no, full, large, yes}

-- the answers to a front, and those to what is behind it
pub answers_join : {x : Form} {limit : ℕ} {history middle after front back : Word} {text more : List ℕ} → TraceAnswers x limit history front text middle → TraceAnswers x limit middle back more after
    → TraceAnswers x limit history (front ++ back) (text ++ more) after
answers_join done rest = rest
answers_join (no none answers) rest = no none (answers_join answers rest)
answers_join (full partial many answers) rest = full partial many (answers_join answers rest)
answers_join (large partial room above answers) rest = large partial room above (answers_join answers rest)
answers_join (yes partial room small answers) rest = yes partial room small (answers_join answers rest)

-- answers under an equal form and an equal limit
pub answers_same : {x y : Form} {limit most : ℕ} {history actions after : Word} {text : List ℕ} → y ≡ x → most ≡ limit → TraceAnswers y most history actions text after → TraceAnswers x limit history actions text after
answers_same {x = x} {most = most} {history = history} {actions = actions} {after = after} {text = text} form bound answers =
    subst (λ l. TraceAnswers x l history actions text after) bound (subst (λ z. TraceAnswers z most history actions text after) form answers)

-- the last line under an equal form
pub verdict_same : {x y : Form} {history : Word} {last : List ℕ} → y ≡ x → Verdict y history last → Verdict x history last
verdict_same {history = history} {last = last} form verdict = subst (λ z. Verdict z history last) form verdict

filled : {A : Type 0} (first : A) (rest : List A) → first ∷ rest ≢ []
filled first rest same = absurd (omega (arith, ap length same))

longer_front : {byte first : ℕ} {one text front : List ℕ} → first ≡ byte
    → IsFront front one ⊎ ((more : List ℕ) × IsFront more text × (front ≡ one ++ more))
    → IsFront (first ∷ front) (byte ∷ one) ⊎ ((more : List ℕ) × IsFront more text × (first ∷ front ≡ (byte ∷ one) ++ more))
longer_front {byte = byte} {front = front} same (inl here) =
    inl (here.0, ap (λ b. b ∷ (front ++ here.0)) same ∙ ap (λ bytes. byte ∷ bytes) here.1)
longer_front {byte = byte} {front = front} same (inr there) =
    inr (there.0, there.1, ap (λ b. b ∷ front) same ∙ ap (λ bytes. byte ∷ bytes) there.2)

-- where there are no actions, there are no answers
pub answers_none : {x : Form} {limit : ℕ} {history actions after : Word} {text : List ℕ} → TraceAnswers x limit history actions text after → actions ≡ [] → text ≡ []
answers_none done none = refl
answers_none (no {actions = actions} {action = action} none answers) same = absurd (filled action actions same)
answers_none (full {actions = actions} {action = action} partial many answers) same = absurd (filled action actions same)
answers_none (large {actions = actions} {action = action} partial room above answers) same = absurd (filled action actions same)
answers_none (yes {actions = actions} {action = action} partial room small answers) same = absurd (filled action actions same)

-- bytes that are some front of two texts are a front of the first, or the first and a front of the second
front_of_two : (one text front : List ℕ) → IsFront front (one ++ text)
    → IsFront front one ⊎ ((more : List ℕ) × IsFront more text × (front ≡ one ++ more))
front_of_two [] text front is = inr (front, is, refl)
front_of_two (byte ∷ one) text [] is = inl (byte ∷ one, refl)
front_of_two (byte ∷ one) text (first ∷ front) is =
    longer_front (cons_head first byte (front ++ is.0) (one ++ text) is.1)
    (front_of_two one text front (is.0, cons_tail first byte (front ++ is.0) (one ++ text) is.1))

-- Some front of answers: those to the actions before one, and some front of the answer to that one.
pub record EndsWithin (x : Form) (limit : ℕ) (history actions : Word) (front : List ℕ) : Type 0 where
  pub before : Word
  pub action : PlainAction
  pub behind : Word
  pub split : before ++ action ∷ behind ≡ actions
  pub whole : List ℕ
  pub middle : Word
  pub answers : TraceAnswers x limit history before whole middle
  pub part : List ℕ
  pub after : Word
  pub next : TraceAnswers x limit middle (action ∷ []) part after
  pub end : List ℕ
  pub is_front : IsFront end part
  pub same : front ≡ whole ++ end

module _ {x : Form} {limit : ℕ} {history middle : Word} {action : PlainAction} {one front : List ℕ} (answer : TraceAnswers x limit history (action ∷ []) one middle) where
  ends_here : (actions : Word) → IsFront front one → EndsWithin x limit history (action ∷ actions) front
  ends_here actions is = record {
    before = [];
    action = action;
    behind = actions;
    split = refl;
    whole = [];
    middle = history;
    answers = done;
    part = one;
    after = middle;
    next = answer;
    end = front;
    is_front = is;
    same = refl;
  }

  ends_later : (actions : Word) (more : List ℕ) → EndsWithin x limit middle actions more → front ≡ one ++ more
      → EndsWithin x limit history (action ∷ actions) front
  ends_later actions more later is = record {
    before = action ∷ later.before;
    action = later.action;
    behind = later.behind;
    split = ap (λ word. action ∷ word) later.split;
    whole = one ++ later.whole;
    middle = later.middle;
    answers = answers_join answer later.answers;
    part = later.part;
    after = later.after;
    next = later.next;
    end = later.end;
    is_front = later.is_front;
    same = is ∙ ap (λ bytes. one ++ bytes) later.same ∙ sym (append_assoc one later.whole later.end);
  }

  ends_in_two : (actions : Word) (text : List ℕ) → actions ≢ []
      → ((more : List ℕ) → IsFront more text → actions ≢ [] → EndsWithin x limit middle actions more)
      → IsFront front one ⊎ ((more : List ℕ) × IsFront more text × (front ≡ one ++ more))
      → EndsWithin x limit history (action ∷ actions) front
  ends_in_two actions text some later (inl here) = ends_here actions here
  ends_in_two actions text some later (inr there) = ends_later actions there.0 (later there.0 there.1 some) there.2

  ends_step : (actions : Word) (text : List ℕ) {after : Word} → TraceAnswers x limit middle actions text after
      → ((more : List ℕ) → IsFront more text → actions ≢ [] → EndsWithin x limit middle actions more)
      → IsFront front (one ++ text) → EndsWithin x limit history (action ∷ actions) front
  ends_step [] text rest later is =
      ends_here [] (is.0, is.1 ∙ ap (λ bytes. one ++ bytes) (answers_none rest refl) ∙ append-nil one)
  ends_step (first ∷ actions) text rest later is =
      ends_in_two (first ∷ actions) text (filled first actions) later (front_of_two one text front is)

-- some front of the answers to actions ends within the answer to one of these
pub ends_within : {x : Form} {limit : ℕ} {history actions after : Word} {text : List ℕ} → TraceAnswers x limit history actions text after
    → (front : List ℕ) → IsFront front text → actions ≢ [] → EndsWithin x limit history actions front
ends_within done front is some = absurd (some refl)
ends_within (no {actions = actions} {text = text} none answers) front is some =
    ends_step (no none done) actions text answers (ends_within answers) is
ends_within (full {actions = actions} {text = text} partial many answers) front is some =
    ends_step (full partial many done) actions text answers (ends_within answers) is
ends_within (large {actions = actions} {text = text} partial room above answers) front is some =
    ends_step (large partial room above done) actions text answers (ends_within answers) is
ends_within (yes {actions = actions} {text = text} partial room small answers) front is some =
    ends_step (yes partial room small done) actions text answers (ends_within answers) is
