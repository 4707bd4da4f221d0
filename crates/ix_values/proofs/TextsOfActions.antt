-- The texts of actions whose last value is named, and what each part of a text can go on with.
use Rattle.std.proofs.Common.{◌≡◌, ℕ, ◌<◌, lit≤, lit<, List, [], ◌∷◌, ◌++◌, length, refl, sym, ◌∙◌, ap, arith, rules, append_assoc, length-append}
use Rattle.std.specs.Prelude.{All}
use Rattle.std.specs.List.{flat_map}
use Rattle.std.proofs.lemmas.List.Elements.{All-push, All-nil}
use Rattle.ix_values.specs.Faults.{BeginsAction, IsActionText}
use Rattle.ix_values.specs.PlainAction.{PlainAction, text_of, text_of_rest, text_of_values}
use Rattle.ix_values.specs.inside.ActionOf.{action_of}
use Rattle.ix_values.specs.inside.FirstWord.{opened}
use Rattle.ix_values.specs.Texts.{IsName, IsValue, IsAction}

-- values with a comma behind each
abbrev pub commas : List (List ℕ) → List ℕ
commas = flat_map (λ value. value ++ 44 ∷ [])

rest-push : (values : List (List ℕ)) (value : List ℕ) → text_of_rest (values ++ value ∷ []) ≡ 44 ∷ ((commas values ++ value) ++ 41 ∷ [])
rest-push [] value = refl
rest-push (x ∷ xs) value =
    ap (λ rest. 44 ∷ (x ++ rest)) (rest-push xs value)
    ∙ ap (λ rest. 44 ∷ rest) (regroup x (commas xs) value)
  where
    regroup : (a b c : List ℕ) → a ++ (44 ∷ ((b ++ c) ++ 41 ∷ [])) ≡ (((a ++ 44 ∷ []) ++ b) ++ c) ++ 41 ∷ []
    regroup a b c = simp append_assoc

values-push : (values : List (List ℕ)) (value : List ℕ) → text_of_values (values ++ value ∷ []) ≡ 40 ∷ ((commas values ++ value) ++ 41 ∷ [])
values-push [] value = refl
values-push (x ∷ xs) value =
    ap (λ rest. 40 ∷ (x ++ rest)) (rest-push xs value)
    ∙ ap (λ rest. 40 ∷ rest) (regroup x (commas xs) value)
  where
    regroup : (a b c : List ℕ) → a ++ (44 ∷ ((b ++ c) ++ 41 ∷ [])) ≡ (((a ++ 44 ∷ []) ++ b) ++ c) ++ 41 ∷ []
    regroup a b c = simp append_assoc

-- the text of an action with a last value
pub text_of-push : (name : List ℕ) (values : List (List ℕ)) (value : List ℕ) → text_of (action_of name (values ++ value ∷ [])) ≡ (opened name values ++ value) ++ 41 ∷ []
text_of-push name values value = ap (λ rest. name ++ rest) (values-push values value) ∙ regroup name (commas values) value
  where
    regroup : (a b c : List ℕ) → a ++ (40 ∷ ((b ++ c) ++ 41 ∷ [])) ≡ ((a ++ 40 ∷ b) ++ c) ++ 41 ∷ []
    regroup a b c = simp append_assoc

pub opened-push : (name : List ℕ) (values : List (List ℕ)) (value : List ℕ) → opened name (values ++ value ∷ []) ≡ (opened name values ++ value) ++ 44 ∷ []
opened-push name values value =
    ap (λ rest. name ++ 40 ∷ rest) (commas-push values value) ∙ regroup name (commas values) value
  where
    one : (a b c : List ℕ) → (a ++ 44 ∷ []) ++ ((b ++ c) ++ 44 ∷ []) ≡ (((a ++ 44 ∷ []) ++ b) ++ c) ++ 44 ∷ []
    one a b c = simp append_assoc

    last : (c : List ℕ) → (c ++ 44 ∷ []) ++ [] ≡ c ++ 44 ∷ []
    last c = simp append_assoc

    commas-push : (vs : List (List ℕ)) (v : List ℕ) → commas (vs ++ v ∷ []) ≡ (commas vs ++ v) ++ 44 ∷ []
    commas-push [] v = last v
    commas-push (x ∷ xs) v = ap (λ rest. (x ++ 44 ∷ []) ++ rest) (commas-push xs v) ∙ one x (commas xs) v

    regroup : (a b c : List ℕ) → a ++ (40 ∷ ((b ++ c) ++ 44 ∷ [])) ≡ ((a ++ 40 ∷ b) ++ c) ++ 44 ∷ []
    regroup a b c = simp append_assoc

-- an action with one more value
pub IsAction-push : (name : List ℕ) (values : List (List ℕ)) (value : List ℕ) → IsName name → All IsValue values → length values < 4 → IsValue value → IsAction (action_of name (values ++ value ∷ []))
IsAction-push name values value is are few one = record {
  name = is;
  values = All-push IsValue values value are one;
  few = omega (arith, length-append values (value ∷ []));
}

pub goes_on_empty : BeginsAction []
goes_on_empty = record {
  action = action_of (97 ∷ []) [];
  rest = 97 ∷ [];
  valid = record { name = record { begins = refl; word = refl; short = lit≤ tt }; values = All-nil IsValue; few = lit≤ tt };
  same = refl;
}

append_nil : (xs : List ℕ) → xs ++ [] ≡ xs
append_nil xs = search rules

pub goes_on_text : (text : List ℕ) → IsActionText text → BeginsAction text
goes_on_text text is = record { action = is.action; rest = []; valid = is.valid; same = append_nil text ∙ is.same }

pub goes_on_action : (action : PlainAction) → IsAction action → BeginsAction (text_of action)
goes_on_action action is = goes_on_text (text_of action) (record { action = action; valid = is; same = refl })

pub goes_on_opened : (name : List ℕ) (values : List (List ℕ)) → IsName name → All IsValue values → length values < 4 → BeginsAction (opened name values)
goes_on_opened name values is are few = record {
  action = action_of name (values ++ (48 ∷ []) ∷ []);
  rest = 48 ∷ 41 ∷ [];
  valid = IsAction-push name values (48 ∷ []) is are few (record { begins = lit< tt; word = refl; short = lit≤ tt });
  same = sym (append_assoc (opened name values) (48 ∷ []) (41 ∷ [])) ∙ sym (text_of-push name values (48 ∷ []));
}

pub goes_on_begun : (name : List ℕ) (values : List (List ℕ)) (value : List ℕ) → IsName name → All IsValue values → length values < 4 → IsValue value → BeginsAction (opened name values ++ value)
goes_on_begun name values value is are few one = record {
  action = action_of name (values ++ value ∷ []);
  rest = 41 ∷ [];
  valid = IsAction-push name values value is are few one;
  same = sym (text_of-push name values value);
}
