-- One step of the reader: a value was read, and what stands behind it.
use Rattle.std.proofs.Common.{◌≡◌, ℕ, zero, suc, ◌+◌, ◌-◌, ◌<◌, ◌≤◌, true, false, List, [], ◌∷◌, ◌++◌, length, take, drop, sym, ◌∙◌, ap, subst, arith, length-append}
use Rattle.std.specs.Prelude.{Option, Some, None, slice_get, All}
use Rattle.std.proofs.lemmas.List.{take_rest, take_all, append-nil}
use Rattle.std.proofs.lemmas.List.Elements.{All-nil}
use Rattle.std.proofs.lemmas.Option.{slice_get_within}
use Rattle.ix_values.specs.declared.faults.ActionFault.{ActionFault}
use Rattle.ix_values.specs.Faults.{IsFault}
use Rattle.ix_values.specs.PlainAction.{PlainAction, text_of}
use Rattle.ix_values.specs.inside.ActionOf.{action_of}
use Rattle.ix_values.specs.inside.FirstWord.{opened, word_length, first_word, code_after_name, code_after_value}
use Rattle.ix_values.specs.Texts.{IsName, IsValue, IsAction}
use Rattle.ix_values.proofs.FirstWord.{first_word-WasRead, no_word_next, take-next}
use Rattle.ix_values.proofs.Stuck.{word_next, slice_get-drop, fault_behind_name, fault_behind_value}
use Rattle.ix_values.proofs.TextsOfActions.{text_of-push, opened-push}

-- the fault that is made of a cause and a place
pub told : (text : List ℕ) (code at : ℕ) (fault : ActionFault) → fault ≡ record { code = code; at = at } → IsFault text code at → IsFault text fault.code fault.at
told text code at fault made is = subst (λ f. IsFault text f.code f.at) (sym made) is

-- no value stands at a place
pub no_word_at : (text : List ℕ) (at : ℕ) → word_length (take (length text - at) (drop at text)) ≡ 0 → word_next (slice_get text at) ≡ false
no_word_at text at none =
    ap word_next (slice_get-drop text at ∙ sym (slice_get-drop (drop at text) 0))
    ∙ no_word_next (drop at text) (subst (λ rest. word_length rest ≡ 0) (take_rest text at) none)

-- in front of a place stand a name, `(`, some values and one more
pub record IsBehindValue (text : List ℕ) (at : ℕ) (name : List ℕ) (values : List (List ℕ)) (value : List ℕ) : Type 0 where
  pub within : at ≤ length text
  pub front : take at text ≡ opened name values ++ value
  pub full : word_next (slice_get text at) ≡ true → length value ≡ 32

pub value_read : (text : List ℕ) (at : ℕ) (name : List ℕ) (values : List (List ℕ)) (value bytes : List ℕ) → at ≤ length text → take at text ≡ opened name values → value ≡ first_word (take (length text - at) (drop at text)) → bytes ≡ value → IsBehindValue text (at + length bytes) name values value
value_read text at name values value bytes within before is same =
    subst (λ xs. IsBehindValue text (at + length xs) name values value) (sym same)
    (let read = first_word-WasRead text at value within (is ∙ ap first_word (take_rest text at)) in
    record { within = read.within; front = read.front ∙ ap (λ xs. xs ++ value) before; full = read.full })

pub next_within : (text : List ℕ) (at byte : ℕ) (next : Option ℕ) → next ≡ slice_get text at → next ≡ Some byte → at + 1 ≤ length text
next_within text at byte next here is = let below : at < length text = slice_get_within text at byte (sym here ∙ is) in omega arith

-- `)` behind the value ends the action's text
pub closed_front : (text : List ℕ) (at : ℕ) (name : List ℕ) (values : List (List ℕ)) (value : List ℕ) (next : Option ℕ) (action : PlainAction) → IsBehindValue text at name values value → next ≡ slice_get text at → next ≡ Some 41 → action ≡ action_of name (values ++ value ∷ []) → take (at + 1) text ≡ text_of action
closed_front text at name values value next action read here is same =
    take-next text (opened name values ++ value) at 41 read.front (sym here ∙ is)
    ∙ sym (ap text_of same ∙ text_of-push name values value)

-- and `,` makes room for one more value
pub comma_front : (text : List ℕ) (at : ℕ) (name : List ℕ) (values : List (List ℕ)) (value : List ℕ) (next : Option ℕ) (action : PlainAction) → IsBehindValue text at name values value → next ≡ slice_get text at → next ≡ Some 44 → action ≡ action_of name (values ++ value ∷ []) → take (at + 1) text ≡ opened action.name action.values
comma_front text at name values value next action read here is same =
    take-next text (opened name values ++ value) at 44 read.front (sym here ∙ is)
    ∙ sym (ap (λ a. opened a.name a.values) same ∙ opened-push name values value)

-- what else stands there is a fault
pub other_fault : (text : List ℕ) (at : ℕ) (name : List ℕ) (values : List (List ℕ)) (value : List ℕ) (next : Option ℕ) (count code : ℕ) → IsBehindValue text at name values value → IsName name → All IsValue values → length values < 4 → IsValue value → next ≡ slice_get text at → count ≡ length (values ++ value ∷ []) → (next ≡ Some 41 → ⊥) → ((next ≡ Some 44) × (count < 4) → ⊥) → code ≡ code_after_value next → IsFault text code at
other_fault text at name values value next count code read is are few one here counted never last coded =
    subst (λ n. IsFault text n at) (sym coded)
    (fault_behind_value text name values value at read.within read.front is are few one next (sym here) never
    (λ comma. let many : count < 4 → ⊥ = λ below. last (comma, below) in three (length values) count few (counted ∙ length-append values (value ∷ [])) many)
    (λ word. read.full (ap word_next (sym here) ∙ word)))
  where
    three : (n k : ℕ) → n < 4 → k ≡ n + 1 → (k < 4 → ⊥) → n ≡ 3
    three n k below e many = omega arith

none_past : (text : List ℕ) (at : ℕ) → slice_get text at ≡ None → length text ≤ at
none_past [] at none = omega arith
none_past (x ∷ xs) zero none = cc
none_past (x ∷ xs) (suc at) none = let rest : length xs ≤ at = none_past xs at none in omega arith

-- in front of a place stands a name
pub record IsBehindName (text : List ℕ) (at : ℕ) (name : List ℕ) : Type 0 where
  pub within : at ≤ length text
  pub front : take at text ≡ name
  pub full : word_next (slice_get text at) ≡ true → length name ≡ 32

pub name_read : (text name bytes : List ℕ) → name ≡ first_word text → bytes ≡ name → IsBehindName text (length bytes) name
name_read text name bytes is same =
    subst (λ xs. IsBehindName text (length xs) name) (sym same)
    (let read = first_word-WasRead text 0 name (omega arith) is in
    let none : 0 + length name ≡ length name = omega arith in
    record {
      within = subst (λ n. n ≤ length text) none read.within;
      front = subst (λ n. take n text ≡ name) none read.front;
      full = subst (λ n. word_next (slice_get text n) ≡ true → length name ≡ 32) none read.full;
    })

-- the name of an action without values, or `(` behind it

pub name_only : (text : List ℕ) (at : ℕ) (name : List ℕ) (next : Option ℕ) (action : PlainAction) → IsBehindName text at name → IsName name → next ≡ slice_get text at → next ≡ None → action ≡ action_of name [] → IsAction action × (text_of action ≡ text)
name_only text at name next action read is here none same =
    let past : length text ≤ at = none_past text at (sym here ∙ none) in (
      subst IsAction (sym same) (record { name = is; values = All-nil IsValue; few = omega arith }),
      ap text_of same ∙ append-nil name ∙ sym read.front ∙ take_all at text past,
    )

pub opened_front : (text : List ℕ) (at : ℕ) (name : List ℕ) (next : Option ℕ) (byte : ℕ) (action : PlainAction) → IsBehindName text at name → next ≡ slice_get text at → next ≡ Some byte → byte ≡ 40 → action ≡ action_of name [] → take (at + 1) text ≡ opened action.name action.values
opened_front text at name next byte action read here is opens same =
    take-next text name at 40 read.front (sym here ∙ is ∙ ap Some opens)
    ∙ sym (ap (λ a. opened a.name a.values) same)

pub name_fault : (text : List ℕ) (at : ℕ) (name : List ℕ) (next : Option ℕ) (byte code : ℕ) → IsBehindName text at name → IsName name → next ≡ slice_get text at → next ≡ Some byte → (byte ≡ 40 → ⊥) → code ≡ code_after_name byte → IsFault text code at
name_fault text at name next byte code read is here some never coded =
    subst (λ n. IsFault text n at) (sym coded)
    (fault_behind_name text name at byte read.within read.front is (sym here ∙ some) never
    (λ word. read.full (ap word_next (sym here ∙ some) ∙ word)))
