-- The three words of an ask.
use Rattle.std.proofs.Common.{◌≡◌, ℕ, List, [], ◌∷◌, length, get_or, map, sym, ◌∙◌, ap, arith, decimal}
use Rattle.ix_values.specs.PlainAction.{PlainAction, text_of}
use Rattle.ix_values.specs.Texts.{IsAction}
use Rattle.std.proofs.lemmas.Fmt.{decimal_injective}
use Rattle.ix_lines.specs.Numbers.{IsNumber}
use Rattle.ix_proto.specs.Requests.{IsLease}
use Rattle.ix_client.specs.Client.{NamesAsk}

-- three words, of which the second and the third were looked up
pub three_words : {A : Type 0} (f : A → List ℕ) (xs : List A) (x y : A) → length xs ≡ 3 → x ≡ get_or xs 1 x → y ≡ get_or xs 2 y
    → (socket : List ℕ) × (map f xs ≡ socket ∷ f x ∷ f y ∷ [])
three_words f (a ∷ b ∷ c ∷ []) x y long first second = (f a, ap (λ v. f a ∷ f v ∷ f c ∷ []) (sym first) ∙ ap (λ v. f a ∷ f x ∷ f v ∷ []) (sym second))
three_words f [] x y long first second = absurd (omega (arith, long))
three_words f (a ∷ []) x y long first second = absurd (omega (arith, long))
three_words f (a ∷ b ∷ []) x y long first second = absurd (omega (arith, long))
three_words f (a ∷ b ∷ c ∷ d ∷ xs) x y long first second = absurd (omega (arith, long))

-- the words of an ask are its action and its lease
pub names_both : (words : List (List ℕ)) (socket action lease : List ℕ) (a : PlainAction) (n : ℕ) → words ≡ socket ∷ action ∷ lease ∷ []
    → NamesAsk words a n → (text_of a ≡ action) × (lease ≡ decimal n)
names_both words socket action lease a n is names =
    let same : socket ∷ action ∷ lease ∷ [] ≡ names.socket ∷ text_of a ∷ decimal n ∷ [] = sym is ∙ names.words_are in (cc, cc)

pub names_it : (words : List (List ℕ)) (socket action lease : List ℕ) (a : PlainAction) (n : ℕ) → words ≡ socket ∷ action ∷ lease ∷ []
    → IsAction a → text_of a ≡ action → IsLease n → lease ≡ decimal n → NamesAsk words a n
names_it words socket action lease a n is valid text short number = record {
  socket = socket;
  words_are = is ∙ ap (λ (v : List ℕ). socket ∷ v ∷ lease ∷ []) (sym text) ∙ ap (λ (v : List ℕ). socket ∷ text_of a ∷ v ∷ []) number;
  action = valid;
  short = short;
}

-- 0 is no lease
pub no_lease : (text : List ℕ) (number lease : ℕ) → number ≡ 0 → IsNumber 86400001 text number → IsLease lease → text ≡ decimal lease → ⊥
no_lease text number lease none read is same =
    let equal : number ≡ lease =
    decimal_injective number lease (omega (arith, read.fits)) (omega (arith, is.high)) (sym read.same ∙ same) in
    omega (arith, is.low, equal, none)
