-- The words of a line, from the word behind the first one.
use Rattle.std.proofs.Common.{◌≡◌, ℕ, List, [], ◌∷◌}
use Rattle.ix_proto.specs.RequestFaults.{verb_word}
use Rattle.ix_proto.specs.declared.request.Verb.{Verb}

pub first_alone : {verb v : Verb} {words : List (List ℕ)} → verb ≡ v → words ≡ [] → verb_word verb ∷ words ≡ verb_word v ∷ []
first_alone is e = cc

pub first_and_one : {verb v : Verb} {a b : List ℕ} {words : List (List ℕ)} → verb ≡ v → words ≡ a ∷ [] → a ≡ b
    → verb_word verb ∷ words ≡ verb_word v ∷ b ∷ []
first_and_one is e f = cc

pub first_and_two : {verb v : Verb} {a b x y : List ℕ} {words : List (List ℕ)} → verb ≡ v → words ≡ a ∷ x ∷ [] → a ≡ b → x ≡ y
    → verb_word verb ∷ words ≡ verb_word v ∷ b ∷ y ∷ []
first_and_two is e f g = cc
