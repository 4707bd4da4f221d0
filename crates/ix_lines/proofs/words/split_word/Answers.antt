use Rattle.std.proofs.Common.{◌≡◌, ℕ, ◌+◌, ◌-◌, List, length, take, drop, arith, sym}
use Rattle.std.proofs.lemmas.Grind.{common_steps}
use Rattle.ix_lines.proofs.WordLemmas.{front-plain, cut-at, words-at, none-plain, words-none}
use Rattle.ix_lines.proofs.words.split_word.Goals as goal

take-drop_rest : (at : ℕ) (xs : List ℕ) → take (length xs - (at + 1)) (drop (at + 1) xs) ≡ drop (at + 1) xs
take-drop_rest at xs = grind (arith, common_steps)

pub returns-in-Some-clause-words : goal.returns-in-Some-clause-words
returns-in-Some-clause-words c = rw take-drop_rest (words-at c.args.text.now c.in-Some.at (sym c.in-Some.ensures))

pub returns-in-Some-clause-plain : goal.returns-in-Some-clause-plain
returns-in-Some-clause-plain c = front-plain c.args.text.now c.in-Some.at (sym c.in-Some.ensures)

pub returns-in-Some-clause-bytes : goal.returns-in-Some-clause-bytes
returns-in-Some-clause-bytes c = rw take-drop_rest (cut-at c.args.text.now c.in-Some.at (sym c.in-Some.ensures))

pub returns-in-None-clause-words : goal.returns-in-None-clause-words
returns-in-None-clause-words c = words-none c.args.text.now (sym c.in-None.ensures)

pub returns-in-None-clause-plain : goal.returns-in-None-clause-plain
returns-in-None-clause-plain c = none-plain c.args.text.now (sym c.in-None.ensures)
