use Rattle.std.proofs.Common.{◌≡◌, ℕ, ◌+◌, ◌-◌, ◌≤◌, List, [], ◌∷◌, ◌++◌, length, take, get_or, sym, ◌∙◌, ap, arith}
use Rattle.std.proofs.lemmas.List.{take_more, take_all}
use Rattle.ix_values.specs.inside.ActionOf.{action_of}
use Rattle.ix_values.specs.PlainAction.{text_of}
use Rattle.ix_values.specs.inside.FirstWord.{opened}
use Rattle.ix_values.proofs.TextsOfActions.{text_of-push}
use Rattle.ix_values.proofs.actions.Action.write.Goals as goal

-- a list is what stands in front of its last item, and this item
front_and_last : (xs : List (List ℕ)) (x : List ℕ) → 1 ≤ length xs → x ≡ get_or xs (length xs - 1) x → take (length xs - 1) xs ++ x ∷ [] ≡ xs
front_and_last xs x some is =
    ap (λ y. take (length xs - 1) xs ++ y ∷ []) is
    ∙ sym (take_more xs (length xs - 1) x (omega arith))
    ∙ take_all (length xs - 1 + 1) xs (omega arith)

pub returns-in-len1-up-clause-text : goal.returns-in-len1-up-clause-text
returns-in-len1-up-clause-text c =
    let values = c.values.result.now in
    let whole = front_and_last values c.last-item.result c.in-len1-up.len_at_least c.last-item.is in
    let name : c.append.new.line.items ≡ c.args.self.now.name = grind (arith) in
    c.write_values.ensures.text
    ∙ ap (λ n. (opened n (take (length values - 1) values) ++ c.last-item.result) ++ 41 ∷ []) name
    ∙ sym (text_of-push c.args.self.now.name (take (length values - 1) values) c.last-item.result)
    ∙ ap (λ vs. text_of (action_of c.args.self.now.name vs)) (whole ∙ c.values.ensures.value)
