-- What `stuck` puts.
use Rattle.std.specs.Prelude.{ℕ, List, [], ◌∷◌, ◌++◌, codes, decimal, length}
use Rattle.std.specs.List.{flat_map}
use Rattle.ix_values.specs.PlainAction.{text_of}
use Rattle.ix_expr.specs.Form.{Form}
use Rattle.ix_stuck.specs.declared.answer.Answer.{Answer}
use Rattle.ix_stuck.specs.declared.answer.Answer.TheVariants.{Never, Stuck, Many, Large}
use Rattle.ix_stuck.specs.declared.answer.Answer.TheVariants.{Unconfirmed}
use Rattle.ix_desk.specs.LintLines.{place_words}
use Rattle.ix_desk.specs.WhyLines.{node_text}

-- the line of an atom that no action matches any more, with its byte 10
abbrev pub gone_line : List ℕ → Form → ℕ → List ℕ
gone_line places x node =
    codes "never again at " ++ place_words places node ++ codes ": " ++ node_text x node ++ 10 ∷ []

-- the lines of an answer, where so many states may be visited
abbrev pub stuck_lines : ℕ → List ℕ → Form → Answer → List ℕ
stuck_lines most places x (Never states) = codes "never stuck " ++ decimal states ++ 10 ∷ []
stuck_lines most places x (Stuck word gone) =
    codes "stuck after " ++ decimal (length word.items) ++ 10 ∷ []
    ++ flat_map (λ action. text_of action ++ 10 ∷ []) word.items
    ++ flat_map (gone_line places x) gone.items
stuck_lines most places x Many = codes "more than " ++ decimal most ++ codes " states" ++ 10 ∷ []
stuck_lines most places x Large = codes "large" ++ 10 ∷ []
stuck_lines most places x Unconfirmed = codes "unconfirmed" ++ 10 ∷ []
