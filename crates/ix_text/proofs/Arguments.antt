-- The text of one argument more.
use Rattle.std.proofs.Common.{◌≡◌, ℕ, ◌+◌, ◌<◌, List, [], ◌∷◌, ◌++◌, length, take, get_or, sym, ◌∙◌, ap, append_assoc, append-nil}
use Rattle.std.proofs.lemmas.List.{take_more}
use Rattle.ix_expr.specs.declared.arg.Arg.{Arg}
use Rattle.ix_expr.specs.CanonicalText.{argument_text, more_arguments_text}

more-push : (arguments : List Arg) (a : Arg) → more_arguments_text (arguments ++ a ∷ []) ≡ more_arguments_text arguments ++ (44 ∷ argument_text a)
more-push [] a = append-nil (44 ∷ argument_text a)
more-push (argument ∷ arguments) a =
    ap (λ text. (44 ∷ argument_text argument) ++ text) (more-push arguments a) ∙ sym (append_assoc (44 ∷ argument_text argument) (more_arguments_text arguments) (44 ∷ argument_text a))

-- the arguments up to and with the one at i
pub more-step : (arguments : List Arg) (i : ℕ) (a : Arg) → i < length arguments → a ≡ get_or arguments i a → more_arguments_text (take (i + 1) arguments) ≡ more_arguments_text (take i arguments) ++ (44 ∷ argument_text a)
more-step arguments i a below is =
    ap more_arguments_text (take_more arguments i a below ∙ ap (λ b. take i arguments ++ b ∷ []) (sym is)) ∙ more-push (take i arguments) a
