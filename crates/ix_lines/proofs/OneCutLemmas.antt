-- A text has one cut.
use Rattle.std.proofs.Common.{◌||◌, ◌≡◌, ℕ, Bool, true, false, List, [], ◌∷◌, ◌++◌, refl, ◌∙◌, ap, append_assoc}
use Rattle.std.specs.List.{list_any, AllByRecursion}
use Rattle.std.proofs.lemmas.Bool.{eqb-true}
use Rattle.ix_lines.specs.Items.{Cut, cut}
use Rattle.ix_lines.specs.Cutting.{HasNoEnd}
use Rattle.ix_lines.specs.Cutting.{ended_by_ten, IsCut, CutAtEachEnd}
use Rattle.ix_lines.proofs.CutLemmas.{before, is_end, cut_plain, cut_line}

is_cut_step : (test : Bool) (byte : ℕ) (text : List ℕ) (parts : List (List ℕ)) (last : List ℕ) → is_end byte ≡ test → IsCut text parts last
    → IsCut (byte ∷ text) (before test byte (record { ended = parts; last = last })).ended (before test byte (record { ended = parts; last = last })).last
is_cut_step true byte text parts last is before_it = record {
  spells = ap (λ b. b ∷ text) (eqb-true byte 10 is) ∙ ap (λ t. 10 ∷ t) before_it.spells;
  parts_plain = (refl, before_it.parts_plain);
  last_plain = before_it.last_plain;
}
is_cut_step false byte text [] last is before_it = record {
  spells = ap (λ t. byte ∷ t) before_it.spells;
  parts_plain = tt;
  last_plain = ap (λ t. t || list_any is_end last) is ∙ before_it.last_plain;
}
is_cut_step false byte text (part ∷ parts) last is before_it = record {
  spells = ap (λ t. byte ∷ t) before_it.spells;
  parts_plain = (ap (λ t. t || list_any is_end part) is ∙ before_it.parts_plain.0, before_it.parts_plain.1);
  last_plain = before_it.last_plain;
}

is_cut : (text : List ℕ) → IsCut text (cut text).ended (cut text).last
is_cut [] = record { spells = refl; parts_plain = tt; last_plain = refl }
is_cut (byte ∷ text) = is_cut_step (is_end byte) byte text (cut text).ended (cut text).last refl (is_cut text)

cut_again : (parts : List (List ℕ)) (last : List ℕ) → AllByRecursion HasNoEnd parts → HasNoEnd last
    → cut (ended_by_ten parts ++ last) ≡ record { ended = parts; last = last }
cut_again [] last each plain = cut_plain last plain
cut_again (part ∷ parts) last each plain =
    let rest = ended_by_ten parts ++ last in
    let text : ended_by_ten (part ∷ parts) ++ last ≡ part ++ 10 ∷ rest = simp append_assoc in
    ap cut text ∙ cut_line part rest each.0
    ∙ ap (λ (c : Cut). record { ended = part ∷ c.ended; last = c.last }) (cut_again parts last each.1 plain)

pub cut_at_each_end : CutAtEachEnd
cut_at_each_end text = (
  is_cut text,
  λ parts last is. ap cut is.spells ∙ cut_again parts last is.parts_plain is.last_plain,
)
