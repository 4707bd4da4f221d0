use Rattle.std.proofs.Common.{◌≡◌, sym, ap, subst, ◌∙◌, Option, Some, None, ℕ}
use Rattle.std.proofs.lemmas.Map.Made.{is_some-lookup}
use Rattle.std.specs.Option.{IfSome}
use Rattle.std.specs.List.{position, position_or_len}
use Rattle.std.specs.Map.{keys_of}
use Rattle.ix_watch.specs.declared.pairs.Pair.{Pair}
use Rattle.ix_watch.specs.lemmas.Pairs.{pair_eq}
use Rattle.ix_watch.specs.inside.Kept.{watches_of}
use Rattle.ix_watch.specs.inside.Watches.{is_of, is_watched, AreDistinct}
use Rattle.ix_watch.proofs.EntryLemmas.{Entries, is_watched-keys, place-index, distinct-keys}
use Rattle.ix_watch.proofs.Watches.index_of.Goals as goal

pub returns-clause-found : goal.returns-clause-found
returns-clause-found c =
    let pair : Pair = record { name = c.args.name.now; action = c.args.action.now } in
    let entries = c.self.inside.marks.entries in
    c.get_index_of.ensures.found ∙ is_some-lookup (pair_eq pair) entries ∙ is_watched-keys pair entries
    ∙ ap (is_watched c.args.name.now c.args.action.now) c.self.view_is

pub returns-clause-place : goal.returns-clause-place
returns-clause-place c =
    let pair : Pair = record { name = c.args.name.now; action = c.args.action.now } in
    rw (← c.self.view_is) (place_of pair c.self.inside.marks.entries c.get_index_of.result c.get_index_of.ensures.index)
  where
    place_of : (pair : Pair) (es : Entries) (r : Option ℕ) → r ≡ position (pair_eq pair) (keys_of es)
        → IfSome r (λ index. index ≡ position_or_len (is_of pair.name pair.action) (watches_of es))
    place_of pair es None is = tt
    place_of pair es (Some i) is = place-index pair es i (sym is)

pub returns-clause-distinct : goal.returns-clause-distinct
returns-clause-distinct c = subst AreDistinct c.self.view_is (distinct-keys c.self.inside.marks.entries c.get_index_of.ensures.unique)
