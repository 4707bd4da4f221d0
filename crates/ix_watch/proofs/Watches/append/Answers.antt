use Rattle.std.proofs.Common.{◌≡◌, List, false, ap, ◌∙◌, refl, ◌++◌, ◌∷◌, []}
use Rattle.std.specs.List.{list_any}
use Rattle.std.specs.Map.{keys_of}
use Rattle.indexmap.specs.IndexMap.{insert_entry}
use Rattle.ix_watch.specs.declared.pairs.Pair.{Pair}
use Rattle.ix_watch.specs.declared.Mark.{Mark}
use Rattle.ix_watch.specs.lemmas.Pairs.{pair_eq}
use Rattle.ix_watch.specs.inside.Kept.{watch_of, watches_of}
use Rattle.ix_watch.specs.inside.Watches.{PlainWatch, is_watched}
use Rattle.ix_watch.proofs.EntryLemmas.{Entries, insert-new, watches-new, is_watched-keys}
use Rattle.ix_watch.proofs.Watches.append.Goals as goal
use Rattle.ix_watch.proofs.Watches.append.Goals.{in-Ok, in-Err}

pub returns-clause-ok : goal.returns-clause-ok
returns-clause-ok c = elim c.match-insert.branch [
  | in-Ok w ↦ rw w.result-is (refl, appended c.self.inside.marks.entries _ c.args.pair c.args.mark c.args.self.now c.self.view_is c.requires.new w.in-Ok.ensures.entries)
  | in-Err w ↦ rw w.result-is tt
]
  where
    appended : (entries now : Entries) (pair : Pair) (mark : Mark) (watches : List PlainWatch) → watches_of entries ≡ watches
        → is_watched pair.name pair.action watches ≡ false → now ≡ insert_entry pair_eq entries pair mark
        → watches_of now ≡ watches ++ watch_of (pair, mark) ∷ []
    appended entries now pair mark watches is none inserted =
        let fresh : list_any (pair_eq pair) (keys_of entries) ≡ false =
        is_watched-keys pair entries ∙ ap (is_watched pair.name pair.action) is ∙ none in
        ap watches_of (inserted ∙ insert-new entries pair mark fresh) ∙ watches-new entries pair mark ∙ ap (λ ws. ws ++ watch_of (pair, mark) ∷ []) is
