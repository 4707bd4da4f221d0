-- Entries and maps in memory.
use Rattle.std.proofs.Common.{◌≡◌, ◌⊎◌, inl, inr, ℕ, ◌<◌, List, [], ◌∷◌, Option, None, length, get_or, map, refl, sym, ap, ◌∙◌, subst, arith}
use Rattle.std.specs.Option.{unwrap_or}
use Rattle.ix_words.specs.Each.{Each}
use Rattle.ix_entries.specs.inside.Entries.{KeysAscend}
use Rattle.ix_values.specs.Order.{text_cmp}
use Rattle.ix_tree.specs.declared.node.Map.{Map}
use Rattle.ix_tree.specs.declared.node.Node.{Node}
use Rattle.ix_tree.specs.declared.node.Node.TheVariants.{Every, Sync}
use Rattle.ix_tree.specs.Order.{first_part}
use Rattle.ix_tree.specs.Plain.{Plain, items_of, listed}
use Rattle.ix_tree.specs.PlainOf.{plain_entry, plain_entries, plain_map}
use Rattle.ix_tree.specs.inside.PlainNode.{plain_node}
use Rattle.ix_tree.proofs.PlainLists.{items_of-listed}
use Rattle.ix_can.specs.May.{tree_at}
use Rattle.ix_can.proofs.Asking.{part_has}
use Rattle.ix_can.proofs.Keys.{keys_ascend}
use Rattle.ix_why.specs.Blames.{only}
use Rattle.ix_why.specs.Trees.{entries}
use Rattle.ix_why.specs.inside.Held.{AscendByValue, IsOwned}

pub keys_of_entries : (es : List (List ℕ × Plain)) → AscendByValue (items_of (plain_entries es)) → KeysAscend text_cmp es
keys_of_entries es h = keys_ascend es (subst AscendByValue (items_of-listed (map plain_entry es)) h)

pub node_entries : {node : Node} {t c : Plain} (es : List (List ℕ × Plain)) → (node ≡ Every c es) ⊎ (node ≡ Sync c es) → plain_node node ≡ t → entries t ≡ items_of (plain_entries es)
node_entries es (inl e) k = ap entries (sym k) ∙ ap (λ n. entries (plain_node n)) e
node_entries es (inr e) k = ap entries (sym k) ∙ ap (λ n. entries (plain_node n)) e

pub not_alone : (ms : List Map) → ¬ (length ms ≡ 1) → only (items_of (listed (map plain_map ms))) ≡ None
not_alone [] h = refl
not_alone (m ∷ []) h = absurd (h refl)
not_alone (m ∷ n ∷ ms) h = refl

pub alone_owned : (ms : List Map) (m : Map) (v : List ℕ) (s : Option Plain) → length ms ≡ 1 → m ≡ get_or ms 0 m → ((common : Plain) → unwrap_or s common ≡ tree_at v common (items_of (plain_entries m.entries))) → IsOwned v (items_of (listed (map plain_map ms))) s
alone_owned [] m v s l e h = absurd (omega (arith, l))
alone_owned (x ∷ []) m v s l e h = record { in_map = plain_map x; alone = refl; tree = λ common. h common ∙ ap (λ y. tree_at v common (items_of (plain_entries y.entries))) e }
alone_owned (x ∷ y ∷ ms) m v s l e h = absurd (omega (arith, l))

pub alone_ascends : (ms : List Map) (m : Map) → Each (λ m. AscendByValue (items_of (first_part m))) (items_of (listed (map plain_map ms))) → 0 < length ms → m ≡ get_or ms 0 m → KeysAscend text_cmp m.entries
alone_ascends ms m h l e = keys_of_entries m.entries (part_has {G = λ m. AscendByValue (items_of (first_part m))} plain_map ms 0 m h l e)
