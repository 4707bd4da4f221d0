-- The watches as contracts see them, and what the calls make of them.
use Rattle.std.specs.Prelude.{◌≡◌, ℕ, Bool, true, false, not, ◌&&◌, List, [], ◌∷◌, zero, suc, map}
use Rattle.std.specs.Prelude.{filter, if◌then◌else◌}
use Rattle.std.specs.List.{list_any, AllByRecursion}
use Rattle.ix_values.specs.PlainAction.{PlainAction}
use Rattle.ix_values.specs.Order.{text_eq}
use Rattle.ix_values.specs.inside.ActionOrder.{action_eq}

-- a client's name, an action, what was last told of it, and what holds now
pub record PlainWatch : Type 0 where
  pub name : List ℕ
  pub action : PlainAction
  pub told : Bool
  pub now : Bool

-- a watch of which told is told, and holds now
abbrev pub new_watch : List ℕ → PlainAction → Bool → PlainWatch
new_watch name action told = record { name = name; action = action; told = told; now = told }

-- the test that a watch is of this pair
abbrev pub is_of : List ℕ → PlainAction → PlainWatch → Bool
is_of name action watch = text_eq name watch.name && action_eq action watch.action

-- whether the pair is watched
abbrev pub is_watched : List ℕ → PlainAction → List PlainWatch → Bool
is_watched name action watches = list_any (is_of name action) watches

-- no pair is watched twice
abbrev pub AreDistinct : List PlainWatch → Type 0
AreDistinct [] = Unit {0}
AreDistinct (watch ∷ watches) =
    AllByRecursion (λ other. is_of watch.name watch.action other ≡ false) watches
    × AreDistinct watches

-- the watch of the pair keeps its place, and what is told holds now
abbrev pub told_again : List ℕ → PlainAction → Bool → List PlainWatch → List PlainWatch
told_again name action told watches =
    map (λ (watch : PlainWatch). if is_of name action watch then record watch {
      told = told;
      now =
          told;
    } else watch) watches

-- the others, in their order
abbrev pub without : List ℕ → PlainAction → List PlainWatch → List PlainWatch
without name action watches = filter (λ (watch : PlainWatch). not (is_of name action watch)) watches

-- with both flags of the watch at the index
abbrev pub marked : List PlainWatch → ℕ → Bool → Bool → List PlainWatch
marked [] index told now = []
marked (watch ∷ watches) zero told now = record watch { told = told; now = now } ∷ watches
marked (watch ∷ watches) (suc index) told now = watch ∷ marked watches index told now

-- with what holds now of the watch at the index
abbrev pub noted : List PlainWatch → ℕ → Bool → List PlainWatch
noted [] index now = []
noted (watch ∷ watches) zero now = record watch { now = now } ∷ watches
noted (watch ∷ watches) (suc index) now = watch ∷ noted watches index now

-- of this name, what holds now is told
abbrev pub told_to : List ℕ → List PlainWatch → List PlainWatch
told_to name watches =
    map (λ (watch : PlainWatch). if text_eq name watch.name then record watch { told = watch.now }
    else watch) watches

-- whether two answers differ
abbrev pub differ : Bool → Bool → Bool
differ true now = not now
differ false now = now

-- the test that a watch is of this name, and what holds now isn't what was told
abbrev pub has_changed : List ℕ → PlainWatch → Bool
has_changed name watch = text_eq name watch.name && differ watch.told watch.now

-- the actions of this name of which what holds now isn't what was told, in order, with what holds
-- now
abbrev pub changes_of : List ℕ → List PlainWatch → List (PlainAction × Bool)
changes_of name watches =
    map (λ (watch : PlainWatch). (watch.action, watch.now)) (filter (has_changed name) watches)
