-- What each part that is told says: it refuses the action by itself.
use Rattle.std.specs.Prelude.{◌≡◌, ℕ, ◌+◌, List, [], ◌∷◌, ◌++◌, Option, Some, None, reverse}
use Rattle.std.specs.Prelude.{slice_get}
use Rattle.ix_words.specs.Each.{Each}
use Rattle.ix_words.specs.Parts.{part, Projection}
use Rattle.ix_words.specs.Words.{Owned}
use Rattle.ix_values.specs.Order.{text_eq}
use Rattle.ix_values.specs.PlainAction.{PlainAction, Word}
use Rattle.ix_expr.specs.Form.{Form, opt, and, couple, every, sync, all}
use Rattle.ix_expr.specs.Environment.{Environment, bind}
use Rattle.ix_expr.specs.FormFaults.{IsWellFormed}
use Rattle.ix_expr.specs.Laws.{IsFresh}
use Rattle.ix_expr.specs.Meaning.{InAlphabet, IsPartial}
use Rattle.ix_can.specs.TreeOf.{tree_of}
use Rattle.ix_lint.specs.Nodes.{forms}
use Rattle.ix_why.specs.declared.part.Part.{Part}
use Rattle.ix_why.specs.Blames.{nodes, refusals}

-- asked about the word w, the expression x consults the subexpression at a node about a word, under
-- an environment: the operands of `?`, `&` and `every` about the same word, those of `@` and `sync`
-- about the actions in their alphabets, and that of `all` about what one value owns, where what
-- each value owns is partial
pub data Consults (x : Form) (w : Word) : ℕ → Form → Environment → Word → Type 0 where
  itself : Consults x w 0 x [] w
  operand : {n : ℕ} {y : Form} {e : Environment} {u : Word} → Consults x w n (opt y) e u
      → Consults x w (n + 1) y e u
  left_of_and : {n : ℕ} {y z : Form} {e : Environment} {u : Word} → Consults x w n (and y z) e u
      → Consults x w (n + 1) y e u
  right_of_and : {n : ℕ} {y z : Form} {e : Environment} {u : Word} → Consults x w n (and y z) e u
      → Consults x w (n + 1 + nodes y) z e u
  left_of_couple : {n : ℕ} {y z : Form} {e : Environment} {u own : Word}
      → Consults x w n (couple y z) e u → Projection (InAlphabet y e) u own
      → Consults x w (n + 1) y e own
  right_of_couple : {n : ℕ} {y z : Form} {e : Environment} {u own : Word}
      → Consults x w n (couple y z) e u → Projection (InAlphabet z e) u own
      → Consults x w (n + 1 + nodes y) z e own
  body_of_every : {n : ℕ} {p : List ℕ} {y : Form} {e : Environment} {u : Word}
      (v : Option (List ℕ)) → Consults x w n (every p y) e u → Consults x w (n + 1) y (bind p v e) u
  body_of_sync : {n : ℕ} {p : List ℕ} {y : Form} {e : Environment} {u own : Word}
      (v : Option (List ℕ)) → Consults x w n (sync p y) e u
      → Projection (InAlphabet y (bind p v e)) u own → Consults x w (n + 1) y (bind p v e) own
  body_of_all : {n : ℕ} {p : List ℕ} {y : Form} {e : Environment} {u : Word} (v : List ℕ)
      → Consults x w n (all p y) e u
      → (owned : Owned text_eq (λ v. IsPartial y (bind p (Some v) e)) u)
      → Consults x w (n + 1) y (bind p (Some v) e) (part (text_eq v) owned.owners u)

-- the second environment is the first, except that it may give a value that no action of the word
-- has to a parameter that is outside
pub data Fills (w : Word) : Environment → Environment → Type 0 where
  nothing : Fills w [] []
  as_it_is : {p : List ℕ} {v : Option (List ℕ)} {e f : Environment} → Fills w e f
      → Fills w (bind p v e) (bind p v f)
  with_value : {p v : List ℕ} {e f : Environment} → IsFresh v w → Fills w e f
      → Fills w (bind p None e) (bind p (Some v) f)

-- at the node n the subexpression s is consulted about the word u, which is partial in it, and with
-- the action it isn't
pub record RefusesAlone (x : Form) (w : Word) (a : PlainAction) (n : ℕ) (s : Form) (e : Environment)
    (u : Word) : Type 0 where
  pub consulted : Consults x w n s e u
  pub partial : IsPartial s e u
  pub refused : ¬ IsPartial s e (u ++ a ∷ [])

-- the subexpression at the part's node refuses the action by itself, under what the part binds, and
-- also where parameters that are outside get values that neither the word nor the action has
pub record RefusesByItself (x : Form) (w : Word) (a : PlainAction) (told : Part) : Type 0 where
  pub form : Form
  pub environment : Environment
  pub word : Word
  pub at : slice_get (forms x) told.node ≡ Some form
  pub bound : told.bound ≡ reverse environment
  pub refuses : (f : Environment) → Fills (w ++ a ∷ []) environment f
      → RefusesAlone x w a told.node form f word

-- by the tree of a partial word of a well-formed expression, each part that is told refuses the
-- action by itself
abbrev pub PartsRefuseByThemselves : Type 0
PartsRefuseByThemselves = (x : Form) (w : Word) (a : PlainAction) → IsWellFormed x
    → IsPartial x [] w
    → Each (RefusesByItself x w a) (refusals x (tree_of x [] w) a)
