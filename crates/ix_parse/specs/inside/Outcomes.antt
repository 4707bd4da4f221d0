-- What the calls of the reader's loop answer.
use Rattle.std.specs.Prelude.{◌≡◌, ℕ, List, [], ◌∷◌, Option, Some, None, Result, Ok, Err, length}
use Rattle.std.specs.Prelude.{slice_get}
use Rattle.ix_expr.specs.FormFaults.{nodes_of, IsWellFormed, IsFirstFormFault}
use Rattle.ix_lex.specs.Lexing.{PlainToken, Piece}
use Rattle.ix_lex.specs.inside.Items.{plain_token, item_piece, pieces_left}
use Rattle.ix_lex.specs.declared.Token.{Token}
use Rattle.ix_lex.specs.declared.LexFault.{LexFault}
use Rattle.ix_lex.specs.declared.Tokens.{Tokens}
use Rattle.ix_parse.specs.declared.faults.Fault.{Fault}
use Rattle.ix_parse.specs.declared.signs.Follower.{Follower}
use Rattle.ix_parse.specs.declared.signs.Follower.TheVariants as followers
use Rattle.ix_parse.specs.declared.operand.Operand.{Operand}
use Rattle.ix_parse.specs.declared.taking.Reading.{Reading}
use Rattle.ix_parse.specs.declared.Placed.{Placed}
use Rattle.ix_parse.specs.declared.TextFault.{TextFault}
use Rattle.ix_parse.specs.declared.TextFault.TheVariants.{Bad, Memory}
use Rattle.ix_parse.specs.Symbols.{symbol_of, Meaning}
use Rattle.ix_parse.specs.Faults.{code_of, HasMeaning, IsFirstFault}
use Rattle.ix_parse.specs.inside.StackMachine.{Config, step, whole}
use Rattle.ix_parse.specs.inside.Judged.{judged, as_follower}
use Rattle.ix_parse.specs.inside.Progress.{nodes_after}
use Rattle.ix_parse.specs.inside.Operands.{meaning_of}
use Rattle.ix_parse.specs.inside.Configs.{config_of}

-- what the piece that comes next is to a word
abbrev pub piece_follower : Option (Result Token LexFault) → Follower
piece_follower None = followers.Neither
piece_follower (Some (Ok t)) = as_follower (symbol_of (plain_token t))
piece_follower (Some (Err fault)) = followers.Neither

-- the pieces that are still to come, where one was taken already
abbrev pub pending : Option (Result Token LexFault) → Tokens → List Piece
pending None tokens = []
pending (Some item) tokens = item_piece item ∷ pieces_left tokens

-- a token was taken, or met this fault
abbrev pub IsStepTaken : Config → ℕ → PlainToken → Follower → Result Reading TextFault → Type 0
IsStepTaken c n t next (Ok r) =
    (judged c n (symbol_of t) next ≡ None) × (step c (symbol_of t) ≡ Some (config_of r.reader))
    × (r.nodes ≡ nodes_after c n (symbol_of t))
IsStepTaken c n t next (Err (Bad code at)) =
    (f : Fault) × (judged c n (symbol_of t) next ≡ Some f) × (code ≡ code_of f) × (at ≡ t.start)
IsStepTaken c n t next (Err Memory) = Unit {0}

-- the first fault of the text
abbrev pub IsFaultOf : List ℕ → TextFault → Type 0
IsFaultOf text (Bad code at) = IsFirstFault text code at
IsFaultOf text Memory = Unit {0}

-- what the text means, or its first fault
abbrev pub IsMeaning : List ℕ → Result Operand TextFault → Type 0
IsMeaning text (Ok x) = HasMeaning text (meaning_of x)
IsMeaning text (Err fault) = IsFaultOf text fault

-- the fault at the end of what isn't whole
abbrev pub IsEnded : Config → ℕ → TextFault → Type 0
IsEnded c end (Bad code at) = (whole c ≡ None) × (code ≡ 4) × (at ≡ end)
IsEnded c end Memory = Unit {0}

-- each node has the place of its token
abbrev pub HasPlaces : Meaning → Type 0
HasPlaces x = length x.places ≡ length (nodes_of x.form)

-- the well-formed expression with its places, or its first form fault at the place of its node's
-- token
abbrev pub IsPlacedOr : Meaning → Result Placed TextFault → Type 0
IsPlacedOr x (Ok placed) =
    (placed.expression ≡ x.form) × (placed.places.items ≡ x.places) × IsWellFormed x.form
IsPlacedOr x (Err (Bad code at)) =
    (number : ℕ) × IsFirstFormFault x.form code number × (slice_get x.places number ≡ Some at)
IsPlacedOr x (Err Memory) = ⊥
