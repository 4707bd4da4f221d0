-- One round of the reader's loop, and its end.
use Rattle.std.proofs.Common.{◌≡◌, ℕ, ◌≤◌, true, List, [], ◌∷◌, length, Option, Some, None, Ok, Err, Result, refl, sym, ap, ◌∙◌, subst, MatchResult}
use Rattle.std.specs.Prelude.{is_some}
use Rattle.std.specs.Iterator.{YieldsFirstBy}
use Rattle.ix_lex.specs.declared.Token.{Token}
use Rattle.ix_lex.specs.declared.LexFault.{LexFault}
use Rattle.ix_lex.specs.declared.Tokens.{Tokens}
use Rattle.ix_lex.specs.Lexing.{PlainToken, Piece, token, bad_byte, Pieces}
use Rattle.ix_lex.specs.inside.Items.{plain_token, item_piece, pieces_left, item_pieces}
use Rattle.ix_lex.proofs.PiecesExist.{Pieces-pieces_of, Pieces-are}
use Rattle.ix_parse.specs.declared.faults.Fault.{Fault}
use Rattle.ix_parse.specs.declared.faults.Fault.TheVariants as faults
use Rattle.ix_parse.specs.declared.signs.Follower.{Follower}
use Rattle.ix_parse.specs.declared.operand.Operand.{Operand}
use Rattle.ix_parse.specs.declared.TextFault.{TextFault}
use Rattle.ix_parse.specs.declared.TextFault.TheVariants.{Bad, Memory}
use Rattle.ix_parse.specs.Symbols.{Symbol, symbol_of}
use Rattle.ix_parse.specs.Faults.{code_of, symbols_of, IsFirstFault}
use Rattle.ix_parse.specs.inside.StackMachine.{Config, step, start, whole}
use Rattle.ix_parse.specs.inside.Judged.{judged, meets, follower_of}
use Rattle.ix_parse.specs.inside.Progress.{Progress, nodes_after}
use Rattle.ix_parse.specs.inside.Operands.{meaning_of}
use Rattle.ix_parse.specs.inside.Configs.{IsModeSound, IsReadable}
use Rattle.ix_parse.specs.inside.Outcomes.{piece_follower, pending, IsStepTaken, IsFaultOf, IsMeaning, IsEnded}
use Rattle.ix_parse.proofs.Holding.{Reads}
use Rattle.ix_parse.proofs.Steps.{Reads-start}
use Rattle.ix_parse.proofs.FirstFaults.{first_met-none}
use Rattle.ix_parse.proofs.Progressing.{Progress-start, Progress-fault, Progress-can, Progress-step, Progress-bad, Progress-ended, Progress-whole}
use Rattle.ix_parse.proofs.Spelled.{token-readable}

-- what a call of `next` leaves pending
pub next-pending : (item : Option (Result Token LexFault)) (s t : Tokens) → YieldsFirstBy item_piece pieces_left s item t → pieces_left s ≡ pending item t
next-pending None s t ended = ended.0
next-pending (Some item) s t is = is

pub follower-pending : (item : Option (Result Token LexFault)) (t : Tokens) → follower_of (pending item t) ≡ piece_follower item
follower-pending None t = refl
follower-pending (Some (Ok item)) t = refl
follower-pending (Some (Err fault)) t = refl

sound-by : (ts : List Symbol) (c : Config) → Reads ts c → IsModeSound c.mode
sound-by _ _ (Reads.at_operand ts s h) = tt
sound-by _ _ (Reads.at_name ts s at w is h) = is
sound-by _ _ (Reads.at_argument ts us s at w args is listed few h) = (is, few)
sound-by _ _ (Reads.behind_argument ts us s at w args is listed few h) = (is, few)
sound-by _ _ (Reads.behind_quantifier ts s at w q is h) = tt
sound-by _ _ (Reads.behind_times ts s at w is h) = tt
sound-by _ _ (Reads.behind_operand ts us s x clear stands h) = tt

-- what is read of an atom is sound
pub Progress-sound : (pieces rest : List Piece) (c : Config) (n : ℕ) → Progress pieces rest c n → IsModeSound c.mode
Progress-sound pieces rest c n p = sound-by (symbols_of p.before) c (Reads-start (symbols_of p.before) c p.ran)

module _ (text : List ℕ) (rest : List Piece) (t : PlainToken) (c : Config) (n : ℕ) (b : Follower) (p : Progress (item_pieces 0 text) (token t ∷ rest) c n) (is_next : follower_of rest ≡ b) where
  abbrev judged_so : Option Fault → Type 0
  judged_so f = judged c n (symbol_of t) b ≡ f

  judged-here : (f : Option Fault) → judged_so f → judged c n (symbol_of t) (follower_of rest) ≡ f
  judged-here f e = ap (judged c n (symbol_of t)) is_next ∙ e

  -- a token that meets no fault may come, and can be taken
  pub round-may : judged_so None → is_some (step c (symbol_of t)) ≡ true
  round-may e = Progress-can (item_pieces 0 text) rest t c n p (judged-here None e)

  pub round-readable : judged_so None → IsReadable (symbol_of t)
  round-readable e =
      token-readable text (item_pieces 0 text) rest p.before t (Pieces-pieces_of 0 text) p.split
      (first_met-none (meets c n (symbol_of t) b) refl refl e faults.LongName)

  pub round-step : (d : Config) → judged_so None → step c (symbol_of t) ≡ Some d → Progress (item_pieces 0 text) rest d (nodes_after c n (symbol_of t))
  round-step d e is = Progress-step (item_pieces 0 text) rest t c n p d (judged-here None e) is

  pub round-fault : (f : Fault) (code at : ℕ) → length text ≤ 16384 → judged_so (Some f) → code ≡ code_of f → at ≡ t.start → IsFirstFault text code at
  round-fault f code at short e code_is at_is =
      subst (λ k. IsFirstFault text k at) (sym code_is)
      (subst (λ k. IsFirstFault text (code_of f) k) (sym at_is)
      (IsFirstFault.syntax_fault (item_pieces 0 text) (code_of f) t.start short (Pieces-pieces_of 0 text) (Progress-fault (item_pieces 0 text) rest t c n p f (length text) (judged-here (Some f) e))))

-- a bad byte comes
pub round-bad : (text : List ℕ) (rest : List Piece) (at : ℕ) (c : Config) (n : ℕ) → length text ≤ 16384 → Progress (item_pieces 0 text) (bad_byte at ∷ rest) c n → IsFirstFault text 2 at
round-bad text rest at c n short p =
    IsFirstFault.syntax_fault (item_pieces 0 text) 2 at short (Pieces-pieces_of 0 text) (Progress-bad (item_pieces 0 text) rest at (length text) c n p)

-- the end comes
pub round-end : (text : List ℕ) (c : Config) (n : ℕ) (r : Result Operand TextFault) → length text ≤ 16384 → Progress (item_pieces 0 text) [] c n → MatchResult r (λ x. whole c ≡ Some (meaning_of x)) (λ fault. IsEnded c (length text) fault) → IsMeaning text r
round-end text c n (Ok x) short p is = Progress-whole text (item_pieces 0 text) c n (meaning_of x) short (Pieces-pieces_of 0 text) p is
round-end text c n (Err (Bad code at)) short p is =
    subst (λ k. IsFirstFault text k at) (sym is.1)
    (subst (λ k. IsFirstFault text 4 k) (sym is.2)
    (IsFirstFault.syntax_fault (item_pieces 0 text) 4 (length text) short (Pieces-pieces_of 0 text) (Progress-ended (item_pieces 0 text) (length text) c n p is.0)))
round-end text c n (Err Memory) short p is = tt

-- the first token is pending
pub round-start : (text : List ℕ) (item : Option (Result Token LexFault)) (s t : Tokens) (c : Config) → Pieces 0 text (pieces_left s) → YieldsFirstBy item_piece pieces_left s item t → c ≡ start → Progress (item_pieces 0 text) (pending item t) c 0
round-start text item s t c cut is begins =
    let same : item_pieces 0 text ≡ pending item t = sym (Pieces-are 0 text (pieces_left s) cut) ∙ next-pending item s t is in
    subst (λ d. Progress (item_pieces 0 text) (pending item t) d 0) (sym begins) (subst (λ l. Progress (item_pieces 0 text) l start 0) same (Progress-start (item_pieces 0 text)))

-- a token is pending
pub at-token : (pieces : List Piece) (ahead item : Option (Result Token LexFault)) (s t : Tokens) (k : Token) (c : Config) (n : ℕ) → Progress pieces (pending ahead s) c n → ahead ≡ Some (Ok k) → YieldsFirstBy item_piece pieces_left s item t → Progress pieces (token (plain_token k) ∷ pending item t) c n
at-token pieces ahead item s t k c n p is gives =
    subst (λ l. Progress pieces l c n) (ap (λ a. pending a s) is ∙ ap (λ l. token (plain_token k) ∷ l) (next-pending item s t gives)) p

-- a bad byte is pending
pub at-bad : (pieces : List Piece) (ahead : Option (Result Token LexFault)) (s : Tokens) (fault : LexFault) (c : Config) (n : ℕ) → Progress pieces (pending ahead s) c n → ahead ≡ Some (Err fault) → Progress pieces (bad_byte fault.at ∷ pieces_left s) c n
at-bad pieces ahead s fault c n p is = subst (λ l. Progress pieces l c n) (ap (λ a. pending a s) is) p

-- nothing is pending
pub at-end : (pieces : List Piece) (ahead : Option (Result Token LexFault)) (s : Tokens) (c : Config) (n : ℕ) → Progress pieces (pending ahead s) c n → ahead ≡ None → Progress pieces [] c n
at-end pieces ahead s c n p is = subst (λ l. Progress pieces l c n) (ap (λ a. pending a s) is) p

-- a token that met a fault
pub round-err : (text : List ℕ) (rest : List Piece) (t : PlainToken) (c : Config) (n : ℕ) (b : Follower) (fault : TextFault) → Progress (item_pieces 0 text) (token t ∷ rest) c n → follower_of rest ≡ b → length text ≤ 16384 → IsStepTaken c n t b (Err fault) → IsFaultOf text fault
round-err text rest t c n b (Bad code at) p is_next short taken = round-fault text rest t c n b p is_next taken.0 code at short taken.1 taken.2 taken.3
round-err text rest t c n b Memory p is_next short taken = tt
