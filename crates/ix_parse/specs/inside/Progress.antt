-- How far the reader has come: what its loop keeps.
use Rattle.std.specs.Prelude.{◌≡◌, ℕ, ◌≤◌, List, [], ◌++◌, length, map, Some, ◌+◌, if◌then◌else◌}
use Rattle.ix_lex.specs.Lexing.{PlainToken, Piece, token}
use Rattle.ix_parse.specs.Faults.{Nodes, NothingMet, symbols_of}
use Rattle.ix_parse.specs.Symbols.{Symbol}
use Rattle.ix_parse.specs.inside.StackMachine.{Config, run, start}
use Rattle.ix_parse.specs.inside.Judged.{is_node, is_wanted}

-- of the pieces, those that are pending are still to be read; the others led to the configuration
-- and to so many nodes, and met no fault
pub record Progress (pieces pending : List Piece) (c : Config) (nodes : ℕ) : Type 0 where
  pub before : List PlainToken
  pub split : pieces ≡ map token before ++ pending
  pub ran : run (Some start) (symbols_of before) ≡ Some c
  pub counted : Nodes [] (symbols_of before) nodes
  pub few : nodes ≤ 512
  pub nothing_met : NothingMet (length before) pieces

-- how many nodes' tokens were read, with the symbol
abbrev pub nodes_after : Config → ℕ → Symbol → ℕ
nodes_after c n t = if is_node (is_wanted c.mode) t then n + 1 else n
