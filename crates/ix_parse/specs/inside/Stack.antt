-- What is open, as the machine holds it.
use Rattle.std.specs.Prelude.{ℕ, Bool, true, false, List, [], ◌∷◌, nat_le}
use Rattle.ix_parse.specs.declared.stack.Taking.{Taking}
use Rattle.ix_parse.specs.declared.stack.Taking.TheVariants.{Sign, Binder, Counter}
use Rattle.ix_parse.specs.declared.stack.Entry.{Entry}
use Rattle.ix_parse.specs.declared.stack.Entry.TheVariants as entries
use Rattle.ix_parse.specs.Symbols.{level}
use Rattle.ix_parse.specs.inside.StackMachine as machine
use Rattle.ix_parse.specs.inside.StackMachine.{group, sign, binder, counter, left}
use Rattle.ix_parse.specs.inside.Operands.{meaning_of}

abbrev pub taking_of : Taking → machine.Entry
taking_of (Sign at p) = sign at p
taking_of (Binder at q p) = binder at q p
taking_of (Counter at n) = counter at n

abbrev pub entry_of : Entry → machine.Entry
entry_of entries.Group = group
entry_of (entries.Taking taking) = taking_of taking
entry_of (entries.Left x) = left x.at x.operator (meaning_of x.operand)

-- the entries, the last one inmost, in front of others
abbrev pub stack_onto : List machine.Entry → List Entry → List machine.Entry
stack_onto s [] = s
stack_onto s (e ∷ es) = stack_onto (entry_of e ∷ s) es

abbrev pub stack_of : List Entry → List machine.Entry
stack_of es = stack_onto [] es

abbrev pub is_prefix_inmost : List machine.Entry → Bool
is_prefix_inmost (sign at p ∷ s) = true
is_prefix_inmost (binder at q p ∷ s) = true
is_prefix_inmost (counter at n ∷ s) = true
is_prefix_inmost _ = false

abbrev pub is_left_inmost : ℕ → List machine.Entry → Bool
is_left_inmost k (left at o x ∷ s) = nat_le k (level o)
is_left_inmost k _ = false

-- groups are counted, what takes an operand alone if that is wanted
abbrev pub is_counted : Bool → Entry → Bool
is_counted takings entries.Group = true
is_counted takings (entries.Taking taking) = takings
is_counted takings (entries.Left x) = false
