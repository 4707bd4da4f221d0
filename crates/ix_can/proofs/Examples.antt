-- Sizes of trees and whole trees that the definitions give, worked out by hand.
use Rattle.std.specs.Prelude.{true, false, ◌≡◌, ℕ, List, [], ◌∷◌, codes}
use Rattle.std.proofs.Common.{refl}
use Rattle.ix_values.specs.PlainAction.{PlainAction, Word}
use Rattle.ix_values.specs.inside.ActionOf.{action_of}
use Rattle.ix_expr.specs.declared.arg.Arg.{Arg}
use Rattle.ix_expr.specs.declared.arg.Arg.TheVariants.{Fixed, Param}
use Rattle.ix_expr.specs.Form.{Form, atom, opt, seq, star, par, par_star, or, and, couple, any, every, sync, all, times}
use Rattle.ix_tree.specs.Plain.{Plain, dead, start, done, opt as opt_tree, seq as seq_tree, star as star_tree, par as par_tree, par_star as par_star_tree, couple as couple_tree, sync as sync_tree, all as all_tree, times as times_tree, pair, bag, map, entry}
use Rattle.ix_can.specs.Nodes.{listed}
use Rattle.ix_can.specs.TreeOf.{tree_of, tree_size}

-- actions and atoms by name
abbrev named : List ℕ → PlainAction
named name = action_of name []

abbrev plain : List ℕ → Form
plain name = atom (record { name = name; arguments = [] })

-- `#(a - b)`
abbrev many : Form
many = par_star (seq (plain (codes "a")) (plain (codes "b")))

pub many_before : tree_size many [] ≡ 2
many_before = refl

pub many_once : tree_size many (named (codes "a") ∷ []) ≡ 5
many_once = refl

pub many_twice : tree_size many (named (codes "a") ∷ named (codes "a") ∷ []) ≡ 8
many_twice = refl

-- a run that is over takes no nodes
pub many_over : tree_size many (named (codes "a") ∷ named (codes "a") ∷ named (codes "b") ∷ named (codes "a") ∷ []) ≡ 8
many_over = refl

-- `(a - b) + (a - c)`
pub both_once : tree_size (par (seq (plain (codes "a")) (plain (codes "b"))) (seq (plain (codes "a")) (plain (codes "c")))) (named (codes "a") ∷ []) ≡ 13
both_once = refl

-- `any $p (a - b($p))`
abbrev some_value : Form
some_value = any (codes "p") (seq (plain (codes "a")) (atom (record { name = codes "b"; arguments = Param (codes "p") ∷ [] })))

pub some_value_once : tree_size some_value (named (codes "a") ∷ []) ≡ 4
some_value_once = refl

pub some_value_twice : tree_size some_value (named (codes "a") ∷ action_of (codes "b") (codes "u" ∷ []) ∷ []) ≡ 1
some_value_twice = refl

-- a call and then a performance of the patient and the examination
abbrev visit : Form
visit = seq (atom (record { name = codes "call"; arguments = Param (codes "p") ∷ Param (codes "x") ∷ [] })) (atom (record { name = codes "perform"; arguments = Param (codes "p") ∷ Param (codes "x") ∷ [] }))

abbrev patients : Form
patients = all (codes "p") (star (any (codes "x") visit))

abbrev examinations : Form
examinations = all (codes "x") (star (any (codes "p") visit))

abbrev called : Word
called = action_of (codes "call") (codes "p1" ∷ codes "x1" ∷ []) ∷ []

pub patients_called : tree_size patients called ≡ 10
patients_called = refl

pub both_called : tree_size (couple patients examinations) called ≡ 21
both_called = refl

-- `all $p *(a($p) - b($p))`
abbrev with_name : List ℕ → Form
with_name name = atom (record { name = name; arguments = Param (codes "p") ∷ [] })

abbrev rounds : Form
rounds = all (codes "p") (star (seq (with_name (codes "a")) (with_name (codes "b"))))

abbrev acted : List ℕ → List ℕ → PlainAction
acted name value = action_of name (value ∷ [])

pub rounds_once : tree_size rounds (acted (codes "a") (codes "u") ∷ []) ≡ 7
rounds_once = refl

pub rounds_over : tree_size rounds (acted (codes "a") (codes "u") ∷ acted (codes "b") (codes "u") ∷ acted (codes "a") (codes "v") ∷ acted (codes "b") (codes "v") ∷ []) ≡ 2
rounds_over = refl

-- `any $p (b(u,v,w,x) @ (c | d - (b($p,v,w,x) | b(u,$p,w,x) | b(u,v,$p,x) | b(u,v,w,$p))))`
abbrev fixed_or_p : Arg → Arg → Arg → Arg → Form
fixed_or_p q r s t = atom (record { name = codes "b"; arguments = q ∷ r ∷ s ∷ t ∷ [] })

abbrev the_u : Arg
the_u = Fixed (codes "u")

abbrev the_v : Arg
the_v = Fixed (codes "v")

abbrev the_w : Arg
the_w = Fixed (codes "w")

abbrev the_x : Arg
the_x = Fixed (codes "x")

abbrev the_p : Arg
the_p = Param (codes "p")

abbrev some_of_four : Form
some_of_four = or (or (or (fixed_or_p the_p the_v the_w the_x) (fixed_or_p the_u the_p the_w the_x)) (fixed_or_p the_u the_v the_p the_x)) (fixed_or_p the_u the_v the_w the_p)

abbrev four : Form
four = any (codes "p") (couple (fixed_or_p the_u the_v the_w the_x) (or (plain (codes "c")) (seq (plain (codes "d")) some_of_four)))

abbrev all_four : PlainAction
all_four = action_of (codes "b") (codes "u" ∷ codes "v" ∷ codes "w" ∷ codes "x" ∷ [])

pub four_before : tree_size four [] ≡ 7
four_before = refl

pub four_once : tree_size four (named (codes "c") ∷ []) ≡ 4
four_once = refl

-- the common tree is done, and the four entries are dead
pub four_twice : tree_of four [] (named (codes "c") ∷ all_four ∷ []) ≡ done
four_twice = refl

-- Whole trees

-- the tree of the word
abbrev after : Form → Word → Plain
after x w = tree_of x [] w

-- the actions `a`, `b`, `c`, `b(u)` and `b(v)`
abbrev do_a : PlainAction
do_a = named (codes "a")

abbrev do_b : PlainAction
do_b = named (codes "b")

abbrev do_c : PlainAction
do_c = named (codes "c")

abbrev do_bu : PlainAction
do_bu = action_of (codes "b") (codes "u" ∷ [])

abbrev do_bv : PlainAction
do_bv = action_of (codes "b") (codes "v" ∷ [])

-- the expressions `a`, `b`, `b($p)` and `b(u)`
abbrev only_a : Form
only_a = plain (codes "a")

abbrev only_b : Form
only_b = plain (codes "b")

abbrev with_p : Form
with_p = atom (record { name = codes "b"; arguments = Param (codes "p") ∷ [] })

abbrev with_u : Form
with_u = atom (record { name = codes "b"; arguments = Fixed (codes "u") ∷ [] })

-- `a`
pub atom_before : after only_a [] ≡ start
atom_before = refl

pub atom_once : after only_a (do_a ∷ []) ≡ done
atom_once = refl

pub atom_other : after only_a (do_b ∷ []) ≡ dead
atom_other = refl

-- `?a`
pub opt_before : after (opt only_a) [] ≡ opt_tree true start
opt_before = refl

pub opt_once : after (opt only_a) (do_a ∷ []) ≡ done
opt_once = refl

-- `a - b`
pub seq_once : after (seq only_a only_b) (do_a ∷ []) ≡ seq_tree dead false (listed (start ∷ []))
seq_once = refl

pub seq_twice : after (seq only_a only_b) (do_a ∷ do_b ∷ []) ≡ done
seq_twice = refl

-- `*(a - b)`
pub star_thrice : after (star (seq only_a only_b)) (do_a ∷ do_b ∷ do_a ∷ []) ≡ star_tree false (listed (seq_tree dead false (listed (start ∷ [])) ∷ []))
star_thrice = refl

-- `a + b` and `a + a`
pub par_once : after (par only_a only_b) (do_a ∷ []) ≡ par_tree (listed (pair done start ∷ []))
par_once = refl

pub par_either : after (par only_a only_a) (do_a ∷ []) ≡ par_tree (listed (pair start done ∷ pair done start ∷ []))
par_either = refl

-- `#(a - b)`
pub par_star_thrice : after many (do_a ∷ do_b ∷ do_a ∷ []) ≡ par_star_tree (listed (bag (listed (seq_tree dead false (listed (start ∷ [])) ∷ [])) ∷ []))
par_star_thrice = refl

-- `#a`: a run that is over is left out
pub par_star_twice : after (par_star only_a) (do_a ∷ do_a ∷ []) ≡ par_star_tree (listed (bag (listed []) ∷ []))
par_star_twice = refl

-- `a | b`
pub or_once : after (or only_a only_b) (do_a ∷ []) ≡ done
or_once = refl

-- `a & ?a`
pub and_once : after (and only_a (opt only_a)) (do_a ∷ []) ≡ done
and_once = refl

-- `a @ b`
pub couple_once : after (couple only_a only_b) (do_b ∷ []) ≡ couple_tree start done
couple_once = refl

pub couple_other : after (couple only_a only_b) (do_c ∷ []) ≡ dead
couple_other = refl

-- `any $p (a - b($p))`
pub any_twice : after some_value (do_a ∷ do_bu ∷ []) ≡ done
any_twice = refl

-- `every $p (b(u) | b($p))`
pub every_once : after (every (codes "p") (or with_u with_p)) (do_bu ∷ []) ≡ done
every_once = refl

-- `sync $p b($p)`
pub sync_twice : after (sync (codes "p") with_p) (do_bv ∷ do_bu ∷ []) ≡ sync_tree start (listed (entry (codes "u") done ∷ entry (codes "v") done ∷ []))
sync_twice = refl

pub sync_other : after (sync (codes "p") with_p) (do_a ∷ []) ≡ dead
sync_other = refl

-- `all $p *b($p)`: a value whose runs are over has no entry
pub all_thrice : after (all (codes "p") (star with_p)) (do_bv ∷ do_bu ∷ do_bv ∷ []) ≡ all_tree (listed (map (listed []) ∷ []))
all_thrice = refl

-- `times 2 (a - b)`: a run that is over stays, since so many are wanted
abbrev two_runs : Form
two_runs = times 2 (seq only_a only_b)

pub times_before : after two_runs [] ≡ times_tree (listed (bag (listed []) ∷ []))
times_before = refl

pub times_over : after two_runs (do_a ∷ do_b ∷ []) ≡ times_tree (listed (bag (listed (done ∷ [])) ∷ []))
times_over = refl

pub times_begun : after two_runs (do_a ∷ do_a ∷ []) ≡ times_tree (listed (bag (listed (seq_tree dead false (listed (start ∷ [])) ∷ seq_tree dead false (listed (start ∷ [])) ∷ [])) ∷ []))
times_begun = refl

pub times_full : after two_runs (do_a ∷ do_a ∷ do_b ∷ do_b ∷ []) ≡ done
times_full = refl

pub times_too_many : after two_runs (do_a ∷ do_a ∷ do_a ∷ []) ≡ dead
times_too_many = refl
