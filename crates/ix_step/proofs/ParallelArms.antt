-- What is asked of the parts of a parallel tree before they are moved.
use Rattle.std.proofs.Common.{◌≡◌, ◌≤◌, ℕ, List, [], ◌∷◌, inl, inr, ap, subst, arith}
use Rattle.ix_words.specs.Each.{Each, Member}
use Rattle.ix_words.proofs.Each.{Each-member, Each-members}
use Rattle.ix_words.proofs.Canon.{Member-cases}
use Rattle.ix_expr.specs.Form.{Form, par, par_star, times}
use Rattle.ix_expr.specs.FormFaults.{Fits}
use Rattle.ix_expr.specs.Environment.{Environment}
use Rattle.ix_expr.proofs.Parts.{fits-operands}
use Rattle.ix_tree.specs.Plain.{Plain, dead, start, done, none, more, pair, bag, map as map_of, entry, listed, items_of, par as par_of, par_star as par_star_of, opt as opt_of, seq as seq_of, star as star_of, or as or_of, and as and_of, couple as couple_of, any as any_of, every as every_of, sync as sync_of, all as all_of, times as times_of}
use Rattle.ix_tree.specs.Order.{first_part, second_part}
use Rattle.ix_tree.specs.Size.{size_of}
use Rattle.ix_tree.proofs.PlainLists.{items_of-listed}
use Rattle.ix_can.specs.Laws.{EachOnce, IsRising, IsProper}
use Rattle.ix_step.specs.inside.Initial.{initial_tree}
use Rattle.ix_step.specs.inside.ParallelMoves.{IsReadyPair, IsReadyBag}
use Rattle.ix_step.specs.inside.Ready.{Ready}
use Rattle.ix_step.proofs.Arms.{first_ready}

-- Sizes

first_size : (t : Plain) → size_of (first_part t) ≤ size_of t
first_size (opt_of b x) = omega arith
first_size (seq_of x b y) = omega arith
first_size (star_of b x) = omega arith
first_size (par_of x) = omega arith
first_size (par_star_of x) = omega arith
first_size (or_of x y) = omega arith
first_size (and_of x y) = omega arith
first_size (couple_of x y) = omega arith
first_size (any_of x y) = omega arith
first_size (every_of x y) = omega arith
first_size (sync_of x y) = omega arith
first_size (all_of x) = omega arith
first_size (times_of x) = omega arith
first_size (pair x y) = omega arith
first_size (bag x) = omega arith
first_size (map_of x) = omega arith
first_size (entry v x) = omega arith
first_size (more x y) = omega arith
first_size dead = omega arith
first_size start = omega arith
first_size done = omega arith
first_size none = omega arith

second_size : (t : Plain) → size_of (second_part t) ≤ size_of t
second_size (opt_of b x) = omega arith
second_size (seq_of x b y) = omega arith
second_size (star_of b x) = omega arith
second_size (par_of x) = omega arith
second_size (par_star_of x) = omega arith
second_size (or_of x y) = omega arith
second_size (and_of x y) = omega arith
second_size (couple_of x y) = omega arith
second_size (any_of x y) = omega arith
second_size (every_of x y) = omega arith
second_size (sync_of x y) = omega arith
second_size (all_of x) = omega arith
second_size (times_of x) = omega arith
second_size (pair x y) = omega arith
second_size (bag x) = omega arith
second_size (map_of x) = omega arith
second_size (entry v x) = omega arith
second_size (more x y) = omega arith
second_size dead = omega arith
second_size start = omega arith
second_size done = omega arith
second_size none = omega arith

pub items_size : (t : Plain) → size_of (listed (items_of t)) ≤ size_of t
items_size (more x xs) = omega (arith, items_size xs)
items_size _ = omega arith

pub member_size : (x : Plain) (xs : List Plain) → Member x xs → size_of x ≤ size_of (listed xs)
member_size x [] m = elim m [ ]
member_size x (y ∷ ys) m = elim (Member-cases m) [
  | inl e ↦ let s : size_of x ≡ size_of y = ap size_of e in omega arith
  | inr n ↦ omega (arith, member_size x ys n)
]

-- Readiness

module _ {e : Environment} where
  pub pairs_ready : {y z : Form} (ps : List Plain) → Ready (par y z) e (par_of (listed ps)) → Each (IsReadyPair y z e) ps
  pairs_ready {y} {z} ps r =
      let fit = fits-operands (par y z) e r.fits in
      let once = subst (λ l. EachOnce (λ p. IsProper y (first_part p) × IsProper z (second_part p)) l) (items_of-listed ps) r.proper in
      Each-members ps (λ p m.
      let proper = Each-member once.each m in
      let le : size_of p ≤ 1000000 = omega (arith, member_size p ps m, r.small) in (
        record { fits = fit.0; proper = proper.0; small = omega (arith, first_size p) },
        record { fits = fit.1; proper = proper.1; small = omega (arith, second_size p) },
      ))

  pub pairs_small : {y z : Form} (ps : List Plain) → Ready (par y z) e (par_of (listed ps)) → Each (λ p. size_of p ≤ 1000000) ps
  pairs_small {y} {z} ps r = Each-members ps (λ p m. omega (arith, member_size p ps m, r.small))

  each_bag_ready : {y : Form} (bs : List Plain) → Fits y e → EachOnce (λ b. IsRising (items_of (first_part b)) × Each (IsProper y) (items_of (first_part b))) bs → size_of (listed bs) ≤ 1000000 → Each (IsReadyBag y e) bs
  each_bag_ready {y} bs fit once small =
      Each-members bs (λ b m. (
        Each-members (items_of (first_part b)) (λ t n.
            record {
              fits = fit;
              proper = Each-member (Each-member once.each m).1 n;
              small = omega (arith, member_size t (items_of (first_part b)) n, items_size (first_part b), first_size b, member_size b bs m, small);
            }),
        omega (arith, member_size b bs m, small),
        (Each-member once.each m).0,
      ))

  -- the bags of `#`
  pub bags_ready : {y : Form} (bs : List Plain) → Ready (par_star y) e (par_star_of (listed bs)) → Each (IsReadyBag y e) bs
  bags_ready {y} bs r =
      each_bag_ready bs (fits-operands (par_star y) e r.fits)
      (subst (λ l. EachOnce (λ b. IsRising (items_of (first_part b)) × Each (IsProper y) (items_of (first_part b))) l) (items_of-listed bs) r.proper)
      (omega (arith, r.small))

  -- and of `times`
  pub times_ready : {n : ℕ} {y : Form} (bs : List Plain) → Ready (times n y) e (times_of (listed bs)) → Each (IsReadyBag y e) bs
  times_ready {n} {y} bs r =
      each_bag_ready bs (fits-operands (times n y) e r.fits)
      (subst (λ l. EachOnce (λ b. IsRising (items_of (first_part b)) × Each (IsProper y) (items_of (first_part b))) l) (items_of-listed bs) r.proper)
      (omega (arith, r.small))

  pub times_begins : {n : ℕ} {y : Form} {t : Plain} → Ready (times n y) e t → Ready y e (initial_tree y)
  times_begins {n} {y} r = first_ready (fits-operands (times n y) e r.fits)

  pub run_begins : {y : Form} {t : Plain} → Ready (par_star y) e t → Ready y e (initial_tree y)
  run_begins {y} r = first_ready (fits-operands (par_star y) e r.fits)
