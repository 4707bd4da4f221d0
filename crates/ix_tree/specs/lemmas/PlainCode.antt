-- By which code a proof tells plain trees apart: the place of each node and what stands in it
-- beside trees, before its parts.
use Rattle.std.specs.Prelude.{◌≡◌, ℕ, ◌==◌, true, false, Bool, List, [], ◌∷◌, ◌++◌, if◌then◌else◌}
use Rattle.std.specs.Coded.{Coded, code_by, coded×, coded_ℕ, coded_list}
use Rattle.std.proofs.Common.{refl, sym, ap, ◌∙◌, append_assoc, append-nil}
use Rattle.ix_tree.specs.Plain.{Plain, dead, start, done, opt, seq, star, par, par_star, or, and}
use Rattle.ix_tree.specs.Plain.{couple, any, every, sync, all, times, pair, bag, map, entry, none}
use Rattle.ix_tree.specs.Plain.{more}
use Rattle.ix_tree.specs.Order.{key, between}

-- the place of each node and what stands in it beside trees, in the order of a reader
abbrev written_code : Plain → List (ℕ × List ℕ)
written_code none = (20, []) ∷ []
written_code dead = (0, []) ∷ []
written_code start = (1, []) ∷ []
written_code done = (2, []) ∷ []
written_code (opt b x) = (3, key (opt b x)) ∷ written_code x
written_code (seq x b y) = (4, between (seq x b y)) ∷ (written_code x ++ written_code y)
written_code (star b x) = (5, key (star b x)) ∷ written_code x
written_code (par x) = (6, []) ∷ written_code x
written_code (par_star x) = (7, []) ∷ written_code x
written_code (or x y) = (8, []) ∷ (written_code x ++ written_code y)
written_code (and x y) = (9, []) ∷ (written_code x ++ written_code y)
written_code (couple x y) = (10, []) ∷ (written_code x ++ written_code y)
written_code (any x y) = (11, []) ∷ (written_code x ++ written_code y)
written_code (every x y) = (12, []) ∷ (written_code x ++ written_code y)
written_code (sync x y) = (13, []) ∷ (written_code x ++ written_code y)
written_code (all x) = (14, []) ∷ written_code x
written_code (times x) = (15, []) ∷ written_code x
written_code (pair x y) = (16, []) ∷ (written_code x ++ written_code y)
written_code (bag x) = (17, []) ∷ written_code x
written_code (map x) = (18, []) ∷ written_code x
written_code (entry v x) = (19, v) ∷ written_code x
written_code (more x y) = (21, []) ∷ (written_code x ++ written_code y)

-- the first of some trees
abbrev top : List Plain → Plain
top [] = none
top (x ∷ xs) = x

-- the others
abbrev under : List Plain → List Plain
under [] = []
under (x ∷ xs) = xs

-- the flag that a key tells
abbrev flag : List ℕ → Bool
flag [] = false
flag (n ∷ ns) = n == 1

-- a node of one part
abbrev of_one : ℕ → List ℕ → Plain → Plain
of_one n k x =
    if n == 3 then opt (flag k) x
    else (if n == 5 then star (flag k) x
    else (if n == 6 then par x else (if n == 7 then par_star x else
    (if n == 14 then all x
    else (if n == 15 then times x
    else (if n == 17 then bag x else (if n == 18 then map x else entry k x)))))))

-- a node of two parts
abbrev of_two : ℕ → List ℕ → Plain → Plain → Plain
of_two n k x y =
    if n == 4 then seq x (flag k) y
    else (if n == 8 then or x y
    else (if n == 9 then and x y else (if n == 10 then couple x y else
    (if n == 11 then any x y
    else (if n == 12 then every x y
    else (if n == 13 then sync x y else (if n == 16 then pair x y else more x y)))))))

-- how many parts the nodes of a place have
abbrev leaf : ℕ → Bool
leaf n = if n == 0 then true else (if n == 1 then true else (if n == 2 then true else n == 20))

abbrev single : ℕ → Bool
single n =
    if n == 3 then true else (if n == 5 then true
    else (if n == 6 then true else (if n == 7 then true else
    (if n == 14 then true
    else (if n == 15 then true
    else (if n == 17 then true else (if n == 18 then true else n == 19)))))))

-- a node without parts
abbrev of_none : ℕ → Plain
of_none n = if n == 0 then dead else (if n == 1 then start else (if n == 2 then done else none))

-- the trees, after the node of one place and key took its parts from them
abbrev taken : ℕ → List ℕ → List Plain → List Plain
taken n k xs =
    if leaf n then of_none n ∷ xs
    else (if single n then of_one n k (top xs) ∷ under xs
    else of_two n k (top xs) (top (under xs)) ∷ under (under xs))

-- the trees that are written_code there
abbrev read : List (ℕ × List ℕ) → List Plain
read [] = []
read (t ∷ ts) = taken t.0 t.1 (read ts)

-- one part reads back
one_reads : (n : ℕ) (k : List ℕ) (x : Plain) (ts : List (ℕ × List ℕ))
    → read (written_code x ++ ts) ≡ x ∷ read ts
    → taken n k (read (written_code x ++ ts)) ≡ taken n k (x ∷ read ts)
one_reads n k x ts e = ap (taken n k) e

-- two parts read back
two_read : (n : ℕ) (k : List ℕ) (x y : Plain) (ts : List (ℕ × List ℕ))
    → ((rest : List (ℕ × List ℕ)) → read (written_code x ++ rest) ≡ x ∷ read rest)
    → read (written_code y ++ ts) ≡ y ∷ read ts →
    taken n k (read ((written_code x ++ written_code y) ++ ts)) ≡ taken n k (x ∷ y ∷ read ts)
two_read n k x y ts f e =
    ap (λ l. taken n k (read l)) (append_assoc (written_code x) (written_code y) ts) ∙ ap
    (taken n k) (f (written_code y ++ ts) ∙ ap (λ l. x ∷ l) e)

-- a tree reads back
reads : (x : Plain) (ts : List (ℕ × List ℕ)) → read (written_code x ++ ts) ≡ x ∷ read ts
reads none ts = refl
reads dead ts = refl
reads start ts = refl
reads done ts = refl
reads (opt true x) ts = one_reads 3 (1 ∷ []) x ts (reads x ts)
reads (opt false x) ts = one_reads 3 (0 ∷ []) x ts (reads x ts)
reads (seq x true y) ts = two_read 4 (1 ∷ []) x y ts (reads x) (reads y ts)
reads (seq x false y) ts = two_read 4 (0 ∷ []) x y ts (reads x) (reads y ts)
reads (star true x) ts = one_reads 5 (1 ∷ []) x ts (reads x ts)
reads (star false x) ts = one_reads 5 (0 ∷ []) x ts (reads x ts)
reads (par x) ts = one_reads 6 [] x ts (reads x ts)
reads (par_star x) ts = one_reads 7 [] x ts (reads x ts)
reads (or x y) ts = two_read 8 [] x y ts (reads x) (reads y ts)
reads (and x y) ts = two_read 9 [] x y ts (reads x) (reads y ts)
reads (couple x y) ts = two_read 10 [] x y ts (reads x) (reads y ts)
reads (any x y) ts = two_read 11 [] x y ts (reads x) (reads y ts)
reads (every x y) ts = two_read 12 [] x y ts (reads x) (reads y ts)
reads (sync x y) ts = two_read 13 [] x y ts (reads x) (reads y ts)
reads (all x) ts = one_reads 14 [] x ts (reads x ts)
reads (times x) ts = one_reads 15 [] x ts (reads x ts)
reads (pair x y) ts = two_read 16 [] x y ts (reads x) (reads y ts)
reads (bag x) ts = one_reads 17 [] x ts (reads x ts)
reads (map x) ts = one_reads 18 [] x ts (reads x ts)
reads (entry v x) ts = one_reads 19 v x ts (reads x ts)
reads (more x y) ts = two_read 21 [] x y ts (reads x) (reads y ts)

-- one tree alone
pub alone : (x : Plain) → top (read (written_code x)) ≡ x
alone x = ap (λ l. top (read l)) (sym (append-nil (written_code x))) ∙ ap top (reads x [])

-- a plain tree is stored as its nodes
abbrev pub plain_code : Coded Plain
plain_code = code_by (List (ℕ × List ℕ)) (coded_list (coded× coded_ℕ (coded_list coded_ℕ)))
    written_code (λ ts. top (read ts)) alone
