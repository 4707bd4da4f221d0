-- What is told over calls.
use Rattle.std.proofs.Common.{◌≡◌, Option, None, Some, refl, ap}
use Rattle.ix_blocks.specs.Stores.{Store}
use Rattle.ix_blocks.specs.inside.StoreCalls.{WhereTold}

pub told-map : (R Q : Store → Store → Type 0) (a b : Option Store) → ((old new : Store) → R old new → Q old new) → WhereTold R a b → WhereTold Q a b
told-map R Q None b f h = h
told-map R Q (Some old) None f h = elim h [ ]
told-map R Q (Some old) (Some new) f h = f old new h

pub told-same : (Q : Store → Store → Type 0) (a : Option Store) → ((s : Store) → Q s s) → WhereTold Q a a
told-same Q None f = refl
told-same Q (Some s) f = f s

pub told-both : (R S Q : Store → Store → Type 0) (a b : Option Store) → ((old new : Store) → R old new → S old new → Q old new) → WhereTold R a b → WhereTold S a b → WhereTold Q a b
told-both R S Q None b f h k = h
told-both R S Q (Some old) None f h k = elim h [ ]
told-both R S Q (Some old) (Some new) f h k = f old new h k

pub told-join : (R S Q : Store → Store → Type 0) (a b c : Option Store) → ((old mid new : Store) → R old mid → S mid new → Q old new) → WhereTold R a b → WhereTold S b c → WhereTold Q a c
told-join R S Q None None c f h k = k
told-join R S Q None (Some mid) c f h k = absurd (none-not-some h)
  where
    none-not-some : {s : Store} → Some s ≡ None → ⊥
    none-not-some e = cc
told-join R S Q (Some old) None c f h k = elim h [ ]
told-join R S Q (Some old) (Some mid) None f h k = elim k [ ]
told-join R S Q (Some old) (Some mid) (Some new) f h k = f old mid new h k

pub some-same : {A : Type 0} (a b : A) → Some a ≡ Some b → a ≡ b
some-same {A} a b e = ap inside e
  where
    inside : Option A → A
    inside None = a
    inside (Some x) = x
