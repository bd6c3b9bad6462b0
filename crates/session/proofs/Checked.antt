-- A call that a later check refuses. Assumes nothing.
use Rattle.std.proofs.Common.{◌≡◌, ℕ, Some, None, Err, Option, Result, refl}
use Rattle.places.specs.declared.faults.Refusal.{Refusal}
use Rattle.places.specs.Refusals.{outcome, Fault}
use Rattle.store.specs.Edits.{answer, unless}
use Rattle.turns.specs.Checks.{or_else}

-- The fault of the second check is that of the call, which leaves the world.
pub second_fault : {A : Type 0} (a b : Option Refusal) (p : ℕ) (f : Fault) (v : A) → a ≡ None → Err f ≡ outcome b p v → ◌≡◌ {A = Result (Unit {0}) Fault} (Err f) (answer (or_else a b) p)
second_fault a None p f v h e = cc
second_fault a (Some why) p f v h e = rw h (cc)

pub second_leaves : {A W : Type 0} (a b : Option Refusal) (p : ℕ) (f : Fault) (v : A) (new old : W) → a ≡ None → Err f ≡ outcome b p v → old ≡ unless (or_else a b) new old
second_leaves a None p f v new old h e = cc
second_leaves a (Some why) p f v new old h e = rw h refl
