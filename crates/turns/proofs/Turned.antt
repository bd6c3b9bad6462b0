-- A list of edits, gone through one by one. Assumes nothing.
use Rattle.std.proofs.Common.{◌≡◌, ℕ, ◌+◌, ◌^◌, ◌<◌, ◌≤◌, List, [], ◌∷◌, length, get_or, drop, Some, None, Ok, Err, Option, Result, sym, refl, ap, ◌∙◌, arith}
use Rattle.std.proofs.lemmas.List.{at_drop_more, at_drop_all}
use Rattle.std.proofs.lemmas.Bool.{cond-true, cond-false, lt-ltb, le-ltb}
use Rattle.places.specs.declared.edit.Edit.{Edit}
use Rattle.places.specs.Refusals.{Fault}
use Rattle.places.specs.declared.faults.Refusal.{Refusal}
use Rattle.places.specs.Edits.{growth, loss}
use Rattle.store.specs.Edits.{answer}
use Rattle.undo_list.specs.Limits.{count_check}
use Rattle.turns.specs.Checks.{or_else}
use Rattle.turns.specs.Faults.{counts_check, rooms_check, losses}
use Rattle.turns.specs.Rests.{summed}

refuses : (a b : Option Refusal) (f : Fault) → Err f ≡ answer a 0 → ◌≡◌ {A = Result (Unit {0}) Fault} (Err f) (answer (or_else a b) 0)
refuses None b f h = let z : ◌≡◌ {A = ℕ} 0 1 = cc in absurd (omega arith)
refuses (Some why) b f h = h

passes : (a b : Option Refusal) → Ok (tt {0}) ≡ answer a 0 → or_else a b ≡ b
passes None b h = refl
passes (Some why) b h = let z : ◌≡◌ {A = ℕ} 0 1 = cc in absurd (omega arith)

module _ (es : List Edit) (i : ℕ) (d : Edit) (all : Option Refusal) where
  pub count_refused : (f : Fault) → i < length es → Err f ≡ answer (count_check (growth (get_or es i d) + loss (get_or es i d))) 0 → counts_check (drop i es) ≡ all → ◌≡◌ {A = Result (Unit {0}) Fault} (Err f) (answer all 0)
  count_refused f h err inv = refuses _ (counts_check (drop (i + 1) es)) f err ∙ ap (λ x. answer x 0) (sym (at_drop_more counts_check es i d h) ∙ inv)

  pub count_passed : i < length es → Ok (tt {0}) ≡ answer (count_check (growth (get_or es i d) + loss (get_or es i d))) 0 → counts_check (drop i es) ≡ all → counts_check (drop (i + 1) es) ≡ all
  count_passed h ok inv = sym (passes _ (counts_check (drop (i + 1) es)) ok) ∙ sym (at_drop_more counts_check es i d h) ∙ inv

  pub room_refused : (len room : ℕ) (f : Fault) → i < length es → Err f ≡ answer (rooms_check len room (get_or es i d ∷ drop (i + 1) es)) 0 → rooms_check len room (drop i es) ≡ all → ◌≡◌ {A = Result (Unit {0}) Fault} (Err f) (answer all 0)
  room_refused len room f h err inv = err ∙ ap (λ x. answer x 0) (sym (at_drop_more (rooms_check len room) es i d h) ∙ inv)

  pub room_passed : (len room after : ℕ) → i < length es → rooms_check len room (get_or es i d ∷ drop (i + 1) es) ≡ rooms_check after room (drop (i + 1) es) → rooms_check len room (drop i es) ≡ all → rooms_check after room (drop (i + 1) es) ≡ all
  room_passed len room after h ok inv = sym ok ∙ sym (at_drop_more (rooms_check len room) es i d h) ∙ inv

pub all_done : (f : List Edit → Option Refusal) (es : List Edit) (i : ℕ) → f [] ≡ None → length es ≤ i → f (drop i es) ≡ f es → ◌≡◌ {A = Result (Unit {0}) Fault} (Ok tt) (answer (f es) 0)
all_done f es i none h inv = ap (λ x. answer x 0) (sym none ∙ sym (at_drop_all f es i h) ∙ inv)

-- The two loops end alike, but the length has changed on the way.
pub rooms_done : (es : List Edit) (i len room first : ℕ) → length es ≤ i → rooms_check len room (drop i es) ≡ rooms_check first room es → ◌≡◌ {A = Result (Unit {0}) Fault} (Ok tt) (answer (rooms_check first room es) 0)
rooms_done es i len room first h inv = ap (λ x. answer x 0) (sym (at_drop_all (rooms_check len room) es i h) ∙ inv)

-- A sum on the way.
pub loss_more : (es : List Edit) (i : ℕ) (d : Edit) (sum next all : ℕ) → i < length es → next ≡ sum + loss (get_or es i d) → sum + losses (drop i es) ≡ all → next + losses (drop (i + 1) es) ≡ all
loss_more es i d sum next all h is inv = let more = at_drop_more losses es i d h in omega arith

pub loss_too_large : (es : List Edit) (i : ℕ) (d : Edit) (sum one all : ℕ) → i < length es → one ≡ loss (get_or es i d) → 2 ^ 64 ≤ sum + one → sum + losses (drop i es) ≡ all → 2 ^ 64 ≤ all
loss_too_large es i d sum one all h is big inv = let more = at_drop_more losses es i d h in omega arith

pub sum_done : (es : List Edit) (i sum all : ℕ) → length es ≤ i → sum + losses (drop i es) ≡ all → sum ≡ all
sum_done es i sum all h inv = let none = at_drop_all losses es i h in omega arith

pub sum_held : (es : List Edit) (sum : ℕ) → sum ≡ losses es → sum < 2 ^ 64 → Some sum ≡ summed es
sum_held es sum is few = rw is (let h : losses es < 2 ^ 64 = omega arith in sym (cond-true _ _ _ (lt-ltb _ _ h)))

pub sum_too_large : (es : List Edit) → 2 ^ 64 ≤ losses es → None ≡ summed es
sum_too_large es h = sym (cond-false _ _ _ (le-ltb _ _ h))
