-- One fault after the other. Assumes nothing.
use Rattle.std.proofs.Common.{◌≡◌, ℕ, ◌+◌, ◌^◌, ◌<◌, ◌≤◌, List, length, Some, None, Ok, Err, Option, Result, sym, refl, ap, ◌∙◌, arith}
use Rattle.std.proofs.lemmas.Bool.Decides.{nat_tests}
use Rattle.places.specs.declared.edit.Edit.{Edit}
use Rattle.places.specs.Refusals.{Fault}
use Rattle.places.specs.declared.faults.Refusal.{Refusal}
use Rattle.places.specs.declared.faults.Refusal.TheVariants.{UndoList}
use Rattle.store.specs.Edits.{answer}
use Rattle.store.specs.Refusals.{fault_at}
use Rattle.undo_list.specs.Groups.{Groups, entries_in, bytes_in, groups_in}
use Rattle.undo_list.specs.Limits.{limit_check, group_check}
use Rattle.turns.specs.Faults.{fault_of, losses}
use Rattle.turns.specs.Rests.{verdict, summed}

abbrev Verdict : Type 0
Verdict = Result (Unit {0}) Fault

pub of_answer : (o : Option Refusal) (p : ℕ) → answer o p ≡ verdict (fault_of o p)
of_answer None p = refl
of_answer (Some why) p = refl

-- What an answer says of the fault in it.
pub answer_passes : (o : Option Refusal) (p : ℕ) → Ok (tt {0}) ≡ answer o p → fault_of o p ≡ None
answer_passes None p h = refl
answer_passes (Some why) p h = let z : ◌≡◌ {A = ℕ} 0 1 = cc in absurd (omega arith)

pub answer_fails : (o : Option Refusal) (p : ℕ) (f : Fault) → Err f ≡ answer o p → fault_of o p ≡ Some f
answer_fails None p f h = let z : ◌≡◌ {A = ℕ} 0 1 = cc in absurd (omega arith)
answer_fails (Some why) p f h = grind arith

held : (es : List Edit) (bytes : ℕ) → Some bytes ≡ summed es → bytes ≡ losses es
held es bytes h = grind (arith, nat_tests)

lost : (es : List Edit) → None ≡ summed es → 2 ^ 64 ≤ losses es
lost es h = grind (arith, nat_tests)

-- The group of the edits, by the sum that the machine holds.
pub listed : (g : Groups) (es : List Edit) (bytes : ℕ) (r : Verdict) → Some bytes ≡ summed es → r ≡ answer (group_check g (length es) bytes) 0 → r ≡ verdict (fault_of (group_check g (length es) (losses es)) 0)
listed g es bytes r is h = h ∙ ap (λ n. answer (group_check g (length es) n) 0) (held es bytes is) ∙ of_answer (group_check g (length es) (losses es)) 0

limited : (a b d : ℕ) → 16384 < b → limit_check a b d ≡ Some UndoList
limited a b d h = grind (arith, nat_tests)

-- A sum that the machine cannot hold passes the limit.
pub overfull : (g : Groups) (es : List Edit) (r : Verdict) → None ≡ summed es → r ≡ Err (fault_at UndoList 0) → r ≡ verdict (fault_of (group_check g (length es) (losses es)) 0)
overfull g es r is h =
    let big = lost es is in
    let over : 16384 < bytes_in g + losses es = omega (arith, big) in
    h ∙ ap (λ o. verdict (fault_of o 0)) (sym (limited (entries_in g + length es) (bytes_in g + losses es) (groups_in g + 1) over))
