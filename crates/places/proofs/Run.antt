-- A list of edits that passes the place, the window and the span check: the record is carried through
-- each of them. Assumes nothing.
use Rattle.std.proofs.Common.{◌≡◌, ℕ, ◌+◌, ◌^◌, ◌<◌, true, false, List, [], ◌∷◌, IfOk, Some, None, Ok, Err, Option, Result, sym, refl, ap, ◌∙◌, arith}
use Rattle.std.proofs.lemmas.Bool.{and_from, not_from_false, cond-true}
use Rattle.std.proofs.lemmas.Bool.Decides.{nat_tests}
use Rattle.places.specs.declared.edit.Check.TheVariants.{Place, Window, Spans}
use Rattle.places.specs.declared.edit.Edit.{Edit}
use Rattle.places.specs.declared.edit.Edit.TheVariants.{Insertion, Deletion}
use Rattle.places.specs.declared.edit.Origin.{Origin}
use Rattle.places.specs.declared.edit.Origin.TheVariants.{Call}
use Rattle.places.specs.Refusals.{Fault}
use Rattle.places.specs.declared.faults.Refusal.{Refusal}
use Rattle.places.specs.declared.record.Span.{Span}
use Rattle.places.specs.Carry.{fits, carried, after}
use Rattle.places.specs.Checks.{place_check, in_window, window_check, span_check}
use Rattle.places.specs.DryRun.{and_then, edit_check, sight, put_to_all, EachFits, growth_of_all}
use Rattle.places.specs.Edits.{growth, place_of}
use Rattle.places.specs.Model.{Model}
use Rattle.places.specs.Spans.{meets, some_span}

-- A list that a check passes: its first edit passes, and so do the others.
first_passes : (o : Option Refusal) (p : ℕ) (rest : Result (Unit {0}) Fault) → and_then o p rest ≡ Ok (tt {0}) → o ≡ None
first_passes None p rest h = refl
first_passes (Some why) p rest h = let z : ◌≡◌ {A = ℕ} 0 1 = cc in absurd (omega arith)

others_pass : (o : Option Refusal) (p : ℕ) (rest : Result (Unit {0}) Fault) → and_then o p rest ≡ Ok (tt {0}) → rest ≡ Ok (tt {0})
others_pass None p rest h = h
others_pass (Some why) p rest h = let z : ◌≡◌ {A = ℕ} 0 1 = cc in absurd (omega arith)

-- A deletion meets a span whoever makes it.
any_origin : (o : Origin) (p n : ℕ) (ss : List Span) → some_span (meets Call (Deletion p n)) ss ≡ some_span (meets o (Deletion p n)) ss
any_origin o p n [] = refl
any_origin o p n (s ∷ ss) = let a = any_origin o p n ss in rw a refl

fits_all_checks : (o : Origin) (e : Edit) (m : Model) → m.len + growth e < 2 ^ 64 → place_check (sight Place m) e ≡ None → window_check (sight Window m) e ≡ None → span_check m o e ≡ None → fits e m ≡ true
fits_all_checks o (Insertion p n) m room pl wi sp = grind (arith, nat_tests)
fits_all_checks o (Deletion p n) m room pl wi sp =
    let i : in_window m (Deletion p n) ≡ true = grind (arith, nat_tests) in
    let none : some_span (meets o (Deletion p n)) m.spans ≡ false = grind (arith, nat_tests) in
    and_from _ _ i (not_from_false _ (any_origin o p n m.spans ∙ none))

-- So is each record that the place check and the window check go by.
fits-place : (e : Edit) (m : Model) → m.len + growth e < 2 ^ 64 → place_check (sight Place m) e ≡ None → fits e (sight Place m) ≡ true
fits-place (Insertion p n) m room pl = grind (arith, nat_tests)
fits-place (Deletion p n) m room pl = grind (arith, nat_tests)

fits_window : (e : Edit) (m : Model) → m.len + growth e < 2 ^ 64 → place_check (sight Place m) e ≡ None → window_check (sight Window m) e ≡ None → fits e (sight Window m) ≡ true
fits_window (Insertion p n) m room pl wi = grind (arith, nat_tests)
fits_window (Deletion p n) m room pl wi = grind (arith, nat_tests)

smaller : (e : Edit) (m : Model) (more : ℕ) → m.len + (growth e + more) < 2 ^ 64 → (carried e m).len + more < 2 ^ 64
smaller (Insertion p n) m more h = omega arith
smaller (Deletion p n) m more h = omega arith

pub each_fits : (o : Origin) (m : Model) (es : List Edit) → m.len + growth_of_all es < 2 ^ 64 → put_to_all (edit_check Place) (sight Place m) es ≡ Ok (tt {0}) → put_to_all (edit_check Window) (sight Window m) es ≡ Ok (tt {0}) → put_to_all (edit_check (Spans o)) m es ≡ Ok (tt {0}) → EachFits m es
each_fits o m [] room pl wi sp = tt
each_fits o m (e ∷ es) room pl wi sp =
    let one : m.len + growth e < 2 ^ 64 = omega arith in
    let p1 = first_passes (place_check (sight Place m) e) (place_of e) (put_to_all (edit_check Place) (after e (sight Place m)) es) pl in
    let w1 = first_passes (window_check (sight Window m) e) (place_of e) (put_to_all (edit_check Window) (after e (sight Window m)) es) wi in
    let s1 = first_passes (span_check m o e) (place_of e) (put_to_all (edit_check (Spans o)) (after e m) es) sp in
    let p2 = others_pass (place_check (sight Place m) e) (place_of e) (put_to_all (edit_check Place) (after e (sight Place m)) es) pl in
    let w2 = others_pass (window_check (sight Window m) e) (place_of e) (put_to_all (edit_check Window) (after e (sight Window m)) es) wi in
    let s2 = others_pass (span_check m o e) (place_of e) (put_to_all (edit_check (Spans o)) (after e m) es) sp in
    let fit = fits_all_checks o e m one p1 w1 s1 in
    let p3 = ap (λ w. put_to_all (edit_check Place) w es) (sym (cond-true _ (carried e (sight Place m)) (sight Place m) (fits-place e m one p1))) ∙ p2 in
    let w3 = ap (λ w. put_to_all (edit_check Window) w es) (sym (cond-true _ (carried e (sight Window m)) (sight Window m) (fits_window e m one p1 w1))) ∙ w2 in
    let s3 = ap (λ w. put_to_all (edit_check (Spans o)) w es) (sym (cond-true _ (carried e m) m fit)) ∙ s2 in
    (fit, each_fits o (carried e m) es (smaller e m (growth_of_all es) room) p3 w3 s3)

pub where_passed : (r : Result (Unit {0}) Fault) (X : Type 0) → (r ≡ Ok (tt {0}) → X) → IfOk r (λ _. X)
where_passed (Ok u) X f = f refl
where_passed (Err e) X f = tt
