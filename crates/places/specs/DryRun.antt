-- A list of edits, put to a check before any text is touched: each at its turn, on what the edits
-- before it leave. Assumes nothing.
use Rattle.std.specs.Prelude.{◌≡◌, ℕ, ◌+◌, true, List, [], ◌∷◌, Some, None, Ok, Err, Option, Result}
use Rattle.places.specs.declared.edit.Edit.{Edit}
use Rattle.places.specs.declared.edit.Origin.{Origin}
use Rattle.places.specs.Refusals.{Fault}
use Rattle.places.specs.declared.faults.Refusal.{Refusal}
use Rattle.places.specs.declared.edit.Check.{Check}
use Rattle.places.specs.declared.edit.Check.TheVariants.{Place, Window, Spans}
use Rattle.places.specs.Calls.{unguarded, widened}
use Rattle.places.specs.Carry.{fits, carried, after}
use Rattle.places.specs.Checks.{place_check, window_check, span_check}
use Rattle.places.specs.Edits.{growth, place_of}
use Rattle.places.specs.Model.{Model}
use Rattle.store.specs.Refusals.{fault_at}

-- The checks that a record puts to an edit, in their order.
abbrev pub edit_check : Check → Model → Edit → Option Refusal
edit_check Place m e = place_check m e
edit_check Window m e = window_check m e
edit_check (Spans o) m e = span_check m o e

-- What a check goes by. Counts and spans, whose checks come later, are left out, so that an edit that
-- they refuse does not stand in the way of carrying the length to the next one.
abbrev pub sight : Check → Model → Model
sight Place m = widened (unguarded m)
sight Window m = unguarded m
sight (Spans o) m = m

-- Goes on where a check passes, and else answers its fault.
abbrev pub and_then : Option Refusal → ℕ → Result (Unit {0}) Fault → Result (Unit {0}) Fault
and_then None p rest = rest
and_then (Some why) p rest = Err (fault_at why p)

-- The fault of the first edit that the check refuses, at that edit's place.
abbrev pub put_to_all : (Model → Edit → Option Refusal) → Model → List Edit → Result (Unit {0}) Fault
put_to_all check m [] = Ok tt
put_to_all check m (e ∷ es) = and_then (check m e) (place_of e) (put_to_all check (after e m) es)

-- One check after the other: the first fault answers.
abbrev pub then_also : Result (Unit {0}) Fault → Result (Unit {0}) Fault → Result (Unit {0}) Fault
then_also (Ok u) more = more
then_also (Err f) more = Err f

-- Place to all the edits, then window to all, then spans to all.
abbrev pub dry_run : Origin → Model → List Edit → Result (Unit {0}) Fault
dry_run o m es = then_also (put_to_all (edit_check Place) (sight Place m) es) (then_also (put_to_all (edit_check Window) (sight Window m) es) (put_to_all (edit_check (Spans o)) (sight (Spans o) m) es))

-- Each edit, at its turn, is one that the record is carried through.
abbrev pub EachFits : Model → List Edit → Type 0
EachFits m [] = Unit {0}
EachFits m (e ∷ es) = (fits e m ≡ true) × EachFits (carried e m) es

-- How many bytes all the insertions put in.
abbrev pub growth_of_all : List Edit → ℕ
growth_of_all [] = 0
growth_of_all (e ∷ es) = growth e + growth_of_all es
