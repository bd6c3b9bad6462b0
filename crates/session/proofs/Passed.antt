-- What it means that a call's checks passed. Assumes nothing.
use Rattle.std.proofs.Common.{◌≡◌, ℕ, ◌+◌, ◌≤◌, Bool, true, false, cond, Some, None, Option, refl, arith}
use Rattle.std.proofs.lemmas.Bool.Decides.{nat_tests}
use Rattle.places.specs.declared.edit.Edit.{Edit}
use Rattle.places.specs.declared.edit.Edit.TheVariants.{Insertion, Deletion}
use Rattle.places.specs.declared.edit.Origin.TheVariants.{Call}
use Rattle.places.specs.declared.faults.Refusal.{Refusal}
use Rattle.places.specs.declared.faults.Refusal.TheVariants.{Window, Spans}
use Rattle.places.specs.Carry.{fits}
use Rattle.places.specs.Checks.{in_window, place_check, window_check, span_check}
use Rattle.places.specs.Edits.{reach}
use Rattle.places.specs.Model.{Model}
use Rattle.places.specs.Spans.{meets, some_span}
use Rattle.undo_list.specs.Limits.{count_check, entry_check}
use Rattle.turns.specs.Checks.{or_else, room_check}
use Rattle.session.specs.Calls.{insertion_check, deletion_check, insert_check, delete_check}
use Rattle.session.specs.Admitted.{Removable}
use Rattle.session.specs.Passes.{Insertable, Deletable}
use Rattle.session.specs.World.{World}

-- Of two checks that passed, each did.
pub both : (a b : Option Refusal) → or_else a b ≡ None → (a ≡ None) × (b ≡ None)
both None b h = (refl, h)
both (Some why) b h = (cc, cc)

held : (b : Bool) (why : Refusal) → cond b None (Some why) ≡ None → b ≡ true
held true why h = refl
held false why h = cc

not-held : (b : Bool) (why : Refusal) → cond b (Some why) None ≡ None → b ≡ false
not-held true why h = cc
not-held false why h = refl

pub counted : (n : ℕ) → count_check n ≡ None → (1 ≤ n) × (n ≤ 4096)
counted n h = (grind (arith, nat_tests), grind (arith, nat_tests))

placed : (m : Model) (e : Edit) → place_check m e ≡ None → reach e ≤ m.len
placed m e h = grind (arith, nat_tests)

pub roomy : (len room n : ℕ) → room_check len room n ≡ None → len + n ≤ room
roomy len room n h = grind (arith, nat_tests)

pub insert_passed : (w : World) (p n : ℕ) → insert_check w p n ≡ None → Insertable w.places w.room p n
unfolding insert_check insertion_check
insert_passed w p n h =
    let text : insertion_check w.places w.room p n ≡ None = (both _ _ (both _ _ h).1).0 in
    let behind = both _ _ text in
    let later = both _ _ behind.1 in
    let last = both (window_check w.places (Insertion p n)) _ later.1 in
    let room = (both (span_check w.places Call (Insertion p n)) _ last.1).1 in
    let count = counted n behind.0 in
    record { passes = text; some = count.0; few = count.1; place = placed w.places (Insertion p n) later.0; fits = roomy w.places.len w.room n room }

pub delete_passed : (w : World) (p n : ℕ) → delete_check w p n ≡ None → Deletable w.places p n
unfolding delete_check deletion_check
delete_passed w p n h =
    let text : deletion_check w.places p n ≡ None = (both _ _ (both _ _ h).1).0 in
    let behind = both _ _ text in
    let later = both _ _ behind.1 in
    let last = both _ _ later.1 in
    let count = counted n behind.0 in
    record {
      passes = text;
      some = count.0;
      few = count.1;
      place = placed w.places (Deletion p n) later.0;
      window = held (in_window w.places (Deletion p n)) Window last.0;
      clear = not-held (some_span (meets Call (Deletion p n)) w.places.spans) Spans last.1;
    }

-- The record is carried through such an edit.
pub insertion_fits : (w : World) (p n : ℕ) → w.room ≤ 32768 → Insertable w.places w.room p n → fits (Insertion p n) w.places ≡ true
insertion_fits w p n limit i =
    let place = i.place in
    let room = i.fits in
    grind (arith, nat_tests)

pub deletion_fits : (w : World) (p n : ℕ) → Deletable w.places p n → fits (Deletion p n) w.places ≡ true
deletion_fits w p n i =
    let window = i.window in
    let clear = i.clear in
    rw (window, clear) refl

pub removable : (w : World) (p n : ℕ) → Deletable w.places p n → entry_check w.groups n ≡ None → Removable w p n
removable w p n i l = record { some = i.some; few = i.few; place = i.place; fits = deletion_fits w p n i; listed = l }
