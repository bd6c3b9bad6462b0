-- The calls that edit a text and set its markers, spans and window, and those of the undo list alone:
-- for each its checks in the order of the table, and the world after it. A refused call leaves the
-- world as it was. Assumes nothing.
use Rattle.std.specs.Prelude.{ℕ, List, length, Option}
use Rattle.places.specs.declared.edit.Edit.TheVariants.{Insertion, Deletion}
use Rattle.places.specs.declared.edit.Origin.TheVariants.{Call}
use Rattle.places.specs.declared.faults.Refusal.{Refusal}
use Rattle.places.specs.Calls.{with_marker, protected, unprotected, narrowed, widened}
use Rattle.places.specs.Model.{Model}
use Rattle.places.specs.Checks.{set_check, range_check, protect_check, unprotect_check, place_check, window_check, span_check}
use Rattle.undo_list.specs.Groups.{after_close, trimmed}
use Rattle.undo_list.specs.Limits.{count_check, entry_check, trim_check}
use Rattle.store.specs.Edits.{unless}
use Rattle.turns.specs.Checks.{or_else, room_check}
use Rattle.session.specs.declared.state.Kind.{Kind}
use Rattle.session.specs.declared.state.Kind.TheVariants.{Insert, Delete, Set, Boundary, Trim, Protect, Unprotect, Narrow, Widen}
use Rattle.session.specs.States.{state_check, next_in}
use Rattle.session.specs.World.{World, in_state, with_places, with_groups, inserted, deleted}

-- What a text asks of an insertion of n bytes at p: count, place, window, spans, capacity.
abbrev pub insertion_checks : Model → ℕ → ℕ → ℕ → Option Refusal
insertion_checks m room p n =
    or_else (count_check n)
    (or_else (place_check m (Insertion p n))
    (or_else (window_check m (Insertion p n))
    (or_else (span_check m Call (Insertion p n))
    (room_check m.len room n))))

-- The same of a deletion, which needs no room.
abbrev pub deletion_checks : Model → ℕ → ℕ → Option Refusal
deletion_checks m p n =
    or_else (count_check n)
    (or_else (place_check m (Deletion p n))
    (or_else (window_check m (Deletion p n))
    (span_check m Call (Deletion p n))))

-- The same, closed to proofs that need not look at each check.
unfoldable pub insertion_check : Model → ℕ → ℕ → ℕ → Option Refusal
insertion_check m room p n = insertion_checks m room p n

unfoldable pub deletion_check : Model → ℕ → ℕ → Option Refusal
deletion_check m p n = deletion_checks m p n

-- State, then what the text asks, then the undo list, where a deletion keeps its bytes and an insertion
-- keeps none.
unfoldable pub insert_check : World → ℕ → ℕ → Option Refusal
insert_check w p n = or_else (state_check w.state Insert) (or_else (insertion_check w.places w.room p n) (entry_check w.groups 0))

unfoldable pub delete_check : World → ℕ → ℕ → Option Refusal
delete_check w p n = or_else (state_check w.state Delete) (or_else (deletion_check w.places p n) (entry_check w.groups n))

-- The world with the state that a call of this kind leads to.
abbrev pub led_by : Kind → World → World → World
led_by k old new = in_state (next_in old.state k) new

unfoldable pub insert_world : World → ℕ → List ℕ → World
insert_world w p bs = unless (insert_check w p (length bs)) (led_by Insert w (inserted p bs w)) w

unfoldable pub delete_world : World → ℕ → ℕ → World
delete_world w p n = unless (delete_check w p n) (led_by Delete w (deleted p n w)) w

-- State, argument, place.
unfoldable pub marker_set_check : World → ℕ → ℕ → Option Refusal
marker_set_check w m p = or_else (state_check w.state Set) (set_check w.places.len m p)

unfoldable pub set_world : World → ℕ → ℕ → World
set_world w m p = unless (marker_set_check w m p) (led_by Set w (with_places (with_marker m p w.places) w)) w

-- A boundary closes the open group, if there is one, and leaves the state.
unfoldable pub boundary_check : World → Option Refusal
boundary_check w = state_check w.state Boundary

unfoldable pub boundary_world : World → World
boundary_world w = unless (boundary_check w) (led_by Boundary w (with_groups (after_close w.groups) w)) w

-- State, argument, presence.
unfoldable pub trim_call_check : World → ℕ → Option Refusal
trim_call_check w k = or_else (state_check w.state Trim) (trim_check w.groups k)

unfoldable pub trim_world : World → ℕ → World
trim_world w k = unless (trim_call_check w k) (led_by Trim w (with_groups (trimmed k w.groups) w)) w

-- State, place, span table.
unfoldable pub protect_call_check : World → ℕ → ℕ → Option Refusal
protect_call_check w s e = or_else (state_check w.state Protect) (protect_check w.places s e)

unfoldable pub protect_world : World → ℕ → ℕ → World
protect_world w s e = unless (protect_call_check w s e) (led_by Protect w (with_places (protected s e w.places) w)) w

-- State, place, presence.
unfoldable pub unprotect_call_check : World → ℕ → ℕ → Option Refusal
unprotect_call_check w s e = or_else (state_check w.state Unprotect) (unprotect_check w.places s e)

unfoldable pub unprotect_world : World → ℕ → ℕ → World
unprotect_world w s e = unless (unprotect_call_check w s e) (led_by Unprotect w (with_places (unprotected s e w.places) w)) w

-- State, place.
unfoldable pub narrow_check : World → ℕ → ℕ → Option Refusal
narrow_check w s e = or_else (state_check w.state Narrow) (range_check w.places.len s e)

unfoldable pub narrow_world : World → ℕ → ℕ → World
narrow_world w s e = unless (narrow_check w s e) (led_by Narrow w (with_places (narrowed s e w.places) w)) w

unfoldable pub widen_check : World → Option Refusal
widen_check w = state_check w.state Widen

unfoldable pub widen_world : World → World
widen_world w = unless (widen_check w) (led_by Widen w (with_places (widened w.places) w)) w
