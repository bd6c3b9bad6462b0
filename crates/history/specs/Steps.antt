-- What each call answers and leaves. Every call of the rules is here; those that no list can hold yet
-- too. Assumes nothing.
use Rattle.std.specs.Prelude.{ℕ, ◌+◌, ◌-◌, List, length, take, drop, Some, None, Ok, Err, Option, Result, slice_index}
use Rattle.store.specs.declared.faults.Fault as stores
use Rattle.store.specs.declared.faults.Refusal as refusals
use Rattle.store.specs.Edits as store
use Rattle.places.specs.Checks.{marker_check}
use Rattle.places.specs.Refusals.{outcome, lifted_fault, Fault}
use Rattle.store.specs.Edits.{answer}
use Rattle.undo_list.specs.Groups.{entries_in, groups_in}
use Rattle.calls.specs.Replies.{Reply, said, said_number, done, number, byte, bytes, window, place, undone, token, refusal}
use Rattle.calls.specs.Said.{Said, insert, delete, set_marker, boundary, undo, redo, region_undo, trim, protect, unprotect, narrow, widen, open_change, accept, cancel, length_asked, capacity_asked, byte_asked, copy, marker_asked, window_asked, spans_asked, entries_asked, groups_asked}
use Rattle.session.specs.declared.state.Kind.TheVariants as kind
use Rattle.session.specs.Calls.{insert_check, insert_world, delete_check, delete_world, marker_set_check, set_world, boundary_check, boundary_world, trim_call_check, trim_world, protect_call_check, protect_world, unprotect_call_check, unprotect_world, narrow_check, narrow_world, widen_check, widen_world}
use Rattle.session.specs.Changes.{open_world, accept_world, cancel_world}
use Rattle.session.specs.Region.{region_walk, region_fault, region_world}
use Rattle.session.specs.States.{state_check}
use Rattle.session.specs.Undo.{undo_place, undo_fault, undo_world, redo_fault, redo_world}
use Rattle.session.specs.World.{World}

abbrev pub said_copy : Result (Unit {0}) (stores.Fault refusals.Refusal) → List ℕ → Reply
said_copy (Ok u) bs = bytes bs
said_copy (Err f) bs = refusal (lifted_fault f)

abbrev pub said_unless : Option Fault → Reply → Reply
said_unless None r = r
said_unless (Some f) r = refusal f

-- The area of a copy has 32,768 bytes.
abbrev pub copy_reply : List ℕ → ℕ → ℕ → Reply
copy_reply t p n = said_copy (store.answer (store.copy_check (length t) p n 32768) p) (take n (drop p t))

abbrev pub reply : World → Said → Reply
reply w (insert p bs) = said (answer (insert_check w p (length bs)) p) done
reply w (delete p n) = said (answer (delete_check w p n) p) done
reply w (set_marker m p) = said (answer (marker_set_check w m p) p) done
reply w boundary = said (answer (boundary_check w) 0) done
reply w undo = said_unless (undo_fault w) (place (undo_place w - 1))
reply w redo = said_unless (redo_fault w) (place (undo_place w + 1))
reply w (region_undo s e g) = said_unless (region_fault w s e g) (undone (length (region_walk w s e g).chosen) (region_walk w s e g).groups)
reply w (trim k) = said (answer (trim_call_check w k) 0) done
reply w (protect s e) = said (answer (protect_call_check w s e) s) done
reply w (unprotect s e) = said (answer (unprotect_call_check w s e) s) done
reply w (narrow s e) = said (answer (narrow_check w s e) s) done
reply w widen = said (answer (widen_check w) 0) done
reply w open_change = said (answer (state_check w.state kind.Open) 0) token
reply w accept = said (answer (state_check w.state kind.Accept) 0) done
reply w cancel = said (answer (state_check w.state kind.Cancel) 0) done
reply w length_asked = number (length w.text)
reply w capacity_asked = number w.room
reply w (byte_asked p) = byte (store.byte_at w.text p)
reply w (copy p n) = copy_reply w.text p n
reply w (marker_asked m) = said_number (outcome (marker_check m) 0 (slice_index w.places.markers m))
reply w window_asked = window w.places.before w.places.behind
reply w spans_asked = number (length w.places.spans)
reply w entries_asked = number (entries_in w.groups)
reply w groups_asked = number (groups_in w.groups)

abbrev pub step : World → Said → World
step w (insert p bs) = insert_world w p bs
step w (delete p n) = delete_world w p n
step w (set_marker m p) = set_world w m p
step w boundary = boundary_world w
step w undo = undo_world w
step w redo = redo_world w
step w (region_undo s e g) = region_world w s e g
step w (trim k) = trim_world w k
step w (protect s e) = protect_world w s e
step w (unprotect s e) = unprotect_world w s e
step w (narrow s e) = narrow_world w s e
step w widen = widen_world w
step w open_change = open_world w
step w accept = accept_world w
step w cancel = cancel_world w
step w length_asked = w
step w capacity_asked = w
step w (byte_asked p) = w
step w (copy p n) = w
step w (marker_asked m) = w
step w window_asked = w
step w spans_asked = w
step w entries_asked = w
step w groups_asked = w
