-- A session as plain values. Assumes nothing.
use Rattle.std.specs.Prelude.{ℕ, cond, List, [], length, take, drop, Option, ◌==◌}
use Rattle.store.specs.Edits.{inserted_at, deleted_at}
use Rattle.places.specs.declared.edit.Edit.TheVariants.{Insertion, Deletion}
use Rattle.places.specs.Calls.{fresh}
use Rattle.places.specs.Carry.{after, deletion_inverted}
use Rattle.places.specs.Markers.{markers_noted}
use Rattle.places.specs.Model.{Model}
use Rattle.undo_list.specs.Groups.{Groups, PutIn, Took, no_groups, recorded}
use Rattle.session.specs.declared.state.State.{State}
use Rattle.session.specs.declared.state.State.TheVariants.{Rest}

-- The text and the capacity; the markers, spans and window; the undo list; the state. In a chain,
-- `made` has the numbers of the groups that its undos made and no redo took back, oldest first: the
-- last was made from the group just above the place, the one before it from the group above that. In
-- a change, `noted` has the markers, spans and window of its opening.
pub record World : Type 0 where
  pub text : List ℕ
  pub room : ℕ
  pub places : Model
  pub groups : Groups
  pub state : State
  pub made : List ℕ
  pub noted : Model

-- A session that was just made over a store: all markers at 0, no span, no narrowing, an empty list.
unfoldable pub new_world : List ℕ → ℕ → World
new_world text room = record { text = text; room = room; places = fresh (length text); groups = no_groups; state = Rest; made = []; noted = fresh 0 }

-- A record of places for a text of n bytes: one that was made for another length counts for nothing.
-- No run of calls leads to such a record.
unfoldable pub fitted : ℕ → Model → Model
fitted n m = cond (m.len == n) m (fresh n)

abbrev pub in_state : State → World → World
in_state s w = record { text = w.text; room = w.room; places = w.places; groups = w.groups; state = s; made = w.made; noted = w.noted }

abbrev pub with_places : Model → World → World
with_places m w = record { text = w.text; room = w.room; places = m; groups = w.groups; state = w.state; made = w.made; noted = w.noted }

abbrev pub with_groups : Groups → World → World
with_groups g w = record { text = w.text; room = w.room; places = w.places; groups = g; state = w.state; made = w.made; noted = w.noted }

-- The bytes put in at p: markers and spans are carried, and the insertion is recorded.
unfoldable pub inserted : ℕ → List ℕ → World → World
inserted p bs w = record { text = inserted_at w.text p bs; room = w.room; places = after (Insertion p (length bs)) w.places; groups = recorded (PutIn p (length bs)) w.groups; state = w.state; made = w.made; noted = w.noted }

-- n bytes from p on taken out: markers from p to p + n are noted before, markers and spans are carried,
-- and the deletion is recorded with the bytes and the notes.
unfoldable pub deleted : ℕ → ℕ → World → World
deleted p n w = record { text = deleted_at w.text p n; room = w.room; places = after (Deletion p n) w.places; groups = recorded (Took p (take n (drop p w.text)) (markers_noted p n w.places.markers)) w.groups; state = w.state; made = w.made; noted = w.noted }

-- The kept bytes of a deletion put back at p: as an insertion, and each noted marker that stood at p
-- just before goes to its distance from p.
unfoldable pub put_back : ℕ → List ℕ → List (Option ℕ) → World → World
put_back p bs notes w = record { text = inserted_at w.text p bs; room = w.room; places = deletion_inverted p (length bs) notes w.places; groups = recorded (PutIn p (length bs)) w.groups; state = w.state; made = w.made; noted = w.noted }
