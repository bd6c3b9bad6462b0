-- Undo and redo: the inversion of a group, the chain, and what it leaves in the undo list. Assumes
-- nothing.
use Rattle.std.specs.Prelude.{ℕ, ◌+◌, ◌-◌, Bool, cond, ◌&&◌, List, [], ◌∷◌, ◌++◌, map, length, take, Some, None, Option, nat_le, nat_lt, slice_index, slice_index_or}
use Rattle.places.specs.declared.edit.Edit.{Edit}
use Rattle.places.specs.declared.edit.Edit.TheVariants.{Insertion, Deletion}
use Rattle.places.specs.Refusals.{Fault}
use Rattle.places.specs.declared.faults.Refusal.{Refusal}
use Rattle.places.specs.declared.faults.Refusal.TheVariants.{Presence}
use Rattle.undo_list.specs.Groups.{Held, PutIn, Took, after_close, groups_in}
use Rattle.session.specs.declared.state.State.{State}
use Rattle.session.specs.declared.state.State.TheVariants.{Rest, Chain, Change}
use Rattle.session.specs.declared.state.Kind.TheVariants as kind
use Rattle.turns.specs.Faults.{fault_of, first_fault, edits_fault, unless_fault}
use Rattle.session.specs.States.{state_check}
use Rattle.session.specs.World.{World, with_groups, deleted, put_back}

-- The edit that inverts an entry: an insertion's range goes, and a deletion's kept bytes come back.
abbrev pub inverse_of : Held → Edit
inverse_of (PutIn p n) = Deletion p n
inverse_of (Took p bs notes) = Insertion p (length bs)

-- It is recorded as every edit; a deletion comes back with its notes.
abbrev pub invert : Held → World → World
invert (PutIn p n) w = deleted p n w
invert (Took p bs notes) w = put_back p bs notes w

-- A group, newest entry first.
unfoldable pub invert_all : List Held → World → World
invert_all [] w = w
invert_all (h ∷ hs) w = invert_all hs (invert h w)

-- An open group is closed before.
unfoldable pub with_closed : World → World
with_closed w = with_groups (after_close w.groups) w

-- The inverse edits become a closed group of their own.
unfoldable pub inverted : List Held → World → World
inverted hs w = let v = invert_all hs (with_closed w) in with_groups (after_close v.groups) v

-- The place of the chain, and the groups that its undos made and no redo took back. A chain that
-- begins at rest begins above all groups, and has made none.
abbrev pub chain_place : State → ℕ → ℕ
chain_place Rest n = n
chain_place (Chain c) n = c
chain_place Change n = n

abbrev pub chain_made : State → List ℕ → List ℕ
chain_made Rest made = []
chain_made (Chain c) made = made
chain_made Change made = []

abbrev pub undo_place : World → ℕ
undo_place w = chain_place w.state (groups_in w.groups)

abbrev pub made_now : World → List ℕ
made_now w = chain_made w.state w.made

-- The number of the group that is made next.
abbrev pub next_group : World → ℕ
next_group w = length (after_close w.groups).closed

abbrev pub in_chain : ℕ → List ℕ → World → World
in_chain c made w = record { text = w.text; room = w.room; places = w.places; groups = w.groups; state = Chain c; made = made; noted = w.noted }

abbrev pub presence : Bool → Option Refusal
presence here = cond here None (Some Presence)

-- Undo: the group just below the place.
unfoldable pub undo_group : World → List Held
undo_group w = slice_index_or (after_close w.groups).closed (undo_place w - 1) []

unfoldable pub undo_fault : World → Option Fault
undo_fault w =
    first_fault (fault_of (state_check w.state (kind.Undo (undo_place w - 1))) 0)
    (first_fault (fault_of (presence (nat_lt 0 (undo_place w) && nat_le (undo_place w) (next_group w))) 0)
    (edits_fault w.places w.room w.groups (map inverse_of (undo_group w))))

unfoldable pub undone : World → World
undone w = in_chain (undo_place w - 1) (made_now w ++ next_group w ∷ []) (inverted (undo_group w) w)

unfoldable pub undo_world : World → World
undo_world w = unless_fault (undo_fault w) (undone w) w

-- Redo: the newest group that an undo of this chain made from the group just above the place.
unfoldable pub redo_group : World → List Held
redo_group w = slice_index_or (after_close w.groups).closed (slice_index (made_now w) (length (made_now w) - 1)) []

unfoldable pub redo_fault : World → Option Fault
redo_fault w =
    first_fault (fault_of (state_check w.state (kind.Redo (undo_place w + 1))) 0)
    (first_fault (fault_of (presence (nat_lt 0 (length (made_now w)) && nat_lt 0 (length (redo_group w)))) 0)
    (edits_fault w.places w.room w.groups (map inverse_of (redo_group w))))

unfoldable pub redone : World → World
redone w = in_chain (undo_place w + 1) (take (length (made_now w) - 1) (made_now w)) (inverted (redo_group w) w)

unfoldable pub redo_world : World → World
redo_world w = unless_fault (redo_fault w) (redone w) w
