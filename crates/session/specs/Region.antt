-- Undo in a region. Assumes nothing.
use Rattle.std.specs.Prelude.{ℕ, Bool, true, false, cond, List, [], ◌∷◌, map, reverse, length, Some, None, Option, ◌==◌, nat_lt}
use Rattle.places.specs.Refusals.{Fault}
use Rattle.places.specs.declared.faults.Refusal.{Refusal}
use Rattle.places.specs.declared.faults.Refusal.TheVariants.{Argument}
use Rattle.places.specs.Checks.{range_check, region_check}
use Rattle.undo_list.specs.Groups.{Held, PutIn, Took, after_close}
use Rattle.region.specs.Walks.{Ops, Walk, walk}
use Rattle.session.specs.declared.state.State.TheVariants.{Rest}
use Rattle.session.specs.declared.state.Kind.TheVariants.{RegionUndo}
use Rattle.turns.specs.Faults.{fault_of, fault_moved, first_fault, edits_fault, unless_fault}
use Rattle.session.specs.States.{state_check}
use Rattle.session.specs.Undo.{inverse_of, presence, with_closed}
use Rattle.session.specs.World.{World, in_state, with_groups, inserted, deleted}

abbrev pub is_insertion : Held → Bool
is_insertion (PutIn p n) = true
is_insertion (Took p bs notes) = false

abbrev pub held_place : Held → ℕ
held_place (PutIn p n) = p
held_place (Took p bs notes) = p

abbrev pub held_count : Held → ℕ
held_count (PutIn p n) = n
held_count (Took p bs notes) = length bs

abbrev pub held_at : ℕ → Held → Held
held_at q (PutIn p n) = PutIn q n
held_at q (Took p bs notes) = Took q bs notes

abbrev pub held_ops : Ops Held
held_ops = record { inserts = is_insertion; at = held_place; count = held_count; to = held_at }

-- The walk over all entries, those of an open group too. A group has its newest entry first, and the
-- walk takes it oldest first.
unfoldable pub region_walk : World → ℕ → ℕ → ℕ → Walk Held
region_walk w s e g = walk held_ops s e g (map reverse (after_close w.groups).closed)

-- A selected entry is inverted without its notes.
abbrev pub take_back : Held → World → World
take_back (PutIn p n) w = deleted p n w
take_back (Took p bs notes) w = inserted p bs w

unfoldable pub take_all_back : List Held → World → World
take_all_back [] w = w
take_all_back (h ∷ hs) w = take_all_back hs (take_back h w)

-- g groups are 1 to 256.
abbrev pub number_check : ℕ → Option Refusal
number_check g = cond (g == 0) (Some Argument) (cond (nat_lt 256 g) (Some Argument) None)

-- State, argument, place, presence, window of the region, then all checks of its edits; every fault is
-- at the region's start.
unfoldable pub region_fault : World → ℕ → ℕ → ℕ → Option Fault
region_fault w s e g =
    first_fault (fault_of (state_check w.state RegionUndo) s)
    (first_fault (fault_of (number_check g) s)
    (first_fault (fault_of (range_check w.places.len s e) s)
    (first_fault (fault_of (presence (nat_lt 0 (length (region_walk w s e g).chosen))) s)
    (first_fault (fault_of (region_check w.places s e) s)
    (fault_moved s (edits_fault w.places w.room w.groups (map inverse_of (region_walk w s e g).chosen)))))))

unfoldable pub region_undone : World → ℕ → ℕ → ℕ → World
region_undone w s e g =
    let v = take_all_back (region_walk w s e g).chosen (with_closed w) in
    in_state Rest (with_groups (after_close v.groups) v)

unfoldable pub region_world : World → ℕ → ℕ → ℕ → World
region_world w s e g = unless_fault (region_fault w s e g) (region_undone w s e g) w
