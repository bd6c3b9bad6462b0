-- The worked examples, by computation. Assumes nothing.
use Rattle.std.proofs.Common.{refl}
use Rattle.places.specs.Markers.{markers_after, markers_noted, markers_put_back}
use Rattle.undo_list.specs.Groups.{entries_in, bytes_in}
use Rattle.session.specs.Calls.{insertion_check, deletion_check, insert_check, insert_world, delete_check, delete_world, marker_set_check, set_world, boundary_check, boundary_world, protect_call_check, protect_world, narrow_check, narrow_world}
use Rattle.session.specs.Changes.{opened, open_world, cancelled, cancel_world}
use Rattle.turns.specs.Faults.{edits_fault}
use Rattle.session.specs.Region.{region_walk, take_all_back, region_fault, region_undone, region_world}
use Rattle.session.specs.Undo.{invert_all, with_closed, inverted, undo_group, undo_fault, undone, undo_world, redo_group, redo_fault, redone, redo_world}
use Rattle.session.specs.World.{new_world, fitted, inserted, deleted, put_back}
use Rattle.history.specs.Examples.{WorkedExamples}
use Rattle.history.specs.Runs.{world_after}

pub worked_examples : WorkedExamples
unfolding markers_after markers_noted markers_put_back entries_in bytes_in insertion_check deletion_check insert_check insert_world delete_check delete_world marker_set_check set_world boundary_check boundary_world protect_call_check protect_world narrow_check narrow_world opened open_world cancelled cancel_world edits_fault region_walk take_all_back region_fault region_undone region_world invert_all with_closed inverted undo_group undo_fault undone undo_world redo_group redo_fault redone redo_world new_world fitted inserted deleted put_back world_after
worked_examples =
    record {
      span_in_six_bytes = record { inside = refl; at_start = refl; at_end = refl; shared = refl };
      six_bytes_narrowed = record { at_start = refl; at_end = refl; before = refl; behind = refl };
      there_and_back = record { undo_1 = refl; text_1 = refl; undo_2 = refl; text_2 = refl; undo_3 = refl; redo_1 = refl; text_3 = refl; redo_2 = refl; text_4 = refl; redo_3 = refl };
      undo_undone = record { text_1 = refl; text_2 = refl; text_3 = refl; text_4 = refl };
      region_takes_one = record { counts = refl; text = refl };
      region_brings_back = record { text = refl };
      markers_come_back = record { gone_3 = refl; gone_9 = refl; back_3 = refl; back_9 = refl };
      change_cancelled = record { text = refl; marker = refl };
    }
