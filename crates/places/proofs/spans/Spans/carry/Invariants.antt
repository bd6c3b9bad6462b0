use Rattle.std.proofs.Common.{◌≡◌, map, take, drop}
use Rattle.places.specs.Slots.{spans_of}
use Rattle.places.specs.Spans.{span_after}
use Rattle.places.proofs.spans.Spans.carry.Given as goal

abbrev pub invariant-loop-i : goal.invariant-loop-i
invariant-loop-i l =
    (take l.i l.self.slots ≡ map (span_after l.edit) (take l.i (spans_of l.initial.self)))
    × (drop l.i l.self.slots ≡ drop l.i l.initial.self.slots)
    × (l.self.count ≡ l.initial.self.count)
