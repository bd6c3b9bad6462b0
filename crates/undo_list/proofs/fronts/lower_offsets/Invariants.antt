use Rattle.std.proofs.Common.{◌≡◌, ◌++◌, map, take, drop}
use Rattle.undo_list.specs.Spell.{shifted}
use Rattle.undo_list.proofs.fronts.lower_offsets.Given as goal

abbrev pub invariant-loop-one : goal.invariant-loop-one
invariant-loop-one l = l.stored ≡ map (shifted l.gone) (take l.one-index l.initial.stored) ++ drop l.one-index l.initial.stored
