use Rattle.std.proofs.Common.{◌≡◌, ◌++◌, map, take, drop}
use Rattle.undo_list.specs.Spell.{lowered}
use Rattle.undo_list.proofs.fronts.lower.Given as goal

abbrev pub invariant-loop-number : goal.invariant-loop-number
invariant-loop-number l = l.numbers ≡ map (lowered l.gone) (take l.number-index l.initial.numbers) ++ drop l.number-index l.initial.numbers
