use Rattle.std.proofs.Common.{◌≡◌, drop}
use Rattle.undo_list.specs.Groups.{group_at}
use Rattle.session.specs.Admitted.{Admits}
use Rattle.session.specs.Undo.{invert_all}
use Rattle.session.specs.View.{view}
use Rattle.session.proofs.session.Session.invert_all.Given as goal

-- What is left to invert is admitted, and leads to the same end; the closed groups are as they were.
abbrev pub invariant-loop-i : goal.invariant-loop-i
invariant-loop-i g l =
    (invert_all (drop l.i (group_at (view l.initial.self).groups l.group)) (view l.self) ≡ invert_all (group_at (view l.initial.self).groups l.group) (view l.initial.self))
    × Admits (drop l.i (group_at (view l.initial.self).groups l.group)) (view l.self)
    × ((view l.self).groups.closed ≡ (view l.initial.self).groups.closed)
    × (l.self.state ≡ l.initial.self.state)
    × (l.self.made ≡ l.initial.self.made)
