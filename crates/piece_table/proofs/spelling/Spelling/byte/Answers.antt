use Rattle.std.proofs.Common.{rules}
use Rattle.piece_table.proofs.Spelled.{walked_in, walked_low}
use Rattle.piece_table.proofs.spelling.Spelling.byte.Goals as goal

pub bounds-self-inside-spot : goal.bounds-self-inside-spot
bounds-self-inside-spot c = walked_in c.self.inside.memory.now c.self.inside.pieces.now c.self.invariant c.args.p c.walk-spot.result c.walk-spot.ensures (rw c.self.view_is c.requires)

pub overflow_add-at : goal.overflow_add-at
overflow_add-at c = let low = walked_low c.self.inside.memory.now c.self.inside.pieces.now c.self.invariant c.args.p c.walk-spot.result c.walk-spot.ensures (rw c.self.view_is c.requires) in search rules

pub bounds-self-inside-at : goal.bounds-self-inside-at
bounds-self-inside-at c = walked_low c.self.inside.memory.now c.self.inside.pieces.now c.self.invariant c.args.p c.walk-spot.result c.walk-spot.ensures (rw c.self.view_is c.requires)
