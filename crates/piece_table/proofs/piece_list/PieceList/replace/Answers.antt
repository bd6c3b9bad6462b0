use Rattle.std.proofs.Common.{vec_items, ap, ◌∙◌, rules}
use Rattle.piece_table.specs.Pieces.{Edited, inside}
use Rattle.piece_table.proofs.Spliced.{edited_by}
use Rattle.piece_table.proofs.piece_list.PieceList.replace.Goals as goal
use Rattle.piece_table.proofs.piece_list.PieceList.replace.Goals.{After-swap}

pub splice-requires : goal.splice-requires
splice-requires c =
    record {
      order = search rules;
      within = search rules;
      front = c.walk-a.ensures.into;
      back = c.walk-b.ensures.into;
      low = ap (inside 32768) c.as_slice-list.ensures.value ∙ c.args.self.now.low;
      few = search rules;
      reserved = search rules;
    }

edited : (c : After-swap) → Edited (vec_items c.args.self.now.list) c.args.p c.args.n c.args.new (vec_items c.swap.new.x)
edited c = rw (c.swap.ensures.x_after, ← c.as_slice-list.ensures.value) (edited_by c.as_slice-list.result.now _ c.args.p c.args.n c.args.new c.walk-a.result c.walk-b.result c.walk-a.ensures c.walk-b.ensures c.splice.ensures.items)

pub invariant_of-self : goal.invariant_of-self
invariant_of-self c =
    record { few = search rules; reserved = search rules; ready = search rules; low = (edited (goal.at.invariant_of-self c).After-swap).written 32768 c.args.self.now.low c.requires.low }

pub returns : goal.returns
returns c = edited (goal.at.returns c).After-swap
