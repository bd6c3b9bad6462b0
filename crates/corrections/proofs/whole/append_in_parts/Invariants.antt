use Rattle.std.proofs.Common.{◌≡◌, ◌++◌}
use Rattle.std.specs.Slice.Iter.{chunks_rest, chunks_size}
use Rattle.corrections.proofs.whole.append_in_parts.Given as goal

abbrev pub invariant-loop-part : goal.invariant-loop-part
invariant-loop-part g l =
    (g.S.TextStore.text l.store ++ chunks_rest l.part-iterator ≡ g.S.TextStore.text l.initial.store ++ l.fn.bytes)
    × (g.S.TextStore.room l.store ≡ g.S.TextStore.room l.initial.store)
    × (chunks_size l.part-iterator ≡ 4096)
