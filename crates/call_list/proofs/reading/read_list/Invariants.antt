use Rattle.std.proofs.Common.{◌≡◌, ◌+◌, ◌≤◌, cond, length}
use Rattle.std.specs.Iterator.Adapters.{enumerate_count, enumerate_source}
use Rattle.std.specs.Slice.Iter.{split_done, split_rest}
use Rattle.call_list.specs.Lists.{held, lines_of, listed}
use Rattle.call_list.proofs.Listing.{to_come}
use Rattle.call_list.proofs.reading.read_list.Given as goal

abbrev pub invariant-loop-index : goal.invariant-loop-index
invariant-loop-index l =
    (listed 0 (lines_of l.list) ≡ held l.read (to_come (enumerate_count l.index-iterator) (split_done (enumerate_source l.index-iterator)) (split_rest (enumerate_source l.index-iterator))))
    × (cond (split_done (enumerate_source l.index-iterator)) 0 (enumerate_count l.index-iterator + length (split_rest (enumerate_source l.index-iterator))) ≤ length l.list)
