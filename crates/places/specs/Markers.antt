-- Where a marker goes when the text changes, what a deletion notes of it, and what the inversion of
-- that deletion makes of it. Assumes nothing.
use Rattle.std.specs.Prelude.{ℕ, ◌+◌, ◌-◌, min, cond, ◌&&◌, List, map, Some, None, Option, ◌==◌, nat_le, nat_lt, slice_index, slice_index_or}
use Rattle.std.specs.List.{range_with_len}
use Rattle.places.specs.declared.edit.Edit.{Edit}
use Rattle.places.specs.declared.edit.Edit.TheVariants.{Insertion, Deletion}

-- Marker i at m, after n bytes were put in at p: before p it stays, behind p it moves by n, and at
-- p markers 0 to 7 stay and 8 to 15 advance.
abbrev pub marker_inserted : ℕ → ℕ → ℕ → ℕ → ℕ
marker_inserted p n i m = cond (nat_lt m p) m (cond (nat_lt p m) (m + n) (cond (nat_lt i 8) m (m + n)))

-- A marker at m, after n bytes were taken out at p: at or before p it stays, inside it goes to p,
-- and at or behind p + n it moves back by n.
abbrev pub marker_deleted : ℕ → ℕ → ℕ → ℕ
marker_deleted p n m = cond (nat_le m p) m (cond (nat_lt m (p + n)) p (m - n))

abbrev pub marker_after : Edit → ℕ → ℕ → ℕ
marker_after (Insertion p n) i m = marker_inserted p n i m
marker_after (Deletion p n) i m = marker_deleted p n m

-- What a deletion of n at p notes of a marker: its distance from p, if it stands from p to p + n,
-- both ends included.
abbrev pub noted : ℕ → ℕ → ℕ → Option ℕ
noted p n m = cond (nat_le p m && nat_le m (p + n)) (Some (m - p)) None

-- Marker i at m just before n bytes go back to p: where it was noted and stands at p, it goes to its
-- distance from p; else it is carried.
abbrev pub put_back : ℕ → ℕ → ℕ → Option ℕ → ℕ → ℕ
put_back p n i None m = marker_inserted p n i m
put_back p n i (Some d) m = cond (m == p) (p + d) (marker_inserted p n i m)

-- The same for all sixteen, each by its number.
unfoldable pub markers_after : Edit → List ℕ → List ℕ
markers_after e ms = map (λ i. marker_after e i (slice_index ms i)) (range_with_len 0 16)

unfoldable pub markers_noted : ℕ → ℕ → List ℕ → List (Option ℕ)
markers_noted p n ms = map (λ i. noted p n (slice_index ms i)) (range_with_len 0 16)

unfoldable pub markers_put_back : ℕ → ℕ → List (Option ℕ) → List ℕ → List ℕ
markers_put_back p n notes ms = map (λ i. put_back p n i (slice_index_or notes i None) (slice_index ms i)) (range_with_len 0 16)

-- Sixteen places, each cut to the length.
unfoldable pub markers_within : ℕ → List ℕ → List ℕ
markers_within len ms = map (λ i. min (slice_index ms i) len) (range_with_len 0 16)
