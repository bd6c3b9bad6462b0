-- Each of the sixteen markers, by its number. Assumes nothing.
use Rattle.std.proofs.Common.{◌≡◌, ℕ, ◌<◌, min, true, List, length, get_or, None, Option, ap, ◌∙◌, arith}
use Rattle.std.proofs.lemmas.List.FromFn.{length-map-range_with_len, get_or-map-range_with_len}
use Rattle.std.proofs.lemmas.Bool.Decides.{nat_tests}
use Rattle.places.specs.declared.edit.Edit.{Edit}
use Rattle.places.specs.Near.{near}
use Rattle.places.specs.Markers.{marker_after, noted, put_back, markers_after, markers_noted, markers_put_back, markers_within}

pub after_at : (e : Edit) (ms : List ℕ) (k : ℕ) → k < 16 → get_or (markers_after e ms) k 0 ≡ marker_after e k (get_or ms k 0)
unfolding markers_after
after_at e ms k h = get_or-map-range_with_len (λ i. marker_after e i (get_or ms i 0)) 0 16 k k 0 h (omega arith)

pub noted_at : (p n : ℕ) (ms : List ℕ) (k : ℕ) → k < 16 → get_or (markers_noted p n ms) k None ≡ noted p n (get_or ms k 0)
unfolding markers_noted
noted_at p n ms k h = get_or-map-range_with_len (λ i. noted p n (get_or ms i 0)) 0 16 k k None h (omega arith)

noted_is_near : (p n m : ℕ) → near n (noted p n m) ≡ true
noted_is_near p n m = grind (arith, nat_tests)

pub noted-near : (p n m : ℕ) (o : Option ℕ) → o ≡ noted p n m → near n o ≡ true
noted-near p n m o is = ap (near n) is ∙ noted_is_near p n m

pub back_at : (p n : ℕ) (notes : List (Option ℕ)) (ms : List ℕ) (k : ℕ) → k < 16 → get_or (markers_put_back p n notes ms) k 0 ≡ put_back p n k (get_or notes k None) (get_or ms k 0)
unfolding markers_put_back
back_at p n notes ms k h = get_or-map-range_with_len (λ i. put_back p n i (get_or notes i None) (get_or ms i 0)) 0 16 k k 0 h (omega arith)

pub within_at : (len : ℕ) (ms : List ℕ) (k : ℕ) → k < 16 → get_or (markers_within len ms) k 0 ≡ min (get_or ms k 0) len
unfolding markers_within
within_at len ms k h = get_or-map-range_with_len (λ i. min (get_or ms i 0) len) 0 16 k k 0 h (omega arith)

pub length-within : (len : ℕ) (ms : List ℕ) → length (markers_within len ms) ≡ 16
unfolding markers_within
length-within len ms = length-map-range_with_len (λ i. min (get_or ms i 0) len) 0 16
