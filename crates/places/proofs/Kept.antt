-- What keeps a record of places within its length. Assumes nothing.
use Rattle.std.proofs.Common.{◌≡◌, ℕ, ◌<◌, ◌≤◌, List, length, get_or, sym, ◌∙◌, arith}
use Rattle.std.proofs.lemmas.List.{ext_get_or}
use Rattle.places.specs.declared.record.Span.{Span}
use Rattle.places.specs.Markers.{markers_within}
use Rattle.places.proofs.Sixteen.{within_at, length-within}

abbrev pub Marked : ℕ → List ℕ → Type 0
Marked len ms = (k : ℕ) → k < 16 → get_or ms k 0 ≤ len

-- A span has a byte, and ends within the length.
abbrev pub Sound : ℕ → Span → Type 0
Sound len s = (s.start < s.end) × (s.end ≤ len)

pub within_len : (len : ℕ) (ms : List ℕ) (k : ℕ) → k < 16 → get_or (markers_within len ms) k 0 ≤ len
within_len len ms k h = rw (within_at len ms k h) (omega arith)

-- Places within the length are not cut.
pub within_whole : (len : ℕ) (ms : List ℕ) → length ms ≡ 16 → Marked len ms → markers_within len ms ≡ ms
within_whole len ms long each =
    let l = length-within len ms in
    ext_get_or 0 (markers_within len ms) ms (l ∙ sym long)
    (λ i h. let lt : i < 16 = omega arith in let low : get_or ms i 0 ≤ len = each i lt in rw (within_at len ms i lt) (omega arith))
