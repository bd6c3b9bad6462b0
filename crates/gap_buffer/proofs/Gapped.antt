-- Laws of a memory with a gap in it.
use Rattle.std.specs.Prelude.{◌≡◌, ℕ, ◌+◌, ◌-◌, ◌≤◌, min, List, ◌++◌, length, take, drop, slice_range}
use borrow.Rule.Slice.PartMut.{put_mid}
use Rattle.std.proofs.Common.{arith, rules, length-take, length-drop}
use Rattle.std.proofs.Math.Seq.{paste}
use Rattle.std.proofs.lemmas.List.{same_lists, places}
use Rattle.store.specs.Edits.{inserted_at, deleted_at, copied}
use Rattle.gap_buffer.specs.Gaps.{gapped}

pub moved_left : (m : List ℕ) (p a b : ℕ) → p ≤ a → a ≤ b → b ≤ length m → gapped (paste m (b - (a - p)) (drop p m) (a - p)) p (b - (a - p)) ≡ gapped m a b
moved_left m p a b h1 h2 h3 = same_lists _ _ (search (rules, places)) (λ k d h. grind (arith, places))

pub moved_right : (m : List ℕ) (p a b : ℕ) → a ≤ p → a ≤ b → b + (p - a) ≤ length m → gapped (paste m a (drop b m) (b + (p - a) - b)) p (b + (p - a)) ≡ gapped m a b
moved_right m p a b h1 h2 h3 = same_lists _ _ (search (rules, places)) (λ k d h. grind (arith, places))

-- Bytes written over the front of the gap: ys is what that part then holds.
pub filled : (m bs ys : List ℕ) (a b k : ℕ) → ys ≡ bs → k ≡ length bs → a + length bs ≤ b → b ≤ length m → gapped (put_mid a k m ys) (a + length bs) b ≡ inserted_at (gapped m a b) a bs
filled m bs ys a b k is long h1 h2 = same_lists _ _ (search (rules, places)) (λ i d h. grind (arith, places))

pub cut : (m : List ℕ) (a b n : ℕ) → a ≤ length m → gapped m a (b + n) ≡ deleted_at (gapped m a b) a n
cut m a b n fits = same_lists _ _ (search (rules, places)) (λ k d h. grind (arith, places))

-- A part of the text, as what lies before the gap and what lies behind it.
two_parts : (m : List ℕ) (a b p n k f : ℕ) → a ≤ b → b ≤ length m → p + n + b ≤ a + length m → k ≡ min (a - p) n → f ≡ (p + k) - a → take k (drop p m) ++ take (n - k) (drop (b + f) m) ≡ take n (drop p (gapped m a b))
two_parts m a b p n k f h1 h2 h3 h4 h5 = same_lists _ _ (search (rules, places)) (λ i d h. grind (arith, places))

-- Two writes, one behind the other.
two_writes : (area x y : List ℕ) (n k : ℕ) → n ≤ length area → length x ≡ k → length y + k ≡ n → put_mid k (n - k) (x ++ drop k area) y ≡ (x ++ y) ++ drop n area
two_writes area x y n k h1 h2 h3 = same_lists _ _ (search (rules, places)) (λ i d h. grind (arith, places))

pub copied_out : (m area x y : List ℕ) (a b p n k f : ℕ) → a ≤ b → b ≤ length m → p + n + b ≤ a + length m → n ≤ length area → k ≡ min (a - p) n → f ≡ (p + k) - a → x ≡ slice_range m p (p + k) → y ≡ take (((b + f) + (n - k)) - (b + f)) (drop (b + f) m) → put_mid k (n - k) (x ++ drop k area) y ≡ copied (gapped m a b) p n area
copied_out m area x y a b p n k f h1 h2 h3 h4 h5 h6 h7 h8 =
    let e1 : (p + k) - p ≡ k = omega arith in
    let e2 : ((b + f) + (n - k)) - (b + f) ≡ n - k = omega arith in
    let x-is : x ≡ take k (drop p m) = rw e1 at h7 in
    let y-is : y ≡ take (n - k) (drop (b + f) m) = rw e2 at h8 in
    let x-long : length x ≡ k = rw x-is (simp (length-take, length-drop) (omega arith)) in
    let y-long : length y + k ≡ n = rw y-is (simp (length-take, length-drop) (omega arith)) in
    let w : put_mid k (n - k) (x ++ drop k area) y ≡ (x ++ y) ++ drop n area = two_writes area x y n k h4 x-long y-long in
    let t = two_parts m a b p n k f h1 h2 h3 h5 h6 in
    cc
