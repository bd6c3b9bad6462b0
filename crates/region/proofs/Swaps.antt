-- The relation behind an edit, which is that of its inverse read backwards, and what becomes of two such
-- edits that do not touch. Assumes nothing.
use Rattle.std.proofs.Common.{◌≡◌, ℕ, ◌+◌, ◌-◌, ◌≤◌, List, [], ◌∷◌, ◌++◌, length, take, drop, sym, refl, ap, ◌∙◌, append_assoc, arith, length-append, take-append-drop, length-take-le, drop-drop, take_at, drop_at}
use Rattle.region.specs.Edits.{FullEdit, PutsIn, TakesOut, place, bytes_out, bytes_in, inverse, apply, Valid}

-- Behind the first p bytes, new stands where out stood.
pub record Swap (p : ℕ) (out new t t' : List ℕ) : Type 0 where
  pub before : List ℕ
  pub after : List ℕ
  pub long : length before ≡ p
  pub was : t ≡ before ++ (out ++ after)
  pub is : t' ≡ before ++ (new ++ after)

abbrev pub back : {p : ℕ} {out new t t' : List ℕ} → Swap p out new t t' → Swap p new out t' t
back s = record { before = s.before; after = s.after; long = s.long; was = s.is; is = s.was }

abbrev pub Does : FullEdit → List ℕ → List ℕ → Type 0
Does a t t' = Swap (place a) (bytes_out a) (bytes_in a) t t'

-- Two ways to cut one list: the shorter front is a front of the longer.
pub cut : (a b c d : List ℕ) → a ++ b ≡ c ++ d → length a ≤ length c → (z : List ℕ) × (c ≡ a ++ z) × (b ≡ z ++ d)
cut [] b c d e h = (c, refl, e)
cut (x ∷ a) b [] d e h = absurd (omega arith)
cut (x ∷ a) b (y ∷ c) d e h =
    let e₁ : x ≡ y = cc in
    let e₂ : a ++ b ≡ c ++ d = cc in
    let r = cut a b c d e₂ (omega arith) in
    (r.0, cc r.1, r.2)

pub does : (a : FullEdit) (t : List ℕ) → Valid a t → Does a t (apply a t)
does (PutsIn p w) t h = record { before = take p t; after = drop p t; long = length-take-le p t h; was = sym (take-append-drop p t); is = refl }
does (TakesOut p w) t h =
    let e = take-append-drop (length w) (drop p t) in
    let f = drop-drop (length w) p t in
    let g = take-append-drop p t in
    record { before = take p t; after = drop (p + length w) t; long = length-take-le p t (omega arith); was = cc h.1; is = refl }

-- What a swap says of the text before it, by its places.
pub front : {p : ℕ} {out new t t' : List ℕ} → (s : Swap p out new t t') → take p t ≡ s.before
front {p} {out} s = rw s.was (take_at s.before (out ++ s.after) p s.long)

pub rest : {p : ℕ} {out new t t' : List ℕ} → (s : Swap p out new t t') → drop p t ≡ out ++ s.after
rest {p} {out} s = rw s.was (drop_at s.before (out ++ s.after) p s.long)

pub tail : {p : ℕ} {out new t t' : List ℕ} → (s : Swap p out new t t') → drop (p + length out) t ≡ s.after
tail {p} {out} {t = t} s = rw (← drop-drop (length out) p t, rest s) (drop_at out s.after (length out) refl)

pub room : {p : ℕ} {out new t t' : List ℕ} → (s : Swap p out new t t') → p + length out ≤ length t
room s = rw s.was (simp length-append (omega arith))

pub valid : (a : FullEdit) (t t' : List ℕ) → Does a t t' → Valid a t
valid (PutsIn p w) t t' s = omega (arith, room s)
valid (TakesOut p w) t t' s = (room s, rw (rest s) (take_at w s.after (length w) refl))

pub does_is : (a : FullEdit) (t t' : List ℕ) → Does a t t' → t' ≡ apply a t
does_is (PutsIn p w) t t' s = rw (front s, rest s) s.is
does_is (TakesOut p w) t t' s = rw (front s, tail s) s.is

-- The inverse swaps back.
pub does_back : (a : FullEdit) (t t' : List ℕ) → Does a t t' → Does (inverse a) t' t
does_back (PutsIn p w) t t' s = back s
does_back (TakesOut p w) t t' s = back s

-- A swap at q after one at p, where the second lies behind the first: the second could have come first.
-- z is what stands between the two.
module _ (p q : ℕ) (r w x y t t' t'' : List ℕ) (s₁ : Swap p r w t t') (s₂ : Swap q x y t' t'') (z : List ℕ) where
  behind_by : s₂.before ≡ (s₁.before ++ w) ++ z → s₁.after ≡ z ++ (x ++ s₂.after)
      → (s : List ℕ) × Swap (q - length w + length r) x y t s × Swap p r w s t''
  behind_by e₁ e₂ =
      let k : length s₁.before + length w + length z ≡ q = simp length-append at (sym (ap length e₁) ∙ s₂.long) in (
        s₁.before ++ (r ++ (z ++ (y ++ s₂.after))),
        record { before = s₁.before ++ (r ++ z); after = s₂.after; long = simp length-append (omega arith); was = rw (s₁.was, e₂) (simp append_assoc); is = simp append_assoc },
        record { before = s₁.before; after = z ++ (y ++ s₂.after); long = s₁.long; was = refl; is = rw (s₂.is, e₁) (simp append_assoc) },
      )

  ahead_by : s₁.before ≡ (s₂.before ++ x) ++ z → s₂.after ≡ z ++ (w ++ s₁.after)
      → (s : List ℕ) × Swap q x y t s × Swap (p - length x + length y) r w s t''
  ahead_by e₁ e₂ =
      let k : length s₂.before + length x + length z ≡ p = simp length-append at (sym (ap length e₁) ∙ s₁.long) in (
        s₂.before ++ (y ++ (z ++ (r ++ s₁.after))),
        record { before = s₂.before; after = z ++ (r ++ s₁.after); long = s₂.long; was = rw (s₁.was, e₁) (simp append_assoc); is = refl },
        record { before = s₂.before ++ (y ++ z); after = s₁.after; long = simp length-append (omega arith); was = simp append_assoc; is = rw (s₂.is, e₂) (simp append_assoc) },
      )

pub behind : (p q : ℕ) (r w x y t t' t'' : List ℕ) → Swap p r w t t' → Swap q x y t' t'' → p + length w ≤ q
    → (s : List ℕ) × Swap (q - length w + length r) x y t s × Swap p r w s t''
behind p q r w x y t t' t'' s₁ s₂ h =
    let c = cut (s₁.before ++ w) s₁.after s₂.before (x ++ s₂.after) (rw append_assoc (sym s₁.is ∙ s₂.was)) (simp length-append (omega (arith, s₁.long, s₂.long))) in
    behind_by p q r w x y t t' t'' s₁ s₂ c.0 c.1 c.2

-- And where the second lies before the first.
pub ahead : (p q : ℕ) (r w x y t t' t'' : List ℕ) → Swap p r w t t' → Swap q x y t' t'' → q + length x ≤ p
    → (s : List ℕ) × Swap q x y t s × Swap (p - length x + length y) r w s t''
ahead p q r w x y t t' t'' s₁ s₂ h =
    let c = cut (s₂.before ++ x) s₂.after s₁.before (w ++ s₁.after) (rw append_assoc (sym s₂.was ∙ s₁.is)) (simp length-append (omega (arith, s₁.long, s₂.long))) in
    ahead_by p q r w x y t t' t'' s₁ s₂ c.0 c.1 c.2
