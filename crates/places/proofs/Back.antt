-- An edit and its inverse give a record of places back. Assumes nothing.
use Rattle.std.proofs.Common.{◌≡◌, ℕ, ◌+◌, ◌-◌, ◌^◌, ◌<◌, ◌≤◌, true, false, leb, ◌⊎◌, List, [], ◌∷◌, map, length, get_or, Some, None, Option, sym, refl, ap, ◌∙◌, inl, inr, arith}
use Rattle.std.specs.List.{AllZip, AllByRecursion as All}
use Rattle.std.proofs.lemmas.List.FromFn.{length-map-range_with_len}
use Rattle.std.proofs.lemmas.List.{ext_get_or}
use Rattle.std.proofs.lemmas.Bool.{and_parts, and_from, not-true, not_from_false, cases_Bool, cond-true, leb-true, leb-false, le-leb, lt-leb}
use Rattle.std.proofs.lemmas.Bool.Decides.{nat_tests}
use Rattle.places.specs.declared.edit.Edit.{Edit}
use Rattle.places.specs.declared.edit.Edit.TheVariants.{Insertion, Deletion}
use Rattle.places.specs.declared.edit.Origin.{Origin}
use Rattle.places.specs.declared.edit.Origin.TheVariants.{Call, Undo}
use Rattle.places.specs.declared.record.Span.{Span}
use Rattle.places.specs.Carry.{fits, carried, after, restored, deletion_inverted}
use Rattle.places.specs.Checks.{in_window}
use Rattle.places.specs.Laws.{admitted, SameBytes}
use Rattle.places.specs.Markers.{marker_inserted, marker_deleted, marker_after, noted, put_back, markers_after, markers_noted, markers_put_back}
use Rattle.places.specs.Model.{Model}
use Rattle.places.specs.Near.{near}
use Rattle.places.specs.Spans.{span_inserted, span_deleted, span_after, meets, insertion_meets, deletion_meets, some_span}
use Rattle.places.proofs.Kept.{Sound}
use Rattle.places.proofs.Sixteen.{after_at, noted_at, back_at}

-- One marker.

inserted_back : (p n i x : ℕ) → marker_deleted p n (marker_inserted p n i x) ≡ x
inserted_back p n i x = grind (arith, nat_tests)

restored_back : (p n i : ℕ) (o : Option ℕ) (x : ℕ) → near n o ≡ true → marker_deleted p n (put_back p n i o x) ≡ x
restored_back p n i None x h = inserted_back p n i x
restored_back p n i (Some d) x h = grind (arith, nat_tests)

deleted_back : (p n i x : ℕ) → put_back p n i (noted p n x) (marker_deleted p n x) ≡ x
deleted_back p n i x = grind (arith, nat_tests)

-- All sixteen.

length-after : (e : Edit) (ms : List ℕ) → length (markers_after e ms) ≡ 16
unfolding markers_after
length-after e ms = length-map-range_with_len (λ i. marker_after e i (get_or ms i 0)) 0 16

length_back : (p n : ℕ) (notes : List (Option ℕ)) (ms : List ℕ) → length (markers_put_back p n notes ms) ≡ 16
unfolding markers_put_back
length_back p n notes ms = length-map-range_with_len (λ i. put_back p n i (get_or notes i None) (get_or ms i 0)) 0 16

markers_inserted_back : (p n : ℕ) (ms : List ℕ) → length ms ≡ 16 → markers_after (Deletion p n) (markers_after (Insertion p n) ms) ≡ ms
markers_inserted_back p n ms long =
    let l = length-after (Deletion p n) (markers_after (Insertion p n) ms) in
    ext_get_or 0 _ ms (l ∙ sym long) (λ i h. let lt : i < 16 = omega arith in rw (after_at (Deletion p n) (markers_after (Insertion p n) ms) i lt, after_at (Insertion p n) ms i lt) (inserted_back p n i (get_or ms i 0)))

markers_restored_back : (p n : ℕ) (notes : List (Option ℕ)) (ms : List ℕ) → length ms ≡ 16 → ((k : ℕ) → k < 16 → near n (get_or notes k None) ≡ true) → markers_after (Deletion p n) (markers_put_back p n notes ms) ≡ ms
markers_restored_back p n notes ms long close =
    let l = length-after (Deletion p n) (markers_put_back p n notes ms) in
    ext_get_or 0 _ ms (l ∙ sym long) (λ i h. let lt : i < 16 = omega arith in rw (after_at (Deletion p n) (markers_put_back p n notes ms) i lt, back_at p n notes ms i lt) (restored_back p n i (get_or notes i None) (get_or ms i 0) (close i lt)))

markers_deleted_back : (p n : ℕ) (ms : List ℕ) → length ms ≡ 16 → markers_put_back p n (markers_noted p n ms) (markers_after (Deletion p n) ms) ≡ ms
markers_deleted_back p n ms long =
    let l = length_back p n (markers_noted p n ms) (markers_after (Deletion p n) ms) in
    ext_get_or 0 _ ms (l ∙ sym long) (λ i h. let lt : i < 16 = omega arith in rw (back_at p n (markers_noted p n ms) (markers_after (Deletion p n) ms) i lt, noted_at p n ms i lt, after_at (Deletion p n) ms i lt) (deleted_back p n i (get_or ms i 0)))

-- One span.

both_ends : {a b a' b' : ℕ} → a ≡ a' → b ≡ b' → ◌≡◌ {A = Span} (record { start = a; end = b }) (record { start = a'; end = b' })
both_ends p q = cc

same_span : (s : Span) {a b : ℕ} → a ≡ s.start → b ≡ s.end → ◌≡◌ {A = Span} (record { start = a; end = b }) s
same_span s p q = both_ends p q

span_inserted_back : (p n : ℕ) (s : Span) → span_deleted p n (span_inserted p n s) ≡ s
span_inserted_back p n s =
    elim (cases_Bool (leb p s.start)) [
      | inl y ↦
          let z : leb (p + n) (s.start + n) ≡ true = le-leb _ _ (omega (arith, leb-true _ _ y)) in
          rw (y, z) (same_span s (omega arith) (omega arith))
      | inr y ↦
          let z : leb (p + n) s.start ≡ false = lt-leb _ _ (omega (arith, leb-false _ _ y)) in
          rw (y, z) refl
    ]

span_deleted_back : (p n : ℕ) (s : Span) → s.start < s.end → deletion_meets p n s ≡ false → span_inserted p n (span_deleted p n s) ≡ s
span_deleted_back p n s h m =
    elim (cases_Bool (leb (p + n) s.start)) [
      | inl y ↦
          let w = leb-true _ _ y in
          let z : leb p (s.start - n) ≡ true = le-leb _ _ (omega arith) in
          rw (y, z) (same_span s (omega arith) (omega arith))
      | inr y ↦
          let w = leb-false _ _ y in
          let v : s.start < p = grind (arith, nat_tests) in
          let z : leb p s.start ≡ false = lt-leb _ _ v in
          rw (y, z) refl
    ]

-- The spans.

spans_inserted_back : (p n : ℕ) (ss : List Span) → map (span_after (Deletion p n)) (map (span_after (Insertion p n)) ss) ≡ ss
spans_inserted_back p n [] = refl
spans_inserted_back p n (s ∷ ss) =
    let a = span_inserted_back p n s in
    let b = spans_inserted_back p n ss in
    cc

spans_deleted_back : (p n len : ℕ) (ss : List Span) → All (Sound len) ss → some_span (meets Call (Deletion p n)) ss ≡ false → map (span_after (Insertion p n)) (map (span_after (Deletion p n)) ss) ≡ ss
spans_deleted_back p n len [] all none = refl
spans_deleted_back p n len (s ∷ ss) all none =
    let u : deletion_meets p n s ≡ false = grind (arith, nat_tests) in
    let v : some_span (meets Call (Deletion p n)) ss ≡ false = grind (arith, nat_tests) in
    let a = span_deleted_back p n s all.0.0 u in
    let b = spans_deleted_back p n len ss all.1 v in
    cc

-- A span that an insertion does not meet is not met by the deletion of what it put in.
unmet_then : (o : Origin) (p n : ℕ) (s : Span) → insertion_meets o p s ≡ false → deletion_meets p n (span_inserted p n s) ≡ false
unmet_then Call p n s h = grind (arith, nat_tests)
unmet_then Undo p n s h = grind (arith, nat_tests)

none_then : (o : Origin) (p n : ℕ) (ss : List Span) → some_span (meets o (Insertion p n)) ss ≡ false → some_span (meets Call (Deletion p n)) (map (span_after (Insertion p n)) ss) ≡ false
none_then o p n [] h = refl
none_then o p n (s ∷ ss) h =
    let u : insertion_meets o p s ≡ false = grind (arith, nat_tests) in
    let v : some_span (meets o (Insertion p n)) ss ≡ false = grind (arith, nat_tests) in
    let a = unmet_then o p n s u in
    let b = none_then o p n ss v in
    rw a b

-- The record.

all_fields : {l l' : ℕ} {ms ms' : List ℕ} {ss ss' : List Span} {b h : ℕ} → l ≡ l' → ms ≡ ms' → ss ≡ ss' → ◌≡◌ {A = Model} (record { len = l; markers = ms; spans = ss; before = b; behind = h }) (record { len = l'; markers = ms'; spans = ss'; before = b; behind = h })
all_fields p q r = cc

same_model : (m : Model) {l : ℕ} {ms : List ℕ} {ss : List Span} → l ≡ m.len → ms ≡ m.markers → ss ≡ m.spans → ◌≡◌ {A = Model} (record { len = l; markers = ms; spans = ss; before = m.before; behind = m.behind }) m
same_model m p q r = all_fields p q r

-- After an admitted insertion, the deletion of what it put in fits.
fits_then : (o : Origin) (p n : ℕ) (m : Model) → m.before + m.behind ≤ m.len → admitted m o (Insertion p n) ≡ true → fits (Deletion p n) (carried (Insertion p n) m) ≡ true
fits_then o p n m w h =
    let rest = and_parts _ _ (and_parts (fits (Insertion p n) m) _ h).1 in
    let i : in_window m (Insertion p n) ≡ true = rest.0 in
    let j : in_window (carried (Insertion p n) m) (Deletion p n) ≡ true = grind (arith, nat_tests) in
    and_from _ _ j (not_from_false _ (none_then o p n m.spans (not-true _ rest.1)))

pub inserted_and_deleted : (o : Origin) (p n : ℕ) (m : Model) → length m.markers ≡ 16 → m.before + m.behind ≤ m.len → admitted m o (Insertion p n) ≡ true → after (Deletion p n) (after (Insertion p n) m) ≡ m
inserted_and_deleted o p n m long w h =
    let f : fits (Insertion p n) m ≡ true = (and_parts _ _ h).0 in
    let g = fits_then o p n m w h in
    rw (f, g) (same_model m (omega arith) (markers_inserted_back p n m.markers long) (spans_inserted_back p n m.spans))

pub put_back_and_deleted : (o : Origin) (p n : ℕ) (notes : List (Option ℕ)) (m : Model) → length m.markers ≡ 16 → m.before + m.behind ≤ m.len → ((k : ℕ) → k < 16 → near n (get_or notes k None) ≡ true) → admitted m o (Insertion p n) ≡ true → after (Deletion p n) (deletion_inverted p n notes m) ≡ m
put_back_and_deleted o p n notes m long w close h =
    let f : fits (Insertion p n) m ≡ true = (and_parts _ _ h).0 in
    let g : fits (Deletion p n) (restored p n notes m) ≡ true = fits_then o p n m w h in
    rw (f, g) (same_model m (omega arith) (markers_restored_back p n notes m.markers long close) (spans_inserted_back p n m.spans))

pub deleted_and_put_back : (p n : ℕ) (m : Model) → length m.markers ≡ 16 → m.len < 2 ^ 64 → All (Sound m.len) m.spans → fits (Deletion p n) m ≡ true → deletion_inverted p n (markers_noted p n m.markers) (after (Deletion p n) m) ≡ m
deleted_and_put_back p n m long fit all h =
    let i : in_window m (Deletion p n) ≡ true = (and_parts _ _ h).0 in
    let none : some_span (meets Call (Deletion p n)) m.spans ≡ false = not-true _ (and_parts (in_window m (Deletion p n)) _ h).1 in
    let w : p + n ≤ m.len = grind (arith, nat_tests) in
    let g : fits (Insertion p n) (carried (Deletion p n) m) ≡ true = grind (arith, nat_tests) in
    rw (h, g) (same_model m (omega arith) (markers_deleted_back p n m.markers long) (spans_deleted_back p n m.len m.spans all none))

-- The same bytes.

-- A span that an insertion does not meet lies before its place, or at or behind it.
apart : (o : Origin) (p : ℕ) (s : Span) → insertion_meets o p s ≡ false → (p ≤ s.start) ⊎ (s.end ≤ p)
apart Call p s h = grind (arith, nat_tests)
apart Undo p s h = grind (arith, nat_tests)

inserted_same : (p n len : ℕ) (s : Span) → Sound len s → (p ≤ s.start) ⊎ (s.end ≤ p) → SameBytes (Insertion p n) s (span_after (Insertion p n) s)
inserted_same p n len s h (inl a) = record { long = grind (arith, nat_tests); bytes = λ j k. grind (arith, nat_tests) }
inserted_same p n len s h (inr b) = record { long = grind (arith, nat_tests); bytes = λ j k. grind (arith, nat_tests) }

deleted_same : (p n len : ℕ) (s : Span) → Sound len s → deletion_meets p n s ≡ false → SameBytes (Deletion p n) s (span_after (Deletion p n) s)
deleted_same p n len s h m = record { long = grind (arith, nat_tests); bytes = λ j k. grind (arith, nat_tests) }

one_same : (o : Origin) (e : Edit) (len : ℕ) (s : Span) → Sound len s → meets o e s ≡ false → SameBytes e s (span_after e s)
one_same o (Insertion p n) len s h m = inserted_same p n len s h (apart o p s m)
one_same o (Deletion p n) len s h m = deleted_same p n len s h m

pub each_same : (o : Origin) (e : Edit) (len : ℕ) (ss : List Span) → All (Sound len) ss → some_span (meets o e) ss ≡ false → AllZip (SameBytes e) ss (map (span_after e) ss)
each_same o e len [] all none = tt
each_same o e len (s ∷ ss) all none =
    let u : meets o e s ≡ false = grind (arith, nat_tests) in
    let v : some_span (meets o e) ss ≡ false = grind (arith, nat_tests) in
    (one_same o e len s all.0 u, each_same o e len ss all.1 v)

pub carried_unmet : (o : Origin) (e : Edit) (m u : Model) → All (Sound m.len) m.spans → u ≡ after e m → fits e m ≡ true → some_span (meets o e) m.spans ≡ false → AllZip (SameBytes e) m.spans u.spans
carried_unmet o e m u all is fit none =
    let c : u ≡ carried e m = is ∙ cond-true (fits e m) (carried e m) m fit in
    let ss : u.spans ≡ map (span_after e) m.spans = ap (λ (w : Model). w.spans) c in
    rw ss (each_same o e m.len m.spans all none)
