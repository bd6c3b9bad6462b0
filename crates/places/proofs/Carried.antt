-- A record that is carried through an edit stays within its length. Assumes nothing.
use Rattle.std.proofs.Common.{◌≡◌, ℕ, zero, suc, ◌+◌, ◌-◌, ◌^◌, ◌<◌, ◌≤◌, Bool, true, false, List, [], ◌∷◌, ◌++◌, map, length, get_or, take, drop, set, sym, ap, ◌∙◌, subst, Some, None, Option, arith, length-take}
use Rattle.std.proofs.lemmas.List.{take_more_set, map_more, get_or-take, get_or-drop, drop-set-lt, drop-drop}
use Rattle.std.specs.List.{All}
use Rattle.std.proofs.lemmas.List.Elements.{All-get_or, All-map}
use Rattle.std.proofs.lemmas.Bool.{and_parts, not-true}
use Rattle.std.proofs.lemmas.Bool.Decides.{nat_tests}
use Rattle.places.specs.declared.edit.Edit.{Edit}
use Rattle.places.specs.declared.edit.Edit.TheVariants.{Insertion, Deletion}
use Rattle.places.specs.declared.edit.Origin.TheVariants.{Call}
use Rattle.places.specs.declared.record.Span.{Span}
use Rattle.places.specs.Carry.{fits}
use Rattle.places.specs.Checks.{in_window}
use Rattle.places.specs.Edits.{growth, len_after}
use Rattle.places.specs.Markers.{marker_after, put_back, markers_after, markers_put_back}
use Rattle.places.specs.Model.{Model}
use Rattle.places.specs.Near.{near}
use Rattle.places.specs.Spans.{span_after, meets, deletion_meets, some_span}
use Rattle.places.proofs.Kept.{Marked, Sound}
use Rattle.places.proofs.Sixteen.{after_at, back_at}

pub window_after : (e : Edit) (m : Model) (len : ℕ) → len ≡ len_after e m.len → m.before + m.behind ≤ m.len → fits e m ≡ true → m.before + m.behind ≤ len
window_after (Insertion p n) m len is w h = omega arith
window_after (Deletion p n) m len is w h =
    let i : in_window m (Deletion p n) ≡ true = (and_parts _ _ h).0 in
    grind (arith, nat_tests)

-- Where no span passes a test, each of them fails it.
pub none_passes : (test : Span → Bool) (ss : List Span) (k : ℕ) (d : Span) → k < length ss → some_span test ss ≡ false → test (get_or ss k d) ≡ false
none_passes test [] k d h e = absurd (omega arith)
none_passes test (s ∷ ss) zero d h e = grind (arith, nat_tests)
none_passes test (s ∷ ss) (suc k) d h e = none_passes test ss k d (omega arith) (grind (arith, nat_tests))

marker_within : (e : Edit) (m : Model) (i x : ℕ) → fits e m ≡ true → x ≤ m.len → marker_after e i x ≤ len_after e m.len
marker_within (Insertion p n) m i x h w = grind (arith, nat_tests)
marker_within (Deletion p n) m i x h w =
    let j : in_window m (Deletion p n) ≡ true = (and_parts _ _ h).0 in
    grind (arith, nat_tests)

pub marked_after : (e : Edit) (m : Model) (len : ℕ) (out : List ℕ) → len ≡ len_after e m.len → out ≡ markers_after e m.markers → fits e m ≡ true → Marked m.len m.markers → Marked len out
marked_after e m len out is are h each k lt =
    rw (is, are, after_at e m.markers k lt) (marker_within e m k (get_or m.markers k 0) h (each k lt))

one_inserted : (p n len : ℕ) (s : Span) → Sound len s → Sound (len + n) (span_after (Insertion p n) s)
one_inserted p n len s h = (grind (arith, nat_tests), grind (arith, nat_tests))

one_deleted : (p n len : ℕ) (s : Span) → p + n ≤ len → deletion_meets p n s ≡ false → Sound len s → Sound (len - n) (span_after (Deletion p n) s)
one_deleted p n len s w m h = (grind (arith, nat_tests), grind (arith, nat_tests))

one_after : (e : Edit) (m : Model) (k : ℕ) (d : Span) → fits e m ≡ true → All (Sound m.len) m.spans → k < length m.spans → Sound (len_after e m.len) (span_after e (get_or m.spans k d))
one_after (Insertion p n) m k d h each lt = one_inserted p n m.len (get_or m.spans k d) (each k d lt)
one_after (Deletion p n) m k d h each lt =
    let j : in_window m (Deletion p n) ≡ true = (and_parts _ _ h).0 in
    let w : p + n ≤ m.len = grind (arith, nat_tests) in
    let none : some_span (meets Call (Deletion p n)) m.spans ≡ false = not-true _ (and_parts (in_window m (Deletion p n)) _ h).1 in
    let unmet : deletion_meets p n (get_or m.spans k d) ≡ false = none_passes (meets Call (Deletion p n)) m.spans k d lt none in
    one_deleted p n m.len (get_or m.spans k d) w unmet (each k d lt)

pub spanned_after : (e : Edit) (m : Model) (len : ℕ) (out : List Span) → len ≡ len_after e m.len → out ≡ map (span_after e) m.spans → fits e m ≡ true → All (Sound m.len) m.spans → All (Sound len) out
spanned_after e m len out is are h each =
    rw (is, are) (All-map (Sound (len_after e m.len)) (span_after e) m.spans (λ k d lt. one_after e m k d h each lt))

one_back : (p n len i : ℕ) (o : Option ℕ) (x : ℕ) → p ≤ len → near n o ≡ true → x ≤ len → put_back p n i o x ≤ len + n
one_back p n len i None x w e h = grind (arith, nat_tests)
one_back p n len i (Some d) x w e h = grind (arith, nat_tests)

pub marked_back : (p n : ℕ) (notes : List (Option ℕ)) (m : Model) (len : ℕ) (out : List ℕ) → len ≡ m.len + n → out ≡ markers_put_back p n notes m.markers → fits (Insertion p n) m ≡ true → ((k : ℕ) → k < 16 → near n (get_or notes k None) ≡ true) → Marked m.len m.markers → Marked len out
marked_back p n notes m len out is are fit close each k h =
    let w : p ≤ m.len = grind (arith, nat_tests) in
    rw (is, are, back_at p n notes m.markers k h) (one_back p n m.len k (get_or notes k None) (get_or m.markers k 0) w (close k h) (each k h))

-- One span more that is carried, in its slot; the slots behind it are as they were.
module _ (e : Edit) (was now : List Span) (count i : ℕ) (v d : Span) (long : length now ≡ length was) (there : i < count) (few : count ≤ length was) (behind : drop i now ≡ drop i was) where
  pub still_there : get_or now i d ≡ get_or was i d
  still_there =
      let z : i + 0 ≡ i = omega arith in
      sym (get_or-drop i now 0 d ∙ ap (λ k. get_or now k d) z) ∙ ap (λ l. get_or l 0 d) behind ∙ get_or-drop i was 0 d ∙ ap (λ k. get_or was k d) z

  pub still_behind : drop (i + 1) (set now i v) ≡ drop (i + 1) was
  still_behind = drop-set-lt (i + 1) now i v (omega arith) ∙ sym (drop-drop 1 i now) ∙ ap (drop 1) behind ∙ drop-drop 1 i was

  pub carried_more : v ≡ span_after e (get_or now i d) → take i now ≡ map (span_after e) (take i (take count was)) → take (i + 1) (set now i v) ≡ map (span_after e) (take (i + 1) (take count was))
  carried_more is front =
      let at : get_or (take count was) i d ≡ get_or was i d = get_or-take count was i d there in
      let l : i < length (take count was) = simp length-take (omega arith) in
      let same : v ≡ span_after e (get_or (take count was) i d) = is ∙ ap (span_after e) (still_there ∙ sym at) in
      take_more_set now i v (omega arith) ∙ ap (λ ys. ys ++ v ∷ []) front ∙ ap (λ y. map (span_after e) (take i (take count was)) ++ y ∷ []) same ∙ sym (map_more (span_after e) (take count was) i d l)

  pub still_sound : All (λ span. (span.start ≤ span.end) × (span.end + growth e < 2 ^ 64)) (take count was) → ((get_or now i d).start ≤ (get_or now i d).end) × ((get_or now i d).end + growth e < 2 ^ 64)
  still_sound each =
      let at : get_or (take count was) i d ≡ get_or now i d = get_or-take count was i d there ∙ sym still_there in
      subst (λ span. (span.start ≤ span.end) × (span.end + growth e < 2 ^ 64)) at (All-get_or (λ span. (span.start ≤ span.end) × (span.end + growth e < 2 ^ 64)) (take count was) i d (simp length-take (omega arith)) each)
