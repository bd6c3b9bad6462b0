-- Laws of the offsets of the entries into the kept bytes. Assumes nothing.
use Rattle.std.proofs.Common.{◌≡◌, ℕ, zero, suc, ◌+◌, ◌-◌, ◌<◌, ◌≤◌, List, [], ◌∷◌, ◌++◌, map, length, get_or, take, drop, sym, refl, ap, ◌∙◌, add_assoc, zero-add, arith}
use Rattle.undo_list.specs.declared.entry.Entry.{Entry}
use Rattle.undo_list.specs.Spell.{kept_count, total, offsets_from, lowered}

offsets_push : (from : ℕ) (es : List Entry) (e : Entry) → offsets_from from (es ++ e ∷ []) ≡ offsets_from from es ++ (from + total es) ∷ []
offsets_push from [] e = let z : from ≡ from + 0 = omega arith in ap (λ n. n ∷ []) z
offsets_push from (a ∷ es) e = ap (λ x. from ∷ x) (offsets_push (from + kept_count a) es e ∙ ap (λ n. offsets_from (from + kept_count a) es ++ n ∷ []) (add_assoc from (kept_count a) (total es)))

offsets_take : (from n : ℕ) (es : List Entry) → take n (offsets_from from es) ≡ offsets_from from (take n es)
offsets_take from zero es = refl
offsets_take from (suc n) [] = refl
offsets_take from (suc n) (e ∷ es) = ap (λ x. from ∷ x) (offsets_take (from + kept_count e) n es)

offsets_drop : (from n : ℕ) (es : List Entry) → drop n (offsets_from from es) ≡ offsets_from (from + total (take n es)) (drop n es)
offsets_drop from zero es = let z : from ≡ from + 0 = omega arith in ap (λ k. offsets_from k es) z
offsets_drop from (suc n) [] = refl
offsets_drop from (suc n) (e ∷ es) = offsets_drop (from + kept_count e) n es ∙ ap (λ k. offsets_from k (drop n es)) (add_assoc from (kept_count e) (total (take n es)))

offsets_low : (gone from : ℕ) (es : List Entry) → map (lowered gone) (offsets_from (gone + from) es) ≡ offsets_from from es
offsets_low gone from [] = refl
offsets_low gone from (e ∷ es) =
    let here : (gone + from) - gone ≡ from = omega arith in
    ap (λ n. n ∷ map (lowered gone) (offsets_from (gone + from + kept_count e) es)) here
    ∙ ap (λ x. from ∷ x) (ap (λ n. map (lowered gone) (offsets_from n es)) (add_assoc gone from (kept_count e)) ∙ offsets_low gone (from + kept_count e) es)

offset_at : (from : ℕ) (es : List Entry) (i d : ℕ) → i < length es → get_or (offsets_from from es) i d ≡ from + total (take i es)
offset_at from [] i d h = absurd (omega arith)
offset_at from (e ∷ es) zero d h = omega arith
offset_at from (e ∷ es) (suc i) d h = offset_at (from + kept_count e) es i d (omega arith) ∙ add_assoc from (kept_count e) (total (take i es))

offsets_past : (from : ℕ) (es : List Entry) (i d : ℕ) → i < length (offsets_from from es) → from ≤ get_or (offsets_from from es) i d
offsets_past from [] i d h = absurd (omega arith)
offsets_past from (e ∷ es) zero d h = omega arith
offsets_past from (e ∷ es) (suc i) d h = omega (arith, offsets_past (from + kept_count e) es i d (omega arith))

-- the offsets through each step of the list
module _ (es : List Entry) (os : List ℕ) (is : os ≡ offsets_from 0 es) where
  pub placed_push : (e : Entry) (n : ℕ) (es' : List Entry) (os' : List ℕ) → n ≡ total es → es' ≡ es ++ e ∷ [] → os' ≡ os ++ n ∷ [] → os' ≡ offsets_from 0 es'
  placed_push e n es' os' t a b = b ∙ ap (λ x. x ++ n ∷ []) is ∙ ap (λ k. offsets_from 0 es ++ k ∷ []) (t ∙ sym (zero-add (total es))) ∙ sym (ap (offsets_from 0) a ∙ offsets_push 0 es e)

  pub placed_cut : (left : ℕ) (es' : List Entry) (os' : List ℕ) → es' ≡ take left es → os' ≡ take left os → os' ≡ offsets_from 0 es'
  placed_cut left es' os' a b = b ∙ ap (take left) is ∙ offsets_take 0 left es ∙ ap (offsets_from 0) (sym a)

  pub placed_at : (i n d : ℕ) → i < length es → n ≡ get_or os i d → n ≡ total (take i es)
  placed_at i n d h e = e ∙ ap (λ x. get_or x i d) is ∙ offset_at 0 es i d h ∙ zero-add (total (take i es))

  module _ (gone freed : ℕ) (f : freed ≡ total (take gone es)) where
    left_offsets : drop gone os ≡ offsets_from freed (drop gone es)
    left_offsets = ap (drop gone) is ∙ offsets_drop 0 gone es ∙ ap (λ n. offsets_from n (drop gone es)) (zero-add (total (take gone es)) ∙ sym f)

    pub placed_past : (i d : ℕ) → i < length (drop gone os) → freed ≤ get_or (drop gone os) i d
    placed_past i d h = rw left_offsets (offsets_past freed (drop gone es) i d (rw left_offsets at h))

    pub placed_trimmed : (es' : List Entry) (os' : List ℕ) → es' ≡ drop gone es → os' ≡ map (lowered freed) (drop gone os) → os' ≡ offsets_from 0 es'
    placed_trimmed es' os' a b =
        let z : freed ≡ freed + 0 = omega arith in
        b ∙ ap (map (lowered freed)) (left_offsets ∙ ap (λ n. offsets_from n (drop gone es)) z) ∙ offsets_low freed 0 (drop gone es) ∙ ap (offsets_from 0) (sym a)
