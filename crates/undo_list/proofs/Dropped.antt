-- What is left of a list whose front is dropped, and of one that is changed from its front on. Assumes nothing.
use Rattle.std.proofs.Common.{◌≡◌, ℕ, ◌+◌, ◌-◌, ◌<◌, List, ◌++◌, map, length, get_or, take, drop, set, sym, ap, ◌∙◌, arith, length-append, length-drop, length-take}
use lib.Seq.{paste}
use Rattle.std.proofs.lemmas.List.{take_at, take_all, length-map, get_or_default}
use Rattle.std.proofs.lemmas.List.Edits.{map_over_more}
use Rattle.undo_list.specs.declared.entry.Stored.{Stored}
use Rattle.undo_list.specs.Spell.{lowered, shifted}

pub moved_down : {X : Type 0} (xs ys zs : List X) (k n : ℕ) → n ≡ length xs → ys ≡ paste xs 0 (drop k xs) (n - k) → zs ≡ take (n - k) ys → zs ≡ drop k xs
moved_down xs ys zs k n e a b =
    let l : length (drop k xs) ≡ n - k = length-drop k xs ∙ ap (λ m. m - k) (sym e) in
    b ∙ ap (take (n - k)) (a ∙ ap (λ x. x ++ drop (0 + (n - k)) xs) (take_all (n - k) (drop k xs) (omega arith))) ∙ take_at (drop k xs) (drop (0 + (n - k)) xs) (n - k) l

-- one more that is lowered
pub lowered_more : (gone : ℕ) (xs ys : List ℕ) (i : ℕ) → i < length xs → ys ≡ map (lowered gone) (take i xs) ++ drop i xs → set ys i (get_or ys i 0 - gone) ≡ map (lowered gone) (take (i + 1) xs) ++ drop (i + 1) xs
lowered_more gone xs ys i h is =
    let n : length (map (lowered gone) (take i xs)) ≡ i = length-map (take i xs) (lowered gone) ∙ length-take i xs ∙ omega arith in
    let long : length ys ≡ length xs = ap length is ∙ length-append (map (lowered gone) (take i xs)) (drop i xs) ∙ omega (arith, n, length-drop i xs) in
    let lt : i < length ys = omega arith in
    map_over_more (lowered gone) xs ys i _ h is (get_or_default ys i 0 (get_or ys i 0) lt)

pub shifted_more : (gone : ℕ) (xs ys : List Stored) (i : ℕ) (d : Stored) → i < length xs → ys ≡ map (shifted gone) (take i xs) ++ drop i xs → set ys i (shifted gone (get_or ys i d)) ≡ map (shifted gone) (take (i + 1) xs) ++ drop (i + 1) xs
shifted_more gone xs ys i d h is =
    let n : length (map (shifted gone) (take i xs)) ≡ i = length-map (take i xs) (shifted gone) ∙ length-take i xs ∙ omega arith in
    let long : length ys ≡ length xs = ap length is ∙ length-append (map (shifted gone) (take i xs)) (drop i xs) ∙ omega (arith, n, length-drop i xs) in
    let lt : i < length ys = omega arith in
    map_over_more (shifted gone) xs ys i _ h is (get_or_default ys i d (get_or ys i d) lt)
