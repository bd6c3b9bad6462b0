-- Laws of what the parts of an undo list spell. Assumes nothing.
use Rattle.std.proofs.Common.{◌≡◌, ℕ, zero, suc, ◌+◌, ◌-◌, ◌<◌, ◌≤◌, true, List, [], ◌∷◌, ◌++◌, reverse, length, get_or, take, drop, sym, refl, ap, ◌∙◌, arith, length-drop, length-take}
use Rattle.std.proofs.lemmas.List.{take-append-le, drop-append-le, drop-drop, reverse-append, take_all, drop_all, reverse-reverse, take-append-drop, get_or-drop, get_or-take, get_or-reverse, length-reverse}
use Rattle.std.proofs.lemmas.Bool.Decides.{nat_tests}
use Rattle.undo_list.specs.declared.entry.Entry.{Entry}
use Rattle.undo_list.specs.declared.kind.Kind.{Kind}
use Rattle.undo_list.specs.declared.kind.Kind.TheVariants.{Insertion, Deletion}
use Rattle.undo_list.specs.Groups.{Held, Groups, joined, kept_by, bytes_of}
use Rattle.undo_list.specs.Kinds.{kept_of}
use Rattle.undo_list.specs.Spell.{kept_count, total, held_as, held, spell, rising, last_end, start, part, split, grouped}
use Rattle.undo_list.proofs.Ends.{rising_last, last_push}

pub length-spell : (es : List Entry) (ks : List ℕ) → length (spell es ks) ≡ length es
length-spell [] ks = refl
length-spell (e ∷ es) ks = ap suc (length-spell es (drop (kept_count e) ks))

-- one more entry, with its bytes
pub spell_push : (es : List Entry) (ks : List ℕ) (e : Entry) (w : List ℕ) → total es ≡ length ks → kept_count e ≡ length w → spell (es ++ e ∷ []) (ks ++ w) ≡ spell es ks ++ held e w ∷ []
spell_push [] [] e w h k = ap (λ v. held e v ∷ []) (take_all (kept_count e) w (omega arith))
spell_push [] (x ∷ ks) e w h k = absurd (omega arith)
spell_push (a ∷ es) ks e w h k =
    let le : kept_count a ≤ length ks = omega arith in
    let t : take (kept_count a) (ks ++ w) ≡ take (kept_count a) ks = take-append-le (kept_count a) ks w le in
    let d : drop (kept_count a) (ks ++ w) ≡ drop (kept_count a) ks ++ w = drop-append-le (kept_count a) ks w le in
    let left : total es ≡ length (drop (kept_count a) ks) = simp length-drop (omega arith) in
    ap (λ v. held a v ∷ spell (es ++ e ∷ []) (drop (kept_count a) (ks ++ w))) t
    ∙ ap (λ v. held a (take (kept_count a) ks) ∷ spell (es ++ e ∷ []) v) d
    ∙ ap (λ v. held a (take (kept_count a) ks) ∷ v) (spell_push es (drop (kept_count a) ks) e w left k)

-- an entry by its number
pub spell_at : (es : List Entry) (ks : List ℕ) (i : ℕ) (e : Entry) (d : Held) → i < length es → get_or (spell es ks) i d ≡ held (get_or es i e) (take (kept_count (get_or es i e)) (drop (total (take i es)) ks))
spell_at [] ks i e d h = absurd (omega arith)
spell_at (a ∷ es) ks zero e d h = refl
spell_at (a ∷ es) ks (suc i) e d h =
    spell_at es (drop (kept_count a) ks) i e d (omega arith)
    ∙ ap (λ v. held (get_or es i e) (take (kept_count (get_or es i e)) v)) (drop-drop (total (take i es)) (kept_count a) ks)

-- entries and bytes dropped together: the front goes, and no other entry changes
pub spell-drop : (j : ℕ) (es : List Entry) (ks : List ℕ) → spell (drop j es) (drop (total (take j es)) ks) ≡ drop j (spell es ks)
spell-drop zero es ks = refl
spell-drop (suc j) [] ks = refl
spell-drop (suc j) (e ∷ es) ks =
    ap (spell (drop j es)) (sym (drop-drop (total (take j es)) (kept_count e) ks)) ∙ spell-drop j es (drop (kept_count e) ks)

-- groups do not see what comes after them
part_push : (a b : ℕ) (xs ys : List Held) → a ≤ b → b ≤ length xs → part a b (xs ++ ys) ≡ part a b xs
part_push a b xs ys ab h =
    let le : a ≤ length xs = omega arith in
    let le2 : b - a ≤ length (drop a xs) = simp length-drop (omega arith) in
    ap (λ v. reverse (take (b - a) v)) (drop-append-le a xs ys le) ∙ ap reverse (take-append-le (b - a) (drop a xs) ys le2)

pub split_push : (from : ℕ) (ends : List ℕ) (xs ys : List Held) → rising from ends (length xs) ≡ true → split from ends (xs ++ ys) ≡ split from ends xs
split_push from [] xs ys h = refl
split_push from (e ∷ es) xs ys h =
    let lt : from < e = grind (arith, nat_tests) in
    let le : from ≤ e = omega arith in
    let rest : rising e es (length xs) ≡ true = grind (arith, nat_tests) in
    let up = rising_last e es (length xs) rest in
    let p = part_push from e xs ys le (omega (arith, up)) in
    ap (λ v. v ∷ split e es (xs ++ ys)) p ∙ ap (λ v. part from e xs ∷ v) (split_push e es xs ys rest)

open_push : (b : ℕ) (xs : List Held) (x : Held) → b ≤ length xs → reverse (drop b (xs ++ x ∷ [])) ≡ x ∷ reverse (drop b xs)
open_push b xs x h = ap reverse (drop-append-le b xs (x ∷ []) h) ∙ reverse-append (drop b xs) (x ∷ [])

pub same_groups : (a b : List (List Held)) (x y : List Held) → a ≡ b → x ≡ y → ◌≡◌ {A = Groups} (record { closed = a; opened = x }) (record { closed = b; opened = y })
same_groups a b x y p q = cc

pub grouped_push : (ends : List ℕ) (xs : List Held) (x : Held) → rising 0 ends (length xs) ≡ true → grouped ends (xs ++ x ∷ []) ≡ record { closed = split 0 ends xs; opened = x ∷ reverse (drop (last_end 0 ends) xs) }
grouped_push ends xs x h =
    let up = rising_last 0 ends (length xs) h in
    same_groups _ _ _ _ (split_push 0 ends xs (x ∷ []) h) (open_push (last_end 0 ends) xs x up.1)

-- the closing of the open group
split_close : (from : ℕ) (ends : List ℕ) (xs : List Held) (e : ℕ) → e ≡ length xs → split from (ends ++ e ∷ []) xs ≡ split from ends xs ++ reverse (drop (last_end from ends) xs) ∷ []
split_close from [] xs e is =
    let le : length (drop from xs) ≤ e - from = simp length-drop (omega arith) in
    ap (λ v. reverse v ∷ []) (take_all (e - from) (drop from xs) le)
split_close from (a ∷ es) xs e is = ap (λ v. part from a xs ∷ v) (split_close a es xs e is)

pub grouped_close : (ends : List ℕ) (xs : List Held) (e : ℕ) → e ≡ length xs → grouped (ends ++ e ∷ []) xs ≡ record { closed = split 0 ends xs ++ reverse (drop (last_end 0 ends) xs) ∷ []; opened = [] }
grouped_close ends xs e is =
    same_groups _ _ _ _ (split_close 0 ends xs e is)
    (ap (λ n. reverse (drop n xs)) (last_push 0 ends e) ∙ ap reverse (drop_all e xs (omega arith)))

-- all entries, oldest first
joined-split : (from : ℕ) (ends : List ℕ) (xs : List Held) → rising from ends (length xs) ≡ true → joined (split from ends xs) (reverse (drop (last_end from ends) xs)) ≡ drop from xs
joined-split from [] xs h = reverse-reverse (drop from xs)
joined-split from (e ∷ es) xs h =
    let lt : from < e = grind (arith, nat_tests) in
    let rest : rising e es (length xs) ≡ true = grind (arith, nat_tests) in
    let sum : from + (e - from) ≡ e = omega arith in
    ap (λ v. v ++ joined (split e es xs) (reverse (drop (last_end e es) xs))) (reverse-reverse (take (e - from) (drop from xs)))
    ∙ ap (λ v. take (e - from) (drop from xs) ++ v) (joined-split e es xs rest)
    ∙ ap (λ v. take (e - from) (drop from xs) ++ v) (ap (λ n. drop n xs) (sym sum) ∙ sym (drop-drop (e - from) from xs))
    ∙ take-append-drop (e - from) (drop from xs)

pub joined_all : (ends : List ℕ) (xs : List Held) → rising 0 ends (length xs) ≡ true → joined (split 0 ends xs) (reverse (drop (last_end 0 ends) xs)) ≡ xs
joined_all ends xs h = joined-split 0 ends xs h

pub length-split : (from : ℕ) (ends : List ℕ) (xs : List Held) → length (split from ends xs) ≡ length ends
length-split from [] xs = refl
length-split from (e ∷ ends) xs = ap suc (length-split e ends xs)

kept_by-held : (k : Kind) (p n : ℕ) (w : List ℕ) → length w ≡ kept_of k n → kept_by (held_as k p n w) ≡ kept_of k n
kept_by-held Insertion p n w h = refl
kept_by-held (Deletion distances) p n w h = h

pub bytes_spell : (es : List Entry) (ks : List ℕ) → total es ≤ length ks → bytes_of (spell es ks) ≡ total es
bytes_spell [] ks h = refl
bytes_spell (e ∷ es) ks h =
    let k : length (take (kept_count e) ks) ≡ kept_count e = simp length-take (omega arith) in
    let l : total es ≤ length (drop (kept_count e) ks) = simp length-drop (omega arith) in
    ap (λ n. n + bytes_of (spell es (drop (kept_count e) ks))) (kept_by-held e.kind e.place e.count (take (kept_count e) ks) k) ∙ ap (λ n. kept_count e + n) (bytes_spell es (drop (kept_count e) ks) l)

-- the entries of the j-th group
pub split_at : (from : ℕ) (ends : List ℕ) (xs : List Held) (j : ℕ) (d : ℕ) (g : List Held) → rising from ends (length xs) ≡ true → j < length ends → (get_or (split from ends xs) j g ≡ part (start from ends j) (get_or ends j d) xs) × ((start from ends j ≤ get_or ends j d) × (get_or ends j d ≤ length xs))
unfolding start
split_at from [] xs j d g h k = absurd (omega arith)
split_at from (e ∷ es) xs zero d g h k =
    let lt : from < e = grind (arith, nat_tests) in
    let rest : rising e es (length xs) ≡ true = grind (arith, nat_tests) in
    (refl, (omega arith, omega (arith, rising_last e es (length xs) rest)))
split_at from (e ∷ es) xs (suc j) d g h k =
    let rest : rising e es (length xs) ≡ true = grind (arith, nat_tests) in
    split_at e es xs j d g rest (omega arith)

pub part_length : (a b : ℕ) (xs : List Held) → b ≤ length xs → length (part a b xs) ≡ b - a
part_length a b xs h = length-reverse (take (b - a) (drop a xs)) ∙ simp (length-take, length-drop) (omega arith)

pub part_all : (a b : ℕ) (xs : List Held) → b ≡ length xs → part a b xs ≡ reverse (drop a xs)
part_all a b xs h =
    let le : length (drop a xs) ≤ b - a = simp length-drop (omega arith) in
    ap reverse (take_all (b - a) (drop a xs) le)

-- entry i of a part, counted from the newest
pub part_at : (a b : ℕ) (xs : List Held) (i : ℕ) (d : Held) → b ≤ length xs → i < b - a → get_or (part a b xs) i d ≡ get_or xs (b - 1 - i) d
part_at a b xs i d h lt =
    let long : length (take (b - a) (drop a xs)) ≡ b - a = simp (length-take, length-drop) (omega arith) in
    let lt2 : i < length (take (b - a) (drop a xs)) = omega arith in
    let k : length (take (b - a) (drop a xs)) - 1 - i < b - a = omega arith in
    let sum : a + (length (take (b - a) (drop a xs)) - 1 - i) ≡ b - 1 - i = omega arith in
    get_or-reverse (take (b - a) (drop a xs)) i d lt2
    ∙ get_or-take (b - a) (drop a xs) (length (take (b - a) (drop a xs)) - 1 - i) d k
    ∙ get_or-drop a xs (length (take (b - a) (drop a xs)) - 1 - i) d
    ∙ ap (λ n. get_or xs n d) sum
