-- One entry more, as the undo list counts it. Assumes nothing.
use Rattle.std.proofs.Common.{◌≡◌, ℕ, ◌+◌, ◌≤◌, List, [], ◌∷◌, ◌++◌, reverse, length, None, refl, ap, arith, length-append}
use Rattle.std.proofs.lemmas.List.{length-reverse, reverse-append}
use Rattle.std.proofs.lemmas.Bool.Decides.{nat_tests}
use Rattle.undo_list.specs.Groups.{Held, Groups, joined, kept_by, bytes_of, entries_in, bytes_in, recorded}
use Rattle.undo_list.specs.Limits.{entry_check}

joined_length : (gs : List (List Held)) (h : Held) (hs : List Held) → length (joined gs (h ∷ hs)) ≡ length (joined gs hs) + 1
joined_length [] h hs = simp length-reverse (omega arith)
joined_length (g ∷ gs) h hs = let more = joined_length gs h hs in simp length-append (omega arith)

pub entries_recorded : (h : Held) (g : Groups) → entries_in (recorded h g) ≡ entries_in g + 1
unfolding entries_in
entries_recorded h g = joined_length g.closed h g.opened

bytes-++ : (xs ys : List Held) → bytes_of (xs ++ ys) ≡ bytes_of xs + bytes_of ys
bytes-++ [] ys = omega arith
bytes-++ (x ∷ xs) ys = let more = bytes-++ xs ys in omega arith

bytes_reverse : (xs : List Held) → bytes_of (reverse xs) ≡ bytes_of xs
bytes_reverse [] = refl
bytes_reverse (x ∷ xs) =
    let more = bytes_reverse xs in
    let split = bytes-++ (reverse xs) (x ∷ []) in
    let turned : bytes_of (reverse (x ∷ xs)) ≡ bytes_of (reverse xs ++ x ∷ []) = ap bytes_of (reverse-append (x ∷ []) xs) in
    omega arith

joined_bytes : (gs : List (List Held)) (h : Held) (hs : List Held) → bytes_of (joined gs (h ∷ hs)) ≡ bytes_of (joined gs hs) + kept_by h
joined_bytes [] h hs = let a = bytes_reverse (h ∷ hs) in let b = bytes_reverse hs in omega arith
joined_bytes (g ∷ gs) h hs =
    let more = joined_bytes gs h hs in
    let a = bytes-++ (reverse g) (joined gs (h ∷ hs)) in
    let b = bytes-++ (reverse g) (joined gs hs) in
    omega arith

pub bytes_recorded : (h : Held) (g : Groups) → bytes_in (recorded h g) ≡ bytes_in g + kept_by h
unfolding bytes_in
bytes_recorded h g = joined_bytes g.closed h g.opened

pub entry_listed : (g : Groups) (k : ℕ) → entries_in g + 1 ≤ 512 → bytes_in g + k ≤ 16384 → length g.closed + 1 ≤ 256 → entry_check g k ≡ None
entry_listed g k a b d = grind (arith, nat_tests)
