-- What pieces spell, and where in it the bytes of one of them stand.
use Rattle.std.proofs.Common.{◌≡◌, ℕ, ◌+◌, ◌<◌, ◌≤◌, true, List, [], ◌∷◌, ◌++◌, length, get_or, slice_index_or, ◌-◌, take, drop, sym, refl, ap, ◌∙◌, inl, inr, arith, length-append, length-drop, length-take, rules}
use Rattle.std.proofs.lemmas.List.{same_lists, places, drop_more, take_all, take_more, append_assoc, append-nil, take-append-drop}
use Rattle.std.proofs.lemmas.Bool.Decides.{leb_tells}
use Rattle.piece_table.specs.Pieces.{part, spelled, inside, total, no_piece, piece_at, Walked}
use Rattle.piece_table.specs.declared.pieces.Piece.{Piece}
use Rattle.piece_table.specs.declared.pieces.Spot.{Spot}
use Rattle.piece_table.proofs.Inside.{inside_first, inside_rest, inside_at, inside_take}

total_append : (ps qs : List Piece) → total (ps ++ qs) ≡ total ps + total qs
total_append [] qs = omega arith
total_append (p ∷ ps) qs = let h = total_append ps qs in omega arith

-- One piece more.
pub total_more : (ps : List Piece) (i : ℕ) → i < length ps → total (take (i + 1) ps) ≡ total (take i ps) + (piece_at ps i).len
total_more ps i h = rw (take_more ps i no_piece h) (let e = total_append (take i ps) (piece_at ps i ∷ []) in omega arith)

-- The same, where the pieces are counted from a place on.
pub total_from : (ps : List Piece) (from i : ℕ) → from + i < length ps → total (take (from + (i + 1)) ps) ≡ total (take (from + i) ps) + (slice_index_or (take (length ps - from) (drop from ps)) i no_piece).len
total_from ps from i lt =
    let q : slice_index_or (take (length ps - from) (drop from ps)) i no_piece ≡ piece_at ps (from + i) = grind (arith, places) in
    let n : from + (i + 1) ≡ (from + i) + 1 = omega arith in
    let t = total_more ps (from + i) lt in
    cc

pub spelled_append : (m : List ℕ) (ps qs : List Piece) → spelled m (ps ++ qs) ≡ spelled m ps ++ spelled m qs
spelled_append m [] qs = refl
spelled_append m (p ∷ ps) qs = let h = spelled_append m ps qs in rw h (sym (append_assoc (part m p) (spelled m ps) (spelled m qs)))

length_part : (m : List ℕ) (q : Piece) → q.start + q.len ≤ length m → length (part m q) ≡ q.len
length_part m q h = simp (length-take, length-drop) (omega arith)

pub length_spelled : (m : List ℕ) (ps : List Piece) → inside (length m) ps ≡ true → length (spelled m ps) ≡ total ps
length_spelled m [] h = refl
length_spelled m (q ∷ qs) h =
    let a = length_part m q (inside_first (length m) q qs h) in
    let b = length_spelled m qs (inside_rest (length m) q qs h) in
    length-append (part m q) (spelled m qs) ∙ omega arith

-- The whole, cut before the piece i.
split-spelled : (m : List ℕ) (ps : List Piece) (i : ℕ) → spelled m ps ≡ spelled m (take i ps) ++ spelled m (drop i ps)
split-spelled m ps i = ap (spelled m) (sym (take-append-drop i ps)) ∙ spelled_append m (take i ps) (drop i ps)

take_into : (xs ys : List ℕ) (a o : ℕ) → length xs ≡ a → take (a + o) (xs ++ ys) ≡ xs ++ take o ys
take_into xs ys a o h = same_lists _ _ (search (rules, places)) (λ i d k. grind (arith, places))

drop_into : (xs ys : List ℕ) (a o : ℕ) → length xs ≡ a → drop (a + o) (xs ++ ys) ≡ drop o ys
drop_into xs ys a o h = same_lists _ _ (search (rules, places)) (λ i d k. grind (arith, places))

-- What stands from the piece i on, with that piece apart.
pub from_piece : (m : List ℕ) (ps : List Piece) (i : ℕ) → i < length ps → spelled m (drop i ps) ≡ part m (piece_at ps i) ++ spelled m (drop (i + 1) ps)
from_piece m ps i lt = ap (spelled m) (drop_more ps i no_piece lt)

in_part : (m : List ℕ) (q : Piece) (rest : List ℕ) (o k : ℕ) → q.start + q.len ≤ length m → o + k ≤ q.len → take k (drop (q.start + o) m) ≡ take k (drop o (part m q ++ rest))
in_part m q rest o k h1 h2 = same_lists _ _ (search (rules, places)) (λ i d h. grind (arith, places))

first_of : (xs ys : List ℕ) (a b k : ℕ) → 0 < k → take k (drop a xs) ≡ take k (drop b ys) → get_or xs a 0 ≡ get_or ys b 0
first_of xs ys a b k some h =
    let e : get_or (take k (drop a xs)) 0 0 ≡ get_or (take k (drop b ys)) 0 0 = ap (λ l. get_or l 0 0) h in
    let ex : get_or (take k (drop a xs)) 0 0 ≡ get_or xs a 0 = grind (arith, places) in
    let ey : get_or (take k (drop b ys)) 0 0 ≡ get_or ys b 0 = grind (arith, places) in
    cc

module _ (m : List ℕ) (ps : List Piece) (ok : inside (length m) ps ≡ true) where
  front_long : (i : ℕ) → length (spelled m (take i ps)) ≡ total (take i ps)
  front_long i = length_spelled m (take i ps) (inside_take (length m) i ps ok)

  -- The whole up to, and from, o bytes behind the first i pieces.
  pub spelled_up_to : (i o : ℕ) → take (total (take i ps) + o) (spelled m ps) ≡ spelled m (take i ps) ++ take o (spelled m (drop i ps))
  spelled_up_to i o =
      ap (take (total (take i ps) + o)) (split-spelled m ps i) ∙ take_into (spelled m (take i ps)) (spelled m (drop i ps)) (total (take i ps)) o (front_long i)

  pub spelled_from : (i o : ℕ) → drop (total (take i ps) + o) (spelled m ps) ≡ drop o (spelled m (drop i ps))
  spelled_from i o =
      ap (drop (total (take i ps) + o)) (split-spelled m ps i) ∙ drop_into (spelled m (take i ps)) (spelled m (drop i ps)) (total (take i ps)) o (front_long i)

  -- k bytes of the piece i, behind its first o, as a part of the whole.
  pub piece_bytes : (i o k at : ℕ) → i < length ps → o + k ≤ (piece_at ps i).len → total (take i ps) + o ≡ at → take k (drop ((piece_at ps i).start + o) m) ≡ take k (drop at (spelled m ps))
  piece_bytes i o k at lt le sum =
      let f = ap (drop o) (from_piece m ps i lt) in
      let e : drop at (spelled m ps) ≡ drop o (part m (piece_at ps i) ++ spelled m (drop (i + 1) ps)) = ap (λ n. drop n (spelled m ps)) (sym sum) ∙ spelled_from i o ∙ f in
      in_part m (piece_at ps i) (spelled m (drop (i + 1) ps)) o k (inside_at (length m) ps i ok lt) le ∙ ap (take k) (sym e)

  -- A walk to a byte of the text ends in a piece, and there the byte is.
  pub walked_in : (p : ℕ) (a : Spot) → Walked ps 0 p a → p < length (spelled m ps) → a.piece < length ps
  walked_in p a w lt =
      let n = length_spelled m ps ok in
      let s = w.sum in
      let k = w.within in
      elim (leb_tells (length ps) a.piece) [
        | inl h ↦ (let e : total (take a.piece ps) ≡ total ps = ap total (take_all a.piece ps h.1) in absurd (omega arith))
        | inr h ↦ h.1
      ]

  pub walked_low : (p : ℕ) (a : Spot) → Walked ps 0 p a → p < length (spelled m ps) → (piece_at ps a.piece).start + a.offset < length m
  walked_low p a w lt =
      let here = walked_in p a w lt in
      let q-in = inside_at (length m) ps a.piece ok here in
      let k = w.here here in
      omega arith

  pub walked_byte : (p : ℕ) (a : Spot) → Walked ps 0 p a → p < length (spelled m ps) → get_or m ((piece_at ps a.piece).start + a.offset) 0 ≡ get_or (spelled m ps) p 0
  walked_byte p a w lt =
      let here = walked_in p a w lt in
      let k = w.here here in
      first_of m (spelled m ps) ((piece_at ps a.piece).start + a.offset) p 1 (omega arith) (piece_bytes a.piece a.offset 1 p here (omega arith) (w.sum ∙ omega arith))

  -- One piece more than the first i, as what it adds to what they spell.
  pub one_more : (i : ℕ) → i < length ps → spelled m (take (i + 1) ps) ≡ spelled m (take i ps) ++ take (((piece_at ps i).start + (piece_at ps i).len) - (piece_at ps i).start) (drop (piece_at ps i).start m)
  one_more i lt =
      let q = piece_at ps i in
      let w : spelled m (q ∷ []) ≡ part m q = append-nil (part m q) in
      let n : (q.start + q.len) - q.start ≡ q.len = omega arith in
      let t = take_more ps i no_piece lt in
      let a = spelled_append m (take i ps) (q ∷ []) in
      cc

  -- The first pieces spell no more than all.
  pub front_short : (i : ℕ) → length (spelled m (take i ps)) ≤ length (spelled m ps)
  front_short i = omega (arith, ap length (split-spelled m ps i), length-append (spelled m (take i ps)) (spelled m (drop i ps)))
