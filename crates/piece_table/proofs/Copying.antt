-- A copy of a part of what pieces spell, piece by piece.
use Rattle.std.proofs.Common.{◌≡◌, ℕ, ◌+◌, ◌-◌, ◌<◌, ◌≤◌, min, true, List, length, take, drop, ap, ◌∙◌, inl, inr, arith, length-drop, length-take, rules}
use borrow.Rule.Slice.PartMut.{put_mid}
use Rattle.std.proofs.lemmas.List.{same_lists, places, take_all}
use Rattle.std.proofs.lemmas.Bool.Decides.{leb_tells}
use Rattle.store.specs.Edits.{copied}
use Rattle.piece_table.specs.Pieces.{spelled, inside, total, piece_at}
use Rattle.piece_table.specs.declared.pieces.Piece.{Piece}
use Rattle.piece_table.proofs.Spelled.{length_spelled, piece_bytes, total_more}

-- More of the text behind what the copy has.
copied_more : (t area bs : List ℕ) (p k more : ℕ) → p + (k + more) ≤ length t → k + more ≤ length area → bs ≡ take more (drop (p + k) t) → put_mid k ((k + more) - k) (copied t p k area) bs ≡ copied t p (k + more) area
copied_more t area bs p k more h1 h2 is =
    let l : length bs ≡ more = ap length is ∙ simp (length-take, length-drop) (omega arith) in
    same_lists _ _ (search (rules, places)) (λ i d h. grind (arith, places))

take_none : (xs ys : List ℕ) (n : ℕ) → n ≡ 0 → take n xs ≡ take n ys
take_none xs ys n z = rw z

module _ (m : List ℕ) (ps : List Piece) (ok : inside (length m) ps ≡ true) (p n i skip k : ℕ) (place : k < n → total (take i ps) + skip ≡ p + k) where
  -- What the piece i gives is the text's next.
  next_bytes : (more : ℕ) → i < length ps → skip + more ≤ (piece_at ps i).len → k + more ≤ n → take more (drop ((piece_at ps i).start + skip) m) ≡ take more (drop (p + k) (spelled m ps))
  next_bytes more lt le few =
      elim (leb_tells n k) [
        | inl h ↦ (let full = h.1 in take_none (drop ((piece_at ps i).start + skip) m) (drop (p + k) (spelled m ps)) more (omega arith))
        | inr h ↦ piece_bytes m ps ok i skip more (p + k) lt le (place h.1)
      ]

  pub copy_step : (area bs : List ℕ) (more : ℕ) → i < length ps → skip + more ≤ (piece_at ps i).len → k + more ≤ n → p + n ≤ length (spelled m ps) → n ≤ length area → bs ≡ take (((piece_at ps i).start + skip + more) - ((piece_at ps i).start + skip)) (drop ((piece_at ps i).start + skip) m) → put_mid k ((k + more) - k) (copied (spelled m ps) p k area) bs ≡ copied (spelled m ps) p (k + more) area
  copy_step area bs more lt le few in_text in_area_lem is =
      let z : ((piece_at ps i).start + skip + more) - ((piece_at ps i).start + skip) ≡ more = omega arith in
      let b : bs ≡ take more (drop (p + k) (spelled m ps)) = is ∙ ap (λ x. take x (drop ((piece_at ps i).start + skip) m)) z ∙ next_bytes more lt le few in
      copied_more (spelled m ps) area bs p k more (omega arith) (omega arith) b

  -- Where the next byte is, behind a piece that gave some, and behind one stepped over.
  pub place_after : (more : ℕ) → i < length ps → skip < (piece_at ps i).len → more ≡ min ((piece_at ps i).len - skip) (n - k) → k + more < n → total (take (i + 1) ps) + 0 ≡ p + (k + more)
  place_after more lt le is few =
      let t = total_more ps i lt in
      let s = place (omega arith) in
      omega arith

  pub place-past : i < length ps → (piece_at ps i).len ≤ skip → k < n → total (take (i + 1) ps) + (skip - (piece_at ps i).len) ≡ p + k
  place-past lt le few =
      let t = total_more ps i lt in
      let s = place few in
      omega arith

  -- At the end of the pieces nothing is wanted any more.
  pub all_copied : length ps ≤ i → k ≤ n → p + n ≤ length (spelled m ps) → k ≡ n
  all_copied last le in_text =
      let e : total (take i ps) ≡ total ps = ap total (take_all i ps last) in
      let l = length_spelled m ps ok in
      elim (leb_tells n k) [ inl h ↦ (let full = h.1 in omega arith) | inr h ↦ (let s = place h.1 in absurd (omega arith)) ]
