-- What a piece table's ghost fields give, and what its edits and its rewriting do to the text.
use Rattle.std.proofs.Common.{◌≡◌, ℕ, ◌+◌, ◌≤◌, true, List, [], ◌∷◌, ◌++◌, length, length-append, vec_items, refl, ap, ◌∙◌, arith, rules}
use Rattle.std.proofs.lemmas.List.{same_lists, places}
use Rattle.store.specs.Edits.{inserted_at, deleted_at}
use Rattle.store.proofs.Lengths.{length-inserted_at, length-deleted_at}
use Rattle.piece_table.specs.Pieces.{part, spelled, inside, total, no_piece, Edited}
use Rattle.piece_table.specs.TableText.{table_text}
use Rattle.piece_table.specs.declared.table.PieceTable.{PieceTable}
use Rattle.piece_table.specs.declared.pieces.Piece.{Piece}
use Rattle.piece_table.proofs.Inside.{inside_first, inside_rest, inside_wider}
use Rattle.piece_table.proofs.Spelled.{length_spelled}

pub size_total : (t : PieceTable) → t.size ≡ total (vec_items t.pieces.list)
size_total t = t.long ∙ length_spelled (vec_items t.live) (vec_items t.pieces.list) t.written

-- Bytes written behind the others.
part_behind : (m bs : List ℕ) (q : Piece) → q.start + q.len ≤ length m → part (m ++ bs) q ≡ part m q
part_behind m bs q h = same_lists _ _ (search (rules, places)) (λ i d k. grind (arith, places))

spelled_behind : (m bs : List ℕ) (ps : List Piece) → inside (length m) ps ≡ true → spelled (m ++ bs) ps ≡ spelled m ps
spelled_behind m bs [] a = refl
spelled_behind m bs (q ∷ qs) a =
    let e = part_behind m bs q (inside_first (length m) q qs a) in
    let t = spelled_behind m bs qs (inside_rest (length m) q qs a) in
    cc

part_added : (m bs : List ℕ) (u : ℕ) → u ≡ length m → part (m ++ bs) (record { start = u; len = length bs }) ≡ bs
part_added m bs u h = same_lists _ _ (search (rules, places)) (λ i d k. grind (arith, places))

-- The text, its length and where its pieces lie, after bytes are written and a piece is put in for
-- them; and after a part is left out.
module _ (t : PieceTable) (qs : List Piece) (p : ℕ) where
  pub put_text : (u : ℕ) (n bs : List ℕ) → u ≡ length (vec_items t.live) → p ≤ length (table_text t) → n ≡ vec_items t.live ++ bs → Edited (vec_items t.pieces.list) p 0 (record { start = u; len = length bs }) qs → (spelled n qs ≡ inserted_at (table_text t) p bs) × (length (spelled n qs) ≡ length (table_text t) + length bs) × (inside (length n) qs ≡ true)
  put_text u n bs at place is ed =
      let m = vec_items t.live in
      let ps = vec_items t.pieces.list in
      let new : Piece = record { start = u; len = length bs } in
      let l : length n ≡ length m + length bs = ap length is ∙ length-append m bs in
      let wide : inside (length n) ps ≡ true = inside_wider (length m) (length n) ps (omega arith) t.written in
      let x = ed.text n wide in
      let s : spelled n ps ≡ spelled m ps = ap (λ y. spelled y ps) is ∙ spelled_behind m bs ps t.written in
      let b : part n new ≡ bs = ap (λ y. part y new) is ∙ part_added m bs u at in
      let z : p + 0 ≡ p = omega arith in
      let text : spelled n qs ≡ inserted_at (table_text t) p bs = cc in
      (text, ap length text ∙ length-inserted_at (table_text t) p bs place, ed.written (length n) wide (omega arith))

  pub cut_text : (n : ℕ) → p + n ≤ length (table_text t) → Edited (vec_items t.pieces.list) p n no_piece qs → (spelled (vec_items t.live) qs ≡ deleted_at (table_text t) p n) × (length (spelled (vec_items t.live) qs) + n ≡ length (table_text t)) × (inside (length (vec_items t.live)) qs ≡ true)
  cut_text n place ed =
      let text = ed.text (vec_items t.live) t.written in
      (text, ap (λ x. length x + n) text ∙ length-deleted_at (table_text t) p n place, ed.written (length (vec_items t.live)) t.written (omega arith))
