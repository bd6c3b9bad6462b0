-- What spliced pieces spell, and where they lie.
use Rattle.std.proofs.Common.{◌≡◌, ℕ, ◌+◌, ◌-◌, ◌<◌, ◌≤◌, true, List, [], ◌++◌, length, take, drop, sym, refl, ap, ◌∙◌, inl, inr, arith, rules}
use Rattle.std.proofs.lemmas.List.{same_lists, places, append_assoc, append-nil, take_rest}
use Rattle.std.proofs.lemmas.Bool.Decides.{eqb_tells}
use Rattle.piece_table.specs.Pieces.{part, spelled, inside, total, piece_at, front_piece, back_piece, kept, past, spliced, Into, Walked, Edited}
use Rattle.piece_table.specs.declared.pieces.Piece.{Piece}
use Rattle.piece_table.specs.declared.pieces.Spot.{Spot}
use Rattle.piece_table.proofs.Inside.{inside_at, inside_join, inside_take, inside-drop, kept-inside}
use Rattle.piece_table.proofs.Spelled.{spelled_append, spelled_up_to, spelled_from, from_piece}

part_none : (m : List ℕ) (q : Piece) → q.len ≡ 0 → part m q ≡ []
part_none m q h = rw h

kept-spelled : (m : List ℕ) (q : Piece) → spelled m (kept q) ≡ part m q
kept-spelled m q =
    elim (eqb_tells q.len 0) [ inl h ↦ (rw h.0 (sym (part_none m q h.1))) | inr h ↦ (rw h.0 (append-nil (part m q))) ]

regroup : (a f n b r t d : List ℕ) → a ++ f ≡ t → b ++ r ≡ d → a ++ f ++ n ++ b ++ r ≡ t ++ (n ++ d)
regroup a f n b r t d h1 h2 = let e1 = append_assoc (a ++ f ++ n) b r in let e2 = append_assoc t n d in cc

take_part : (m : List ℕ) (q : Piece) (rest : List ℕ) (o : ℕ) → q.start + q.len ≤ length m → o < q.len → take o (part m q ++ rest) ≡ take o (drop q.start m)
take_part m q rest o h1 h2 = same_lists _ _ (search (rules, places)) (λ i d k. grind (arith, places))

drop-part : (m : List ℕ) (q : Piece) (rest : List ℕ) (o : ℕ) → q.start + q.len ≤ length m → o < q.len → drop o (part m q ++ rest) ≡ take (q.len - o) (drop (q.start + o) m) ++ rest
drop-part m q rest o h1 h2 = same_lists _ _ (search (rules, places)) (λ i d k. grind (arith, places))

module _ (m : List ℕ) (ps : List Piece) (ok : inside (length m) ps ≡ true) where
  front_spelled : (a : Spot) (p : ℕ) → total (take a.piece ps) + a.offset ≡ p → Into ps a → spelled m (take a.piece ps) ++ part m (front_piece ps a) ≡ take p (spelled m ps)
  front_spelled a p sum into =
      let whole : take p (spelled m ps) ≡ spelled m (take a.piece ps) ++ take a.offset (spelled m (drop a.piece ps)) = ap (λ n. take n (spelled m ps)) (sym sum) ∙ spelled_up_to m ps ok a.piece a.offset in
      elim (eqb_tells a.offset 0) [
        | inl h ↦ (let z : part m (front_piece ps a) ≡ [] = rw h.0 in
            let y : take a.offset (spelled m (drop a.piece ps)) ≡ [] = rw h.1 in
            cc)
        | inr h ↦ (let at : (a.piece < length ps) × (a.offset < (piece_at ps a.piece).len) = into (omega arith) in
            let z : part m (front_piece ps a) ≡ take a.offset (drop (piece_at ps a.piece).start m) = rw h.0 in
            let y = take_part m (piece_at ps a.piece) (spelled m (drop (a.piece + 1) ps)) a.offset (inside_at (length m) ps a.piece ok at.0) at.1 in
            let f = ap (take a.offset) (from_piece m ps a.piece at.0) in
            ap (λ x. spelled m (take a.piece ps) ++ x) (z ∙ sym y ∙ sym f) ∙ sym whole)
      ]

  back_spelled : (b : Spot) (r : ℕ) → total (take b.piece ps) + b.offset ≡ r → Into ps b → part m (back_piece ps b) ++ spelled m (drop (past b) ps) ≡ drop r (spelled m ps)
  back_spelled b r sum into =
      let whole : drop r (spelled m ps) ≡ drop b.offset (spelled m (drop b.piece ps)) = ap (λ n. drop n (spelled m ps)) (sym sum) ∙ spelled_from m ps ok b.piece b.offset in
      elim (eqb_tells b.offset 0) [
        | inl h ↦ (let z : part m (back_piece ps b) ++ spelled m (drop (past b) ps) ≡ spelled m (drop b.piece ps) = rw h.0 in
            let y : drop b.offset (spelled m (drop b.piece ps)) ≡ spelled m (drop b.piece ps) = rw h.1 in
            z ∙ sym y ∙ sym whole)
        | inr h ↦ (let at : (b.piece < length ps) × (b.offset < (piece_at ps b.piece).len) = into (omega arith) in
            let z : part m (back_piece ps b) ++ spelled m (drop (past b) ps) ≡ take ((piece_at ps b.piece).len - b.offset) (drop ((piece_at ps b.piece).start + b.offset) m) ++ spelled m (drop (b.piece + 1) ps) = rw h.0 in
            let y = drop-part m (piece_at ps b.piece) (spelled m (drop (b.piece + 1) ps)) b.offset (inside_at (length m) ps b.piece ok at.0) at.1 in
            let f = ap (drop b.offset) (from_piece m ps b.piece at.0) in
            z ∙ sym y ∙ sym f ∙ sym whole)
      ]

  spelled-spliced : (a : Spot) (new : Piece) (b : Spot) (p r : ℕ) → total (take a.piece ps) + a.offset ≡ p → Into ps a → total (take b.piece ps) + b.offset ≡ r → Into ps b → spelled m (spliced ps a new b) ≡ take p (spelled m ps) ++ (part m new ++ drop r (spelled m ps))
  unfolding spliced
  spelled-spliced a new b p r s1 t1 s2 t2 =
      simp (spelled_append, kept-spelled) (regroup (spelled m (take a.piece ps)) (part m (front_piece ps a)) (part m new) (part m (back_piece ps b)) (spelled m (drop (past b) ps)) (take p (spelled m ps)) (drop r (spelled m ps)) (front_spelled a p s1 t1) (back_spelled b r s2 t2))

module _ (u : ℕ) (ps : List Piece) (all : inside u ps ≡ true) where
  front_inside : (a : Spot) → Into ps a → (front_piece ps a).start + (front_piece ps a).len ≤ u
  front_inside a into =
      elim (eqb_tells a.offset 0) [
        | inl h ↦ (rw h.0 (omega arith))
        | inr h ↦ (let at : (a.piece < length ps) × (a.offset < (piece_at ps a.piece).len) = into (omega arith) in
            let q-in = inside_at u ps a.piece all at.0 in
            let lt = at.1 in
            rw h.0 (omega arith))
      ]

  back_inside : (b : Spot) → Into ps b → (back_piece ps b).start + (back_piece ps b).len ≤ u
  back_inside b into =
      elim (eqb_tells b.offset 0) [
        | inl h ↦ (rw h.0 (omega arith))
        | inr h ↦ (let at : (b.piece < length ps) × (b.offset < (piece_at ps b.piece).len) = into (omega arith) in
            let q-in = inside_at u ps b.piece all at.0 in
            let lt = at.1 in
            rw h.0 (omega arith))
      ]

  inside-spliced : (a : Spot) (new : Piece) (b : Spot) → new.start + new.len ≤ u → Into ps a → Into ps b → inside u (spliced ps a new b) ≡ true
  unfolding spliced
  inside-spliced a new b fits t1 t2 =
      inside_join u _ _ (inside_join u _ _ (inside_join u _ _ (inside_join u _ _ (inside_take u a.piece ps all) (kept-inside u (front_piece ps a) (front_inside a t1))) (kept-inside u new fits)) (kept-inside u (back_piece ps b) (back_inside b t2))) (inside-drop u (past b) ps all)

-- The lists that a splice writes, one after the other.
pub spliced_is : (ps : List Piece) (a : Spot) (new : Piece) (b : Spot) (start : ℕ) (f g : Piece) (x0 x1 x2 x3 x4 x5 : List Piece) → start ≡ past b → f ≡ front_piece ps a → g ≡ back_piece ps b → x0 ≡ [] → x1 ≡ x0 ++ take a.piece ps → x2 ≡ x1 ++ kept f → x3 ≡ x2 ++ kept new → x4 ≡ x3 ++ kept g → x5 ≡ x4 ++ take (length ps - start) (drop start ps) → x5 ≡ spliced ps a new b
unfolding spliced
spliced_is ps a new b start f g x0 x1 x2 x3 x4 x5 h1 h2 h3 h4 h5 h6 h7 h8 h9 =
    let t = take_rest ps start in
    let n : [] ++ take a.piece ps ≡ take a.piece ps = refl in
    cc

-- What two walks and a splice do.
pub edited_by : (list qs : List Piece) (p n : ℕ) (new : Piece) (a b : Spot) → Walked list 0 p a → Walked list a.piece (a.offset + n) b → qs ≡ spliced list a new b → Edited list p n new qs
edited_by list qs p n new a b w1 w2 is =
    let s1 : total (take a.piece list) + a.offset ≡ p = w1.sum ∙ omega arith in
    let s2 : total (take b.piece list) + b.offset ≡ p + n = w2.sum ∙ omega arith in
    record {
      text = λ m ok. ap (spelled m) is ∙ spelled-spliced m list ok a new b p (p + n) s1 w1.into s2 w2.into;
      written = λ u ok fits. ap (inside u) is ∙ inside-spliced u list ok a new b fits w1.into w2.into;
    }
