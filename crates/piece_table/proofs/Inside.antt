-- Pieces that lie in the first bytes of a memory.
use Rattle.std.proofs.Common.{◌≡◌, ℕ, zero, suc, ◌+◌, ◌<◌, ◌≤◌, true, List, [], ◌∷◌, ◌++◌, length, take, drop, refl, arith}
use Rattle.std.proofs.lemmas.Bool.Decides.{nat_tests}
use Rattle.piece_table.specs.Pieces.{inside, kept, piece_at}
use Rattle.piece_table.specs.declared.pieces.Piece.{Piece}

pub inside_first : (u : ℕ) (q : Piece) (qs : List Piece) → inside u (q ∷ qs) ≡ true → q.start + q.len ≤ u
inside_first u q qs h = grind (arith, nat_tests)

pub inside_rest : (u : ℕ) (q : Piece) (qs : List Piece) → inside u (q ∷ qs) ≡ true → inside u qs ≡ true
inside_rest u q qs h = grind (arith, nat_tests)

inside_cons : (u : ℕ) (q : Piece) (qs : List Piece) → q.start + q.len ≤ u → inside u qs ≡ true → inside u (q ∷ qs) ≡ true
inside_cons u q qs a b = grind (arith, nat_tests)

pub inside_at : (u : ℕ) (ps : List Piece) (i : ℕ) → inside u ps ≡ true → i < length ps → (piece_at ps i).start + (piece_at ps i).len ≤ u
inside_at u [] i h lt = absurd (omega arith)
inside_at u (q ∷ qs) zero h lt = inside_first u q qs h
inside_at u (q ∷ qs) (suc i) h lt = inside_at u qs i (inside_rest u q qs h) (omega arith)

pub inside_join : (u : ℕ) (ps qs : List Piece) → inside u ps ≡ true → inside u qs ≡ true → inside u (ps ++ qs) ≡ true
inside_join u [] qs a b = b
inside_join u (p ∷ ps) qs a b = inside_cons u p (ps ++ qs) (inside_first u p ps a) (inside_join u ps qs (inside_rest u p ps a) b)

pub inside_take : (u : ℕ) (i : ℕ) (ps : List Piece) → inside u ps ≡ true → inside u (take i ps) ≡ true
inside_take u zero ps a = refl
inside_take u (suc i) [] a = refl
inside_take u (suc i) (p ∷ ps) a = inside_cons u p (take i ps) (inside_first u p ps a) (inside_take u i ps (inside_rest u p ps a))

pub inside-drop : (u : ℕ) (i : ℕ) (ps : List Piece) → inside u ps ≡ true → inside u (drop i ps) ≡ true
inside-drop u zero ps a = a
inside-drop u (suc i) [] a = refl
inside-drop u (suc i) (p ∷ ps) a = inside-drop u i ps (inside_rest u p ps a)

pub inside_wider : (u v : ℕ) (ps : List Piece) → u ≤ v → inside u ps ≡ true → inside v ps ≡ true
inside_wider u v [] le a = refl
inside_wider u v (p ∷ ps) le a = let f = inside_first u p ps a in inside_cons v p ps (omega arith) (inside_wider u v ps le (inside_rest u p ps a))

pub kept-inside : (u : ℕ) (q : Piece) → q.start + q.len ≤ u → inside u (kept q) ≡ true
kept-inside u q h = grind (arith, nat_tests)
