-- What pieces of a memory spell, and what an edit makes of them. Assumes nothing.
use Rattle.std.specs.Prelude.{◌≡◌, ℕ, ◌+◌, ◌-◌, ◌<◌, ◌≤◌, Bool, true, cond, ◌&&◌, List, [], ◌∷◌, ◌++◌, length, take, drop, ◌==◌, nat_le, slice_index_or}
use Rattle.piece_table.specs.declared.pieces.Piece.{Piece}
use Rattle.piece_table.specs.declared.pieces.Spot.{Spot}

abbrev pub part : List ℕ → Piece → List ℕ
part m q = take q.len (drop q.start m)

-- The pieces, one after the other.
abbrev pub spelled : List ℕ → List Piece → List ℕ
spelled m [] = []
spelled m (q ∷ qs) = part m q ++ spelled m qs

-- Each piece lies in the first `used` bytes.
abbrev pub inside : ℕ → List Piece → Bool
inside used [] = true
inside used (q ∷ qs) = nat_le (q.start + q.len) used && inside used qs

-- How long they are together.
abbrev pub total : List Piece → ℕ
total [] = 0
total (q ∷ qs) = q.len + total qs

-- The most pieces of a text.
abbrev pub max_pieces : ℕ
max_pieces = 64

abbrev pub no_piece : Piece
no_piece = record { start = 0; len = 0 }

abbrev pub piece_at : List Piece → ℕ → Piece
piece_at ps i = slice_index_or ps i no_piece

-- A spot that lies in a piece, or, with no offset, between two or behind the last.
abbrev pub Into : List Piece → Spot → Type 0
Into ps a = 0 < a.offset → (a.piece < length ps) × (a.offset < (piece_at ps a.piece).len)

-- Where a walk of `left` bytes from the piece `from` on ends.
pub record Walked (ps : List Piece) (from left : ℕ) (a : Spot) : Type 0 where
  pub onward : from ≤ a.piece
  pub within : a.piece ≤ length ps
  pub sum : total (take a.piece ps) + a.offset ≡ total (take from ps) + left
  pub here : a.piece < length ps → a.offset < (piece_at ps a.piece).len
  pub into : Into ps a

-- The bytes of a piece before a spot in it, and those behind it; nothing where the spot lies between
-- two pieces.
abbrev pub front_piece : List Piece → Spot → Piece
front_piece ps a = cond (a.offset == 0) no_piece (record { start = (piece_at ps a.piece).start; len = a.offset })

abbrev pub back_piece : List Piece → Spot → Piece
back_piece ps b = cond (b.offset == 0) no_piece (record { start = (piece_at ps b.piece).start + b.offset; len = (piece_at ps b.piece).len - b.offset })

-- The first piece that lies wholly behind a spot.
abbrev pub past : Spot → ℕ
past b = cond (b.offset == 0) b.piece (b.piece + 1)

-- An empty piece is not kept.
abbrev pub kept : Piece → List Piece
kept q = cond (q.len == 0) [] (q ∷ [])

-- What lies before the spot a, a new piece, and what lies behind the spot b.
unfoldable pub spliced : List Piece → Spot → Piece → Spot → List Piece
spliced ps a new b =
    take a.piece ps ++ kept (front_piece ps a) ++ kept new ++ kept (back_piece ps b) ++ drop (past b) ps

-- The pieces after an edit: n bytes from p on give place to the piece `new`.
pub record Edited (ps : List Piece) (p n : ℕ) (new : Piece) (qs : List Piece) : Type 0 where
  pub text : (m : List ℕ) → inside (length m) ps ≡ true → spelled m qs ≡ take p (spelled m ps) ++ (part m new ++ drop (p + n) (spelled m ps))
  pub written : (u : ℕ) → inside u ps ≡ true → new.start + new.len ≤ u → inside u qs ≡ true
