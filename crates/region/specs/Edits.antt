-- Edits of a text, with their bytes: what they do, when they fit, and what takes them back. Assumes
-- nothing.
use Rattle.std.specs.Prelude.{◌≡◌, ℕ, ◌+◌, ◌≤◌, Bool, true, false, List, [], ◌∷◌, ◌++◌, length, take, drop}
use Rattle.region.specs.Walks.{Ops}

-- An edit puts bytes in at a place, or takes out the bytes from a place on.
pub data FullEdit : Type 0 where
  PutsIn : ℕ → List ℕ → FullEdit
  TakesOut : ℕ → List ℕ → FullEdit

abbrev pub place : FullEdit → ℕ
place (PutsIn p bs) = p
place (TakesOut p bs) = p

-- The bytes that it takes out, and those that it puts in for them.
abbrev pub bytes_out : FullEdit → List ℕ
bytes_out (PutsIn p bs) = []
bytes_out (TakesOut p bs) = bs

abbrev pub bytes_in : FullEdit → List ℕ
bytes_in (PutsIn p bs) = bs
bytes_in (TakesOut p bs) = []

abbrev pub inverse : FullEdit → FullEdit
inverse (PutsIn p bs) = TakesOut p bs
inverse (TakesOut p bs) = PutsIn p bs

abbrev pub apply : FullEdit → List ℕ → List ℕ
apply (PutsIn p bs) t = take p t ++ (bs ++ drop p t)
apply (TakesOut p bs) t = take p t ++ drop (p + length bs) t

-- An edit fits a text that has its place; where it takes bytes out, they stand there.
abbrev pub Valid : FullEdit → List ℕ → Type 0
Valid (PutsIn p bs) t = p ≤ length t
Valid (TakesOut p bs) t = (p + length bs ≤ length t) × (take (length bs) (drop p t) ≡ bs)

-- Edits made one after the other; each fits the text that those before it leave.
abbrev pub apply_all : List FullEdit → List ℕ → List ℕ
apply_all [] t = t
apply_all (a ∷ es) t = apply_all es (apply a t)

abbrev pub ValidAll : List FullEdit → List ℕ → Type 0
ValidAll [] t = Unit {0}
ValidAll (a ∷ es) t = Valid a t × ValidAll es (apply a t)

-- The same edit at another place.
abbrev pub moved : ℕ → FullEdit → FullEdit
moved p (PutsIn q bs) = PutsIn p bs
moved p (TakesOut q bs) = TakesOut p bs

-- The same edits, each perhaps at another place.
abbrev pub SameButMoved : List FullEdit → List FullEdit → Type 0
SameButMoved [] [] = Unit {0}
SameButMoved [] (b ∷ bs) = ⊥
SameButMoved (a ∷ es) [] = ⊥
SameButMoved (a ∷ es) (b ∷ bs) = (a ≡ moved (place a) b) × SameButMoved es bs

abbrev pub is_put_in : FullEdit → Bool
is_put_in (PutsIn p bs) = true
is_put_in (TakesOut p bs) = false

abbrev pub byte_count : FullEdit → ℕ
byte_count (PutsIn p bs) = length bs
byte_count (TakesOut p bs) = length bs

-- Edits as entries of a walk.
abbrev pub edit_ops : Ops FullEdit
edit_ops = record { inserts = is_put_in; at = place; count = byte_count; to = moved }
