-- How long a text is after an edit.
use Rattle.std.proofs.Common.{◌≡◌, ℕ, ◌+◌, ◌≤◌, List, length, arith, length-append, length-drop, length-take}
use Rattle.store.specs.Edits.{inserted_at, deleted_at}

pub length-inserted_at : (t : List ℕ) (p : ℕ) (bs : List ℕ) → p ≤ length t → length (inserted_at t p bs) ≡ length t + length bs
length-inserted_at t p bs h = simp (length-append, length-take, length-drop) (omega arith)

pub length-deleted_at : (t : List ℕ) (p n : ℕ) → p + n ≤ length t → length (deleted_at t p n) + n ≡ length t
length-deleted_at t p n h = simp (length-append, length-take, length-drop) (omega arith)
