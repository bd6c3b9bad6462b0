-- The limits of an undo list, and which check refuses a call. Assumes nothing.
use Rattle.std.specs.Prelude.{◌≡◌, ℕ, ◌+◌, ◌-◌, ◌≤◌, cond, [], length, Some, None, Option, ◌==◌, nat_lt}
use Rattle.store.specs.Edits.{unless}
use Rattle.places.specs.declared.faults.Refusal.{Refusal}
use Rattle.places.specs.declared.faults.Refusal.TheVariants.{Argument, Count, Presence, UndoList}
use Rattle.undo_list.specs.Groups.{Held, Groups, recorded, entries_in, bytes_in, groups_in, after_close, trimmed}

-- At most 512 entries, 16,384 kept bytes and 256 groups.
abbrev pub limit_check : ℕ → ℕ → ℕ → Option Refusal
limit_check entries bytes groups =
    cond (nat_lt 512 entries) (Some UndoList)
    (cond (nat_lt 16384 bytes) (Some UndoList)
    (cond (nat_lt 256 groups) (Some UndoList) None))

-- One more entry, which keeps k bytes. It joins the open group or opens one, so that there is one
-- group besides the closed ones.
abbrev pub entry_check : Groups → ℕ → Option Refusal
entry_check g k = limit_check (entries_in g + 1) (bytes_in g + k) (length g.closed + 1)

-- An edit has 1 to 4,096 bytes.
abbrev pub count_check : ℕ → Option Refusal
count_check n = cond (n == 0) (Some Count) (cond (nat_lt 4096 n) (Some Count) None)

-- An insertion of n bytes: count, then the limits.
abbrev pub insertion_check : Groups → ℕ → Option Refusal
insertion_check g n = cond (n == 0) (Some Count) (cond (nat_lt 4096 n) (Some Count) (entry_check g 0))

-- A deletion of n bytes with notes for m: count, also where the notes are for another one, then the
-- limits.
abbrev pub deletion_check : Groups → ℕ → ℕ → Option Refusal
deletion_check g n m =
    cond (n == 0) (Some Count)
    (cond (nat_lt 4096 n) (Some Count)
    (cond (m == n) (entry_check g n) (Some Count)))

-- A group of its own with n entries, which keep k bytes.
abbrev pub group_check : Groups → ℕ → ℕ → Option Refusal
group_check g n k = limit_check (entries_in g + n) (bytes_in g + k) (groups_in g + 1)

-- Trim k: argument, then presence.
abbrev pub trim_check : Groups → ℕ → Option Refusal
trim_check g k =
    cond (k == 0) (Some Argument)
    (cond (nat_lt 256 k) (Some Argument)
    (cond (nat_lt (length g.closed) k) (Some Presence) None))

-- What the acceptance of an entry means, which keeps n bytes.
pub record Recorded (check : Option Refusal) (g : Groups) (h : Held) (n : ℕ) (after : Groups) : Type 0 where
  pub passes : check ≡ None
  pub view : after ≡ recorded h g
  pub entries : entries_in after ≡ entries_in g + 1
  pub bytes : bytes_in after ≡ bytes_in g + n
  pub groups : groups_in after ≡ length g.closed + 1

-- What the start of a group of its own means: no group is open, and n entries, which keep k bytes,
-- have room in one.
pub record Started (g : Groups) (n k : ℕ) (after : Groups) : Type 0 where
  pub passes : group_check g n k ≡ None
  pub view : after ≡ after_close g
  pub opened : after.opened ≡ []
  pub entries : entries_in after + n ≤ 512
  pub bytes : bytes_in after + k ≤ 16384
  pub groups : length after.closed + 1 ≤ 256

-- What an accepted trim of k groups means: the open group stays, and no more is held than before.
pub record Trimmed (g : Groups) (k : ℕ) (after : Groups) : Type 0 where
  pub passes : trim_check g k ≡ None
  pub view : after ≡ trimmed k g
  pub opened : after.opened ≡ g.opened
  pub groups : length after.closed ≡ length g.closed - k
  pub entries : entries_in after ≤ entries_in g
  pub bytes : bytes_in after ≤ bytes_in g
