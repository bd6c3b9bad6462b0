-- What a text store answers to each call, and what it leaves, over its text and its capacity.
-- Assumes nothing. Sums here are of natural numbers, so that one too large for the machine is
-- refused by the check that it belongs to.
use Rattle.std.specs.Prelude.{◌≡◌, ℕ, ◌+◌, ◌≤◌, cond, List, ◌++◌, length, take, drop, Some, None, Ok, Err, Option, Result, ◌==◌, nat_lt, slice_index}
use Rattle.store.specs.declared.faults.Fault.{Fault}
use Rattle.store.specs.declared.faults.Refusal.{Refusal}
use Rattle.store.specs.declared.faults.Refusal.TheVariants.{Count, Place, Area, Capacity}
use Rattle.store.specs.Refusals.{fault_at}

-- The checks of each call, over the text's length, in the order in which they run: the first to
-- fail, if any. An edit has 1 to 4,096 bytes.
abbrev pub insert_check : ℕ → ℕ → ℕ → ℕ → Option Refusal
insert_check len room p n =
    cond (n == 0) (Some Count)
    (cond (nat_lt 4096 n) (Some Count)
    (cond (nat_lt len p) (Some Place)
    (cond (nat_lt room (len + n)) (Some Capacity) None)))

abbrev pub delete_check : ℕ → ℕ → ℕ → Option Refusal
delete_check len p n =
    cond (n == 0) (Some Count)
    (cond (nat_lt 4096 n) (Some Count)
    (cond (nat_lt len (p + n)) (Some Place) None))

abbrev pub copy_check : ℕ → ℕ → ℕ → ℕ → Option Refusal
copy_check len p n area =
    cond (nat_lt len (p + n)) (Some Place)
    (cond (nat_lt area n) (Some Area) None)

-- The answer to a check: nothing, or the fault at the call's place.
abbrev pub answer : {R : Type 0} → Option R → ℕ → Result (Unit {0}) (Fault R)
answer None p = Ok tt
answer (Some why) p = Err (fault_at why p)

-- A refused call leaves what there was.
abbrev pub unless : {R A : Type 0} → Option R → A → A → A
unless None new old = new
unless (Some why) new old = old

-- The text with bytes put in at p, and with n bytes from p on taken out.
abbrev pub inserted_at : List ℕ → ℕ → List ℕ → List ℕ
inserted_at t p bs = take p t ++ (bs ++ drop p t)

abbrev pub deleted_at : List ℕ → ℕ → ℕ → List ℕ
deleted_at t p n = take p t ++ drop (p + n) t

-- The byte at p, or absence from the length on.
abbrev pub byte_at : List ℕ → ℕ → Option ℕ
byte_at t p = cond (nat_lt p (length t)) (Some (slice_index t p)) None

-- An area with n bytes from p on in its front; its rest stays.
abbrev pub copied : List ℕ → ℕ → ℕ → List ℕ → List ℕ
copied t p n area = take n (drop p t) ++ drop n area

-- What each call leaves.
abbrev pub after_insert : List ℕ → ℕ → ℕ → List ℕ → List ℕ
after_insert t room p bs = unless (insert_check (length t) room p (length bs)) (inserted_at t p bs) t

abbrev pub after_delete : List ℕ → ℕ → ℕ → List ℕ
after_delete t p n = unless (delete_check (length t) p n) (deleted_at t p n) t

abbrev pub after_copy : List ℕ → ℕ → ℕ → List ℕ → List ℕ
after_copy t p n area = unless (copy_check (length t) p n (length area)) (copied t p n area) area

-- What an acceptance means. It follows from the answer and from what is left, and is said apart so
-- that a caller need not prove it.
pub record Inserted (t : List ℕ) (room p : ℕ) (bs u : List ℕ) : Type 0 where
  pub passes : insert_check (length t) room p (length bs) ≡ None
  pub some : 1 ≤ length bs
  pub few : length bs ≤ 4096
  pub place : p ≤ length t
  pub fits : length t + length bs ≤ room
  pub text : u ≡ inserted_at t p bs
  pub long : length u ≡ length t + length bs

pub record Deleted (t : List ℕ) (p n : ℕ) (u : List ℕ) : Type 0 where
  pub passes : delete_check (length t) p n ≡ None
  pub some : 1 ≤ n
  pub few : n ≤ 4096
  pub place : p + n ≤ length t
  pub text : u ≡ deleted_at t p n
  pub long : length u + n ≡ length t

pub record Copied (t : List ℕ) (p n : ℕ) (area filled : List ℕ) : Type 0 where
  pub passes : copy_check (length t) p n (length area) ≡ None
  pub place : p + n ≤ length t
  pub fits : n ≤ length area
  pub written : filled ≡ copied t p n area
