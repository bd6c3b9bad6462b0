-- What the parts of an undo list spell. Assumes nothing.
use Rattle.std.specs.Prelude.{ℕ, zero, suc, ◌+◌, ◌-◌, Bool, cond, ◌&&◌, List, [], ◌∷◌, map, reverse, length, take, drop, nat_le, nat_lt}
use Rattle.undo_list.specs.declared.entry.Entry.{Entry}
use Rattle.undo_list.specs.declared.entry.Stored.{Stored}
use Rattle.undo_list.specs.declared.kind.Kind.{Kind}
use Rattle.undo_list.specs.declared.kind.Kind.TheVariants.{Insertion, Deletion}
use Rattle.undo_list.specs.Groups.{Held, PutIn, Took, Groups}
use Rattle.undo_list.specs.Kinds.{kept_of}

abbrev pub kept_count : Entry → ℕ
kept_count e = kept_of e.kind e.count

abbrev pub total : List Entry → ℕ
total [] = 0
total (e ∷ es) = kept_count e + total es

abbrev pub held_as : Kind → ℕ → ℕ → List ℕ → Held
held_as Insertion p n bytes = PutIn p n
held_as (Deletion distances) p n bytes = Took p bytes distances

-- An entry with its kept bytes.
abbrev pub held : Entry → List ℕ → Held
held e bytes = held_as e.kind e.place e.count bytes

abbrev pub nothing : Held
nothing = PutIn 0 0

-- The entries of what is stored, and the offsets: how many kept bytes come before each.
abbrev pub entries_of : List Stored → List Entry
entries_of ss = map (λ (s : Stored). s.entry) ss

abbrev pub offsets_of : List Stored → List ℕ
offsets_of ss = map (λ (s : Stored). s.before) ss

-- How many kept bytes come before each entry, where `from` come before the first.
abbrev pub offsets_from : ℕ → List Entry → List ℕ
offsets_from from [] = []
offsets_from from (e ∷ es) = from ∷ offsets_from (from + kept_count e) es

-- Each deletion takes its bytes from the front of those that are left.
abbrev pub spell : List Entry → List ℕ → List Held
spell [] ks = []
spell (e ∷ es) ks = held e (take (kept_count e) ks) ∷ spell es (drop (kept_count e) ks)

-- The ends rise, from above `from` to at most n: no group is empty.
abbrev pub rising : ℕ → List ℕ → ℕ → Bool
rising from [] n = nat_le from n
rising from (e ∷ ends) n = nat_lt from e && rising e ends n

-- How many entries the closed groups have.
abbrev pub last_end : ℕ → List ℕ → ℕ
last_end from [] = from
last_end from (e ∷ ends) = last_end e ends

-- How many entries come before group j.
unfoldable pub start : ℕ → List ℕ → ℕ → ℕ
start from [] j = from
start from (e ∷ ends) zero = from
start from (e ∷ ends) (suc j) = start e ends j

-- The closed groups, and one more where entries come after them.
abbrev pub groups_held : List ℕ → ℕ → ℕ
groups_held ends n = length ends + cond (nat_lt (last_end 0 ends) n) 1 0

-- The entries from a up to b, newest first.
abbrev pub part : ℕ → ℕ → List Held → List Held
part a b xs = reverse (take (b - a) (drop a xs))

abbrev pub split : ℕ → List ℕ → List Held → List (List Held)
split from [] xs = []
split from (e ∷ ends) xs = part from e xs ∷ split e ends xs

abbrev pub grouped : List ℕ → List Held → Groups
grouped ends xs = record { closed = split 0 ends xs; opened = reverse (drop (last_end 0 ends) xs) }

-- An end or an offset, where so many before it are gone.
abbrev pub lowered : ℕ → ℕ → ℕ
lowered gone n = n - gone

-- An entry with its offset, where so many kept bytes before it are gone.
abbrev pub shifted : ℕ → Stored → Stored
shifted gone s = record { entry = s.entry; before = lowered gone s.before }
