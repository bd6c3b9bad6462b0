-- What carrying and the walk of undo in a region promise of texts. Assumes nothing.
use Rattle.std.specs.Prelude.{◌≡◌, ℕ, ◌≤◌, List, [], ◌∷◌, ◌++◌, map, take, drop, Some}
use Rattle.region.specs.Edits.{FullEdit, place, moved, inverse, apply, Valid, apply_all, ValidAll, SameButMoved, edit_ops}
use Rattle.region.specs.Walks.{Ops, Walk, past, carried, walk}

-- An edit carried past a newer one. a is made on t, and then b; carried, they are c and d. Then d fits t, c
-- fits what d leaves, and the text is the same in the end; c is a and d is b, but for their places.
abbrev pub Commutes : Type 0
Commutes =
    (a b c d : FullEdit) (t : List ℕ)
    → Valid a t
    → Valid b (apply a t)
    → past edit_ops a b ≡ Some (c, d)
    → Valid d t × Valid c (apply d t) × (apply c (apply d t) ≡ apply b (apply a t)) × (c ≡ moved (place c) a) × (d ≡ moved (place d) b)

-- The same past a list of newer edits bs, oldest first, which become ds.
abbrev pub Carries : Type 0
Carries =
    (a c : FullEdit) (bs ds : List FullEdit) (t : List ℕ)
    → ValidAll (a ∷ bs) t
    → carried edit_ops a bs ≡ Some (c, ds)
    → ValidAll ds t
    × Valid c (apply_all ds t)
    × (apply c (apply_all ds t) ≡ apply_all (a ∷ bs) t)
    × (c ≡ moved (place c) a)
    × SameButMoved ds bs

-- The edits of all groups, oldest first.
abbrev pub all_edits : List (List FullEdit) → List FullEdit
all_edits [] = []
all_edits (x ∷ xs) = x ++ all_edits xs

-- The edits es, oldest first, are those that stand, ss, oldest first, and the chosen ones, cs, newest
-- first: each is one or the other, in its order, perhaps at another place.
pub data Apart : List FullEdit → List FullEdit → List FullEdit → Type 0 where
  nothing : Apart [] [] []
  stood : {es ss cs : List FullEdit} (a b : FullEdit) → b ≡ moved (place b) a → Apart es ss cs → Apart (a ∷ es) (b ∷ ss) cs
  chose : {es ss cs : List FullEdit} (a b : FullEdit) → b ≡ moved (place b) a → Apart es ss cs → Apart (a ∷ es) ss (cs ++ b ∷ [])

-- What the walk k over the edits es, which lead from the text t to the text u, says of the region from s
-- to e of u.
pub record RegionUndone (s e : ℕ) (es : List FullEdit) (t u : List ℕ) (k : Walk FullEdit) : Type 0 where
  -- The inverses of the chosen edits, in the order chosen, fit u.
  pub inverses_fit : ValidAll (map inverse k.chosen) u
  -- The edits that stand, at their moved places, fit t.
  pub stands_fit : ValidAll k.stands t
  -- Both lead to one text: it is as if the chosen edits had never been made.
  pub text : apply_all (map inverse k.chosen) u ≡ apply_all k.stands t
  -- Every edit either stands or is chosen.
  pub apart : Apart es k.stands k.chosen
  -- The bytes before s stay, and so do those from e on, which then begin at the region's new end.
  pub before : take s (apply_all (map inverse k.chosen) u) ≡ take s u
  pub behind : drop k.upto (apply_all (map inverse k.chosen) u) ≡ drop e u
  pub ends_in_order : s ≤ k.upto

-- Undo in a region, over all groups of edits that fit, oldest first, for every region and every number of
-- groups to take back.
abbrev pub RegionLaw : Type 0
RegionLaw =
    (s e g : ℕ) (gs : List (List FullEdit)) (t : List ℕ)
    → ValidAll (all_edits gs) t
    → s ≤ e
    → RegionUndone s e (all_edits gs) t (apply_all (all_edits gs) t) (walk edit_ops s e g gs)

-- A map between two types of entries that keeps kind, place and count, and commutes with moving.
pub record Keeps {E F : Type 0} (o : Ops E) (q : Ops F) (f : E → F) : Type 0 where
  pub kind : (a : E) → q.inserts (f a) ≡ o.inserts a
  pub place : (a : E) → q.at (f a) ≡ o.at a
  pub count : (a : E) → q.count (f a) ≡ o.count a
  pub moving : (p : ℕ) (a : E) → q.to p (f a) ≡ f (o.to p a)

abbrev pub walk_map : {E F : Type 0} → (E → F) → Walk E → Walk F
walk_map f k = record { stands = map f k.stands; chosen = map f k.chosen; upto = k.upto; hit = k.hit; groups = k.groups }

-- The walk over the mapped entries is the walk over the entries, mapped. So entries without their
-- inserted bytes, or with notes, are walked as the edits with their bytes.
abbrev pub WalkedAlike : Type 0 → Type 0 → Type 0
WalkedAlike E F =
    (o : Ops E) (q : Ops F) (f : E → F)
    → Keeps o q f
    → (s e g : ℕ) (gs : List (List E))
    → walk q s e g (map (map f) gs) ≡ walk_map f (walk o s e g gs)
