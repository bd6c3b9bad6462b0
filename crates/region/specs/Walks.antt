-- Undo in a region: an entry carried past newer ones, and the walk from the newest entry to the
-- oldest. Assumes nothing.
use Rattle.std.specs.Prelude.{ℕ, ◌+◌, ◌-◌, Bool, true, false, cond, ◌&&◌, List, [], ◌∷◌, ◌++◌, Some, None, Option, nat_le, nat_lt}

-- What carrying and the walk ask of an entry: whether it inserts, its place and count, and itself at
-- another place. They look at no bytes.
pub record Ops (E : Type 0) : Type 0 where
  pub inserts : E → Bool
  pub at : E → ℕ
  pub count : E → ℕ
  pub to : ℕ → E → E

-- How far a walk has come: the entries that stand, oldest first, at their moved places; the selected
-- ones, newest first, each at the place of its inversion; the region's end now; whether the group
-- under way has a selected entry; how many groups before it have one.
pub record Walk (E : Type 0) : Type 0 where
  pub stands : List E
  pub chosen : List E
  pub upto : ℕ
  pub hit : Bool
  pub groups : ℕ

module _ {E : Type 0} (o : Ops E) where
  -- Where a stays: an insertion before b moves b back, a deletion before b moves it on.
  abbrev pub past_standing : E → E → Option (E × E)
  past_standing a b =
      cond (o.inserts a)
      (cond (nat_le (o.at a + o.count a) (o.at b)) (Some (a, o.to (o.at b - o.count a) b)) None)
      (cond (nat_le (o.at a) (o.at b)) (Some (a, o.to (o.at b + o.count a) b)) None)

  -- a carried past the newer b: a at its new place, and b at its own; none where they touch.
  abbrev pub past : E → E → Option (E × E)
  past a b =
      cond (o.inserts b)
      (cond (nat_le (o.at b) (o.at a)) (Some (o.to (o.at a + o.count b) a, b)) (past_standing a b))
      (cond (nat_le (o.at b + o.count b) (o.at a)) (Some (o.to (o.at a - o.count b) a, b)) (past_standing a b))

  abbrev pub with_rest : E → Option (E × List E) → Option (E × List E)
  with_rest b None = None
  with_rest b (Some r) = Some (r.0, b ∷ r.1)

  abbrev pub go_on : Option (E × E) → (E → Option (E × List E)) → Option (E × List E)
  go_on None f = None
  go_on (Some r) f = with_rest r.1 (f r.0)

  -- a carried past each of the newer entries that stand, the oldest of them first.
  abbrev pub carried : E → List E → Option (E × List E)
  carried a [] = Some (a, [])
  carried a (b ∷ bs) = go_on (past a b) (λ c. carried c bs)

  -- An insertion lies in the region with all its bytes, a deletion with its place.
  abbrev pub inside : ℕ → ℕ → E → Bool
  inside s e a = nat_le s (o.at a) && nat_le (cond (o.inserts a) (o.at a + o.count a) (o.at a)) e

  -- An entry that stands, stands as it is, and its carrying is forgotten.
  abbrev pub stand : E → Walk E → Walk E
  stand a k = record { stands = a ∷ k.stands; chosen = k.chosen; upto = k.upto; hit = k.hit; groups = k.groups }

  -- A selected one is inverted; the newer entries keep their moved places, and the region's end
  -- follows the change in length.
  abbrev pub choose : E × List E → Walk E → Walk E
  choose r k =
      record {
        stands = r.1;
        chosen = k.chosen ++ r.0 ∷ [];
        upto = cond (o.inserts r.0) (k.upto - o.count r.0) (k.upto + o.count r.0);
        hit = true;
        groups = k.groups;
      }

  abbrev pub judge : ℕ → E → Option (E × List E) → Walk E → Walk E
  judge s a None k = stand a k
  judge s a (Some r) k = cond (inside s k.upto r.0) (choose r k) (stand a k)

  abbrev pub visit : ℕ → E → Walk E → Walk E
  visit s a k = judge s a (carried a k.stands) k

  -- A group, oldest entry first: the newest is visited first.
  abbrev pub visit_all : ℕ → List E → Walk E → Walk E
  visit_all s [] k = k
  visit_all s (a ∷ es) k = visit s a (visit_all s es k)

  abbrev pub stand_all : List E → Walk E → Walk E
  stand_all [] k = k
  stand_all (a ∷ es) k = stand a (stand_all es k)

  -- The end of a group.
  abbrev pub ended : Walk E → Walk E
  ended k = record { stands = k.stands; chosen = k.chosen; upto = k.upto; hit = false; groups = cond k.hit (k.groups + 1) k.groups }

  -- The walk over the groups held, oldest first, up to the end of the g-th that has a selected entry;
  -- those before it stand, unwalked.
  abbrev pub walk : ℕ → ℕ → ℕ → List (List E) → Walk E
  walk s e g [] = record { stands = []; chosen = []; upto = e; hit = false; groups = 0 }
  walk s e g (x ∷ xs) = cond (nat_lt (walk s e g xs).groups g) (ended (visit_all s x (walk s e g xs))) (stand_all x (walk s e g xs))
