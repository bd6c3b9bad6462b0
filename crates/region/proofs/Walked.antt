-- The walk takes the chosen edits back, and leaves what lies outside the region. Assumes nothing.
use Rattle.std.proofs.Common.{◌≡◌, ℕ, ◌+◌, ◌-◌, ◌≤◌, true, cond, ltb, leb, List, [], ◌∷◌, ◌++◌, map, length, take, drop, Some, None, Option, sym, refl, ap, ◌∙◌, arith, take-append-drop, drop-drop}
use lib.Seq.{take-append-le}
use Rattle.std.proofs.lemmas.Bool.{cond_both, leb-true, and_parts}
use Rattle.region.specs.Edits.{FullEdit, PutsIn, TakesOut, place, bytes_out, bytes_in, byte_count, is_put_in, moved, inverse, apply_all, SameButMoved, edit_ops}
use Rattle.region.specs.Laws.{all_edits, Apart, nothing, stood, chose, RegionUndone, RegionLaw}
use Rattle.region.specs.Walks.{carried, Walk, inside, stand, choose, judge, visit, visit_all, stand_all, ended, walk}
use Rattle.region.proofs.Swaps.{Swap, Does, does_back, back, tail}
use Rattle.region.proofs.Carried.{Runs, OutcomeAll, SwappedAll, carried_sound, runs, runs_is, here, moved-moved}

-- An edit behind s leaves the bytes before s, and one before e those from e on, which move with it.
front_kept : {p : ℕ} {r w t t' : List ℕ} (s : ℕ) → Swap p r w t t' → s ≤ p → take s t' ≡ take s t
front_kept {p} {r} {w} s k h =
    let l : s ≤ length k.before = omega arith in
    rw (k.was, k.is, take-append-le s k.before (w ++ k.after) l, take-append-le s k.before (r ++ k.after) l)

rest_kept : {p : ℕ} {r w t t' : List ℕ} (e : ℕ) → Swap p r w t t' → p + length r ≤ e → drop (e - length r + length w) t' ≡ drop e t
rest_kept {p} {r} {w} {t} {t'} e k h =
    let d : ℕ = e - (p + length r) in
    let e₁ : p + length w + d ≡ e - length r + length w = omega arith in
    let e₂ : p + length r + d ≡ e = omega arith in
    cc (drop-drop d (p + length w) t', drop-drop d (p + length r) t, tail k, tail (back k))

-- One chosen edit more at the end.
runs_push : (cs : List FullEdit) (a : FullEdit) (t t' t'' : List ℕ) → Runs (map inverse cs) t t' → Does (inverse a) t' t'' → Runs (map inverse (cs ++ a ∷ [])) t t''
runs_push [] a t t' t'' r d = (t'', rw (sym r) d, refl)
runs_push (x ∷ cs) a t t' t'' r d = (r.0, r.1, runs_push cs a r.0 t' t'' r.2 d)

-- Places may move.
apart_alike : {es ss us : List FullEdit} (ss' : List FullEdit) → Apart es ss us → SameButMoved ss' ss → Apart es ss' us
apart_alike [] nothing h = nothing
apart_alike (x ∷ ss') nothing h = absurd h
apart_alike [] (stood a a' k r) h = absurd h
apart_alike (x ∷ ss') (stood a a' k r) h = stood a x (h.0 ∙ (ap (λ y. moved (place x) y) k ∙ moved-moved (place x) (place a') a)) (apart_alike ss' r h.1)
apart_alike ss' (chose a a' k r) h = chose a a' k (apart_alike ss' r h)

runs_split : (xs ys : List FullEdit) (t t' : List ℕ) → Runs (xs ++ ys) t t' → (m : List ℕ) × Runs xs t m × Runs ys m t'
runs_split [] ys t t' r = (t, refl, r)
runs_split (x ∷ xs) ys t t' r =
    let i = runs_split xs ys r.0 t' r.2 in
    (i.0, (r.0, r.1, i.1), i.2)

inside-true : (s e : ℕ) (a : FullEdit) → inside edit_ops s e a ≡ true → (s ≤ place a) × (place a + length (bytes_in a) ≤ e)
inside-true s e (PutsIn p w) h =
    let b = and_parts (leb s p) (leb (p + length w) e) h in
    (leb-true s p b.0, leb-true (p + length w) e b.1)
inside-true s e (TakesOut p w) h =
    let b = and_parts (leb s p) (leb p e) h in
    (leb-true s p b.0, omega (arith, leb-true p e b.1))

upto_is : (u : ℕ) (a : FullEdit) → cond (is_put_in a) (u - byte_count a) (u + byte_count a) ≡ u - length (bytes_in a) + length (bytes_out a)
upto_is u (PutsIn p w) = omega arith
upto_is u (TakesOut p w) = omega arith

-- How far the walk has come: es are the edits walked, t the text before them, t' the one that they lead to,
-- and now the one that the walk has taken it back to.
record Walked (s e : ℕ) (es : List FullEdit) (t t' : List ℕ) (k : Walk FullEdit) : Type 0 where
  now : List ℕ
  standing : Runs k.stands t now
  undoing : Runs (map inverse k.chosen) t' now
  apart : Apart es k.stands k.chosen
  front : take s now ≡ take s t'
  rest : drop k.upto now ≡ drop e t'
  low : s ≤ k.upto

module _ (s e : ℕ) (t' : List ℕ) (le : s ≤ e) where
  stood_more : (a : FullEdit) (es : List FullEdit) (t t₁ : List ℕ) (k : Walk FullEdit) → Does a t t₁ → Walked s e es t₁ t' k → Walked s e (a ∷ es) t t' (stand edit_ops a k)
  stood_more a es t t₁ k d w =
      record { now = w.now; standing = (t₁, d, w.standing); undoing = w.undoing; apart = stood a a (here a) w.apart; front = w.front; rest = w.rest; low = w.low }

  chosen_more : (a : FullEdit) (es : List FullEdit) (t t₁ : List ℕ) (k : Walk FullEdit) (w : Walked s e es t₁ t' k) (r : FullEdit × List FullEdit)
      → SwappedAll a k.stands t w.now r → inside edit_ops s k.upto r.0 ≡ true → Walked s e (a ∷ es) t t' (choose edit_ops r k)
  chosen_more a es t t₁ k w r l h =
      let i = inside-true s k.upto r.0 h in
      record {
        now = l.between;
        standing = l.first;
        undoing = runs_push k.chosen r.0 t' w.now l.between w.undoing (does_back r.0 l.between w.now l.second);
        apart = chose a r.0 l.kept_a (apart_alike r.1 w.apart l.kept_bs);
        front = front_kept s (back l.second) i.0 ∙ w.front;
        rest = rw (upto_is k.upto r.0) (rest_kept k.upto (back l.second) i.1 ∙ w.rest);
        low = rw (upto_is k.upto r.0) (omega arith);
      }

  judge_sound : (a : FullEdit) (es : List FullEdit) (t t₁ : List ℕ) (k : Walk FullEdit) (w : Walked s e es t₁ t' k) → Does a t t₁
      → (o : Option (FullEdit × List FullEdit)) → OutcomeAll a k.stands t w.now o → Walked s e (a ∷ es) t t' (judge edit_ops s a o k)
  judge_sound a es t t₁ k w d None h = stood_more a es t t₁ k d w
  judge_sound a es t t₁ k w d (Some r) h =
      cond_both (inside edit_ops s k.upto r.0) (choose edit_ops r k) (stand edit_ops a k) (Walked s e (a ∷ es) t t')
      (λ i. chosen_more a es t t₁ k w r h i) (λ i. stood_more a es t t₁ k d w)

  visit_sound : (a : FullEdit) (es : List FullEdit) (t t₁ : List ℕ) (k : Walk FullEdit) → Does a t t₁ → Walked s e es t₁ t' k → Walked s e (a ∷ es) t t' (visit edit_ops s a k)
  visit_sound a es t t₁ k d w = judge_sound a es t t₁ k w d (carried edit_ops a k.stands) (carried_sound a k.stands t t₁ w.now d w.standing)

  visit_all_sound : (xs es : List FullEdit) (t t₁ : List ℕ) (k : Walk FullEdit) → Runs xs t t₁ → Walked s e es t₁ t' k → Walked s e (xs ++ es) t t' (visit_all edit_ops s xs k)
  visit_all_sound [] es t t₁ k r w = rw r at w
  visit_all_sound (a ∷ xs) es t t₁ k r w = visit_sound a (xs ++ es) t r.0 (visit_all edit_ops s xs k) r.1 (visit_all_sound xs es r.0 t₁ k r.2 w)

  stand_all_sound : (xs es : List FullEdit) (t t₁ : List ℕ) (k : Walk FullEdit) → Runs xs t t₁ → Walked s e es t₁ t' k → Walked s e (xs ++ es) t t' (stand_all edit_ops xs k)
  stand_all_sound [] es t t₁ k r w = rw r at w
  stand_all_sound (a ∷ xs) es t t₁ k r w = stood_more a (xs ++ es) t r.0 (stand_all edit_ops xs k) r.1 (stand_all_sound xs es r.0 t₁ k r.2 w)

  ended_sound : (es : List FullEdit) (t : List ℕ) (k : Walk FullEdit) → Walked s e es t t' k → Walked s e es t t' (ended edit_ops k)
  ended_sound es t k w = record { now = w.now; standing = w.standing; undoing = w.undoing; apart = w.apart; front = w.front; rest = w.rest; low = w.low }

  walk_sound : (g : ℕ) (gs : List (List FullEdit)) (t : List ℕ) → Runs (all_edits gs) t t' → Walked s e (all_edits gs) t t' (walk edit_ops s e g gs)
  walk_sound g [] t r = record { now = t'; standing = r; undoing = refl; apart = nothing; front = refl; rest = refl; low = le }
  walk_sound g (x ∷ xs) t r =
      let i = runs_split x (all_edits xs) t t' r in
      let w = walk_sound g xs i.0 i.2 in
      cond_both (ltb (walk edit_ops s e g xs).groups g) (ended edit_ops (visit_all edit_ops s x (walk edit_ops s e g xs))) (stand_all edit_ops x (walk edit_ops s e g xs)) (Walked s e (x ++ all_edits xs) t t')
      (λ _. ended_sound (x ++ all_edits xs) t (visit_all edit_ops s x (walk edit_ops s e g xs)) (visit_all_sound x (all_edits xs) t i.0 (walk edit_ops s e g xs) i.1 w))
      (λ _. stand_all_sound x (all_edits xs) t i.0 (walk edit_ops s e g xs) i.1 w)

finish : (s e : ℕ) (es : List FullEdit) (t t' : List ℕ) (k : Walk FullEdit) → Walked s e es t t' k → RegionUndone s e es t t' k
finish s e es t t' k w =
    let u = runs_is (map inverse k.chosen) t' w.now w.undoing in
    let v = runs_is k.stands t w.now w.standing in
    record {
      inverses_fit = u.0;
      stands_fit = v.0;
      text = sym u.1 ∙ v.1;
      apart = w.apart;
      before = rw u.1 at w.front;
      behind = rw u.1 at w.rest;
      ends_in_order = w.low;
    }

pub region_law : RegionLaw
region_law s e g gs t h le =
    let t' : List ℕ = apply_all (all_edits gs) t in
    finish s e (all_edits gs) t t' (walk edit_ops s e g gs) (walk_sound s e t' le g gs t (runs (all_edits gs) t h))

-- A text that agrees with t before s, and from u on with t from e on, differs from it in a middle part.
pub outside : (s e u : ℕ) (t t' : List ℕ) → take s t' ≡ take s t → drop u t' ≡ drop e t → s ≤ u → t' ≡ take s t ++ (take (u - s) (drop s t') ++ drop e t)
outside s e u t t' f r h =
    let n : s + (u - s) ≡ u = omega arith in
    cc (take-append-drop s t', take-append-drop (u - s) (drop s t'), drop-drop (u - s) s t')
