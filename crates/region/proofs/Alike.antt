-- A map that keeps what the walk looks at commutes with the walk. Assumes nothing.
use Rattle.std.proofs.Common.{◌≡◌, ℕ, ◌+◌, ◌-◌, Bool, true, false, cond, ltb, leb, List, [], ◌∷◌, map, Some, None, Option, sym, refl, ap, ◌∙◌}
use Rattle.std.proofs.lemmas.List.{map_push}
use Rattle.region.specs.Laws.{Keeps, walk_map, WalkedAlike}
use Rattle.region.specs.Walks.{Ops, Walk, past, past_standing, with_rest, go_on, carried, inside, stand, choose, judge, visit, visit_all, stand_all, ended, walk}

cond_push : {X Y : Type 0} (f : X → Y) (b : Bool) (x y : X) → f (cond b x y) ≡ cond b (f x) (f y)
cond_push f true x y = refl
cond_push f false x y = refl

module _ {E F : Type 0} (o : Ops E) (q : Ops F) (f : E → F) (h : Keeps o q f) where
  abbrev pairs : Option (E × E) → Option (F × F)
  pairs None = None
  pairs (Some r) = Some (f r.0, f r.1)

  abbrev lists : Option (E × List E) → Option (F × List F)
  lists None = None
  lists (Some r) = Some (f r.0, map f r.1)

  past_standing_alike : (a b : E) → past_standing q (f a) (f b) ≡ pairs (past_standing o a b)
  past_standing_alike a b =
      rw (h.kind a, h.place a, h.place b, h.count a, h.moving (o.at b - o.count a) b, h.moving (o.at b + o.count a) b)
      (cases (o.inserts a) (leb (o.at a + o.count a) (o.at b)) (leb (o.at a) (o.at b)))
    where
      cases : (i m n : Bool)
          → cond i (cond m (Some (f a, f (o.to (o.at b - o.count a) b))) None) (cond n (Some (f a, f (o.to (o.at b + o.count a) b))) None)
          ≡ pairs (cond i (cond m (Some (a, o.to (o.at b - o.count a) b)) None) (cond n (Some (a, o.to (o.at b + o.count a) b)) None))
      cases true true n = refl
      cases true false n = refl
      cases false m true = refl
      cases false m false = refl

  past_alike : (a b : E) → past q (f a) (f b) ≡ pairs (past o a b)
  past_alike a b =
      rw (past_standing_alike a b, h.kind b, h.place a, h.place b, h.count b, h.moving (o.at a + o.count b) a, h.moving (o.at a - o.count b) a)
      (cases (o.inserts b) (leb (o.at b) (o.at a)) (leb (o.at b + o.count b) (o.at a)) (past_standing o a b))
    where
      cases : (i m n : Bool) (r : Option (E × E))
          → cond i (cond m (Some (f (o.to (o.at a + o.count b) a), f b)) (pairs r)) (cond n (Some (f (o.to (o.at a - o.count b) a), f b)) (pairs r))
          ≡ pairs (cond i (cond m (Some (o.to (o.at a + o.count b) a, b)) r) (cond n (Some (o.to (o.at a - o.count b) a, b)) r))
      cases true true n r = refl
      cases true false n r = refl
      cases false m true r = refl
      cases false m false r = refl

  with_rest_alike : (b : E) (r : Option (E × List E)) → with_rest q (f b) (lists r) ≡ lists (with_rest o b r)
  with_rest_alike b None = refl
  with_rest_alike b (Some r) = refl

  go_on_alike : (r : Option (E × E)) (g : E → Option (E × List E)) (g' : F → Option (F × List F))
      → ((a : E) → g' (f a) ≡ lists (g a))
      → go_on q (pairs r) g' ≡ lists (go_on o r g)
  go_on_alike None g g' e = refl
  go_on_alike (Some r) g g' e = ap (with_rest q (f r.1)) (e r.0) ∙ with_rest_alike r.1 (g r.0)

  carried_alike : (a : E) (bs : List E) → carried q (f a) (map f bs) ≡ lists (carried o a bs)
  carried_alike a [] = refl
  carried_alike a (b ∷ bs) =
      ap (λ (r : Option (F × F)). go_on q r (λ c. carried q c (map f bs))) (past_alike a b)
      ∙ go_on_alike (past o a b) (λ c. carried o c bs) (λ c. carried q c (map f bs)) (λ c. carried_alike c bs)

  inside_alike : (s e : ℕ) (a : E) → inside q s e (f a) ≡ inside o s e a
  inside_alike s e a = rw (h.kind a, h.place a, h.count a) refl

  upto_alike : (u : ℕ) (a : E) → cond (q.inserts (f a)) (u - q.count (f a)) (u + q.count (f a)) ≡ cond (o.inserts a) (u - o.count a) (u + o.count a)
  upto_alike u a = rw (h.kind a, h.count a) refl

  choose_alike : (r : E × List E) (k : Walk E) → choose q (f r.0, map f r.1) (walk_map f k) ≡ walk_map f (choose o r k)
  choose_alike r k =
      let e = sym (map_push f k.chosen r.0) in
      let u = upto_alike k.upto r.0 in
      λ i. record { stands = map f r.1; chosen = e i; upto = u i; hit = true; groups = k.groups }

  judge_alike : (s : ℕ) (a : E) (r : Option (E × List E)) (k : Walk E) → judge q s (f a) (lists r) (walk_map f k) ≡ walk_map f (judge o s a r k)
  judge_alike s a None k = refl
  judge_alike s a (Some r) k =
      rw (inside_alike s k.upto r.0, choose_alike r k) (sym (cond_push (walk_map f) (inside o s k.upto r.0) (choose o r k) (stand o a k)))

  visit_alike : (s : ℕ) (a : E) (k : Walk E) → visit q s (f a) (walk_map f k) ≡ walk_map f (visit o s a k)
  visit_alike s a k =
      ap (λ (r : Option (F × List F)). judge q s (f a) r (walk_map f k)) (carried_alike a k.stands) ∙ judge_alike s a (carried o a k.stands) k

  visit_all_alike : (s : ℕ) (es : List E) (k : Walk E) → visit_all q s (map f es) (walk_map f k) ≡ walk_map f (visit_all o s es k)
  visit_all_alike s [] k = refl
  visit_all_alike s (a ∷ es) k = ap (visit q s (f a)) (visit_all_alike s es k) ∙ visit_alike s a (visit_all o s es k)

  stand_all_alike : (es : List E) (k : Walk E) → stand_all q (map f es) (walk_map f k) ≡ walk_map f (stand_all o es k)
  stand_all_alike [] k = refl
  stand_all_alike (a ∷ es) k = ap (stand q (f a)) (stand_all_alike es k)

  walk_alike : (s e g : ℕ) (gs : List (List E)) → walk q s e g (map (map f) gs) ≡ walk_map f (walk o s e g gs)
  walk_alike s e g [] = refl
  walk_alike s e g (x ∷ xs) =
      let k : Walk E = walk o s e g xs in
      let b : Bool = ltb k.groups g in
      ap (λ (j : Walk F). cond (ltb j.groups g) (ended q (visit_all q s (map f x) j)) (stand_all q (map f x) j)) (walk_alike s e g xs)
      ∙ (ap (λ (j : Walk F). cond b (ended q j) (stand_all q (map f x) (walk_map f k))) (visit_all_alike s x k)
      ∙ (ap (λ (j : Walk F). cond b (walk_map f (ended o (visit_all o s x k))) j) (stand_all_alike x k)
      ∙ sym (cond_push (walk_map f) b (ended o (visit_all o s x k)) (stand_all o x k))))

pub walked_alike : {E F : Type 0} → WalkedAlike E F
walked_alike o q f h = walk_alike o q f h
