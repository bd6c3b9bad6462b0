-- An edit carried past newer ones leaves the text as it is. Assumes nothing.
use Rattle.std.proofs.Common.{◌≡◌, ℕ, ◌+◌, ◌-◌, ◌<◌, ◌≤◌, cond, leb, List, [], ◌∷◌, length, Some, None, Option, sym, refl, ap, ◌∙◌, subst, arith}
use Rattle.std.proofs.lemmas.Bool.{cond_both, leb-true, leb-false}
use Rattle.region.specs.Edits.{FullEdit, PutsIn, TakesOut, place, bytes_out, bytes_in, moved, apply, Valid, apply_all, ValidAll, SameButMoved, edit_ops}
use Rattle.region.specs.Laws.{Commutes, Carries}
use Rattle.region.specs.Walks.{past, past_standing, with_rest, go_on, carried}
use Rattle.region.proofs.Swaps.{Swap, Does, does, valid, does_is, behind, ahead}

-- What holds of both arms of a test holds of the test.
pub by_leb : {X : Type 0} (m n : ℕ) (x y : X) (P : X → Type 0) → (m ≤ n → P x) → (n < m → P y) → P (cond (leb m n) x y)
by_leb m n x y P f g = cond_both (leb m n) x y P (λ e. f (leb-true m n e)) (λ e. g (leb-false m n e))

-- A swap at an equal place.
pub place_is : {p q : ℕ} {r w t t' : List ℕ} → p ≡ q → Swap p r w t t' → Swap q r w t t'
place_is e s = record { before = s.before; after = s.after; long = s.long ∙ e; was = s.was; is = s.is }

-- The second of r and then the first lead from t to t'', and they are a and b but for their places.
pub record Swapped (a b : FullEdit) (t t'' : List ℕ) (r : FullEdit × FullEdit) : Type 0 where
  pub between : List ℕ
  pub first : Does r.1 t between
  pub second : Does r.0 between t''
  pub kept_a : r.0 ≡ moved (place r.0) a
  pub kept_b : r.1 ≡ moved (place r.1) b

abbrev pub Outcome : FullEdit → FullEdit → List ℕ → List ℕ → Option (FullEdit × FullEdit) → Type 0
Outcome a b t t'' None = Unit {0}
Outcome a b t t'' (Some r) = Swapped a b t t'' r

does_moved : (q : ℕ) (a : FullEdit) (t t' : List ℕ) → Swap q (bytes_out a) (bytes_in a) t t' → Does (moved q a) t t'
does_moved q (PutsIn p w) t t' s = s
does_moved q (TakesOut p w) t t' s = s

pub moved-moved : (p q : ℕ) (a : FullEdit) → moved p (moved q a) ≡ moved p a
moved-moved p q (PutsIn r w) = refl
moved-moved p q (TakesOut r w) = refl

pub here : (a : FullEdit) → a ≡ moved (place a) a
here (PutsIn p w) = refl
here (TakesOut p w) = refl

there : (q : ℕ) (a : FullEdit) → moved q a ≡ moved (place (moved q a)) a
there q (PutsIn p w) = refl
there q (TakesOut p w) = refl

-- b lies behind what a puts in: b moves to q.
newer_moves : (a b : FullEdit) (q : ℕ) (t t' t'' : List ℕ) → Does a t t' → Does b t' t''
    → place a + length (bytes_in a) ≤ place b
    → place b - length (bytes_in a) + length (bytes_out a) ≡ q
    → Swapped a b t t'' (a, moved q b)
newer_moves a b q t t' t'' s₁ s₂ h e =
    let c = behind (place a) (place b) (bytes_out a) (bytes_in a) (bytes_out b) (bytes_in b) t t' t'' s₁ s₂ h in
    record { between = c.0; first = does_moved q b t c.0 (place_is e c.1); second = c.2; kept_a = here a; kept_b = there q b }

-- What b takes out lies before a: a moves to q.
older_moves : (a b : FullEdit) (q : ℕ) (t t' t'' : List ℕ) → Does a t t' → Does b t' t''
    → place b + length (bytes_out b) ≤ place a
    → place a - length (bytes_out b) + length (bytes_in b) ≡ q
    → Swapped a b t t'' (moved q a, b)
older_moves a b q t t' t'' s₁ s₂ h e =
    let c = ahead (place a) (place b) (bytes_out a) (bytes_in a) (bytes_out b) (bytes_in b) t t' t'' s₁ s₂ h in
    record { between = c.0; first = c.1; second = does_moved q a c.0 t'' (place_is e c.2); kept_a = there q a; kept_b = here b }

past_standing_sound : (a b : FullEdit) (t t' t'' : List ℕ) → Does a t t' → Does b t' t'' → Outcome a b t t'' (past_standing edit_ops a b)
past_standing_sound (PutsIn p w) b t t' t'' s₁ s₂ =
    by_leb (p + length w) (place b) _ _ (Outcome (PutsIn p w) b t t'')
    (λ h. newer_moves (PutsIn p w) b (place b - length w) t t' t'' s₁ s₂ h (omega arith)) (λ h. tt)
past_standing_sound (TakesOut p w) b t t' t'' s₁ s₂ =
    by_leb p (place b) _ _ (Outcome (TakesOut p w) b t t'')
    (λ h. newer_moves (TakesOut p w) b (place b + length w) t t' t'' s₁ s₂ (omega arith) (omega arith)) (λ h. tt)

pub past_sound : (a b : FullEdit) (t t' t'' : List ℕ) → Does a t t' → Does b t' t'' → Outcome a b t t'' (past edit_ops a b)
past_sound a (PutsIn q v) t t' t'' s₁ s₂ =
    by_leb q (place a) _ _ (Outcome a (PutsIn q v) t t'')
    (λ h. older_moves a (PutsIn q v) (place a + length v) t t' t'' s₁ s₂ (omega arith) (omega arith))
    (λ h. past_standing_sound a (PutsIn q v) t t' t'' s₁ s₂)
past_sound a (TakesOut q v) t t' t'' s₁ s₂ =
    by_leb (q + length v) (place a) _ _ (Outcome a (TakesOut q v) t t'')
    (λ h. older_moves a (TakesOut q v) (place a - length v) t t' t'' s₁ s₂ h (omega arith))
    (λ h. past_standing_sound a (TakesOut q v) t t' t'' s₁ s₂)

-- A list of edits leads from t to t'.
abbrev pub Runs : List FullEdit → List ℕ → List ℕ → Type 0
Runs [] t t' = t' ≡ t
Runs (a ∷ es) t t' = (s : List ℕ) × Does a t s × Runs es s t'

-- The same with a list of newer edits.
pub record SwappedAll (a : FullEdit) (bs : List FullEdit) (t t'' : List ℕ) (r : FullEdit × List FullEdit) : Type 0 where
  pub between : List ℕ
  pub first : Runs r.1 t between
  pub second : Does r.0 between t''
  pub kept_a : r.0 ≡ moved (place r.0) a
  pub kept_bs : SameButMoved r.1 bs

abbrev pub OutcomeAll : FullEdit → List FullEdit → List ℕ → List ℕ → Option (FullEdit × List FullEdit) → Type 0
OutcomeAll a bs t t'' None = Unit {0}
OutcomeAll a bs t t'' (Some r) = SwappedAll a bs t t'' r

module _ (a b a₀ b₀ : FullEdit) (bs : List FullEdit) (t t' t'' : List ℕ) (s : Does b t t') (k : a ≡ moved (place a) a₀) (l : b ≡ moved (place b) b₀) where
  with_rest_sound : (o : Option (FullEdit × List FullEdit)) → OutcomeAll a bs t' t'' o → OutcomeAll a₀ (b₀ ∷ bs) t t'' (with_rest edit_ops b o)
  with_rest_sound None e = tt
  with_rest_sound (Some r) e =
      record {
        between = e.between;
        first = (t', s, e.first);
        second = e.second;
        kept_a = e.kept_a ∙ (ap (λ x. moved (place r.0) x) k ∙ moved-moved (place r.0) (place a) a₀);
        kept_bs = (l, e.kept_bs);
      }

go_on_sound : (a b : FullEdit) (bs : List FullEdit) (t t' t'' : List ℕ) (o : Option (FullEdit × FullEdit)) (f : FullEdit → Option (FullEdit × List FullEdit))
    → Outcome a b t t' o → ((a' : FullEdit) (s : List ℕ) → Does a' s t' → OutcomeAll a' bs s t'' (f a')) → OutcomeAll a (b ∷ bs) t t'' (go_on edit_ops o f)
go_on_sound a b bs t t' t'' None f h g = tt
go_on_sound a b bs t t' t'' (Some r) f h g =
    with_rest_sound r.0 r.1 a b bs t h.between t'' h.first h.kept_a h.kept_b (f r.0) (g r.0 h.between h.second)

pub carried_sound : (a : FullEdit) (bs : List FullEdit) (t t' t'' : List ℕ) → Does a t t' → Runs bs t' t'' → OutcomeAll a bs t t'' (carried edit_ops a bs)
carried_sound a [] t t' t'' s r = record { between = t; first = refl; second = rw r s; kept_a = here a; kept_bs = tt }
carried_sound a (b ∷ bs) t t' t'' s r =
    go_on_sound a b bs t r.0 t'' (past edit_ops a b) (λ a'. carried edit_ops a' bs) (past_sound a b t t' r.0 s r.1) (λ a' s' d. carried_sound a' bs s' r.0 t'' d r.2)

-- The relation and the functions say the same.
pub runs : (es : List FullEdit) (t : List ℕ) → ValidAll es t → Runs es t (apply_all es t)
runs [] t h = refl
runs (a ∷ es) t h = (apply a t, does a t h.0, runs es (apply a t) h.1)

pub runs_is : (es : List FullEdit) (t t' : List ℕ) → Runs es t t' → ValidAll es t × (t' ≡ apply_all es t)
runs_is [] t t' r = (tt, r)
runs_is (a ∷ es) t t' r =
    let e : r.0 ≡ apply a t = does_is a t r.0 r.1 in
    let i = runs_is es r.0 t' r.2 in
    ((valid a t r.0 r.1, rw e at i.0), rw e at i.1)

pub commutes : Commutes
commutes a b a' b' t ha hb e =
    let f = does a t ha in
    let g = does b (apply a t) hb in
    swapped_out (subst (Outcome a b t (apply b (apply a t))) e (past_sound a b t (apply a t) (apply b (apply a t)) f g))
  where
    swapped_out : Swapped a b t (apply b (apply a t)) (a', b')
        → Valid b' t × Valid a' (apply b' t) × (apply a' (apply b' t) ≡ apply b (apply a t)) × (a' ≡ moved (place a') a) × (b' ≡ moved (place b') b)
    swapped_out s =
        let e₁ : s.between ≡ apply b' t = does_is b' t s.between s.first in
        (valid b' t s.between s.first, rw e₁ at (valid a' s.between _ s.second), sym (rw e₁ at (does_is a' s.between _ s.second)), s.kept_a, s.kept_b)

pub carries : Carries
carries a a' bs bs' t h e =
    out (subst (OutcomeAll a bs t (apply_all (a ∷ bs) t)) e (carried_sound a bs t (apply a t) (apply_all (a ∷ bs) t) (does a t h.0) (runs bs (apply a t) h.1)))
  where
    out : SwappedAll a bs t (apply_all (a ∷ bs) t) (a', bs')
        → ValidAll bs' t × Valid a' (apply_all bs' t) × (apply a' (apply_all bs' t) ≡ apply_all (a ∷ bs) t) × (a' ≡ moved (place a') a) × SameButMoved bs' bs
    out s =
        let i = runs_is bs' t s.between s.first in
        let e₁ : s.between ≡ apply_all bs' t = i.1 in
        (i.0, rw e₁ at (valid a' s.between _ s.second), sym (rw e₁ at (does_is a' s.between _ s.second)), s.kept_a, s.kept_bs)
