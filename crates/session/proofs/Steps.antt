-- One step of the inversion of a group: the newest entry that is left, and then the rest.
use Rattle.std.proofs.Common.{◌≡◌, ℕ, ◌+◌, ◌<◌, ◌≤◌, List, [], ◌∷◌, length, drop, get_or, sym, refl, ap, ◌∙◌, subst}
use Rattle.std.proofs.lemmas.List.{drop_more, get_or_append_left, drop_all}
use Rattle.undo_list.specs.Groups.{Held, PutIn, Took, Groups, group_at}
use Rattle.undo_list.specs.Spell.{nothing}
use Rattle.session.specs.Admitted.{Admits, AdmitsOne}
use Rattle.session.specs.Undo.{invert, invert_all}
use Rattle.session.specs.World.{World, deleted, put_back}

-- A closed group is the same wherever the closed groups are the same.
pub closed_group_at : (a b : Groups) (j : ℕ) → a.closed ≡ b.closed → j < length b.closed → group_at a j ≡ group_at b j
unfolding group_at
closed_group_at a b j e lt =
    let below : j < length a.closed = subst (λ x. j < length x) (sym e) lt in
    get_or_append_left a.closed (a.opened ∷ []) [] j below ∙ ap (λ x. get_or x j []) e ∙ sym (get_or_append_left b.closed (b.opened ∷ []) [] j lt)

-- The inversion of an entry records in the open group.
pub closed_stay : (h : Held) (w : World) → (invert h w).groups.closed ≡ w.groups.closed
unfolding deleted put_back
closed_stay (PutIn p n) w = refl
closed_stay (Took p bs notes) w = refl

module _ (hs : List Held) (i : ℕ) (lt : i < length hs) (w : World) where
  pub admits_here : Admits (drop i hs) w → AdmitsOne (get_or hs i nothing) w
  admits_here a = (subst (λ x. Admits x w) (drop_more hs i nothing lt) a).0

  -- v is the world after the inversion of entry i of the same group.
  module _ (v : World) (xs : List Held) (same : xs ≡ hs) (done : v ≡ invert (get_or xs i nothing) w) where
    inverted_here : v ≡ invert (get_or hs i nothing) w
    inverted_here = done ∙ ap (λ x. invert (get_or x i nothing) w) same

    pub admits_next : Admits (drop i hs) w → Admits (drop (i + 1) hs) v
    admits_next a = subst (Admits (drop (i + 1) hs)) (sym inverted_here) (subst (λ x. Admits x w) (drop_more hs i nothing lt) a).1

    pub inverts_next : (end : World) → invert_all (drop i hs) w ≡ end → invert_all (drop (i + 1) hs) v ≡ end
    unfolding invert_all
    inverts_next end leads = ap (invert_all (drop (i + 1) hs)) inverted_here ∙ sym (ap (λ x. invert_all x w) (drop_more hs i nothing lt)) ∙ leads

    pub closed_next : (closed : List (List Held)) → w.groups.closed ≡ closed → v.groups.closed ≡ closed
    closed_next closed stay = ap (λ (x : World). x.groups.closed) inverted_here ∙ closed_stay (get_or hs i nothing) w ∙ stay

pub inverts_none : (hs : List Held) (i : ℕ) (w end : World) → length hs ≤ i → invert_all (drop i hs) w ≡ end → w ≡ end
unfolding invert_all
inverts_none hs i w end all leads = sym (ap (λ x. invert_all x w) (drop_all i hs all)) ∙ leads
