-- What is left of an undo list whose newest entries are dropped. Assumes nothing.
use Rattle.std.proofs.Common.{◌≡◌, ℕ, zero, suc, ◌+◌, ◌-◌, ◌<◌, ◌≤◌, min, max, true, cond, ltb, leb, List, [], ◌∷◌, reverse, length, take, drop, vec_items, vec_len, sym, refl, ap, ◌∙◌, inl, inr, arith, length-drop, length-take}
use Rattle.std.proofs.lemmas.List.{take-take, take-append-drop, drop-take, drop_at, drop_all, length-reverse, reverse-append}
use Rattle.std.proofs.lemmas.Bool.{cases_Bool}
use Rattle.std.proofs.lemmas.Bool.Decides.{nat_tests}
use Rattle.undo_list.specs.declared.entry.Entry.{Entry}
use Rattle.undo_list.specs.declared.entry.Stored.{Stored}
use Rattle.undo_list.specs.declared.list.UndoList.{UndoList}
use Rattle.undo_list.specs.Groups.{Groups, entries_in, bytes_in, cut}
use Rattle.undo_list.specs.View.{view}
use Rattle.undo_list.specs.Spell.{entries_of, offsets_of, offsets_from, kept_count, total, held, spell, rising, last_end, split, grouped}
use Rattle.undo_list.proofs.Stored.{listed, listed_len, entries_take, offsets_take}
use Rattle.undo_list.proofs.Offsets.{placed_cut}
use Rattle.undo_list.proofs.Ends.{rising_last, total-take}
use Rattle.undo_list.proofs.Kept.{Sound, sound}
use Rattle.undo_list.proofs.Lists.{entries_count, bytes_count, opened_count, ends_within}
use Rattle.undo_list.proofs.Spelled.{length-spell, split_push, same_groups}

still_few : (m a b c : ℕ) → c ≤ b → m + cond (ltb a b) 1 0 ≤ 256 → m + cond (ltb a c) 1 0 ≤ 256
still_few m a b c h f = grind (arith, nat_tests)

rising_falls : (from : ℕ) (ends : List ℕ) (n m : ℕ) → last_end from ends ≤ m → rising from ends n ≡ true → rising from ends m ≡ true
rising_falls from [] n m g h = grind (arith, nat_tests)
rising_falls from (e ∷ ends) n m g h =
    let rest : rising e ends n ≡ true = grind (arith, nat_tests) in
    let r = rising_falls e ends n m g rest in
    grind (arith, nat_tests)

-- entries and bytes cut together
spell-take : (j : ℕ) (es : List Entry) (ks : List ℕ) → spell (take j es) (take (total (take j es)) ks) ≡ take j (spell es ks)
spell-take zero es ks = refl
spell-take (suc j) [] ks = refl
spell-take (suc j) (e ∷ es) ks =
    let a : take (kept_count e) (take (kept_count e + total (take j es)) ks) ≡ take (kept_count e) ks = take-take (kept_count e) (kept_count e + total (take j es)) ks (omega arith) in
    let b : drop (kept_count e) (take (kept_count e + total (take j es)) ks) ≡ take (total (take j es)) (drop (kept_count e) ks) = drop-take (kept_count e) (total (take j es)) ks in
    ap (λ x. held e x ∷ spell (take j es) (drop (kept_count e) (take (kept_count e + total (take j es)) ks))) a
    ∙ ap (λ x. held e (take (kept_count e) ks) ∷ spell (take j es) x) b
    ∙ ap (λ x. held e (take (kept_count e) ks) ∷ x) (spell-take j es (drop (kept_count e) ks))

drop_reversed : {X : Type 0} (n : ℕ) (xs : List X) → drop n (reverse xs) ≡ reverse (take (length xs - n) xs)
drop_reversed n xs =
    elim (cases_Bool (leb n (length xs))) [
      | inl y ↦
          (let le : n ≤ length xs = grind (arith, nat_tests) in
          let long : length (reverse (drop (length xs - n) xs)) ≡ n = length-reverse (drop (length xs - n) xs) ∙ length-drop (length xs - n) xs ∙ omega arith in
          ap (λ v. drop n (reverse v)) (sym (take-append-drop (length xs - n) xs)) ∙ ap (drop n) (reverse-append (take (length xs - n) xs) (drop (length xs - n) xs)) ∙ drop_at (reverse (drop (length xs - n) xs)) (reverse (take (length xs - n) xs)) n long)
      | inr y ↦
          (let lt : length xs < n = grind (arith, nat_tests) in
          let z : length xs - n ≡ 0 = omega arith in
          drop_all n (reverse xs) (omega (arith, length-reverse xs)) ∙ sym (ap (λ k. reverse (take k xs)) z))
    ]

module _ (es : List Entry) (ks : List ℕ) (ends : List ℕ) (s : Sound es ks ends) (n left : ℕ) (is : left ≡ max (length es - n) (last_end 0 ends)) where
  low : last_end 0 ends ≤ left
  low = omega arith

  high : left ≤ length es
  high = omega (arith, rising_last 0 ends (length es) s.rises)

  long : length (take left es) ≡ left
  long = length-take left es ∙ omega (arith, high)

  sound_cut : Sound (take left es) (take (total (take left es)) ks) ends
  sound_cut =
      let t = total-take es left in
      record {
        filled = sym (length-take (total (take left es)) ks ∙ omega (arith, t, s.filled));
        rises = ap (rising 0 ends) long ∙ rising_falls 0 ends (length es) left low s.rises;
        few = still_few (length ends) (last_end 0 ends) (length es) (length (take left es)) (omega (arith, long, high)) s.few;
      }

  -- the closed groups stay, and of the open one the newest entries go
  closed_cut : split 0 ends (take left (spell es ks)) ≡ split 0 ends (spell es ks)
  closed_cut =
      let l : length (take left (spell es ks)) ≡ left = length-take left (spell es ks) ∙ omega (arith, high, length-spell es ks) in
      sym (ap (split 0 ends) (sym (take-append-drop left (spell es ks))) ∙ split_push 0 ends (take left (spell es ks)) (drop left (spell es ks)) (ap (rising 0 ends) l ∙ rising_falls 0 ends (length es) left low s.rises))

  opened-cut : reverse (drop (last_end 0 ends) (take left (spell es ks))) ≡ drop n (reverse (drop (last_end 0 ends) (spell es ks)))
  opened-cut =
      let sum : left ≡ last_end 0 ends + (left - last_end 0 ends) = omega (arith, low) in
      let same : left - last_end 0 ends ≡ length (drop (last_end 0 ends) (spell es ks)) - n = sym (ap (λ x. x - n) (length-drop (last_end 0 ends) (spell es ks)) ∙ omega (arith, length-spell es ks)) in
      ap (λ k. reverse (drop (last_end 0 ends) (take k (spell es ks)))) sum
      ∙ ap reverse (drop-take (last_end 0 ends) (left - last_end 0 ends) (spell es ks))
      ∙ ap (λ k. reverse (take k (drop (last_end 0 ends) (spell es ks)))) same
      ∙ sym (drop_reversed n (drop (last_end 0 ends) (spell es ks)))

  sound_left : (es' : List Entry) (ks' : List ℕ) (b : ℕ) → b ≡ total (take left es) → es' ≡ take left es → ks' ≡ take b ks → Sound es' ks' ends
  sound_left es' ks' b e a c = let t = sound_cut in let c' : ks' ≡ take (total (take left es)) ks = c ∙ ap (λ x. take x ks) e in rw (a, c') t

  view_left : (es' : List Entry) (ks' : List ℕ) (b : ℕ) → b ≡ total (take left es) → es' ≡ take left es → ks' ≡ take b ks → grouped ends (spell es' ks') ≡ cut n (grouped ends (spell es ks))
  view_left es' ks' b e a c =
      ap (λ x. grouped ends (spell x ks')) a ∙ ap (λ x. grouped ends (spell (take left es) x)) (c ∙ ap (λ x. take x ks) e) ∙ ap (grouped ends) (spell-take left es ks)
      ∙ same_groups _ _ _ _ closed_cut opened-cut

-- the newest n entries of the open group dropped
pub record Shorter (g : Groups) (n : ℕ) (after : Groups) : Type 0 where
  pub view : after ≡ cut n g
  pub closed : after.closed ≡ g.closed
  pub entries : entries_in after ≡ entries_in g - min n (length g.opened)
  pub bytes : bytes_in after ≤ bytes_in g

module _ (l : UndoList) (n left bytes : ℕ) (is : left ≡ max (vec_len l.stored - n) (last_end 0 (vec_items l.ends))) (b : bytes ≡ total (take left (listed l))) where
  is_left : left ≡ max (length (listed l) - n) (last_end 0 (vec_items l.ends))
  is_left = is ∙ ap (λ k. max (k - n) (last_end 0 (vec_items l.ends))) (listed_len l)

  pub sound_shorter : (ss : List Stored) (ks : List ℕ) → ss ≡ take left (vec_items l.stored) → ks ≡ take bytes (vec_items l.kept) → Sound (entries_of ss) ks (vec_items l.ends)
  sound_shorter ss ks a = sound_left _ _ _ (sound l) n left is_left (entries_of ss) ks bytes b (entries_take (vec_items l.stored) ss left a)

  pub placed_shorter : (ss : List Stored) → ss ≡ take left (vec_items l.stored) → offsets_of ss ≡ offsets_from 0 (entries_of ss)
  placed_shorter ss a =
      placed_cut (listed l) (offsets_of (vec_items l.stored)) l.placed left (entries_of ss) (offsets_of ss) (entries_take (vec_items l.stored) ss left a) (offsets_take (vec_items l.stored) ss left a)

  module _ (m : UndoList) (s : vec_items m.stored ≡ take left (vec_items l.stored)) (c : vec_items m.kept ≡ take bytes (vec_items l.kept)) (e : m.ends ≡ l.ends) where
    a : listed m ≡ take left (listed l)
    a = entries_take (vec_items l.stored) (vec_items m.stored) left s

    view_shorter : view m ≡ cut n (view l)
    unfolding view
    view_shorter = ap (λ x. grouped (vec_items x) (spell (listed m) (vec_items m.kept))) e ∙ view_left _ _ _ (sound l) n left is_left _ _ bytes b a c

    pub shorter_open : Shorter (view l) n (view m)
    shorter_open =
        record {
          view = view_shorter;
          closed = ap (λ (g : Groups). g.closed) view_shorter;
          entries = omega (arith, is, entries_count l, entries_count m, opened_count l, ends_within l, listed_len l, listed_len m, ap length a, length-take left (listed l));
          bytes = omega (arith, bytes_count l, bytes_count m, l.kept.ok.0, m.kept.ok.0, ap length c, length-take bytes (vec_items l.kept));
        }
