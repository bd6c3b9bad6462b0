-- What is left of an undo list whose oldest groups are dropped. Assumes nothing.
use Rattle.std.proofs.Common.{◌≡◌, ℕ, zero, suc, ◌+◌, ◌-◌, ◌<◌, ◌≤◌, Bool, true, false, cond, ltb, List, [], ◌∷◌, map, reverse, length, get_or, take, drop, vec_items, vec_len, sym, refl, ap, ◌∙◌, arith, length-drop}
use Rattle.std.proofs.lemmas.List.{drop-drop, length-map}
use Rattle.std.proofs.lemmas.Bool.Decides.{nat_tests}
use Rattle.undo_list.specs.declared.entry.Entry.{Entry}
use Rattle.undo_list.specs.declared.entry.Stored.{Stored}
use Rattle.undo_list.specs.Groups.{Held, Groups, entries_in, bytes_in, trimmed}
use Rattle.undo_list.specs.declared.list.UndoList.{UndoList}
use Rattle.undo_list.specs.View.{view}
use Rattle.undo_list.specs.Spell.{total, spell, rising, last_end, start, groups_held, part, split, grouped, lowered, shifted, entries_of, offsets_of, offsets_from}
use Rattle.undo_list.proofs.Stored.{listed, listed_len, entries_drop, offsets_drop, offset_left, drop_offsets}
use Rattle.undo_list.proofs.Offsets.{placed_past, placed_trimmed}
use Rattle.undo_list.proofs.Ends.{rising_last}
use Rattle.undo_list.proofs.Kept.{Sound, sound}
use Rattle.undo_list.proofs.Lists.{entries_count, bytes_count, closed_within}
use Rattle.undo_list.proofs.Spelled.{spell-drop, same_groups}

-- the ends after the first k
rising-drop : (from : ℕ) (ends : List ℕ) (n k : ℕ) → k ≤ length ends → rising from ends n ≡ true → rising (start from ends k) (drop k ends) n ≡ true
unfolding start
rising-drop from [] n zero h r = r
rising-drop from (e ∷ ends) n zero h r = r
rising-drop from [] n (suc k) h r = absurd (omega arith)
rising-drop from (e ∷ ends) n (suc k) h r =
    let rest : rising e ends n ≡ true = grind (arith, nat_tests) in
    rising-drop e ends n k (omega arith) rest

split-drop : (from : ℕ) (ends : List ℕ) (xs : List Held) (k : ℕ) → split (start from ends k) (drop k ends) xs ≡ drop k (split from ends xs)
unfolding start
split-drop from [] xs zero = refl
split-drop from (e ∷ ends) xs zero = refl
split-drop from [] xs (suc k) = refl
split-drop from (e ∷ ends) xs (suc k) = split-drop e ends xs k

last_drop : (from : ℕ) (ends : List ℕ) (k : ℕ) → last_end (start from ends k) (drop k ends) ≡ last_end from ends
unfolding start
last_drop from [] zero = refl
last_drop from (e ∷ ends) zero = refl
last_drop from [] (suc k) = refl
last_drop from (e ∷ ends) (suc k) = last_drop e ends k

-- the ends lowered
module _ (gone : ℕ) where
  rising_low : (from : ℕ) (ends : List ℕ) (n : ℕ) → gone ≤ from → rising from ends n ≡ true → rising (from - gone) (map (lowered gone) ends) (n - gone) ≡ true
  rising_low from [] n h r = grind (arith, nat_tests)
  rising_low from (e ∷ ends) n h r =
      let lt : from < e = grind (arith, nat_tests) in
      let rest : rising e ends n ≡ true = grind (arith, nat_tests) in
      let here : from - gone < e - gone = omega arith in
      let more = rising_low e ends n (omega arith) rest in
      grind (arith, nat_tests)

  last_low : (from : ℕ) (ends : List ℕ) (n : ℕ) → gone ≤ from → rising from ends n ≡ true → last_end (from - gone) (map (lowered gone) ends) ≡ last_end from ends - gone
  last_low from [] n h r = refl
  last_low from (e ∷ ends) n h r =
      let lt : from < e = grind (arith, nat_tests) in
      let rest : rising e ends n ≡ true = grind (arith, nat_tests) in
      last_low e ends n (omega arith) rest

  part_low : (a b : ℕ) (xs : List Held) → gone ≤ a → a ≤ b → part (a - gone) (b - gone) (drop gone xs) ≡ part a b xs
  part_low a b xs h ab =
      let p : (b - gone) - (a - gone) ≡ b - a = omega arith in
      let q : gone + (a - gone) ≡ a = omega arith in
      ap (λ k. reverse (take k (drop (a - gone) (drop gone xs)))) p
      ∙ ap (λ x. reverse (take (b - a) x)) (drop-drop (a - gone) gone xs ∙ ap (λ k. drop k xs) q)

  split_low : (from : ℕ) (ends : List ℕ) (xs : List Held) (n : ℕ) → gone ≤ from → rising from ends n ≡ true → split (from - gone) (map (lowered gone) ends) (drop gone xs) ≡ split from ends xs
  split_low from [] xs n h r = refl
  split_low from (e ∷ ends) xs n h r =
      let lt : from < e = grind (arith, nat_tests) in
      let rest : rising e ends n ≡ true = grind (arith, nat_tests) in
      ap (λ x. x ∷ split (e - gone) (map (lowered gone) ends) (drop gone xs)) (part_low from e xs h (omega arith))
      ∙ ap (λ x. part from e xs ∷ x) (split_low e ends xs n (omega arith) rest)

  -- each end that is left is past what is gone
  past_gone : (from : ℕ) (ends : List ℕ) (n i d : ℕ) → gone ≤ from → rising from ends n ≡ true → i < length ends → gone ≤ get_or ends i d
  past_gone from [] n i d h r lt = absurd (omega arith)
  past_gone from (e ∷ ends) n zero d h r lt =
      let up : from < e = grind (arith, nat_tests) in
      omega arith
  past_gone from (e ∷ ends) n (suc i) d h r lt =
      let up : from < e = grind (arith, nat_tests) in
      let rest : rising e ends n ≡ true = grind (arith, nat_tests) in
      past_gone e ends n i d (omega arith) rest (omega arith)

total-drop : (m : ℕ) (es : List Entry) → total es ≡ total (take m es) + total (drop m es)
total-drop zero es = omega arith
total-drop (suc m) [] = refl
total-drop (suc m) (e ∷ es) = let r = total-drop m es in omega arith

tests_low : (n a b : ℕ) → n ≤ a → ltb (a - n) (b - n) ≡ ltb a b
tests_low n a b h = grind (arith, nat_tests)

fewer : (k m : ℕ) (t : Bool) → m + cond t 1 0 ≤ 256 → (m - k) + cond t 1 0 ≤ 256
fewer k m true h = omega arith
fewer k m false h = omega arith

module _ (es : List Entry) (ks : List ℕ) (ends : List ℕ) (s : Sound es ks ends) (gone k : ℕ) (le : k ≤ length ends) (at : gone ≡ start 0 ends k) where
  none_left : gone - gone ≡ 0
  none_left = omega arith

  left_rises : (n : ℕ) → rising 0 ends n ≡ true → rising gone (drop k ends) n ≡ true
  left_rises n r = ap (λ x. rising x (drop k ends) n) at ∙ rising-drop 0 ends n k le r

  left_last : last_end gone (drop k ends) ≡ last_end 0 ends
  left_last = ap (λ x. last_end x (drop k ends)) at ∙ last_drop 0 ends k

  gone_last : gone ≤ last_end 0 ends
  gone_last = omega (arith, left_last, (rising_last gone (drop k ends) (length es) (left_rises (length es) s.rises)).0)

  low_last : last_end 0 (map (lowered gone) (drop k ends)) ≡ last_end 0 ends - gone
  low_last =
      ap (λ x. last_end x (map (lowered gone) (drop k ends))) (sym none_left)
      ∙ last_low gone gone (drop k ends) (length es) (omega arith) (left_rises (length es) s.rises)
      ∙ ap (λ x. x - gone) left_last

  gone_within : gone ≤ length es
  gone_within = omega (arith, gone_last, (rising_last 0 ends (length es) s.rises).1)

  left_past : (i d : ℕ) → i < length (drop k ends) → gone ≤ get_or (drop k ends) i d
  left_past i d h = past_gone gone gone (drop k ends) (length es) i d (omega arith) (left_rises (length es) s.rises) h

  module _ (freed : ℕ) (bytes : freed ≡ total (take gone es)) where
    sound_trim : Sound (drop gone es) (drop freed ks) (map (lowered gone) (drop k ends))
    sound_trim =
        let long : length (drop gone es) ≡ length es - gone = length-drop gone es in
        let many : length (map (lowered gone) (drop k ends)) ≡ length ends - k = length-map (drop k ends) (lowered gone) ∙ length-drop k ends in
        let test : ltb (last_end 0 (map (lowered gone) (drop k ends))) (length (drop gone es)) ≡ ltb (last_end 0 ends) (length es) =
        ap (λ x. ltb x (length (drop gone es))) low_last ∙ ap (ltb (last_end 0 ends - gone)) long ∙ tests_low gone (last_end 0 ends) (length es) gone_last in
        let held : groups_held (map (lowered gone) (drop k ends)) (length (drop gone es)) ≡ (length ends - k) + cond (ltb (last_end 0 ends) (length es)) 1 0 =
        ap (λ x. x + cond (ltb (last_end 0 (map (lowered gone) (drop k ends))) (length (drop gone es))) 1 0) many ∙ ap (λ x. (length ends - k) + cond x 1 0) test in
        record {
          filled = simp length-drop (omega (arith, bytes, total-drop gone es, s.filled));
          rises = ap (λ x. rising x (map (lowered gone) (drop k ends)) (length (drop gone es))) (sym none_left) ∙ ap (rising (gone - gone) (map (lowered gone) (drop k ends))) long ∙ rising_low gone gone (drop k ends) (length es) (omega arith) (left_rises (length es) s.rises);
          few = omega (arith, held, fewer k (length ends) (ltb (last_end 0 ends) (length es)) s.few);
        }

    view_trim : grouped (map (lowered gone) (drop k ends)) (spell (drop gone es) (drop freed ks)) ≡ trimmed k (grouped ends (spell es ks))
    view_trim =
        let xs : spell (drop gone es) (drop freed ks) ≡ drop gone (spell es ks) =
        ap (λ x. spell (drop gone es) (drop x ks)) bytes ∙ spell-drop gone es ks in
        let sum : gone + (last_end 0 ends - gone) ≡ last_end 0 ends = omega (arith, gone_last) in
        ap (grouped (map (lowered gone) (drop k ends))) xs
        ∙ same_groups _ _ _ _
        (ap (λ x. split x (map (lowered gone) (drop k ends)) (drop gone (spell es ks))) (sym none_left)
        ∙ split_low gone gone (drop k ends) (spell es ks) (length es) (omega arith) (left_rises (length es) s.rises)
        ∙ ap (λ x. split x (drop k ends) (spell es ks)) at
        ∙ split-drop 0 ends (spell es ks) k)
        (ap (λ x. reverse (drop x (drop gone (spell es ks)))) low_last
        ∙ ap reverse (drop-drop (last_end 0 ends - gone) gone (spell es ks) ∙ ap (λ x. drop x (spell es ks)) sum))

    sound_trimmed : (es' : List Entry) (ks' : List ℕ) (ends' : List ℕ) → es' ≡ drop gone es → ks' ≡ drop freed ks → ends' ≡ map (lowered gone) (drop k ends) → Sound es' ks' ends'
    sound_trimmed es' ks' ends' a b c = let t = sound_trim in rw (a, b, c) t

    view-trimmed : (es' : List Entry) (ks' : List ℕ) (ends' : List ℕ) → es' ≡ drop gone es → ks' ≡ drop freed ks → ends' ≡ map (lowered gone) (drop k ends) → grouped ends' (spell es' ks') ≡ trimmed k (grouped ends (spell es ks))
    view-trimmed es' ks' ends' a b c = ap (λ x. grouped x (spell es' ks')) c ∙ ap (λ x. grouped (map (lowered gone) (drop k ends)) (spell x ks')) a ∙ ap (λ x. grouped (map (lowered gone) (drop k ends)) (spell (drop gone es) x)) b ∙ view_trim

-- the oldest k groups dropped
pub record Fewer (g : Groups) (k : ℕ) (after : Groups) : Type 0 where
  pub view : after ≡ trimmed k g
  pub opened : after.opened ≡ g.opened
  pub groups : length after.closed ≡ length g.closed - k
  pub entries : entries_in after ≤ entries_in g
  pub bytes : bytes_in after ≤ bytes_in g

module _ (l : UndoList) (k gone : ℕ) (h : k ≤ length (view l).closed) (at : gone ≡ start 0 (vec_items l.ends) k) where
  pub entries_gone : gone ≤ vec_len l.stored
  entries_gone = omega (arith, gone_within _ _ _ (sound l) gone k (closed_within l k h) at, listed_len l)

  pub ends_past : (i d : ℕ) → i < length (drop k (vec_items l.ends)) → gone ≤ get_or (drop k (vec_items l.ends)) i d
  ends_past = left_past _ _ _ (sound l) gone k (closed_within l k h) at

  module _ (freed : ℕ) (f : freed ≡ total (take gone (listed l))) where
    pub sound_fewer : (ss : List Stored) (ks ends : List ℕ) → ss ≡ map (shifted freed) (drop gone (vec_items l.stored)) → ks ≡ drop freed (vec_items l.kept) → ends ≡ map (lowered gone) (drop k (vec_items l.ends)) → Sound (entries_of ss) ks ends
    sound_fewer ss ks ends a = sound_trimmed _ _ _ (sound l) gone k (closed_within l k h) at freed f (entries_of ss) ks ends (entries_drop (vec_items l.stored) ss gone freed a)

    pub offsets_past : (i : ℕ) (d : Stored) → i < length (drop gone (vec_items l.stored)) → freed ≤ (get_or (drop gone (vec_items l.stored)) i d).before
    offsets_past i d lt =
        let same = offset_left (vec_items l.stored) gone i d lt in
        let long = drop_offsets (vec_items l.stored) gone in
        let past = placed_past (listed l) (offsets_of (vec_items l.stored)) l.placed gone freed f i 0 (omega arith) in
        omega arith

    pub placed_fewer : (ss : List Stored) → ss ≡ map (shifted freed) (drop gone (vec_items l.stored)) → offsets_of ss ≡ offsets_from 0 (entries_of ss)
    placed_fewer ss a =
        placed_trimmed (listed l) (offsets_of (vec_items l.stored)) l.placed gone freed f (entries_of ss) (offsets_of ss)
        (entries_drop (vec_items l.stored) ss gone freed a) (offsets_drop (vec_items l.stored) ss gone freed a)

    module _ (m : UndoList) (s : vec_items m.stored ≡ map (shifted freed) (drop gone (vec_items l.stored))) (b : vec_items m.kept ≡ drop freed (vec_items l.kept)) (c : vec_items m.ends ≡ map (lowered gone) (drop k (vec_items l.ends))) where
      a : listed m ≡ drop gone (listed l)
      a = entries_drop (vec_items l.stored) (vec_items m.stored) gone freed s

      view_fewer : view m ≡ trimmed k (view l)
      unfolding view
      view_fewer = view-trimmed _ _ _ (sound l) gone k (closed_within l k h) at freed f _ _ _ a b c

      pub fewer_groups : Fewer (view l) k (view m)
      fewer_groups =
          record {
            view = view_fewer;
            opened = ap (λ (g : Groups). g.opened) view_fewer;
            groups = ap (λ (g : Groups). length g.closed) view_fewer ∙ length-drop k (view l).closed;
            entries = omega (arith, entries_count l, entries_count m, listed_len l, listed_len m, ap length a, length-drop gone (listed l));
            bytes = omega (arith, bytes_count l, bytes_count m, l.kept.ok.0, m.kept.ok.0, ap length b, length-drop freed (vec_items l.kept));
          }
