-- What the steps of an undo list leave, from what its parts are. Assumes nothing.
use Rattle.std.proofs.Common.{◌≡◌, ℕ, suc, ◌+◌, ◌-◌, ◌<◌, ◌≤◌, true, false, cond, ltb, List, [], ◌∷◌, ◌++◌, length, get_or, vec_items, vec_len, sym, ap, ◌∙◌, arith, length-append}
use Rattle.std.proofs.lemmas.List.{nil_from_length}
use Rattle.std.proofs.lemmas.Bool.Decides.{nat_tests}
use Rattle.undo_list.specs.declared.entry.Entry.{Entry}
use Rattle.undo_list.specs.declared.entry.Stored.{Stored}
use Rattle.undo_list.specs.declared.list.UndoList.{UndoList}
use Rattle.undo_list.specs.Groups.{Held, Groups, no_groups, Empty, entries_in, bytes_in, groups_in, has_open, recorded, shut}
use Rattle.undo_list.specs.Spell.{entries_of, offsets_of, kept_count, offsets_from, held, spell, last_end, start, grouped}
use Rattle.undo_list.specs.View.{view}
use Rattle.undo_list.proofs.Stored.{listed, listed_len, entries_push, offsets_push}
use Rattle.undo_list.proofs.Ends.{start_first, start_next, last_start}
use Rattle.undo_list.proofs.Offsets.{placed_push}
use Rattle.undo_list.proofs.Kept.{Sound, sound, entries_are, bytes_are, closed_are, opened_are, open_is, groups_few, last_within, sound_push, view_push, sound_close, view_close}

-- one more entry, which keeps n bytes
pub record Pushed (g : Groups) (h : Held) (n : ℕ) (after : Groups) : Type 0 where
  pub view : after ≡ recorded h g
  pub entries : entries_in after ≡ entries_in g + 1
  pub bytes : bytes_in after ≡ bytes_in g + n
  pub groups : groups_in after ≡ length g.closed + 1

pub record Shut (g after : Groups) : Type 0 where
  pub view : after ≡ shut g
  pub entries : entries_in after ≡ entries_in g
  pub bytes : bytes_in after ≡ bytes_in g
  pub groups : length after.closed ≡ groups_in g
  pub opened : after.opened ≡ []

shut_groups : (g : Groups) → has_open g ≡ true → length (shut g).closed ≡ groups_in g
shut_groups g h = length-append g.closed (g.opened ∷ []) ∙ ap (λ b. length g.closed + cond b 1 0) (sym h)

recorded_groups : (h : Held) (g : Groups) → groups_in (recorded h g) ≡ length g.closed + 1
recorded_groups h g = grind (arith, nat_tests)

none_open : (g : Groups) → has_open g ≡ false → g.opened ≡ []
none_open g h = nil_from_length g.opened (grind (arith, nat_tests))

pub empty : (l : UndoList) → vec_items l.stored ≡ [] → vec_items l.kept ≡ [] → vec_items l.ends ≡ [] → Empty (view l)
unfolding view entries_in bytes_in
empty l a b c =
    let v : grouped (vec_items l.ends) (spell (listed l) (vec_items l.kept)) ≡ no_groups =
    ap (λ x. grouped x (spell (listed l) (vec_items l.kept))) c ∙ ap (λ x. grouped [] (spell (entries_of x) (vec_items l.kept))) a in
    record { groups = v; entries = ap entries_in v; bytes = ap bytes_in v }

module _ (l : UndoList) where
  pub entries_count : vec_len l.stored ≡ entries_in (view l)
  unfolding view
  entries_count = listed_len l ∙ sym (entries_are _ _ _ (sound l))

  pub bytes_count : vec_len l.kept ≡ bytes_in (view l)
  unfolding view
  bytes_count = l.kept.ok.0 ∙ sym (bytes_are _ _ _ (sound l))

  pub closed_count : vec_len l.ends ≡ length (view l).closed
  unfolding view
  closed_count = l.ends.ok.0 ∙ sym (closed_are _ _ _ (sound l))

  pub closed_within : (k : ℕ) → k ≤ length (view l).closed → k ≤ length (vec_items l.ends)
  closed_within k h = omega (arith, closed_count, l.ends.ok.0)

  pub groups_count : groups_in (view l) ≤ 256
  unfolding view
  groups_count = groups_few _ _ _ (sound l)

  pub open_test : has_open (view l) ≡ ltb (last_end 0 (vec_items l.ends)) (entries_in (view l))
  unfolding view
  open_test = open_is _ _ _ (sound l) ∙ ap (ltb (last_end 0 (vec_items l.ends))) (sym (entries_are _ _ _ (sound l)))

  pub not_open : ltb (last_end 0 (vec_items l.ends)) (entries_in (view l)) ≡ false → (view l).opened ≡ []
  not_open h = none_open (view l) (open_test ∙ h)

  pub opened_count : length (view l).opened ≡ vec_len l.stored - last_end 0 (vec_items l.ends)
  unfolding view
  opened_count = opened_are _ _ _ (sound l) ∙ ap (λ n. n - last_end 0 (vec_items l.ends)) (sym (listed_len l))

  -- where a group starts
  pub start_none : (j : ℕ) → j ≡ 0 → 0 ≡ start 0 (vec_items l.ends) j
  start_none j z = sym (start_first 0 (vec_items l.ends)) ∙ ap (start 0 (vec_items l.ends)) (sym z)

  pub start_some : (e : ℕ) (j : ℕ) → (j ≡ 0 → ⊥) → j ≤ vec_len l.ends → e ≡ get_or (vec_items l.ends) (j - 1) e → e ≡ start 0 (vec_items l.ends) j
  start_some e j z h is =
      let k : suc (j - 1) ≡ j = omega arith in
      let lt : j - 1 < length (vec_items l.ends) = omega (arith, l.ends.ok.0) in
      is ∙ sym (start_next 0 (vec_items l.ends) (j - 1) e lt) ∙ ap (start 0 (vec_items l.ends)) k

  pub start_last : start 0 (vec_items l.ends) (vec_len l.ends) ≡ last_end 0 (vec_items l.ends)
  start_last = ap (start 0 (vec_items l.ends)) l.ends.ok.0 ∙ last_start 0 (vec_items l.ends)

  pub ends_within : last_end 0 (vec_items l.ends) ≤ vec_len l.stored
  ends_within = omega (arith, last_within _ _ _ (sound l), listed_len l)

  -- one more entry
  pub sound_recorded : (ss : List Stored) (ks' : List ℕ) (s : Stored) (w : List ℕ) → kept_count s.entry ≡ length w → length (view l).closed + 1 ≤ 256
      → ss ≡ vec_items l.stored ++ s ∷ [] → ks' ≡ vec_items l.kept ++ w → Sound (entries_of ss) ks' (vec_items l.ends)
  sound_recorded ss ks' s w k h a b =
      let t = sound_push (listed l) (vec_items l.kept) (vec_items l.ends) (sound l) s.entry w k (omega (arith, closed_count, l.ends.ok.0)) in
      let a' = entries_push (vec_items l.stored) ss s a in
      rw (a', b) t

  pub placed_recorded : (ss : List Stored) (s : Stored) → s.before ≡ vec_len l.kept → ss ≡ vec_items l.stored ++ s ∷ [] → offsets_of ss ≡ offsets_from 0 (entries_of ss)
  placed_recorded ss s is a =
      placed_push (listed l) (offsets_of (vec_items l.stored)) l.placed s.entry s.before (entries_of ss) (offsets_of ss) (is ∙ l.kept.ok.0 ∙ sym l.filled)
      (entries_push (vec_items l.stored) ss s a) (offsets_push (vec_items l.stored) ss s a)

  pub pushed : (m : UndoList) (s : Stored) (w : List ℕ) (h : Held) → kept_count s.entry ≡ length w → held s.entry w ≡ h
      → vec_items m.stored ≡ vec_items l.stored ++ s ∷ []
      → vec_items m.kept ≡ vec_items l.kept ++ w
      → vec_items m.ends ≡ vec_items l.ends
      → Pushed (view l) h (length w) (view m)
  unfolding view
  pushed m s w h k is more b c =
      let e : Entry = s.entry in
      let a : listed m ≡ listed l ++ s.entry ∷ [] = entries_push (vec_items l.stored) (vec_items m.stored) s more in
      let v = view_push (listed l) (vec_items l.kept) (vec_items l.ends) (sound l) e w k in
      let all = ap (λ x. grouped x (spell (listed m) (vec_items m.kept))) c ∙ ap (λ x. grouped (vec_items l.ends) (spell x (vec_items m.kept))) a ∙ ap (λ x. grouped (vec_items l.ends) (spell (listed l ++ e ∷ []) x)) b ∙ v ∙ ap (λ x. recorded x (grouped (vec_items l.ends) (spell (listed l) (vec_items l.kept)))) is in
      record {
        view = all;
        groups = ap groups_in all ∙ recorded_groups h _;
        entries = entries_are _ _ _ (sound m) ∙ ap length a ∙ length-append (listed l) (e ∷ []) ∙ ap (λ n. n + 1) (sym (entries_are _ _ _ (sound l)));
        bytes = bytes_are _ _ _ (sound m) ∙ ap length b ∙ length-append (vec_items l.kept) w ∙ ap (λ n. n + length w) (sym (bytes_are _ _ _ (sound l)));
      }

  -- the open group closed
  open_some : has_open (view l) ≡ true → last_end 0 (vec_items l.ends) < length (listed l)
  unfolding view
  open_some h = let t = sym (open_is _ _ _ (sound l)) ∙ h in grind (arith, nat_tests)

  pub room_for_end : has_open (view l) ≡ true → vec_len l.ends + 1 ≤ 256
  room_for_end h =
      let c = closed_count in
      let g = groups_count in
      grind (arith, nat_tests)

  pub sound_closed : (ends' : List ℕ) (e : ℕ) → e ≡ vec_len l.stored → has_open (view l) ≡ true
      → ends' ≡ vec_items l.ends ++ e ∷ [] → Sound (listed l) (vec_items l.kept) ends'
  sound_closed ends' e n h a =
      let s = sound_close (listed l) (vec_items l.kept) (vec_items l.ends) (sound l) e (n ∙ listed_len l) (open_some h) in
      rw a s

  pub closed_up : (m : UndoList) (e : ℕ) → has_open (view l) ≡ true → e ≡ vec_len l.stored
      → m.stored ≡ l.stored → m.kept ≡ l.kept
      → vec_items m.ends ≡ vec_items l.ends ++ e ∷ []
      → Shut (view l) (view m)
  unfolding view
  closed_up m e h n a b c =
      let v = view_close (listed l) (vec_items l.kept) (vec_items l.ends) (sound l) e (n ∙ listed_len l) in
      let all = ap (λ x. grouped x (spell (listed m) (vec_items m.kept))) c ∙ ap (λ x. grouped (vec_items l.ends ++ e ∷ []) (spell (entries_of (vec_items x)) (vec_items m.kept))) a ∙ ap (λ x. grouped (vec_items l.ends ++ e ∷ []) (spell (listed l) (vec_items x))) b ∙ v in
      record {
        view = all;
        groups = ap (λ (g : Groups). length g.closed) all ∙ shut_groups (grouped (vec_items l.ends) (spell (listed l) (vec_items l.kept))) h;
        opened = ap (λ (g : Groups). g.opened) all;
        entries = entries_are _ _ _ (sound m) ∙ ap (λ x. length (entries_of (vec_items x))) a ∙ sym (entries_are _ _ _ (sound l));
        bytes = bytes_are _ _ _ (sound m) ∙ ap (λ x. length (vec_items x)) b ∙ sym (bytes_are _ _ _ (sound l));
      }
