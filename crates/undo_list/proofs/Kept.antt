-- What an undo list keeps true, through each of its steps. Assumes nothing.
use Rattle.std.proofs.Common.{◌≡◌, ℕ, ◌+◌, ◌-◌, ◌<◌, ◌≤◌, true, cond, ltb, List, [], ◌∷◌, ◌++◌, reverse, length, drop, vec_items, sym, ap, ◌∙◌, arith, length-append, length-drop}
use Rattle.std.proofs.lemmas.List.{length-reverse}
use Rattle.std.proofs.lemmas.Bool.Decides.{nat_tests}
use Rattle.undo_list.specs.declared.entry.Entry.{Entry}
use Rattle.undo_list.specs.declared.list.UndoList.{UndoList}
use Rattle.undo_list.specs.Groups.{bytes_of, entries_in, bytes_in, groups_in, has_open, recorded, shut}
use Rattle.undo_list.specs.Spell.{kept_count, total, held, spell, rising, last_end, groups_held, split, grouped}
use Rattle.undo_list.proofs.Stored.{listed}
use Rattle.undo_list.proofs.Ends.{total_push, rising_last, rising_grows, rising_push, last_push}
use Rattle.undo_list.proofs.Spelled.{length-spell, spell_push, grouped_push, grouped_close, joined_all, length-split, bytes_spell}

pub record Sound (es : List Entry) (ks : List ℕ) (ends : List ℕ) : Type 0 where
  pub filled : total es ≡ length ks
  pub rises : rising 0 ends (length es) ≡ true
  pub few : groups_held ends (length es) ≤ 256

pub sound : (l : UndoList) → Sound (listed l) (vec_items l.kept) (vec_items l.ends)
sound l = record { filled = l.filled; rises = l.rises; few = l.groups_few }

tests_agree : (a b c : ℕ) → c ≡ b - a → ltb 0 c ≡ ltb a b
tests_agree a b c h = grind (arith, nat_tests)

at_most : (n a b : ℕ) → n < 256 → n + cond (ltb a b) 1 0 ≤ 256
at_most n a b h = grind (arith, nat_tests)

module _ (es : List Entry) (ks : List ℕ) (ends : List ℕ) (s : Sound es ks ends) where
  pub spelled_rises : rising 0 ends (length (spell es ks)) ≡ true
  spelled_rises = ap (rising 0 ends) (length-spell es ks) ∙ s.rises

  pub entries_are : entries_in (grouped ends (spell es ks)) ≡ length es
  unfolding entries_in
  entries_are = ap length (joined_all ends (spell es ks) spelled_rises) ∙ length-spell es ks

  pub bytes_are : bytes_in (grouped ends (spell es ks)) ≡ length ks
  unfolding bytes_in
  bytes_are = ap bytes_of (joined_all ends (spell es ks) spelled_rises) ∙ bytes_spell es ks (omega (arith, s.filled)) ∙ s.filled

  pub closed_are : length (split 0 ends (spell es ks)) ≡ length ends
  closed_are = length-split 0 ends (spell es ks)

  pub opened_are : length (reverse (drop (last_end 0 ends) (spell es ks))) ≡ length es - last_end 0 ends
  opened_are = length-reverse (drop (last_end 0 ends) (spell es ks)) ∙ length-drop (last_end 0 ends) (spell es ks) ∙ ap (λ n. n - last_end 0 ends) (length-spell es ks)

  pub open_is : has_open (grouped ends (spell es ks)) ≡ ltb (last_end 0 ends) (length es)
  open_is = tests_agree (last_end 0 ends) (length es) _ opened_are

  pub groups_few : groups_in (grouped ends (spell es ks)) ≤ 256
  groups_few =
      let a : groups_in (grouped ends (spell es ks)) ≡ length ends + cond (ltb (last_end 0 ends) (length es)) 1 0 =
      ap (λ n. n + cond (has_open (grouped ends (spell es ks))) 1 0) closed_are ∙ ap (λ b. length ends + cond b 1 0) open_is in
      omega (arith, a, s.few)

  pub last_within : last_end 0 ends ≤ length es
  last_within = (rising_last 0 ends (length es) s.rises).1

  -- one more entry, with its bytes
  pub sound_push : (e : Entry) (w : List ℕ) → kept_count e ≡ length w → length ends < 256 → Sound (es ++ e ∷ []) (ks ++ w) ends
  sound_push e w k h =
      record {
        filled = total_push es e ∙ simp length-append (omega (arith, s.filled));
        rises = rising_grows 0 ends (length es) (length (es ++ e ∷ [])) (simp length-append (omega arith)) s.rises;
        few = at_most (length ends) (last_end 0 ends) (length (es ++ e ∷ [])) h;
      }

  pub view_push : (e : Entry) (w : List ℕ) → kept_count e ≡ length w → grouped ends (spell (es ++ e ∷ []) (ks ++ w)) ≡ recorded (held e w) (grouped ends (spell es ks))
  view_push e w k = ap (grouped ends) (spell_push es ks e w s.filled k) ∙ grouped_push ends (spell es ks) (held e w) spelled_rises

  -- the open group closed
  pub sound_close : (e : ℕ) → e ≡ length es → last_end 0 ends < length es → Sound es ks (ends ++ e ∷ [])
  sound_close e n h =
      let last : last_end 0 (ends ++ e ∷ []) ≡ length es = last_push 0 ends e ∙ n in
      let long : length (ends ++ e ∷ []) ≡ length ends + 1 = length-append ends (e ∷ []) in
      let room : length ends + 1 ≤ 256 = grind (arith, nat_tests) in
      record {
        filled = s.filled;
        rises = rising_push 0 ends (length es) e n h s.rises;
        few = grind (arith, nat_tests);
      }

  pub view_close : (e : ℕ) → e ≡ length es → grouped (ends ++ e ∷ []) (spell es ks) ≡ shut (grouped ends (spell es ks))
  view_close e n = grouped_close ends (spell es ks) e (n ∙ sym (length-spell es ks))
