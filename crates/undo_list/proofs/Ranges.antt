-- Which entries and kept bytes a group has, and what reading one of them gives. Assumes nothing.
use Rattle.std.proofs.Common.{◌≡◌, ℕ, ◌+◌, ◌-◌, ◌<◌, ◌≤◌, List, [], ◌∷◌, ◌++◌, reverse, length, get_or, take, drop, Some, None, vec_items, vec_len, sym, refl, ap, ◌∙◌, arith, length-append}
use Rattle.std.proofs.lemmas.List.{get_or_append_left, get_or_push, get_or_past, take_all}
use Rattle.std.specs.List.{slice_get}
use Rattle.std.proofs.lemmas.Option.{slice_get-get_or, slice_get_past}
use Rattle.undo_list.specs.declared.entry.Entry.{Entry}
use Rattle.undo_list.specs.declared.entry.Stored.{Stored}
use Rattle.undo_list.specs.declared.list.UndoList.{UndoList}
use Rattle.undo_list.specs.Groups.{Held, group_at}
use Rattle.undo_list.specs.Spell.{kept_count, total, offsets_of, held, nothing, spell, last_end, start, part, split}
use Rattle.undo_list.specs.View.{view}
use Rattle.undo_list.proofs.Stored.{listed, listed_len, entry_at, offset_at}
use Rattle.undo_list.proofs.Ends.{total_more, total-take}
use Rattle.undo_list.proofs.Kept.{sound, spelled_rises}
use Rattle.undo_list.proofs.Lists.{start_last, ends_within}
use Rattle.undo_list.proofs.Offsets.{placed_at}
use Rattle.undo_list.proofs.Spelled.{length-spell, length-split, split_at, part_length, part_all, part_at, spell_at}

-- the entries of group j are those from a up to b
pub record Range (l : UndoList) (j a b : ℕ) : Type 0 where
  pub entries : group_at (view l) j ≡ part a b (spell (listed l) (vec_items l.kept))
  pub forward : a ≤ b
  pub within : b ≤ vec_len l.stored
  pub len : length (group_at (view l) j) ≡ b - a
  pub past : (i : ℕ) → b - a ≤ i → slice_get (group_at (view l) j) i ≡ None
  pub found : (i : ℕ) → i < b - a → slice_get (group_at (view l) j) i ≡ Some (get_or (spell (listed l) (vec_items l.kept)) (b - 1 - i) nothing)

module _ (l : UndoList) where
  long : length (spell (listed l) (vec_items l.kept)) ≡ vec_len l.stored
  long = length-spell (listed l) (vec_items l.kept) ∙ sym (listed_len l)

  many : length (split 0 (vec_items l.ends) (spell (listed l) (vec_items l.kept))) ≡ vec_len l.ends
  many = length-split 0 (vec_items l.ends) _ ∙ sym l.ends.ok.0

  range : (j a b : ℕ) → group_at (view l) j ≡ part a b (spell (listed l) (vec_items l.kept)) → a ≤ b → b ≤ vec_len l.stored → Range l j a b
  range j a b e f w =
      let n : length (group_at (view l) j) ≡ b - a = ap length e ∙ part_length a b _ (omega (arith, long)) in
      record {
        entries = e;
        forward = f;
        within = w;
        len = n;
        past = λ i h. slice_get_past (group_at (view l) j) i (omega arith);
        found = λ i h. slice_get-get_or (group_at (view l) j) i nothing (omega arith) ∙ ap (λ (x : List Held). Some (get_or x i nothing)) e ∙ ap Some (part_at a b (spell (listed l) (vec_items l.kept)) i nothing (omega (arith, long)) h);
      }

  pub no_group : (j : ℕ) → vec_len l.ends < j → Range l j 0 0
  unfolding view group_at
  no_group j h =
      let le : length (split 0 (vec_items l.ends) (spell (listed l) (vec_items l.kept)) ++ reverse (drop (last_end 0 (vec_items l.ends)) (spell (listed l) (vec_items l.kept))) ∷ []) ≤ j = simp length-append (omega (arith, many)) in
      range j 0 0 (get_or_past _ j [] le) (omega arith) (omega arith)

  pub open_group : (j a b : ℕ) → j ≡ vec_len l.ends → a ≡ start 0 (vec_items l.ends) j → b ≡ vec_len l.stored → Range l j a b
  unfolding view group_at
  open_group j a b h ea eb =
      let e : a ≡ last_end 0 (vec_items l.ends) = ea ∙ ap (start 0 (vec_items l.ends)) h ∙ start_last l in
      range j a b
      (get_or_push _ _ [] j (many ∙ sym h) ∙ ap (λ x. reverse (drop x (spell (listed l) (vec_items l.kept)))) (sym e) ∙ sym (part_all a b _ (eb ∙ sym long)))
      (omega (arith, e, eb, ends_within l)) (omega (arith, eb))

  pub closed_group : (j a b : ℕ) (d : ℕ) → j < vec_len l.ends → a ≡ start 0 (vec_items l.ends) j → d ≡ get_or (vec_items l.ends) j d → b ≡ d → Range l j a b
  unfolding view group_at
  closed_group j a b d h ea is eb =
      let lt : j < length (vec_items l.ends) = omega (arith, l.ends.ok.0) in
      let lt2 : j < length (split 0 (vec_items l.ends) (spell (listed l) (vec_items l.kept))) = omega (arith, many) in
      let g = split_at 0 (vec_items l.ends) (spell (listed l) (vec_items l.kept)) j d [] (spelled_rises _ _ _ (sound l)) lt in
      let b' : b ≡ get_or (vec_items l.ends) j d = eb ∙ is in
      range j a b
      (get_or_append_left _ _ [] j lt2 ∙ g.0 ∙ ap (λ x. part x (get_or (vec_items l.ends) j d) (spell (listed l) (vec_items l.kept))) (sym ea) ∙ ap (λ x. part a x (spell (listed l) (vec_items l.kept))) (sym b'))
      (omega (arith, g.1.0, ea, b')) (omega (arith, g.1.1, long, b'))

  -- how many bytes the first j entries keep
  pub all_kept : (j s : ℕ) → j ≡ vec_len l.stored → s ≡ vec_len l.kept → s ≡ total (take j (listed l))
  all_kept j s h is = is ∙ l.kept.ok.0 ∙ sym l.filled ∙ ap total (sym (take_all j (listed l) (omega (arith, h, listed_len l))))

  stored_within : (j : ℕ) → j < vec_len l.stored → j < length (vec_items l.stored)
  stored_within j h = omega (arith, l.stored.ok.0)

  pub offset_is : (j : ℕ) (s : Stored) → j < vec_len l.stored → s ≡ get_or (vec_items l.stored) j s → s.before ≡ total (take j (listed l))
  offset_is j s h is = placed_at (listed l) (offsets_of (vec_items l.stored)) l.placed j s.before s.before (omega (arith, listed_len l)) (offset_at (vec_items l.stored) j s (stored_within j h) is)

  pub entry_of : (j : ℕ) (s : Stored) → j < vec_len l.stored → s ≡ get_or (vec_items l.stored) j s → s.entry ≡ get_or (listed l) j s.entry
  entry_of j s h is = entry_at (vec_items l.stored) j s (stored_within j h) is

  pub sum_within : (j s : ℕ) → s ≡ total (take j (listed l)) → s ≤ vec_len l.kept
  sum_within j s is = omega (arith, is, total-take (listed l) j, l.filled, l.kept.ok.0)

  sum_more : (j s : ℕ) (e : Entry) (t : ℕ) → j < vec_len l.stored → e ≡ get_or (listed l) j e → t ≡ s + kept_count e → s ≡ total (take j (listed l)) → t ≡ total (take (j + 1) (listed l))
  sum_more j s e t h is ts inv =
      let lt : j < length (listed l) = omega (arith, listed_len l) in
      let r = total_more (listed l) j e lt ∙ ap (λ x. total (take j (listed l)) + kept_count x) (sym is) in
      omega (arith, r, ts, inv)

  pub sum_next : (j s : ℕ) (e : Entry) → j < vec_len l.stored → e ≡ get_or (listed l) j e → s ≡ total (take j (listed l)) → s + kept_count e ≤ vec_len l.kept
  sum_next j s e h is inv = sum_within (j + 1) _ (sum_more j s e _ h is refl inv)

  pub entry_is : (i s : ℕ) (e : Entry) (w : List ℕ) → i < vec_len l.stored → e ≡ get_or (listed l) i e → s ≡ total (take i (listed l)) → w ≡ take (kept_count e) (drop s (vec_items l.kept))
      → held e w ≡ get_or (spell (listed l) (vec_items l.kept)) i nothing
  entry_is i s e w h is inv ws =
      let lt : i < length (listed l) = omega (arith, listed_len l) in
      ap (held e) (ws ∙ ap (λ x. take (kept_count e) (drop x (vec_items l.kept))) inv)
      ∙ sym (spell_at (listed l) (vec_items l.kept) i e nothing lt ∙ ap (λ x. held x (take (kept_count x) (drop (total (take i (listed l))) (vec_items l.kept)))) (sym is))
