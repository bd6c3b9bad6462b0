-- That every undo list is well kept. Assumes nothing.
use Rattle.std.proofs.Common.{◌≡◌, ℕ, zero, suc, ◌+◌, ◌-◌, ◌<◌, ◌≤◌, true, List, [], ◌∷◌, length, get_or, take, drop, None, vec_items, sym, refl, ap, ◌∙◌, subst, arith, length-drop, length-take}
use Rattle.std.proofs.lemmas.Bool.Decides.{nat_tests}
use Rattle.places.specs.Near.{near}
use Rattle.undo_list.specs.declared.entry.Entry.{Entry}
use Rattle.undo_list.specs.declared.kind.Kind.{Kind}
use Rattle.undo_list.specs.declared.kind.Kind.TheVariants.{Insertion, Deletion}
use Rattle.undo_list.specs.declared.list.UndoList.{UndoList}
use Rattle.undo_list.specs.Groups.{Held, joined, entries_in, bytes_in}
use Rattle.undo_list.specs.Kinds.{note, kept_of}
use Rattle.undo_list.specs.Laws.{Fits, WellKept}
use Rattle.undo_list.specs.Spell.{kept_count, total, held_as, held, nothing, spell, rising, start, split}
use Rattle.undo_list.specs.View.{view}
use Rattle.undo_list.proofs.Stored.{listed}
use Rattle.undo_list.proofs.Ends.{total_more, total-take}
use Rattle.undo_list.proofs.Kept.{Sound, sound, spelled_rises, entries_are}
use Rattle.undo_list.proofs.Lists.{entries_count, bytes_count, groups_count}
use Rattle.undo_list.proofs.Spelled.{length-split, split_at, part_length, spell_at, joined_all}

fits_as : (k : Kind) (p n : ℕ) (w : List ℕ) → 1 ≤ n → n ≤ 4096 → ((j : ℕ) → j < 16 → near n (note k j) ≡ true) → length w ≡ kept_of k n → Fits (held_as k p n w)
fits_as Insertion p n w a b c h = (a, b)
fits_as (Deletion distances) p n w a b c h = (omega arith, omega arith, λ j lt. ap (λ x. near x (get_or distances j None)) h ∙ c j lt)

-- each group ends behind its start
rises_at : (from : ℕ) (ends : List ℕ) (n j : ℕ) (d : ℕ) → rising from ends n ≡ true → j < length ends → start from ends j < get_or ends j d
unfolding start
rises_at from [] n j d h lt = absurd (omega arith)
rises_at from (e ∷ ends) n zero d h lt = grind (arith, nat_tests)
rises_at from (e ∷ ends) n (suc j) d h lt =
    let rest : rising e ends n ≡ true = grind (arith, nat_tests) in
    rises_at e ends n j d rest (omega arith)

module _ (es : List Entry) (ks : List ℕ) (ends : List ℕ) (s : Sound es ks ends) where
  group_filled : (d : ℕ) (j : ℕ) → j < length (split 0 ends (spell es ks)) → 0 < length (get_or (split 0 ends (spell es ks)) j [])
  group_filled d j h =
      let lt : j < length ends = omega (arith, length-split 0 ends (spell es ks)) in
      let g = split_at 0 ends (spell es ks) j d [] (spelled_rises es ks ends s) lt in
      let n : length (get_or (split 0 ends (spell es ks)) j []) ≡ get_or ends j d - start 0 ends j = ap length g.0 ∙ part_length _ _ (spell es ks) g.1.1 in
      omega (arith, n, rises_at 0 ends (length es) j d s.rises lt)

  entry_fits : (e : Entry) (i : ℕ) → i < length es → Fits (get_or (spell es ks) i nothing)
  entry_fits d i h =
      let e : Entry = get_or es i d in
      let w : List ℕ = take (kept_count (get_or es i d)) (drop (total (take i es)) ks) in
      let more = total_more es i d h in
      let top = total-take es (i + 1) in
      let n : length (take (kept_count (get_or es i d)) (drop (total (take i es)) ks)) ≡ kept_count (get_or es i d) = simp (length-take, length-drop) (omega (arith, more, top, s.filled)) in
      let f : Fits (held (get_or es i d) (take (kept_count (get_or es i d)) (drop (total (take i es)) ks))) = fits_as (get_or es i d).kind (get_or es i d).place (get_or es i d).count _ (get_or es i d).some (get_or es i d).few (get_or es i d).near n in
      subst Fits (sym (spell_at es ks i d nothing h)) f

  all_fit : (i : ℕ) → i < length es → Fits (get_or (spell es ks) i nothing)
  all_fit i h = first es refl
    where
      first : (xs : List Entry) → xs ≡ es → Fits (get_or (spell es ks) i nothing)
      first [] e = absurd (omega (arith, ap length e))
      first (x ∷ xs) e = entry_fits x i h

entries_few : (l : UndoList) → entries_in (view l) ≤ 512
entries_few l = omega (arith, entries_count l, l.stored_few)

bytes_few : (l : UndoList) → bytes_in (view l) ≤ 16384
bytes_few l = omega (arith, bytes_count l, l.kept_few)

entry_of : (l : UndoList) (i : ℕ) → i < entries_in (view l) → Fits (get_or (joined (view l).closed (view l).opened) i nothing)
unfolding view
entry_of l i h =
    let lt : i < length (listed l) = omega (arith, entries_are _ _ _ (sound l)) in
    let P : List Held → Type 0 = λ xs. Fits (get_or xs i nothing) in
    subst P (sym (joined_all (vec_items l.ends) (spell (listed l) (vec_items l.kept)) (spelled_rises _ _ _ (sound l)))) (all_fit _ _ _ (sound l) i lt)

group_of : (l : UndoList) (j : ℕ) → j < length (view l).closed → 0 < length (get_or (view l).closed j [])
unfolding view
group_of l = group_filled _ _ _ (sound l) 0

pub well_kept : (l : UndoList) → WellKept (view l)
well_kept l = record { filled = group_of l; fit = entry_of l; entries = entries_few l; bytes = bytes_few l; groups = groups_count l }
