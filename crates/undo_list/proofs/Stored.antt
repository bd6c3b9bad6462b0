-- The entries and the offsets of what is stored, through each step. Assumes nothing.
use Rattle.std.proofs.Common.{◌≡◌, ℕ, ◌<◌, List, [], ◌∷◌, ◌++◌, map, length, get_or, take, drop, vec_items, vec_len, sym, ap, ◌∙◌}
use Rattle.std.proofs.lemmas.List.{map-append, take-map, drop-map, length-map, get_or-map}
use Rattle.std.proofs.lemmas.Simd.{map-map}
use Rattle.undo_list.specs.declared.entry.Entry.{Entry}
use Rattle.undo_list.specs.declared.entry.Stored.{Stored}
use Rattle.undo_list.specs.declared.list.UndoList.{UndoList}
use Rattle.undo_list.specs.Spell.{entries_of, offsets_of, lowered, shifted}

abbrev pub listed : UndoList → List Entry
listed l = entries_of (vec_items l.stored)

pub listed_len : (l : UndoList) → vec_len l.stored ≡ length (listed l)
listed_len l = l.stored.ok.0 ∙ sym (length-map (vec_items l.stored) (λ (s : Stored). s.entry))

pub entries_push : (ss ts : List Stored) (s : Stored) → ts ≡ ss ++ s ∷ [] → entries_of ts ≡ entries_of ss ++ s.entry ∷ []
entries_push ss ts s is = ap entries_of is ∙ map-append (λ (s : Stored). s.entry) ss (s ∷ [])

pub offsets_push : (ss ts : List Stored) (s : Stored) → ts ≡ ss ++ s ∷ [] → offsets_of ts ≡ offsets_of ss ++ s.before ∷ []
offsets_push ss ts s is = ap offsets_of is ∙ map-append (λ (s : Stored). s.before) ss (s ∷ [])

pub entries_take : (ss ts : List Stored) (n : ℕ) → ts ≡ take n ss → entries_of ts ≡ take n (entries_of ss)
entries_take ss ts n is = ap entries_of is ∙ sym (take-map (λ (s : Stored). s.entry) n ss)

pub offsets_take : (ss ts : List Stored) (n : ℕ) → ts ≡ take n ss → offsets_of ts ≡ take n (offsets_of ss)
offsets_take ss ts n is = ap offsets_of is ∙ sym (take-map (λ (s : Stored). s.before) n ss)

pub entries_drop : (ss ts : List Stored) (gone freed : ℕ) → ts ≡ map (shifted freed) (drop gone ss) → entries_of ts ≡ drop gone (entries_of ss)
entries_drop ss ts gone freed is =
    ap entries_of is ∙ map-map (λ (s : Stored). s.entry) (shifted freed) (drop gone ss) ∙ sym (drop-map (λ (s : Stored). s.entry) gone ss)

pub offsets_drop : (ss ts : List Stored) (gone freed : ℕ) → ts ≡ map (shifted freed) (drop gone ss) → offsets_of ts ≡ map (lowered freed) (drop gone (offsets_of ss))
offsets_drop ss ts gone freed is =
    ap offsets_of is ∙ map-map (λ (s : Stored). s.before) (shifted freed) (drop gone ss)
    ∙ sym (ap (map (lowered freed)) (drop-map (λ (s : Stored). s.before) gone ss) ∙ map-map (lowered freed) (λ (s : Stored). s.before) (drop gone ss))

pub drop_offsets : (ss : List Stored) (gone : ℕ) → length (drop gone (offsets_of ss)) ≡ length (drop gone ss)
drop_offsets ss gone = ap length (drop-map (λ (s : Stored). s.before) gone ss) ∙ length-map (drop gone ss) (λ (s : Stored). s.before)

pub offset_left : (ss : List Stored) (gone i : ℕ) (d : Stored) → i < length (drop gone ss) → (get_or (drop gone ss) i d).before ≡ get_or (drop gone (offsets_of ss)) i 0
offset_left ss gone i d h =
    sym (ap (λ x. get_or x i 0) (drop-map (λ (s : Stored). s.before) gone ss) ∙ get_or-map (λ (s : Stored). s.before) (drop gone ss) i d 0 h)

pub entry_at : (ss : List Stored) (i : ℕ) (s : Stored) → i < length ss → s ≡ get_or ss i s → s.entry ≡ get_or (entries_of ss) i s.entry
entry_at ss i s h is = ap (λ (x : Stored). x.entry) is ∙ sym (get_or-map (λ (x : Stored). x.entry) ss i s s.entry h)

pub offset_at : (ss : List Stored) (i : ℕ) (s : Stored) → i < length ss → s ≡ get_or ss i s → s.before ≡ get_or (offsets_of ss) i s.before
offset_at ss i s h is = ap (λ (x : Stored). x.before) is ∙ sym (get_or-map (λ (x : Stored). x.before) ss i s s.before h)
