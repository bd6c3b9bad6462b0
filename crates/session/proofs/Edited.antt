-- What an edit that passed its checks leaves. Assumes nothing.
use Rattle.std.proofs.Common.{◌≡◌, ℕ, ◌+◌, ◌-◌, ◌≤◌, true, false, eqb, ltb, List, length, take, drop, None, Option, sym, refl, ap, ◌∙◌, arith, length-append, length-drop, length-take}
use Rattle.std.proofs.lemmas.List.{take_at}
use Rattle.std.proofs.lemmas.Bool.Decides.{nat_tests}
use Rattle.store.specs.Edits as store
use Rattle.places.specs.declared.edit.Edit.TheVariants.{Insertion, Deletion}
use Rattle.places.specs.Model.{Model}
use Rattle.places.specs.Carry.{after, fits, deletion_inverted}
use Rattle.undo_list.specs.Groups.{Groups}
use Rattle.undo_list.specs.Limits as limits
use Rattle.places.specs.declared.notes.Notes.{Notes}
use Rattle.places.specs.declared.record.Places.{Places}
use Rattle.places.specs.Markers.{markers_noted}
use Rattle.places.specs.Model.{model}
use Rattle.undo_list.specs.Groups.{PutIn, Took, recorded}
use Rattle.undo_list.specs.View as list
use Rattle.store.specs.declared.text_store.TextStore.{Ghosts}
use Rattle.session.specs.declared.session.Session.{Session}
use Rattle.session.specs.Admitted.{Removable, Returnable}
use Rattle.session.specs.Passes.{Insertable}
use Rattle.session.specs.View.{view}
use Rattle.session.specs.World.{inserted, deleted, put_back}

-- The store and the list take such an insertion.
pub insertion_stored : (len room p n : ℕ) → 1 ≤ n → n ≤ 4096 → p ≤ len → len + n ≤ room → store.insert_check len room p n ≡ None
insertion_stored len room p n a b d e = grind (arith, nat_tests)

pub insertion_listed : (g : Groups) (n : ℕ) → 1 ≤ n → n ≤ 4096 → limits.entry_check g 0 ≡ None → limits.insertion_check g n ≡ None
insertion_listed g n a b h =
    let e : eqb n 0 ≡ false = grind (arith, nat_tests) in
    let f : ltb 4096 n ≡ false = grind (arith, nat_tests) in
    rw (e, f) h

-- The record follows it.
pub insertion_long : (m : Model) (p n : ℕ) → p ≤ m.len → m.len + n ≤ 32768 → (after (Insertion p n) m).len ≡ m.len + n
insertion_long m p n a b =
    let f : fits (Insertion p n) m ≡ true = grind (arith, nat_tests) in
    rw f refl

pub return_long : (m : Model) (p n : ℕ) (notes : List (Option ℕ)) → p ≤ m.len → m.len + n ≤ 32768 → (deletion_inverted p n notes m).len ≡ m.len + n
return_long m p n notes a b =
    let f : fits (Insertion p n) m ≡ true = grind (arith, nat_tests) in
    rw f refl

-- The store and the list take such a deletion, and the record follows it.
pub deletion_stored : (len p n : ℕ) → 1 ≤ n → n ≤ 4096 → p + n ≤ len → store.delete_check len p n ≡ None
deletion_stored len p n a b d = grind (arith, nat_tests)

pub copy_stored : (len p n area : ℕ) → p + n ≤ len → n ≤ area → store.copy_check len p n area ≡ None
copy_stored len p n area a b = grind (arith, nat_tests)

pub deletion_listed : (g : Groups) (n m k : ℕ) → m ≡ n → k ≡ n → 1 ≤ n → n ≤ 4096 → limits.entry_check g n ≡ None → limits.deletion_check g m k ≡ None
deletion_listed g n m k u v a b h =
    let e : eqb n 0 ≡ false = grind (arith, nat_tests) in
    let f : ltb 4096 n ≡ false = grind (arith, nat_tests) in
    let d : eqb n n ≡ true = grind (arith, nat_tests) in
    rw (u, v, e, f, d) h

pub deletion_long : (m : Model) (p n : ℕ) → fits (Deletion p n) m ≡ true → (after (Deletion p n) m).len ≡ m.len - n
deletion_long m p n f = rw f refl

pub length-deleted : (t : List ℕ) (p n : ℕ) → p + n ≤ length t → length (store.deleted_at t p n) ≡ length t - n
length-deleted t p n h = simp (length-append, length-take, length-drop) (omega arith)

-- The front of an area that n bytes from p on were copied into.
pub copied_front : (t area : List ℕ) (p n : ℕ) → p + n ≤ length t → take n (store.copied t p n area) ≡ take n (drop p t)
copied_front t area p n h =
    take_at (take n (drop p t)) (drop n area) n (simp (length-take, length-drop) (omega arith))

pub length_inserted : (t bs : List ℕ) (p : ℕ) → p ≤ length t → length (store.inserted_at t p bs) ≡ length t + length bs
length_inserted t bs p h = simp (length-append, length-take, length-drop) (omega arith)

module _ {S : Type 0} {B : Ghosts S} (s t : Session S B) where
  -- s is the session before the insertion, and t the session after it.
  pub insertion_done : (p : ℕ) (bs : List ℕ)
      → Insertable (view s).places (view s).room p (length bs)
      → limits.entry_check (view s).groups 0 ≡ None
      → B.text t.store ≡ store.after_insert (B.text s.store) (B.room s.store) p bs
      → B.room t.store ≡ B.room s.store
      → list.view t.list ≡ store.unless (limits.insertion_check (list.view s.list) (length bs)) (recorded (PutIn p (length bs)) (list.view s.list)) (list.view s.list)
      → model t.places ≡ after (Insertion p (length bs)) (model s.places)
      → t.state ≡ s.state → t.made ≡ s.made → t.noted ≡ s.noted
      → view t ≡ inserted p bs (view s)
  unfolding view inserted
  insertion_done p bs i l a b d e x y z =
      let n = length bs in
      let long = s.fits in
      let place : p ≤ length (B.text s.store) = omega (arith, i.place, long) in
      let room-left : length (B.text s.store) + n ≤ B.room s.store = omega (arith, i.fits, long) in
      let stored = insertion_stored (length (B.text s.store)) (B.room s.store) p n i.some i.few place room-left in
      let listed = insertion_listed (list.view s.list) n i.some i.few l in
      let new-text : B.text t.store ≡ store.inserted_at (B.text s.store) p bs = a ∙ ap (λ k. store.unless k (store.inserted_at (B.text s.store) p bs) (B.text s.store)) stored in
      let new-list : list.view t.list ≡ recorded (PutIn p n) (list.view s.list) = d ∙ ap (λ k. store.unless k (recorded (PutIn p n) (list.view s.list)) (list.view s.list)) listed in
      cc

  -- The same of a deletion: b are the bytes that were copied out before it.
  pub deletion_done : (p n : ℕ) (b : List ℕ) (notes : Notes)
      → Removable (view s) p n
      → b ≡ take n (drop p (B.text s.store))
      → notes.count ≡ n
      → notes.distances ≡ markers_noted p n s.places.markers
      → B.text t.store ≡ store.after_delete (B.text s.store) p n
      → B.room t.store ≡ B.room s.store
      → list.view t.list ≡ store.unless (limits.deletion_check (list.view s.list) (length b) notes.count) (recorded (Took p b notes.distances) (list.view s.list)) (list.view s.list)
      → model t.places ≡ after (Deletion p n) (model s.places)
      → t.state ≡ s.state → t.made ≡ s.made → t.noted ≡ s.noted
      → view t ≡ deleted p n (view s)
  unfolding view deleted
  deletion_done p n b notes i copy count distances a r d e x y z =
      let long = s.fits in
      let place : p + n ≤ length (B.text s.store) = omega (arith, i.place, long) in
      let stored = deletion_stored (length (B.text s.store)) p n i.some i.few place in
      let whole : length b ≡ n = ap length copy ∙ simp (length-take, length-drop) (omega arith) in
      let listed = deletion_listed (list.view s.list) n (length b) notes.count whole count i.some i.few i.listed in
      let new-text : B.text t.store ≡ store.deleted_at (B.text s.store) p n = a ∙ ap (λ k. store.unless k (store.deleted_at (B.text s.store) p n) (B.text s.store)) stored in
      let new-list : list.view t.list ≡ recorded (Took p b notes.distances) (list.view s.list) = d ∙ ap (λ k. store.unless k (recorded (Took p b notes.distances) (list.view s.list)) (list.view s.list)) listed in
      cc

  -- The kept bytes of a deletion, n of them, come back.
  pub return_done : (p n : ℕ) (bs : List ℕ) (notes : List (Option ℕ))
      → n ≡ length bs
      → Returnable (view s) p (length bs)
      → B.text t.store ≡ store.after_insert (B.text s.store) (B.room s.store) p bs
      → B.room t.store ≡ B.room s.store
      → list.view t.list ≡ store.unless (limits.insertion_check (list.view s.list) n) (recorded (PutIn p n) (list.view s.list)) (list.view s.list)
      → model t.places ≡ deletion_inverted p n notes (model s.places)
      → t.state ≡ s.state → t.made ≡ s.made → t.noted ≡ s.noted
      → view t ≡ put_back p bs notes (view s)
  unfolding view put_back
  return_done p n bs notes whole i a b d e x y z =
      let k = length bs in
      let long = s.fits in
      let place : p ≤ length (B.text s.store) = omega (arith, i.place, long) in
      let room-left : length (B.text s.store) + k ≤ B.room s.store = omega (arith, i.room, long) in
      let stored = insertion_stored (length (B.text s.store)) (B.room s.store) p k i.some i.few place room-left in
      let listed = insertion_listed (list.view s.list) k i.some i.few i.listed in
      let new-text : B.text t.store ≡ store.inserted_at (B.text s.store) p bs = a ∙ ap (λ o. store.unless o (store.inserted_at (B.text s.store) p bs) (B.text s.store)) stored in
      let new-list : list.view t.list ≡ recorded (PutIn p k) (list.view s.list) = d ∙ ap (λ j. store.unless (limits.insertion_check (list.view s.list) j) (recorded (PutIn p j) (list.view s.list)) (list.view s.list)) whole ∙ ap (λ o. store.unless o (recorded (PutIn p k) (list.view s.list)) (list.view s.list)) listed in
      let new-places : model t.places ≡ deletion_inverted p k notes (model s.places) = e ∙ ap (λ j. deletion_inverted p j notes (model s.places)) whole in
      cc

-- After each of these edits the record of places f is again as long as the text of the store u.
module _ {S : Type 0} {B : Ghosts S} (s : Session S B) (u : S) (f : Places) where
  pub insertion_tied : (p : ℕ) (bs : List ℕ)
      → Insertable (view s).places (view s).room p (length bs)
      → B.room s.store ≤ 32768
      → B.text u ≡ store.after_insert (B.text s.store) (B.room s.store) p bs
      → model f ≡ after (Insertion p (length bs)) (model s.places)
      → f.len ≡ length (B.text u)
  unfolding view
  insertion_tied p bs i most a e =
      let n = length bs in
      let long = s.fits in
      let place : p ≤ length (B.text s.store) = omega (arith, i.place, long) in
      let room-left : length (B.text s.store) + n ≤ B.room s.store = omega (arith, i.fits, long) in
      let stored = insertion_stored (length (B.text s.store)) (B.room s.store) p n i.some i.few place room-left in
      let new-text : B.text u ≡ store.inserted_at (B.text s.store) p bs = a ∙ ap (λ k. store.unless k (store.inserted_at (B.text s.store) p bs) (B.text s.store)) stored in
      let fits : (model s.places).len + n ≤ 32768 = omega (arith, i.fits, most) in
      ap (λ (m : Model). m.len) e ∙ insertion_long (model s.places) p n i.place fits ∙ ap (λ k. k + n) long ∙ sym (length_inserted (B.text s.store) bs p place) ∙ sym (ap length new-text)

  pub deletion_tied : (p n : ℕ)
      → Removable (view s) p n
      → B.text u ≡ store.after_delete (B.text s.store) p n
      → model f ≡ after (Deletion p n) (model s.places)
      → f.len ≡ length (B.text u)
  unfolding view
  deletion_tied p n i a e =
      let long = s.fits in
      let place : p + n ≤ length (B.text s.store) = omega (arith, i.place, long) in
      let stored = deletion_stored (length (B.text s.store)) p n i.some i.few place in
      let new-text : B.text u ≡ store.deleted_at (B.text s.store) p n = a ∙ ap (λ k. store.unless k (store.deleted_at (B.text s.store) p n) (B.text s.store)) stored in
      ap (λ (m : Model). m.len) e ∙ deletion_long (model s.places) p n i.fits ∙ ap (λ k. k - n) long ∙ sym (length-deleted (B.text s.store) p n place) ∙ sym (ap length new-text)

  pub return_tied : (p n : ℕ) (bs : List ℕ) (notes : List (Option ℕ))
      → n ≡ length bs
      → Returnable (view s) p (length bs)
      → B.room s.store ≤ 32768
      → B.text u ≡ store.after_insert (B.text s.store) (B.room s.store) p bs
      → model f ≡ deletion_inverted p n notes (model s.places)
      → f.len ≡ length (B.text u)
  unfolding view
  return_tied p n bs notes whole i most a e =
      let k = length bs in
      let long = s.fits in
      let place : p ≤ length (B.text s.store) = omega (arith, i.place, long) in
      let room-left : length (B.text s.store) + k ≤ B.room s.store = omega (arith, i.room, long) in
      let stored = insertion_stored (length (B.text s.store)) (B.room s.store) p k i.some i.few place room-left in
      let new-text : B.text u ≡ store.inserted_at (B.text s.store) p bs = a ∙ ap (λ o. store.unless o (store.inserted_at (B.text s.store) p bs) (B.text s.store)) stored in
      let fits : (model s.places).len + k ≤ 32768 = omega (arith, i.room, most) in
      ap (λ (m : Model). m.len) e ∙ ap (λ j. (deletion_inverted p j notes (model s.places)).len) whole ∙ return_long (model s.places) p k notes i.place fits ∙ ap (λ j. j + k) long ∙ sym (length_inserted (B.text s.store) bs p place) ∙ sym (ap length new-text)

module _ {S : Type 0} {B : Ghosts S} (s : Session S B) where
  -- The bytes that are to go, in the front of an area.
  pub copied_out : (p n : ℕ) (area filled : List ℕ) → Removable (view s) p n → length area ≡ 4096 → filled ≡ store.after_copy (B.text s.store) p n area → take (n - 0) filled ≡ take n (drop p (B.text s.store))
  unfolding view
  copied_out p n area filled i long e =
      let place : p + n ≤ length (B.text s.store) = omega (arith, i.place, s.fits) in
      let few : n ≤ length area = omega (arith, i.few) in
      let passes = copy_stored (length (B.text s.store)) p n (length area) place few in
      let all : n - 0 ≡ n = omega arith in
      ap (λ k. take k filled) all ∙ ap (take n) (e ∙ ap (λ k. store.unless k (store.copied (B.text s.store) p n area) area) passes) ∙ copied_front (B.text s.store) area p n place
