-- An entry of the undo list, as it is read, and its inversion. Assumes nothing.
use Rattle.std.proofs.Common.{◌≡◌, ℕ, ◌<◌, List, length, get_or, Some, None, Option, sym, ap, ◌∙◌, subst, arith}
use Rattle.std.specs.List.{slice_get}
use Rattle.std.proofs.lemmas.Option.{slice_get-get_or}
use Rattle.undo_list.specs.declared.entry.Entry.{Entry}
use Rattle.undo_list.specs.declared.kind.Kind.TheVariants.{Insertion, Deletion}
use Rattle.undo_list.specs.Kinds.{kept_of}
use Rattle.undo_list.specs.Groups.{Held, PutIn, Took}
use Rattle.undo_list.specs.Spell.{held, held_as, kept_count, nothing}
use Rattle.session.specs.Admitted.{AdmitsOne, Removable, Returnable}
use Rattle.session.specs.Undo.{invert}
use Rattle.session.specs.World.{World, deleted, put_back}

module _ (hs : List Held) (i : ℕ) (e : Entry) (kept : List ℕ) (there : i < length hs) (is : Some (held e kept) ≡ slice_get hs i) where
  entry_held : held e kept ≡ get_or hs i nothing
  entry_held = let found = slice_get-get_or hs i nothing there in cc

  insertion_held : e.kind ≡ Insertion → PutIn e.place e.count ≡ get_or hs i nothing
  insertion_held k = sym (ap (λ x. held_as x e.place e.count kept) k) ∙ entry_held

  deletion_held : (d : List (Option ℕ)) → e.kind ≡ Deletion d → Took e.place kept d ≡ get_or hs i nothing
  deletion_held d k = sym (ap (λ x. held_as x e.place e.count kept) k) ∙ entry_held

  pub insertion_goes : (w : World) → e.kind ≡ Insertion → AdmitsOne (get_or hs i nothing) w → Removable w e.place e.count
  insertion_goes w k h = let P : Held → Type 0 = λ x. AdmitsOne x w in subst P (sym (insertion_held k)) h

  pub insertion_gone : (w v : World) → e.kind ≡ Insertion → v ≡ deleted e.place e.count w → v ≡ invert (get_or hs i nothing) w
  insertion_gone w v k h = h ∙ ap (λ x. invert x w) (insertion_held k)

  pub deletion_comes : (w : World) (d : List (Option ℕ)) → e.kind ≡ Deletion d → AdmitsOne (get_or hs i nothing) w → Returnable w e.place (length kept)
  deletion_comes w d k h = let P : Held → Type 0 = λ x. AdmitsOne x w in subst P (sym (deletion_held d k)) h

  pub deletion_back : (w v : World) (d : List (Option ℕ)) → e.kind ≡ Deletion d → v ≡ put_back e.place kept d w → v ≡ invert (get_or hs i nothing) w
  deletion_back w v d k h = h ∙ ap (λ x. invert x w) (deletion_held d k)

pub deletion_counts : (e : Entry) (d : List (Option ℕ)) (kept : List ℕ) → e.kind ≡ Deletion d → length kept ≡ kept_count e → e.count ≡ length kept
deletion_counts e d kept k h = sym (h ∙ ap (λ x. kept_of x e.count) k)

-- An entry that is there is read.
pub none_there : (hs : List Held) (i : ℕ) → i < length hs → None ≡ slice_get hs i → ⊥
none_there hs i there is = let found = slice_get-get_or hs i nothing there in let z : ◌≡◌ {A = ℕ} 0 1 = cc in omega arith
