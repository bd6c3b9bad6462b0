-- Checks that are put to all edits admit each of them at its turn. Assumes nothing.
use Rattle.std.proofs.Common.{◌≡◌, ℕ, ◌+◌, ◌-◌, ◌*◌, ◌^◌, ◌<◌, ◌≤◌, true, ◌&&◌, ltb, leb, List, [], ◌∷◌, ◌++◌, map, reverse, length, take, drop, Some, None, Ok, Err, Option, Result, sym, refl, ap, ◌∙◌, subst, append-nil, arith, length-append, length-drop, length-take}
use lib.ListN.{length-map}
use Rattle.std.proofs.lemmas.Bool.{cond-true, cond_both}
use Rattle.std.proofs.lemmas.Bool.Decides.{nat_tests}
use Rattle.places.specs.declared.edit.Check.TheVariants.{Place, Window, Spans}
use Rattle.places.specs.declared.edit.Edit.{Edit}
use Rattle.places.specs.declared.edit.Edit.TheVariants.{Insertion, Deletion}
use Rattle.places.specs.declared.edit.Origin.TheVariants.{Undo}
use Rattle.places.specs.Refusals.{Fault}
use Rattle.places.specs.declared.faults.Refusal.{Refusal}
use Rattle.places.specs.Carry.{fits, carried, after, restored, deletion_inverted}
use Rattle.places.specs.DryRun.{edit_check, sight, put_to_all, EachFits, growth_of_all}
use Rattle.places.specs.Edits.{growth, loss}
use Rattle.places.specs.Markers.{markers_noted}
use Rattle.places.specs.Model.{Model}
use Rattle.places.specs.Spans.{span_after}
use Rattle.places.proofs.Run.{each_fits}
use Rattle.undo_list.specs.Groups.{Held, PutIn, Took, Groups, joined, bytes_of, entries_in, bytes_in, groups_in, has_open, shut, after_close}
use Rattle.undo_list.specs.Limits.{count_check, group_check, limit_check}
use Rattle.turns.specs.Checks.{room_check}
use Rattle.turns.specs.Faults.{fault_of, fault_in, fault_moved, first_fault, counts_check, rooms_check, losses, edits_fault}
use Rattle.session.specs.Admitted.{Admits, Removable, Returnable}
use Rattle.session.specs.Undo.{inverse_of, with_closed}
use Rattle.session.specs.World.{World, deleted, put_back}
use Rattle.session.proofs.Counted.{entries_recorded, bytes_recorded, entry_listed}
use Rattle.session.proofs.Edited.{deletion_long, return_long, length_inserted, length-deleted}
use Rattle.session.proofs.Passed.{both, counted, roomy}

-- Two records that an edit fits alike: the markers play no part.
pub record Like (m k : Model) : Type 0 where
  pub len : m.len ≡ k.len
  pub spans : m.spans ≡ k.spans
  pub before : m.before ≡ k.before
  pub behind : m.behind ≡ k.behind

fits_alike : (e : Edit) (m k : Model) → Like m k → fits e m ≡ fits e k
fits_alike (Insertion p n) m k h = ap (λ x. leb p x && ltb (x + n) (2 ^ 64)) h.len
fits_alike (Deletion p n) m k h = let a = h.len in let b = h.spans in let d = h.before in let e = h.behind in cc

carried_alike : (e : Edit) (m k : Model) → Like m k → Like (carried e m) (carried e k)
carried_alike (Insertion p n) m k h = record { len = ap (λ x. x + n) h.len; spans = ap (map (span_after (Insertion p n))) h.spans; before = h.before; behind = h.behind }
carried_alike (Deletion p n) m k h = record { len = ap (λ x. x - n) h.len; spans = ap (map (span_after (Deletion p n))) h.spans; before = h.before; behind = h.behind }

each_alike : (es : List Edit) (m k : Model) → Like m k → EachFits m es → EachFits k es
each_alike [] m k h f = tt
each_alike (e ∷ es) m k h f = (sym (fits_alike e m k h) ∙ f.0, each_alike es (carried e m) (carried e k) (carried_alike e m k h) f.1)

-- What is known of a world and the entries that are still to be inverted.
pub record Ready (w : World) (hs : List Held) : Type 0 where
  pub tied : w.places.len ≡ length w.text
  pub limit : w.room ≤ 32768
  pub counts : counts_check (map inverse_of hs) ≡ None
  pub fits : EachFits w.places (map inverse_of hs)
  pub rooms : rooms_check w.places.len w.room (map inverse_of hs) ≡ None
  pub entries : entries_in w.groups + length hs ≤ 512
  pub bytes : bytes_in w.groups + losses (map inverse_of hs) ≤ 16384
  pub groups : length w.groups.closed + 1 ≤ 256

in_text : (m : Model) (p n : ℕ) → fits (Deletion p n) m ≡ true → p + n ≤ m.len
in_text m p n h = grind (arith, nat_tests)

at_place : (m : Model) (p n : ℕ) → fits (Insertion p n) m ≡ true → p ≤ m.len
at_place m p n h = grind (arith, nat_tests)

removal : (w : World) (p n : ℕ) (hs : List Held) → Ready w (PutIn p n ∷ hs) → Removable w p n
removal w p n hs r =
    let c = counted (0 + n) (both (count_check (0 + n)) _ r.counts).0 in
    let few = r.entries in
    let kept = r.bytes in
    record {
      some = omega (arith, c.0);
      few = omega (arith, c.1);
      place = in_text w.places p n r.fits.0;
      fits = r.fits.0;
      listed = entry_listed w.groups n (omega arith) (omega arith) r.groups;
    }

returning : (w : World) (p : ℕ) (bs : List ℕ) (notes : List (Option ℕ)) (hs : List Held) → Ready w (Took p bs notes ∷ hs) → Returnable w p (length bs)
returning w p bs notes hs r =
    let c = counted (length bs + 0) (both (count_check (length bs + 0)) _ r.counts).0 in
    let few = r.entries in
    let kept = r.bytes in
    record {
      some = omega (arith, c.0);
      few = omega (arith, c.1);
      place = at_place w.places p (length bs) r.fits.0;
      room = roomy w.places.len w.room (length bs) (both (room_check w.places.len w.room (length bs)) _ r.rooms).0;
      listed = entry_listed w.groups 0 (omega arith) (omega arith) r.groups;
    }

taken_length : (t : List ℕ) (p n : ℕ) → p + n ≤ length t → length (take n (drop p t)) ≡ n
taken_length t p n h = simp (length-take, length-drop) (omega arith)

removal_leaves : (w : World) (p n : ℕ) (hs : List Held) → Ready w (PutIn p n ∷ hs) → Ready (deleted p n w) hs
unfolding deleted
removal_leaves w p n hs r =
    let place = in_text w.places p n r.fits.0 in
    let tied = r.tied in
    let inside : p + n ≤ length w.text = omega arith in
    let moved : after (Deletion p n) w.places ≡ carried (Deletion p n) w.places = cond-true _ _ _ r.fits.0 in
    let shrunk = length-deleted w.text p n inside in
    let long = deletion_long w.places p n r.fits.0 in
    let taken = taken_length w.text p n inside in
    let entries = entries_recorded (Took p (take n (drop p w.text)) (markers_noted p n w.places.markers)) w.groups in
    let bytes = bytes_recorded (Took p (take n (drop p w.text)) (markers_noted p n w.places.markers)) w.groups in
    let few = r.entries in
    let kept = r.bytes in
    let P : Model → Type 0 = λ m. EachFits m (map inverse_of hs) in
    let Q : ℕ → Type 0 = λ len. rooms_check len w.room (map inverse_of hs) ≡ None in
    record {
      tied = omega arith;
      limit = r.limit;
      counts = (both (count_check (0 + n)) _ r.counts).1;
      fits = subst P (sym moved) r.fits.1;
      rooms = subst Q (sym long) r.rooms;
      entries = omega arith;
      bytes = omega arith;
      groups = r.groups;
    }

back_alike : (m : Model) (p n : ℕ) (notes : List (Option ℕ)) → fits (Insertion p n) m ≡ true → Like (carried (Insertion p n) m) (deletion_inverted p n notes m)
back_alike m p n notes h =
    let back : deletion_inverted p n notes m ≡ restored p n notes m = cond-true _ _ _ h in
    let P : Model → Type 0 = λ x. Like (carried (Insertion p n) m) x in
    subst P (sym back) (record { len = refl; spans = refl; before = refl; behind = refl })

return_leaves : (w : World) (p : ℕ) (bs : List ℕ) (notes : List (Option ℕ)) (hs : List Held) → Ready w (Took p bs notes ∷ hs) → Ready (put_back p bs notes w) hs
unfolding put_back
return_leaves w p bs notes hs r =
    let place = at_place w.places p (length bs) r.fits.0 in
    let tied = r.tied in
    let limit = r.limit in
    let room = roomy w.places.len w.room (length bs) (both (room_check w.places.len w.room (length bs)) _ r.rooms).0 in
    let inside : p ≤ length w.text = omega arith in
    let fit : w.places.len + length bs ≤ 32768 = omega arith in
    let grown = length_inserted w.text bs p inside in
    let long = return_long w.places p (length bs) notes place fit in
    let entries = entries_recorded (PutIn p (length bs)) w.groups in
    let bytes = bytes_recorded (PutIn p (length bs)) w.groups in
    let few = r.entries in
    let kept = r.bytes in
    let Q : ℕ → Type 0 = λ len. rooms_check len w.room (map inverse_of hs) ≡ None in
    record {
      tied = omega arith;
      limit = r.limit;
      counts = (both (count_check (length bs + 0)) _ r.counts).1;
      fits = each_alike (map inverse_of hs) _ _ (back_alike w.places p (length bs) notes r.fits.0) r.fits.1;
      rooms = subst Q (sym long) (both (room_check w.places.len w.room (length bs)) _ r.rooms).1;
      entries = omega arith;
      bytes = omega arith;
      groups = r.groups;
    }

pub admits : (hs : List Held) (w : World) → Ready w hs → Admits hs w
admits [] w r = tt
admits (PutIn p n ∷ hs) w r = (removal w p n hs r, admits hs (deleted p n w) (removal_leaves w p n hs r))
admits (Took p bs notes ∷ hs) w r = (returning w p bs notes hs r, admits hs (put_back p bs notes w) (return_leaves w p bs notes hs r))

no_fault : (a b : Option Fault) → first_fault a b ≡ None → (a ≡ None) × (b ≡ None)
no_fault None b h = (refl, h)
no_fault (Some f) b h = (cc, cc)

passed_check : (o : Option Refusal) (p : ℕ) → fault_of o p ≡ None → o ≡ None
passed_check None p h = refl
passed_check (Some why) p h = cc

passed_run : (r : Result (Unit {0}) Fault) → fault_in r ≡ None → r ≡ Ok (tt {0})
passed_run (Ok u) h = refl
passed_run (Err f) h = cc

passed_nowhere : (o : Option Fault) → fault_moved 0 o ≡ None → o ≡ None
passed_nowhere None h = refl
passed_nowhere (Some f) h = cc

growth_few : (es : List Edit) → counts_check es ≡ None → growth_of_all es ≤ 4096 * length es
growth_few [] h = omega arith
growth_few (e ∷ es) h =
    let k = both (count_check (growth e + loss e)) _ h in
    let c = counted (growth e + loss e) k.0 in
    let more = growth_few es k.1 in
    omega (arith, c.1)

limits_passed : (a b d : ℕ) → limit_check a b d ≡ None → (a ≤ 512) × (b ≤ 16384) × (d ≤ 256)
limits_passed a b d h = (grind (arith, nat_tests), grind (arith, nat_tests), grind (arith, nat_tests))

joined-shut : (gs : List (List Held)) (hs : List Held) → joined (gs ++ hs ∷ []) [] ≡ joined gs hs
joined-shut [] hs = append-nil (reverse hs)
joined-shut (g ∷ gs) hs = ap (λ x. reverse g ++ x) (joined-shut gs hs)

entries_closed : (g : Groups) → entries_in (after_close g) ≡ entries_in g
unfolding entries_in
entries_closed g = cond_both (has_open g) (shut g) g (λ x. length (joined x.closed x.opened) ≡ length (joined g.closed g.opened)) (λ _. ap length (joined-shut g.closed g.opened)) (λ _. refl)

bytes_closed : (g : Groups) → bytes_in (after_close g) ≡ bytes_in g
unfolding bytes_in
bytes_closed g = cond_both (has_open g) (shut g) g (λ x. bytes_of (joined x.closed x.opened) ≡ bytes_of (joined g.closed g.opened)) (λ _. ap bytes_of (joined-shut g.closed g.opened)) (λ _. refl)

pub groups_closed : (g : Groups) → length (after_close g).closed ≡ groups_in g
groups_closed g = cond_both (has_open g) (shut g) g (λ x. length x.closed ≡ groups_in g) (λ opened. simp length-append (rw opened (omega arith))) (λ shut-already. rw shut-already (omega arith))

length_inverses : (hs : List Held) → length (map inverse_of hs) ≡ length hs
length_inverses hs = simp length-map

-- Where no check refuses an edit, the world with its open group closed is ready for all of them.
pub ready : (w : World) (hs : List Held) → w.places.len ≡ length w.text → w.places.len ≤ 32768 → w.room ≤ 32768 → edits_fault w.places w.room w.groups (map inverse_of hs) ≡ None → Ready (with_closed w) hs
unfolding edits_fault with_closed
ready w hs tied short limit h =
    let es = map inverse_of hs in
    let m = w.places in
    let a = no_fault _ _ h in
    let b = no_fault _ _ a.1 in
    let d = no_fault (fault_in (put_to_all (edit_check Window) (sight Window m) es)) _ b.1 in
    let e = no_fault (fault_in (put_to_all (edit_check (Spans Undo)) (sight (Spans Undo) m) es)) _ d.1 in
    let f = no_fault _ _ e.1 in
    let counts = passed_check (counts_check es) 0 a.0 in
    let place = passed_run (put_to_all (edit_check Place) (sight Place m) es) (passed_nowhere _ b.0) in
    let window = passed_run (put_to_all (edit_check Window) (sight Window m) es) d.0 in
    let spans = passed_run (put_to_all (edit_check (Spans Undo)) m es) e.0 in
    let rooms = passed_check (rooms_check m.len w.room es) 0 f.0 in
    let listed = limits_passed (entries_in w.groups + length es) (bytes_in w.groups + losses es) (groups_in w.groups + 1) (passed_check (group_check w.groups (length es) (losses es)) 0 f.1) in
    let many = length_inverses hs in
    let entries = entries_closed w.groups in
    let bytes = bytes_closed w.groups in
    let groups = groups_closed w.groups in
    let growth = growth_few es counts in
    let few = listed.0 in
    let kept = listed.1 in
    let under = listed.2 in
    let fit : m.len + growth_of_all es < 2 ^ 64 = omega arith in
    record {
      tied = tied;
      limit = limit;
      counts = counts;
      fits = each_fits Undo m es fit place window spans;
      rooms = rooms;
      entries = omega arith;
      bytes = omega arith;
      groups = omega arith;
    }
