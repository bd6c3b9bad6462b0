-- Every call keeps what a list of calls keeps. Assumes nothing.
use Rattle.std.proofs.Common.{◌≡◌, ℕ, ◌+◌, ◌-◌, ◌≤◌, true, List, [], ◌∷◌, map, length, Some, None, vec_items, Option, sym, refl, ap, ◌∙◌, arith}
use Rattle.places.specs.declared.faults.Refusal.{Refusal}
use Rattle.places.specs.DryRun.{EachFits}
use Rattle.store.specs.Edits.{answer, unless}
use Rattle.calls.specs.declared.call.Call.{Call}
use Rattle.calls.specs.declared.call.Call.TheVariants as call
use Rattle.calls.specs.Replies.{said, done}
use Rattle.calls.specs.Said.{said_by}
use Rattle.session.specs.Calls.{insert_check, insert_world, delete_check, delete_world, set_world, boundary_world, trim_world, protect_world, unprotect_world, narrow_world, widen_world}
use Rattle.session.specs.World.{World, new_world, inserted, deleted}
use Rattle.session.proofs.Edited.{insertion_long, deletion_long, length_inserted, length-deleted}
use Rattle.session.proofs.Passed.{insert_passed, delete_passed, insertion_fits, deletion_fits}
use Rattle.history.specs.Laws.{Coherent, edits_by, is_accepted, RunsKeep}
use Rattle.history.specs.Runs.{world_after}
use Rattle.history.specs.Steps.{reply, step}

-- A check passed, or the call leaves the world.
either : (check : Option Refusal) (new old : World) → (check ≡ None → Coherent new) → Coherent old → Coherent (unless check new old)
either None new old h g = h refl
either (Some why) new old h g = g

-- The call said that it was done, so its check passed.
passed : (check : Option Refusal) (p : ℕ) → is_accepted (said (answer check p) done) ≡ true → check ≡ None
passed None p h = refl
passed (Some why) p h = cc

insert_keeps : (w : World) (p : ℕ) (bs : List ℕ) → Coherent w → Coherent (insert_world w p bs)
unfolding insert_world inserted
insert_keeps w p bs k =
    either (insert_check w p (length bs)) _ w
    (λ h.
    let i = insert_passed w p (length bs) h in
    let long = k.long in
    let place : p ≤ length w.text = omega (arith, i.place) in
    let few : w.places.len + length bs ≤ 32768 = omega (arith, i.fits, k.limit) in
    let grown = length_inserted w.text bs p place in
    record {
      long = insertion_long w.places p (length bs) i.place few ∙ ap (λ x. x + length bs) long ∙ sym grown;
      within = omega (arith, i.fits);
      limit = k.limit;
    })
    k

delete_keeps : (w : World) (p n : ℕ) → Coherent w → Coherent (delete_world w p n)
unfolding delete_world deleted
delete_keeps w p n k =
    either (delete_check w p n) _ w
    (λ h.
    let i = delete_passed w p n h in
    let long = k.long in
    let place : p + n ≤ length w.text = omega (arith, i.place) in
    let shrunk = length-deleted w.text p n place in
    record {
      long = deletion_long w.places p n (deletion_fits w p n i) ∙ ap (λ x. x - n) long ∙ sym shrunk;
      within = omega (arith, k.within);
      limit = k.limit;
    })
    k

step_keeps : (w : World) (c : Call) → Coherent w → Coherent (step w (said_by c))
unfolding set_world boundary_world trim_world protect_world unprotect_world narrow_world widen_world
step_keeps w (call.Insert p bs) k = insert_keeps w p (vec_items bs) k
step_keeps w (call.Delete p n) k = delete_keeps w p n k
step_keeps w (call.Set m p) k = either _ _ w (λ _. record { long = k.long; within = k.within; limit = k.limit }) k
step_keeps w call.Boundary k = either _ _ w (λ _. record { long = k.long; within = k.within; limit = k.limit }) k
step_keeps w (call.Trim n) k = either _ _ w (λ _. record { long = k.long; within = k.within; limit = k.limit }) k
step_keeps w (call.Protect s e) k = either _ _ w (λ _. record { long = k.long; within = k.within; limit = k.limit }) k
step_keeps w (call.Unprotect s e) k = either _ _ w (λ _. record { long = k.long; within = k.within; limit = k.limit }) k
step_keeps w (call.Narrow s e) k = either _ _ w (λ _. record { long = k.long; within = k.within; limit = k.limit }) k
step_keeps w call.Widen k = either _ _ w (λ _. record { long = k.long; within = k.within; limit = k.limit }) k
step_keeps w call.Length k = k
step_keeps w call.Capacity k = k
step_keeps w (call.ByteAt p) k = k
step_keeps w (call.Copy p n) k = k
step_keeps w (call.Marker m) k = k
step_keeps w call.Window k = k
step_keeps w call.Spans k = k
step_keeps w call.Entries k = k
step_keeps w call.Groups k = k

edits_fit : (w : World) → Coherent w → (c : Call) → is_accepted (reply w (said_by c)) ≡ true → EachFits w.places (edits_by w (said_by c))
edits_fit w k (call.Insert p bs) h = (insertion_fits w p (length (vec_items bs)) k.limit (insert_passed w p (length (vec_items bs)) (passed _ p h)), tt)
edits_fit w k (call.Delete p n) h = (deletion_fits w p n (delete_passed w p n (passed _ p h)), tt)
edits_fit w k (call.Set m p) h = tt
edits_fit w k call.Boundary h = tt
edits_fit w k (call.Trim n) h = tt
edits_fit w k (call.Protect s e) h = tt
edits_fit w k (call.Unprotect s e) h = tt
edits_fit w k (call.Narrow s e) h = tt
edits_fit w k call.Widen h = tt
edits_fit w k call.Length h = tt
edits_fit w k call.Capacity h = tt
edits_fit w k (call.ByteAt p) h = tt
edits_fit w k (call.Copy p n) h = tt
edits_fit w k (call.Marker m) h = tt
edits_fit w k call.Window h = tt
edits_fit w k call.Spans h = tt
edits_fit w k call.Entries h = tt
edits_fit w k call.Groups h = tt

run_keeps : (w : World) (cs : List Call) → Coherent w → Coherent (world_after w (map said_by cs))
unfolding world_after
run_keeps w [] k = k
run_keeps w (c ∷ cs) k = run_keeps (step w (said_by c)) cs (step_keeps w c k)

new_coherent : (t : List ℕ) (room : ℕ) → length t ≤ room → room ≤ 32768 → Coherent (new_world t room)
unfolding new_world
new_coherent t room a b = record { long = refl; within = a; limit = b }

pub runs_keep : RunsKeep
runs_keep t room cs a b =
    let k = run_keeps (new_world t room) cs (new_coherent t room a b) in
    record { coherent = k; fits = edits_fit _ k }
