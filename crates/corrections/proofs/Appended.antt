-- One insertion more at the end of a text.
use Rattle.std.proofs.Common.{◌≡◌, ℕ, ◌+◌, ◌<◌, ◌≤◌, min, List, ◌++◌, length, None, sym, ap, ◌∙◌, arith, length-append, rules}
use Rattle.std.proofs.lemmas.List.{append_assoc, same_lists, places}
use Rattle.store.proofs.Passes.{insert_passes}
use Rattle.store.specs.Edits.{after_insert, insert_check, inserted_at, unless}

at_end : (u bs : List ℕ) (p : ℕ) → p ≡ length u → inserted_at u p bs ≡ u ++ bs
at_end u bs p h = same_lists _ _ (search (rules, places)) (λ k d lt. grind (arith, places))

-- One part of what is still to come.
pub appended_more : (t bs u v part rest rest' : List ℕ) (room place : ℕ) → length t + length bs ≤ room → u ++ rest ≡ t ++ bs → rest ≡ part ++ rest' → 0 < length rest → length part ≡ min 4096 (length rest) → place ≡ length u → v ≡ after_insert u room place part → v ++ rest' ≡ t ++ bs
appended_more t bs u v part rest rest' room place fits so_far split some long end is =
    let whole : length u + length rest ≡ length t + length bs = sym (length-append u rest) ∙ ap length so_far ∙ length-append t bs in
    let passes : insert_check (length u) room place (length part) ≡ None = insert_passes (length u) room place (length part) (omega arith) (omega arith) (omega arith) (omega arith) in
    let taken : after_insert u room place part ≡ inserted_at u place part = ap (λ x. unless x (inserted_at u place part) u) passes in
    let new = at_end u part place end in
    let more = append_assoc u part rest' in
    cc
