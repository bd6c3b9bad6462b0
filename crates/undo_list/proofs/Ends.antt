-- Laws of the ends of the closed groups. Assumes nothing.
use Rattle.std.proofs.Common.{◌≡◌, ℕ, zero, suc, ◌+◌, ◌<◌, ◌≤◌, true, List, [], ◌∷◌, ◌++◌, length, get_or, take, sym, refl, ap, ◌∙◌, add_assoc, arith}
use Rattle.std.proofs.lemmas.List.{take_more}
use Rattle.std.proofs.lemmas.Bool.Decides.{nat_tests}
use Rattle.undo_list.specs.declared.entry.Entry.{Entry}
use Rattle.undo_list.specs.Spell.{kept_count, total, rising, last_end, start}

pub total_push : (es : List Entry) (e : Entry) → total (es ++ e ∷ []) ≡ total es + kept_count e
total_push [] e = omega arith
total_push (a ∷ es) e = ap (λ n. kept_count a + n) (total_push es e) ∙ sym (add_assoc (kept_count a) (total es) (kept_count e))

pub total_more : (es : List Entry) (i : ℕ) (d : Entry) → i < length es → total (take (i + 1) es) ≡ total (take i es) + kept_count (get_or es i d)
total_more es i d h = ap total (take_more es i d h) ∙ total_push (take i es) (get_or es i d)

pub total-take : (es : List Entry) (i : ℕ) → total (take i es) ≤ total es
total-take [] zero = omega arith
total-take [] (suc i) = omega arith
total-take (a ∷ es) zero = omega arith
total-take (a ∷ es) (suc i) = omega (arith, total-take es i)

pub rising_last : (from : ℕ) (ends : List ℕ) (n : ℕ) → rising from ends n ≡ true → (from ≤ last_end from ends) × (last_end from ends ≤ n)
rising_last from [] n h = (omega arith, grind (arith, nat_tests))
rising_last from (e ∷ ends) n h =
    let lt : from < e = grind (arith, nat_tests) in
    let rest : rising e ends n ≡ true = grind (arith, nat_tests) in
    let r = rising_last e ends n rest in
    (omega (arith, r), r.1)

pub rising_grows : (from : ℕ) (ends : List ℕ) (n m : ℕ) → n ≤ m → rising from ends n ≡ true → rising from ends m ≡ true
rising_grows from [] n m g h = grind (arith, nat_tests)
rising_grows from (e ∷ ends) n m g h =
    let rest : rising e ends n ≡ true = grind (arith, nat_tests) in
    let r = rising_grows e ends n m g rest in
    grind (arith, nat_tests)

pub rising_push : (from : ℕ) (ends : List ℕ) (n : ℕ) (e : ℕ) → e ≡ n → last_end from ends < n → rising from ends n ≡ true → rising from (ends ++ e ∷ []) n ≡ true
rising_push from [] n e is lt h = grind (arith, nat_tests)
rising_push from (a ∷ ends) n e is lt h =
    let rest : rising a ends n ≡ true = grind (arith, nat_tests) in
    let r = rising_push a ends n e is lt rest in
    grind (arith, nat_tests)

pub last_push : (from : ℕ) (ends : List ℕ) (e : ℕ) → last_end from (ends ++ e ∷ []) ≡ e
last_push from [] e = refl
last_push from (a ∷ ends) e = last_push a ends e

pub start_first : (from : ℕ) (ends : List ℕ) → start from ends 0 ≡ from
unfolding start
start_first from [] = refl
start_first from (e ∷ ends) = refl

pub start_next : (from : ℕ) (ends : List ℕ) (j : ℕ) (d : ℕ) → j < length ends → start from ends (suc j) ≡ get_or ends j d
unfolding start
start_next from [] j d h = absurd (omega arith)
start_next from (e ∷ ends) zero d h = start_first e ends
start_next from (e ∷ ends) (suc j) d h = start_next e ends j d (omega arith)

pub last_start : (from : ℕ) (ends : List ℕ) → start from ends (length ends) ≡ last_end from ends
unfolding start
last_start from [] = refl
last_start from (e ∷ ends) = last_start e ends
