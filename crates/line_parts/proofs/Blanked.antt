-- Words, blanks and numbers, one byte more.
use Rattle.std.proofs.Common.{◌≡◌, ℕ, ◌<◌, not, List, [], ◌∷◌, length, take, drop, refl, arith}
use Rattle.std.specs.List.{prefix_len}
use Rattle.std.proofs.lemmas.Bool.{cond_both}
use Rattle.line_parts.specs.Numbers.{read_digits, read_number}
use Rattle.line_parts.specs.Blanks.{is_blank, past_blanks, first_word, behind_word}

-- A line up to its first blank, or up to its first byte that is none.
pub past_from : (xs : List ℕ) → past_blanks xs ≡ drop (prefix_len (λ b. is_blank b) xs) xs
past_from [] = refl
past_from (b ∷ bs) = let so_far = past_from bs in cond_both (is_blank b) (past_blanks bs) (b ∷ bs) (λ x. x ≡ drop (prefix_len (λ c. is_blank c) (b ∷ bs)) (b ∷ bs)) (λ e. rw e (grind arith)) (λ e. rw e (grind arith))

pub word_to : (xs : List ℕ) → first_word xs ≡ take (prefix_len (λ b. not (is_blank b)) xs) xs
word_to [] = refl
word_to (b ∷ bs) = let so_far = word_to bs in cond_both (is_blank b) [] (b ∷ first_word bs) (λ x. x ≡ take (prefix_len (λ c. not (is_blank c)) (b ∷ bs)) (b ∷ bs)) (λ e. rw e (grind arith)) (λ e. rw e (grind arith))

pub behind_from : (xs : List ℕ) → behind_word xs ≡ drop (prefix_len (λ b. not (is_blank b)) xs) xs
behind_from [] = refl
behind_from (b ∷ bs) = let so_far = behind_from bs in cond_both (is_blank b) (b ∷ bs) (behind_word bs) (λ x. x ≡ drop (prefix_len (λ c. not (is_blank c)) (b ∷ bs)) (b ∷ bs)) (λ e. rw e (grind arith)) (λ e. rw e (grind arith))

-- Where there is a digit, the number is read from 0 on.
pub digit_first : (xs : List ℕ) → 0 < length xs → read_number xs ≡ read_digits 0 (drop 0 xs)
digit_first [] some = absurd (omega arith)
digit_first (d ∷ ds) some = refl
