-- A number in its decimal form, and bytes in double quotes, read as what they are.
use Rattle.std.proofs.Common.{◌≡◌, ℕ, ◌+◌, ◌-◌, ◌*◌, ◌/◌, ◌%◌, ◌^◌, ◌<◌, true, false, ◌&&◌, eqb, ltb, leb, List, [], ◌∷◌, ◌++◌, length, Some, None, codes, decimal, Option, sym, refl, ap, ◌∙◌, subst, mod-lt, div-add-mod', arith, length-append}
use Rattle.std.proofs.lemmas.Fmt.{decimal_by_steps}
use Rattle.std.proofs.lemmas.List.{append_assoc, append-nil}
use Rattle.std.proofs.lemmas.Bool.{cond_both, eqb-true}
use Rattle.std.proofs.lemmas.Bool.Decides.{nat_tests}
use Rattle.line_parts.specs.declared.quoting.Quoting.TheVariants.{Plain, Escape}
use Rattle.line_parts.specs.declared.quoting.Turn.TheVariants.{Gives}
use Rattle.line_parts.specs.Blanks.{is_blank, past_blanks, first_word, behind_word}
use Rattle.line_parts.specs.Numbers.{more_digit, on_with, read_digits, read_number}
use Rattle.line_parts.specs.Quotes.{Bytes, escape, escaped, hex}
use Rattle.line_parts.specs.Unquotes.{behind, by_turn, closed, hex_turn, hex_value, read_quoted, turn_at, unquoted}
use Rattle.line_parts.proofs.Blanked.{digit_first}
use Rattle.line_parts.proofs.Unquoted.{behind-behind}

-- A word without blanks.
Solid : List ℕ → Type 0
Solid [] = Unit {0}
Solid (b ∷ bs) = (is_blank b ≡ false) × Solid bs

solid_push : (w : List ℕ) (b : ℕ) → Solid w → is_blank b ≡ false → Solid (w ++ (b ∷ []))
unfolding Solid
solid_push [] b s h = (h, tt)
solid_push (a ∷ w) b s h = (s.0, solid_push w b s.1 h)

word_before : (w rest : List ℕ) → Solid w → first_word (w ++ (32 ∷ rest)) ≡ w
unfolding Solid
word_before [] rest s = refl
word_before (b ∷ w) rest s = rw s.0 (ap (λ x. b ∷ x) (word_before w rest s.1))

behind_before : (w rest : List ℕ) → Solid w → behind_word (w ++ (32 ∷ rest)) ≡ 32 ∷ rest
unfolding Solid
behind_before [] rest s = refl
behind_before (b ∷ w) rest s = rw s.0 (behind_before w rest s.1)

word_last : (w : List ℕ) → Solid w → first_word w ≡ w
unfolding Solid
word_last [] s = refl
word_last (b ∷ w) s = rw s.0 (ap (λ x. b ∷ x) (word_last w s.1))

behind_last : (w : List ℕ) → Solid w → behind_word w ≡ []
unfolding Solid
behind_last [] s = refl
behind_last (b ∷ w) s = rw s.0 (behind_last w s.1)

no_blank_before : (w rest : List ℕ) → Solid w → 0 < length w → past_blanks (w ++ rest) ≡ w ++ rest
unfolding Solid
no_blank_before [] rest s some = absurd (omega arith)
no_blank_before (b ∷ w) rest s some = rw s.0

-- A number's decimal form is a word that reads as the number.
on_some : (o : Option ℕ) → o ≡ on_with o (λ m. Some m)
on_some None = refl
on_some (Some n) = refl

on_on : (o : Option ℕ) (f g : ℕ → Option ℕ) → on_with o (λ m. on_with (f m) g) ≡ on_with (on_with o f) g
on_on None f g = refl
on_on (Some n) f g = refl

on_each : (o : Option ℕ) (f g : ℕ → Option ℕ) → ((m : ℕ) → f m ≡ g m) → on_with o f ≡ on_with o g
on_each None f g h = refl
on_each (Some m) f g h = h m

digits_push : (a : ℕ) (ds : List ℕ) (d : ℕ) → read_digits a (ds ++ (d ∷ [])) ≡ on_with (read_digits a ds) (λ m. more_digit m d)
digits_push a [] d = sym (on_some (more_digit a d))
digits_push a (e ∷ ds) d =
    on_each (more_digit a e) _ _ (λ m. digits_push m ds d)
    ∙ on_on (more_digit a e) (λ m. read_digits m ds) (λ m. more_digit m d)

record Spells (n : ℕ) (ds : List ℕ) : Type 0 where
  solid : Solid ds
  some : 0 < length ds
  value : read_digits 0 ds ≡ Some n

one_digit : (m n : ℕ) → n < 10 → m * 10 + n < 2 ^ 64 → more_digit m (48 + n) ≡ Some (m * 10 + n)
one_digit m n small fits = let e : (48 + n) - 48 ≡ n = omega arith in rw e (grind (arith, nat_tests))

solid_digit : (n : ℕ) → n < 10 → is_blank (48 + n) ≡ false
solid_digit n small = grind (arith, nat_tests)

spells_one : (k : ℕ) → k < 10 → Spells k ((48 + k) ∷ [])
unfolding Solid
spells_one k small =
    let e : 0 * 10 + k ≡ k = omega arith in
    record {
      solid = (solid_digit k small, tt);
      some = omega arith;
      value = ap (λ o. on_with o (λ m. Some m)) (one_digit 0 k small (omega arith)) ∙ ap (λ m. Some m) e;
    }

spells_more : (k : ℕ) (ds : List ℕ) → k < 2 ^ 64 → Spells (k / 10) ds → Spells k (ds ++ ((48 + k % 10) ∷ []))
spells_more k ds fits so_far =
    let small : k % 10 < 10 = mod-lt k (omega arith) in
    let whole : k / 10 * 10 + k % 10 ≡ k = div-add-mod' k 10 in
    record {
      solid = solid_push ds (48 + k % 10) so_far.solid (solid_digit (k % 10) small);
      some = simp length-append (omega arith);
      value =
          digits_push 0 ds (48 + k % 10)
          ∙ ap (λ o. on_with o (λ m. more_digit m (48 + k % 10))) so_far.value
          ∙ one_digit (k / 10) (k % 10) small (omega arith)
          ∙ ap (λ m. Some m) whole;
    }

spells : (n : ℕ) → n < 2 ^ 64 → Spells n (decimal n)
spells n fits =
    decimal_by_steps (λ k ds. k < 2 ^ 64 → Spells k ds)
    (λ k small h. spells_one k small)
    (λ k ds large so_far h. spells_more k ds h (so_far (omega (arith, div-add-mod' k 10))))
    n fits fits

decimal_reads : (n : ℕ) → n < 2 ^ 64 → read_number (decimal n) ≡ Some n
decimal_reads n fits = digit_first (decimal n) (spells n fits).some ∙ (spells n fits).value

-- The first word of a line is the number, and this stands behind it.
pub record Leads (n : ℕ) (l rest : List ℕ) : Type 0 where
  pub number : read_number (first_word (past_blanks l)) ≡ Some n
  pub behind : behind_word (past_blanks l) ≡ rest

pub number_before : (n : ℕ) (rest : List ℕ) → n < 2 ^ 64 → Leads n (32 ∷ (decimal n ++ (32 ∷ rest))) (32 ∷ rest)
number_before n rest fits =
    let s = spells n fits in
    let start = no_blank_before (decimal n) (32 ∷ rest) s.solid s.some in
    record {
      number = ap read_number (ap first_word start ∙ word_before (decimal n) rest s.solid) ∙ decimal_reads n fits;
      behind = ap behind_word start ∙ behind_before (decimal n) rest s.solid;
    }

pub number_last : (n : ℕ) → n < 2 ^ 64 → Leads n (32 ∷ decimal n) []
number_last n fits =
    let s = spells n fits in
    let whole = append-nil (decimal n) in
    let start = ap past_blanks (sym whole) ∙ no_blank_before (decimal n) [] s.solid s.some ∙ whole in
    record {
      number = ap read_number (ap first_word start ∙ word_last (decimal n) s.solid) ∙ decimal_reads n fits;
      behind = ap behind_word start ∙ behind_last (decimal n) s.solid;
    }

-- Quoted bytes read as the bytes.
ReadsAs : ℕ → List ℕ → Type 0
ReadsAs b bs = (more : List ℕ) → unquoted Plain (bs ++ more) ≡ behind (b ∷ []) (length bs) (unquoted Plain more)

hex_back : (d : ℕ) → d < 16 → hex_value (hex d) ≡ Some d
hex_back d small = cond_both (ltb d 10) (48 + d) (87 + d) (λ x. hex_value x ≡ Some d) (λ e. digit e) (λ e. letter e) where
  digit : ltb d 10 ≡ true → hex_value (48 + d) ≡ Some d
  digit e = let z : (48 + d) - 48 ≡ d = omega arith in rw z (grind (arith, nat_tests))

  letter : ltb d 10 ≡ false → hex_value (87 + d) ≡ Some d
  letter e = let z : (87 + d) - 87 ≡ d = omega arith in rw z (grind (arith, nat_tests))

two_reads : (x b : ℕ) → turn_at Escape x ≡ Gives b → ReadsAs b (92 ∷ x ∷ [])
unfolding unquoted ReadsAs
two_reads x b is more =
    ap (λ t. behind [] 1 (by_turn t (λ q. unquoted q more))) is
    ∙ behind-behind [] (b ∷ []) 1 1 (unquoted Plain more)

plain_reads : (b : ℕ) → turn_at Plain b ≡ Gives b → ReadsAs b (b ∷ [])
unfolding unquoted ReadsAs
plain_reads b is more = ap (λ t. by_turn t (λ q. unquoted q more)) is

hex_reads : (h l : ℕ) → h < 16 → l < 16 → ReadsAs (h * 16 + l) (92 ∷ 120 ∷ hex h ∷ hex l ∷ [])
unfolding unquoted ReadsAs
hex_reads h l hs ls more =
    let high : hex_value (hex h) ≡ Some h = hex_back h hs in
    let low : hex_value (hex l) ≡ Some l = hex_back l ls in
    let is : hex_turn (hex_value (hex h)) (hex_value (hex l)) ≡ Gives (h * 16 + l) = ap (λ x. hex_turn x (hex_value (hex l))) high ∙ ap (λ x. hex_turn (Some h) x) low in
    ap (λ t. behind [] 1 (behind [] 1 (behind [] 1 (by_turn t (λ q. unquoted q more))))) is
    ∙ ap (λ u. behind [] 1 (behind [] 1 u)) (behind-behind [] ((h * 16 + l) ∷ []) 1 1 (unquoted Plain more))
    ∙ ap (λ u. behind [] 1 u) (behind-behind [] ((h * 16 + l) ∷ []) 1 2 (unquoted Plain more))
    ∙ behind-behind [] ((h * 16 + l) ∷ []) 1 3 (unquoted Plain more)

escape_reads : (b : ℕ) → b < 256 → ReadsAs b (escape b)
escape_reads b small =
    cond_both (eqb b 92) _ _ (ReadsAs b) (λ e. two_reads 92 b (named 92 e))
    (λ n1. cond_both (eqb b 34) _ _ (ReadsAs b) (λ e. two_reads 34 b (named 34 e))
    (λ n2. cond_both (eqb b 10) _ _ (ReadsAs b) (λ e. two_reads 110 b (ap Gives (sym (eqb-true b 10 e))))
    (λ n3. cond_both (eqb b 9) _ _ (ReadsAs b) (λ e. two_reads 116 b (ap Gives (sym (eqb-true b 9 e))))
    (λ n4. cond_both (leb 32 b && leb b 126) _ _ (ReadsAs b) (λ e. plain_reads b (plain_turn n1 n2 e))
    (λ n5. in_hex))))) where
      named : (x : ℕ) → eqb b x ≡ true → Gives x ≡ Gives b
      named x e = ap Gives (sym (eqb-true b x e))

      plain_turn : eqb b 92 ≡ false → eqb b 34 ≡ false → (leb 32 b && leb b 126) ≡ true → turn_at Plain b ≡ Gives b
      plain_turn n1 n2 e = rw (n2, n1, e)

      in_hex : ReadsAs b (codes "\\x" ++ (hex (b / 16) ∷ hex (b % 16) ∷ []))
      in_hex = let whole : b / 16 * 16 + b % 16 ≡ b = div-add-mod' b 16 in
          subst (λ x. ReadsAs x (codes "\\x" ++ (hex (b / 16) ∷ hex (b % 16) ∷ []))) whole
          (hex_reads (b / 16) (b % 16) (omega arith) (mod-lt b (omega arith)))

pub escaped_reads : (bs more : List ℕ) → Bytes bs → read_quoted (escaped bs ++ (34 ∷ more)) ≡ closed bs (length (escaped bs) + 1)
unfolding unquoted ReadsAs
escaped_reads [] more sized = refl
escaped_reads (b ∷ bs) more sized =
    ap (unquoted Plain) (append_assoc (escape b) (escaped bs) (34 ∷ more))
    ∙ escape_reads b sized.0 (escaped bs ++ (34 ∷ more))
    ∙ ap (behind (b ∷ []) (length (escape b))) (escaped_reads bs more sized.1)
    ∙ ap (closed (b ∷ bs)) (simp length-append (omega arith))
