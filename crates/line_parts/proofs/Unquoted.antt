-- Quoting and unquoting, one byte more.
use Rattle.std.proofs.Common.{◌≡◌, ℕ, ◌+◌, ◌<◌, ◌≤◌, List, [], ◌∷◌, ◌++◌, length, get_or, take, drop, codes, sym, refl, ap, ◌∙◌, arith, rules}
use Rattle.std.proofs.lemmas.List.{append_assoc, append-nil, take_more, drop_more, take_all, drop_all}
use Rattle.line_parts.specs.declared.misquoted.InQuotes.TheVariants.{PlainByte, ClosingQuote}
use Rattle.line_parts.specs.declared.quoting.Quoting.{Quoting}
use Rattle.line_parts.specs.declared.quoting.Quoting.TheVariants.{Plain}
use Rattle.line_parts.specs.declared.quoting.Turn.TheVariants.{Goes, Gives, Closes, Fails}
use Rattle.line_parts.specs.Quotes.{escape, escaped, quoted}
use Rattle.line_parts.specs.Unquotes.{Unquoted, closed, malformed, behind, by_turn, turn_at, unquoted}

escaped-append : (bs cs : List ℕ) → escaped (bs ++ cs) ≡ escaped bs ++ escaped cs
escaped-append [] cs = refl
escaped-append (b ∷ bs) cs = ap (λ x. escape b ++ x) (escaped-append bs cs) ∙ sym (append_assoc (escape b) (escaped bs) (escaped cs))

pub escaped_more : (bs : List ℕ) (i : ℕ) → i < length bs → escaped (take i bs) ++ escape (get_or bs i 0) ≡ escaped (take (i + 1) bs)
escaped_more bs i lt = ap (λ x. escaped (take i bs) ++ x) (sym (append-nil (escape (get_or bs i 0)))) ∙ sym (escaped-append (take i bs) (get_or bs i 0 ∷ [])) ∙ ap escaped (sym (take_more bs i 0 lt))

-- What was written of a text in quotes, and what is still to come.
pub quoted_first : (bs rest : List ℕ) → rest ≡ bs → codes "\"" ++ (escaped rest ++ codes "\"") ≡ quoted bs
unfolding quoted
quoted_first bs rest all = ap quoted all

pub quoted_more : (written part rest rest' whole : List ℕ) → rest ≡ part ++ rest' → written ++ (escaped rest ++ codes "\"") ≡ whole → (written ++ escaped part) ++ (escaped rest' ++ codes "\"") ≡ whole
quoted_more written part rest rest' whole split so_far =
    let parts = ap escaped split ∙ escaped-append part rest' in
    append_assoc written (escaped part) (escaped rest' ++ codes "\"") ∙ ap (λ x. written ++ x) (sym (append_assoc (escaped part) (escaped rest') (codes "\""))) ∙ ap (λ x. written ++ (x ++ codes "\"")) (sym parts) ∙ so_far

pub quoted_last : (written rest whole : List ℕ) → length rest ≡ 0 → written ++ (escaped rest ++ codes "\"") ≡ whole → written ++ codes "\"" ≡ whole
quoted_last written [] whole none so_far = so_far
quoted_last written (b ∷ rest) whole none so_far = search rules

pub behind-behind : (bs cs : List ℕ) (n m : ℕ) (u : Unquoted) → behind bs n (behind cs m u) ≡ behind (bs ++ cs) (n + m) u
behind-behind bs cs n m (closed ds k) = let e = append_assoc bs cs ds in let f : n + (m + k) ≡ (n + m) + k = omega arith in cc
behind-behind bs cs n m (malformed e) = refl

unquoted_at : (q : Quoting) (xs : List ℕ) (i : ℕ) → i < length xs → unquoted q (drop i xs) ≡ by_turn (turn_at q (get_or xs i 0)) (λ next. unquoted next (drop (i + 1) xs))
unfolding unquoted
unquoted_at q xs i lt = ap (unquoted q) (drop_more xs i 0 lt)

module _ (xs bs : List ℕ) (q : Quoting) (i : ℕ) (lt : i < length xs) (so_far : unquoted Plain xs ≡ behind bs i (unquoted q (drop i xs))) where
  here : unquoted Plain xs ≡ behind bs i (by_turn (turn_at q (get_or xs i 0)) (λ next. unquoted next (drop (i + 1) xs)))
  here = so_far ∙ ap (behind bs i) (unquoted_at q xs i lt)

  pub unquoted_goes : (next : Quoting) → Goes next ≡ turn_at q (get_or xs i 0) → unquoted Plain xs ≡ behind bs (i + 1) (unquoted next (drop (i + 1) xs))
  unquoted_goes next is =
      here ∙ ap (λ t. behind bs i (by_turn t (λ n. unquoted n (drop (i + 1) xs)))) (sym is)
      ∙ behind-behind bs [] i 1 (unquoted next (drop (i + 1) xs))
      ∙ ap (λ x. behind x (i + 1) (unquoted next (drop (i + 1) xs))) (append-nil bs)

  pub unquoted_gives : (b : ℕ) → Gives b ≡ turn_at q (get_or xs i 0) → unquoted Plain xs ≡ behind (bs ++ (b ∷ [])) (i + 1) (unquoted Plain (drop (i + 1) xs))
  unquoted_gives b is =
      here ∙ ap (λ t. behind bs i (by_turn t (λ n. unquoted n (drop (i + 1) xs)))) (sym is)
      ∙ behind-behind bs (b ∷ []) i 1 (unquoted Plain (drop (i + 1) xs))

  pub unquoted_closes : Closes ≡ turn_at q (get_or xs i 0) → unquoted Plain xs ≡ closed bs (i + 1)
  unquoted_closes is =
      here ∙ ap (λ t. behind bs i (by_turn t (λ n. unquoted n (drop (i + 1) xs)))) (sym is)
      ∙ ap (λ x. closed x (i + 1)) (append-nil bs)

  pub unquoted_fails : Fails ≡ turn_at q (get_or xs i 0) → unquoted Plain xs ≡ malformed PlainByte
  unquoted_fails is = here ∙ ap (λ t. behind bs i (by_turn t (λ n. unquoted n (drop (i + 1) xs)))) (sym is)

pub unquoted_open : (xs bs : List ℕ) (q : Quoting) (i : ℕ) → length xs ≤ i → unquoted Plain xs ≡ behind bs i (unquoted q (drop i xs)) → unquoted Plain xs ≡ malformed ClosingQuote
unfolding unquoted
unquoted_open xs bs q i past so_far = so_far ∙ ap (λ x. behind bs i (unquoted q x)) (drop_all i xs past)
