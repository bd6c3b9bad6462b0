-- A call in its plain form, read as a line, is that call again.
use Rattle.std.proofs.Common.{◌≡◌, ℕ, ◌+◌, ◌^◌, ◌<◌, List, [], ◌∷◌, ◌++◌, length, vec_items, decimal, refl, ap, ◌∙◌, arith, length-append}
use Rattle.std.proofs.lemmas.List.{drop_all}
use Rattle.corrections.specs.declared.calls.Call.TheVariants.{Insert, Delete, Length, Capacity, ByteAt, Copy}
use Rattle.line_parts.specs.Blanks.{past_blanks, behind_word}
use Rattle.line_parts.specs.Quotes.{Bytes, escaped, quoted}
use Rattle.line_parts.proofs.ReadBack.{Leads, escaped_reads, number_before, number_last}
use Rattle.call_list.specs.declared.expected.Argument.{Argument}
use Rattle.call_list.specs.declared.expected.Argument.TheVariants.{Place, Count}
use Rattle.call_list.specs.Again.{PlainFormsReadBack}
use Rattle.call_list.specs.Lines.{Line, Said, at_end, byte_asked, copy, delete, given_bytes, given_number, insert, reads, with_bytes, with_number, with_place_and_count}

-- A number that leads a line is read, and the line is read on behind it.
lead_reads : (n : ℕ) (of : Argument) (l rest : List ℕ) (k : ℕ → List ℕ → Line) → Leads n l rest → with_number of l k ≡ k n rest
lead_reads n of l rest k leads =
    ap (λ o. given_number o of (λ m. k m (behind_word (past_blanks l)))) leads.number ∙ ap (k n) leads.behind

bytes_read : (bs : List ℕ) (k : List ℕ → List ℕ → Line) → Bytes bs → with_bytes (32 ∷ quoted bs) k ≡ k bs []
unfolding quoted
bytes_read bs k sized =
    ap (λ u. given_bytes u (escaped bs ++ (34 ∷ [])) k) (escaped_reads bs [] sized)
    ∙ ap (k bs) (drop_all (length (escaped bs) + 1) (escaped bs ++ (34 ∷ [])) (simp length-append (omega arith)))

-- Delete and copy differ only in the call that their two numbers make.
place_and_count_read : (p n : ℕ) (make : ℕ → ℕ → Said) → p < 2 ^ 64 → n < 2 ^ 64 → with_place_and_count (32 ∷ (decimal p ++ (32 ∷ decimal n))) make ≡ reads (make p n)
place_and_count_read p n make ps ns =
    lead_reads p Place (32 ∷ (decimal p ++ (32 ∷ decimal n))) (32 ∷ decimal n) (λ q m. with_number Count m (λ k o. at_end o (make q k))) (number_before p (decimal n) ps)
    ∙ lead_reads n Count (32 ∷ decimal n) [] (λ k o. at_end o (make p k)) (number_last n ns)

pub reads_back : PlainFormsReadBack
reads_back (Insert p bs) sized =
    lead_reads p Place (32 ∷ (decimal p ++ (32 ∷ quoted (vec_items bs)))) (32 ∷ quoted (vec_items bs)) (λ q m. with_bytes m (λ cs n. at_end n (insert q cs))) (number_before p (quoted (vec_items bs)) sized.0)
    ∙ bytes_read (vec_items bs) (λ cs n. at_end n (insert p cs)) sized.1
reads_back (Delete p n) sized = place_and_count_read p n delete sized.0 sized.1
reads_back Length sized = refl
reads_back Capacity sized = refl
reads_back (ByteAt p) sized = lead_reads p Place (32 ∷ decimal p) [] (λ q m. at_end m (byte_asked q)) (number_last p sized)
reads_back (Copy p n) sized = place_and_count_read p n copy sized.0 sized.1
