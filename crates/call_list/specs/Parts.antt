-- What each part of a line is read as, whatever comes behind it. Assumes nothing.
use Rattle.std.specs.Prelude.{◌≡◌, ℕ, List, Ok, Err, vec_items, Result, Vec}
use Rattle.std.specs.Borrow.{Bor}
use Rattle.std.specs.declared.alloc.Global.{Global}
use Rattle.call_list.specs.declared.expected.Argument.{Argument}
use Rattle.call_list.specs.declared.expected.Expected.{Expected}
use Rattle.call_list.specs.declared.expected.Misread.{Misread}
use Rattle.call_list.specs.Lines.{Line, Said, at_end, expects, reads, with_bytes, with_number, with_place_and_count}
use Rattle.call_list.specs.Misreads.{Misreads}

abbrev pub NumberRead : List ℕ → Argument → Result (ℕ × Bor (List ℕ)) Expected → Type 0
NumberRead l of (Ok v) = (k : ℕ → List ℕ → Line) → with_number of l k ≡ k v.0 v.1.now
NumberRead l of (Err e) = (k : ℕ → List ℕ → Line) → with_number of l k ≡ expects e

abbrev pub PlaceAndCountRead : List ℕ → Result (ℕ × ℕ) Expected → Type 0
PlaceAndCountRead l (Ok v) = (make : ℕ → ℕ → Said) → with_place_and_count l make ≡ reads (make v.0 v.1)
PlaceAndCountRead l (Err e) = (make : ℕ → ℕ → Said) → with_place_and_count l make ≡ expects e

abbrev pub BytesRead : List ℕ → Result (Vec ℕ Global × Bor (List ℕ)) Misread → Type 0
BytesRead l (Ok v) = (k : List ℕ → List ℕ → Line) → with_bytes l k ≡ k (vec_items v.0) v.1.now
BytesRead l (Err e) = (k : List ℕ → List ℕ → Line) → Misreads e (λ x. with_bytes l k ≡ expects x)

abbrev pub EndRead : List ℕ → Result (Unit {0}) Expected → Type 0
EndRead l (Ok u) = (s : Said) → at_end l s ≡ reads s
EndRead l (Err e) = (s : Said) → at_end l s ≡ expects e
