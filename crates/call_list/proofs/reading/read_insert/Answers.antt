use Rattle.std.proofs.lemmas.Result.{err_from_is_err_and}
use Rattle.call_list.specs.Lines.{at_end, insert, with_bytes}
use Rattle.call_list.proofs.Misread.{misread_before}
use Rattle.call_list.proofs.reading.read_insert.Goals as goal

pub returns-in_err-bytes : goal.returns-in_err-bytes
returns-in_err-bytes c =
    let p = err_from_is_err_and c.from_residual-in_err-bytes.result c.from_residual-in_err-bytes.ensures.1 in
    rw (p.1, p.2) (misread_before _ _ _ (c.in_ok-place.ensures (λ p m. with_bytes m (λ bs n. at_end n (insert p bs)))) (c.in_err-bytes.ensures (λ bs n. at_end n (insert c.in_ok-place.place bs))))
