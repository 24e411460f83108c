use Rattle.std.proofs.Common.{inl, inr}
use Rattle.std.proofs.lemmas.Result.{err_from_is_err_and}
use Rattle.site_files.proofs.files.gathered.Goals as goal

pub returns-in_err-or_empty-2 : goal.returns-in_err-or_empty-2
returns-in_err-or_empty-2 c =
    let e = err_from_is_err_and c.from_residual-in_err-or_empty-2.result c.from_residual-in_err-or_empty-2.ensures.1 in
    rw (e.1, e.2) (inr ((c.in_ok-or_empty.field-0, c.in_ok-or_empty.ensures), inl c.in_err-or_empty-2.ensures))

pub returns-in_err-or_empty-3 : goal.returns-in_err-or_empty-3
returns-in_err-or_empty-3 c =
    let e = err_from_is_err_and c.from_residual-in_err-or_empty-3.result c.from_residual-in_err-or_empty-3.ensures.1 in
    rw (e.1, e.2) (inr ((c.in_ok-or_empty.field-0, c.in_ok-or_empty.ensures), inr ((c.in_ok-or_empty-2.field-0, c.in_ok-or_empty-2.ensures), c.in_err-or_empty-3.ensures)))
