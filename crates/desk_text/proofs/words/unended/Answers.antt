use Rattle.std.proofs.Common.{◌-◌, length, sym, ap, ◌∙◌, subst, arith}
use Rattle.std.specs.List.{suffix_len}
use Rattle.std.specs.Str.{IsCharBoundary}
use Rattle.std.proofs.lemmas.List.Sums.{suffix_len-le-length}
use Rattle.desk_text.specs.Words.{is_blank}
use Rattle.desk_text.proofs.Cutting.{before_blanks}
use Rattle.desk_text.proofs.words.unended.Goals as goal

pub overflow_sub-text : goal.overflow_sub-text
overflow_sub-text c =
    omega (arith, c.blanks_behind.ensures ∙ ap (suffix_len is_blank) c.as_bytes.ensures.value, suffix_len-le-length is_blank c.args.text.now)

pub range-requires-clause-end_boundary : goal.range-requires-clause-end_boundary
range-requires-clause-end_boundary c =
    let bs = c.args.text.now in
    subst (λ n. IsCharBoundary bs (length bs - n)) (sym (c.blanks_behind.ensures ∙ ap (suffix_len is_blank) c.as_bytes.ensures.value)) (before_blanks bs)
