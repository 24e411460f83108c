use Rattle.std.proofs.Common.{sym, ap, ◌∙◌, subst}
use Rattle.std.specs.List.{prefix_len}
use Rattle.std.specs.Str.{IsCharBoundary}
use Rattle.desk_text.specs.Words.{is_blank}
use Rattle.desk_text.proofs.Cutting.{after_blanks}
use Rattle.desk_text.proofs.words.unindented.Goals as goal

pub range_from-requires : goal.range_from-requires
range_from-requires c =
    λ _. subst (IsCharBoundary c.args.text.now) (sym (c.blanks_before.ensures ∙ ap (prefix_len is_blank) c.as_bytes.ensures.value)) (after_blanks c.args.text.now c.utf8.text)
