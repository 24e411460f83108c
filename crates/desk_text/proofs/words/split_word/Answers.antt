use Rattle.std.proofs.Common.{sym, ap, ◌∙◌, subst}
use Rattle.std.specs.List.{position_or_len}
use Rattle.std.specs.Str.{IsCharBoundary}
use Rattle.desk_text.specs.Words.{is_blank}
use Rattle.desk_text.proofs.Cutting.{after_word}
use Rattle.desk_text.proofs.words.split_word.Goals as goal

pub split_at-requires : goal.split_at-requires
split_at-requires c =
    let bs = c.unindented-text.result.now in
    subst (IsCharBoundary bs) (sym (c.word_length.ensures ∙ ap (position_or_len is_blank) c.as_bytes.ensures.value)) (after_word bs)
