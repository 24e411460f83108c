use Rattle.std.proofs.Common.{◌++◌, vec_items, ap, ◌∙◌}
use Rattle.refusals.specs.Line.{line}
use Rattle.desk_text.proofs.lines.add_fault.Goals as goal

pub returns : goal.returns
unfolding line
returns c =
    c.in_ok-extend_from_slice.ensures.items ∙ ap (λ l. vec_items c.args.out.now ++ l) (c.as_bytes.ensures.value ∙ c.in_ok-line.ensures.ok)
