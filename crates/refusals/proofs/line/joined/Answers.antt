use Rattle.std.proofs.Common.{◌≡◌, ℕ, ◌-◌, ◌≤◌, if◌then◌else◌, List, ◌++◌, length, take, ap, ◌∙◌, arith, length-append}
use Rattle.std.proofs.lemmas.Bool.{le-leb}
use Rattle.std.specs.Fmt.Cut.{cut_to, dots, floor_char_boundary}
use Rattle.std.specs.Fmt.InlineText.{inline_text}
use Rattle.refusals.proofs.line.joined.Goals as goal

fits_whole : (room : ℕ) (text : List ℕ) → length text ≤ room → cut_to room text ≡ text
unfolding cut_to
fits_whole room text h = ap (λ b. if b then text else take (floor_char_boundary text (room - 3)) text ++ dots room) (le-leb (length text) room h)

pub returns : goal.returns
returns c =
    let long = length-append (inline_text c.args.text) c.args.part.now in
    let text = c.and_str.ensures.to_end (omega arith) ∙ fits_whole 83 (inline_text c.args.text ++ c.args.part.now) (omega (arith, long, c.requires)) in
    record { text = text; long = ap length text ∙ long }
