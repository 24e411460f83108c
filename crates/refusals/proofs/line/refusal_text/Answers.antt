use Rattle.std.proofs.Common.{◌≡◌, ℕ, refl, List, ◌++◌, decimal, ap, ◌∙◌}
use Rattle.refusals.specs.Line.{refusal}
use Rattle.refusals.proofs.line.refusal_text.Goals as goal

-- the text so far, with a part after it
and_then : {t t' a b b' : List ℕ} → t' ≡ t ++ b → t ≡ a → b ≡ b' → t' ≡ a ++ b'
and_then e p q = cc

pub returns-clause-text : goal.returns-clause-text
unfolding refusal
returns-clause-text c =
    let start = and_then c.joined-text.ensures.text c.new.ensures.text refl in
    let cause = and_then c.joined-text-2.ensures.text start (c.format.ensures.text ∙ ap decimal c.cause.ensures) in
    let sep = and_then c.joined-text-3.ensures.text cause refl in
    let text = and_then c.joined-text-4.ensures.text sep (c.format-2.ensures.text ∙ ap decimal c.text.ensures) in
    let sep' = and_then c.joined-text-5.ensures.text text refl in
    and_then c.joined.ensures.text sep' (c.format-3.ensures.text ∙ ap decimal c.byte.ensures)
