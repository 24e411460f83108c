use Rattle.std.proofs.Common.{◌≡◌, true, ◌&&◌, sym, ap, ◌∙◌}
use Rattle.std.proofs.lemmas.Bool.{eq-eqb}
use Rattle.game.specs.Derives.{fires}
use Rattle.closure.specs.Bits.{bit_row}
use Rattle.programs.specs.Listed.{RowRule}
use Rattle.programs.specs.Model.{head_model}
use Rattle.solving.specs.Levels.{head_at}
use Rattle.masked.proofs.Matching.{same_fires}
use Rattle.masked.proofs.level.MaskLevelMaskPicks.picks.Goals as goal

pub returns-then-of-self : goal.returns-then-of-self
returns-then-of-self c = λ r fits same.
    let self = c.args.self.now in
    let m = c.args.rule.now in
    let x = bit_row self.against.bits in
    let s = bit_row c.args.from.bits in
    let here : head_at self.levels.now.of self.level r.head ≡ true =
    ap (head_at self.levels.now.of self.level) (sym (ap (λ (q : RowRule). q.head) same) ∙ ap head_model c.in-Some.is) ∙ eq-eqb _ _ (sym c.of.ensures ∙ c.if-of-self.true) in
    same_fires x s m c.fires.result c.fires.ensures r fits same ∙ sym (ap (λ b. b && fires x s r) here)
