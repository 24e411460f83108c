-- The four ways of a step, in the order of its questions.
use Rattle.std.proofs.Common.{◌≡◌, ℕ, Bool, true, false, cond, ◌&&◌, leb, length, Some, None, Err, ap, ◌∙◌}
use Rattle.refusals.specs.declared.fault.Text.{Text}
use Rattle.refusals.specs.declared.fault.Fault.TheVariants.{Misplaced, ManyRules, LongBody}
use Rattle.reading.specs.declared.phase.Phase.{Phase}
use Rattle.reading.specs.Lexical.{Word}
use Rattle.reading.specs.Steps.{State, follow, opens_rule, before_literal, of_literal, literals, asked, taken, step}

-- one rule too many would open
abbrev pub crowded : State → Bool
crowded d = opens_rule d.phase && leb 256 (length d.rules)

-- one literal too many would open
abbrev pub overfull : State → Word → Bool
overfull d w = (before_literal d.phase && of_literal w) && leb 16 (literals d.rule)

module _ (t : Text) (at : ℕ) (d : State) (w : Word) where
  pub step_misplaced : follow d.phase w ≡ None → step t at d w ≡ Err (Misplaced t at)
  unfolding step
  step_misplaced e = ap (asked t at d w) e

  module _ (next : Phase) (allowed : follow d.phase w ≡ Some next) where
    pub step_crowded : crowded d ≡ true → step t at d w ≡ Err (ManyRules t at)
    unfolding step
    step_crowded many = ap (asked t at d w) allowed ∙ ap (λ b. cond b (Err (ManyRules t at)) (cond (overfull d w) (Err (LongBody t at)) (taken t at next d w))) many

    module _ (few : crowded d ≡ false) where
      pub step_overfull : overfull d w ≡ true → step t at d w ≡ Err (LongBody t at)
      unfolding step
      step_overfull long =
          ap (asked t at d w) allowed ∙ ap (λ b. cond b (Err (ManyRules t at)) (cond (overfull d w) (Err (LongBody t at)) (taken t at next d w))) few
          ∙ ap (λ b. cond b (Err (LongBody t at)) (taken t at next d w)) long

      pub step_taken : overfull d w ≡ false → step t at d w ≡ taken t at next d w
      unfolding step
      step_taken short =
          ap (asked t at d w) allowed ∙ ap (λ b. cond b (Err (ManyRules t at)) (cond (overfull d w) (Err (LongBody t at)) (taken t at next d w))) few
          ∙ ap (λ b. cond b (Err (LongBody t at)) (taken t at next d w)) short
