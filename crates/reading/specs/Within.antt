-- What is read of a text keeps the limits.
use Rattle.std.specs.Prelude.{◌≡◌, ◌<◌, ◌≤◌, true, false, length}
use Rattle.programs.specs.Limits.{rule_fits, all_fit}
use Rattle.reading.specs.declared.phase.Phase.TheVariants.{AfterNot}
use Rattle.reading.specs.Steps.{State, opens_rule, literals}

pub record Within (d : State) : Type 0 where
  pub atoms : length d.atoms ≤ 96
  pub few : length d.rules ≤ 256
  pub placed : length d.places ≡ length d.rules
  pub rules : all_fit (length d.atoms) d.rules ≡ true
  pub rule : rule_fits (length d.atoms) d.rule ≡ true
  -- there is room for the rule that goes on
  pub room : opens_rule d.phase ≡ false → length d.rules < 256
  -- there is room for the literal that a `not` began
  pub begun : d.phase ≡ AfterNot → literals d.rule < 16
