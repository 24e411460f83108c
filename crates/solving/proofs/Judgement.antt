-- What the settled set says of answer sets.
use Rattle.std.proofs.Common.{◌≡◌, ℕ, Bool, true, not, List, length, sym, ◌∙◌}
use Rattle.std.proofs.lemmas.Bool.{not-true, not_from_false}
use Rattle.game.specs.Sets.{Row}
use Rattle.game.specs.Rules.{Rule}
use Rattle.game.specs.Derives.{Settles}
use Rattle.game.proofs.StrataOnce.{one_answer_at_most}
use Rattle.game.proofs.StrataSettled.{Settling, New, settled_answer, settled_headed_answer, answer_allows, settled_width}
use Rattle.closure.specs.Rows.{minus}
use Rattle.closure.proofs.Marks.{in_minus, minus_in, length-minus}
use Rattle.programs.specs.Limits.{all_below, fits}
use Rattle.solving.specs.Judged.{Judged, OneAnswer}
use Rattle.solving.specs.Levels.{level_in, leveled}
use Rattle.solving.specs.Tests.{violated}
use Rattle.solving.proofs.Leveling.{leveled_fits, low_at}
use Rattle.solving.proofs.Testing.{program_heads, violated_allowed, allowed_violated}

-- the settled set of a program whose levels fit
module _ (n : ℕ) (rules : List Rule) (levels : List ℕ) (given s : Row) (kept : fits n rules ≡ true) (fit : leveled levels rules ≡ true) (low : all_below n levels ≡ true) (wide : length levels ≡ n) (given_wide : length given ≡ n) (settles : Settles n rules (level_in levels) 0 n given s) where
  settling : Settling n rules (level_in levels) n given s
  settling = record {
    leveled = leveled_fits levels rules fit;
    below = program_heads n rules kept;
    low = λ a head. low_at n levels low a (program_heads n rules kept a head) wide;
    width = given_wide;
    settles = settles;
  }

  -- what is settled and not given
  new : New given s (minus s given)
  new a = (in_minus s given a, λ (marked, ungiven). minus_in s given a marked ungiven)

  new_wide : length (minus s given) ≡ n
  new_wide = length-minus s given ∙ settled_width settling

  pub judged : (b : Bool) → b ≡ violated rules s → Judged rules given (not b)
  judged b e = record {
    has = λ ok. (minus s given, settled_answer settling (minus s given) new_wide new (violated_allowed rules s (sym e ∙ not-true b ok)));
    every = λ j ans. not_from_false b (e ∙ allowed_violated rules s (answer_allows settling j ans));
  }

  pub one_answer : OneAnswer rules given (minus s given)
  one_answer =
      let answer = settled_headed_answer settling (minus s given) new_wide new in
      record {
        answer = answer;
        only = λ apart y ans. one_answer_at_most rules (level_in levels) given y (minus s given) (leveled_fits levels rules fit) apart ans answer;
      }
