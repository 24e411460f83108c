use Rattle.std.proofs.Common.{refl}
use Rattle.closure.proofs.Existing.{settled, closure_of}
use Rattle.solving.proofs.Deciding.{reached_from, first_break}
use Rattle.reading.specs.Lexical.{lexed}
use Rattle.reading.specs.Steps.{step}
use Rattle.grammar.proofs.Reading.{read_of}
use Rattle.grammar.proofs.Outcomes.{loaded}
use Rattle.examples.proofs.examples_hold.Goals as goal
use Rattle.examples.proofs.Answering.{is_answer}
use Rattle.examples.proofs.Playing.{ended}
use Rattle.examples.proofs.Checking.{all_checked, checked_hold}

-- the test of the contract's examples computes to true
pub returns : goal.returns
unfolding settled closure_of reached_from first_break lexed step read_of loaded is_answer ended all_checked
returns c = checked_hold _ refl
