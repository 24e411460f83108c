use Rattle.std.proofs.Common.{◌≡◌, ◌-◌, length, Result}
use Rattle.refusals.specs.declared.fault.Fault.{Fault}
use Rattle.reading.specs.Steps.{State, Reads}
use Rattle.reading.specs.States.{state_of}
use Rattle.reading.specs.Within.{Within}
use Rattle.reading.proofs.text.read_text.Given as goal

-- reading on from here comes to what reading from the start comes to
abbrev pub invariant-loop-draft : goal.invariant-loop-draft
invariant-loop-draft l =
    (l.lexer.text ≡ l.text) × (l.lexer.bytes.now ≡ l.bytes) × Within (state_of l.draft)
    × ((r : Result State Fault) → Reads l.text l.bytes l.lexer.at (state_of l.draft) r → Reads l.text l.bytes 0 (state_of l.initial.draft) r)

abbrev pub decreases-loop-draft : goal.decreases-loop-draft
decreases-loop-draft l = length l.bytes - l.lexer.at
