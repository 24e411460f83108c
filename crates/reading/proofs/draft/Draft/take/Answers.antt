use Rattle.std.proofs.Common.{sym, subst, inr}
use Rattle.reading.specs.Tokens.{word_of}
use Rattle.reading.specs.States.{state_of, Took}
use Rattle.reading.proofs.Stepping.{step_misplaced, step_crowded, step_overfull, step_taken}
use Rattle.reading.proofs.draft.Draft.take.Goals as goal

pub returns-in_default : goal.returns-in_default
returns-in_default c = inr (step_misplaced _ _ (state_of c.args.self.now) (word_of c.args.spot.token) (sym c.in_default.ensures))

pub returns-then-crowds : goal.returns-then-crowds
returns-then-crowds c = inr (step_crowded _ _ (state_of c.args.self.now) (word_of c.args.spot.token) c.in-Some.next (sym c.in-Some.ensures) (sym c.if-crowds.ensures))

pub returns-then-overfills : goal.returns-then-overfills
returns-then-overfills c = inr (step_overfull _ _ (state_of c.args.self.now) (word_of c.args.spot.token) c.in-Some.next (sym c.in-Some.ensures) (sym c.if-crowds.ensures) (sym c.if-overfills.ensures))

pub returns : goal.returns
returns c =
    let way = step_taken c.args.text c.args.spot.at (state_of c.args.self.now) (word_of c.args.spot.token) c.in-Some.next (sym c.in-Some.ensures) (sym c.if-crowds.ensures) (sym c.if-overfills.ensures) in
    subst (λ want. Took want (state_of c.accept.new.self) c.accept.result) (sym way) c.accept.ensures
