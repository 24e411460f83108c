use Rattle.std.proofs.Common.{◌≡◌, ◌<◌, ◌≤◌, length, sym, ◌∙◌, subst, arith}
use Rattle.std.proofs.lemmas.Bool.{false≢true}
use Rattle.game.specs.Sets.{Row}
use Rattle.closure.specs.Rows.{marked}
use Rattle.closure.specs.Steps.{Marked, still, round}
use Rattle.closure.proofs.Marks.{marked_length, more_marked}
use Rattle.closure.proofs.Rounding.{marked_keeps, rounds_smallest}
use Rattle.closure.proofs.closing.closure.Goals as goal

pub loop-next-init : goal.loop-next-init
loop-next-init g c = still

pub returns-then-same : goal.returns-then-same
returns-then-same g c =
    let n = g.row.N in
    let f = g.S.Step.follows c.args.step.now in
    let marks = g.T.AtomSet.marks in
    let start = c.args.start.now in
    let set = c.loop-next.set in
    let next = c.mark.new.out in
    let again : Marked n (f (marks set)) (marks set) (marks set) =
    subst (λ (u : Row). Marked n (f (marks set)) (marks set) u) (c.same.ensures.0 c.if-same.true) c.mark.ensures in
    record {
      smallest = rounds_smallest n f (marks start) (marks set) (g.met.T.AtomSet.wide start) (g.S.Step.laws.grows c.args.step.now) c.loop-next.invariant again;
      rounds = c.loop-next.invariant;
    }

pub loop-next-smaller : goal.loop-next-smaller
loop-next-smaller g c =
    let n = g.row.N in
    let marks = g.T.AtomSet.marks in
    let set = marks c.loop-next.set in
    let next = marks c.mark.new.out in
    let wide : length set ≡ n = g.met.T.AtomSet.wide c.loop-next.set in
    let wider : length next ≡ n = c.mark.ensures.width in
    let more : marked set < marked next =
    more_marked set next (wide ∙ sym wider) (marked_keeps n (g.S.Step.follows c.args.step.now set) set next wide c.mark.ensures)
    (λ e. false≢true (sym c.if-same.false ∙ c.same.ensures.1 (sym e))) in
    let most : marked next ≤ length next = marked_length next in
    omega (arith, more, most, wider)

pub loop-next-preserved : goal.loop-next-preserved
loop-next-preserved g c = round c.loop-next.invariant (g.T.AtomSet.marks c.mark.new.out) c.mark.ensures
