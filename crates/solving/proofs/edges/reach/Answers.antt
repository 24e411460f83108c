use Rattle.std.proofs.Common.{true, set, ap, ◌∙◌, subst}
use Rattle.closure.specs.Steps.{Rounds}
use Rattle.game.specs.Derives.{SmallestClosed}
use Rattle.programs.specs.Programs.{rules_of}
use Rattle.solving.specs.Tests.{headed_by, touches}
use Rattle.solving.proofs.Reaching.{reached}
use Rattle.solving.proofs.Testing.{program_heads}
use Rattle.solving.proofs.edges.reach.Goals as goal

pub returns : goal.returns
returns g c =
    let rules = rules_of c.args.program.now in
    let start = c.with.ensures ∙ ap (λ s. set s c.args.atom true) c.clear.ensures in
    reached g.row.N rules (program_heads g.row.N rules c.args.program.now.kept) c.args.atom c.requires c.closure.result.marks
    (subst (λ s. SmallestClosed g.row.N (λ t b. headed_by (touches t) rules b) s c.closure.result.marks) start c.closure.ensures.smallest)
    (subst (λ s. Rounds g.row.N (λ t b. headed_by (touches t) rules b) s c.closure.result.marks) start c.closure.ensures.rounds)
