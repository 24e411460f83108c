use Rattle.closure.proofs.Marks.{minus_from}
use Rattle.closure.proofs.row.Row.minus.Goals as goal

pub returns : goal.returns
returns g c = minus_from g.row.N _ _ _ c.laid.result.wide c.args.self.now.wide c.laid.ensures
