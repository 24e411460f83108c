use Rattle.closure.proofs.Marks.{union_from}
use Rattle.closure.proofs.row.Row.union.Goals as goal

pub returns : goal.returns
returns g c = union_from g.row.N _ _ _ c.laid.result.wide c.args.self.now.wide c.args.other.now.wide c.laid.ensures
