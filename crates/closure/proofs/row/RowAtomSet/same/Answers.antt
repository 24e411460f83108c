use Rattle.closure.proofs.Marks.{told_same}
use Rattle.closure.proofs.row.RowAtomSet.same.Goals as goal

pub returns : goal.returns
returns g c = told_same c.args.self.now.marks c.args.other.now.marks _ c.eq.ensures
