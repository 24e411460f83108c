use Rattle.std.proofs.Common.{⊎_elim}
use Rattle.desk_book.specs.Loaded.{bytes_of}
use Rattle.desk_book.proofs.Readings.{given_unrefused}
use Rattle.desk_book.proofs.names.named.Goals as goal

pub unreachable-requires : goal.unreachable-requires
unreachable-requires c =
    let lent = c.lent.result in
    let (plan, faults, site) = c.lent.ensures in
    ⊎_elim (λ starved. c.in_default.not-NoMemory starved.0) (given_unrefused (bytes_of c.args.texts.now) lent.plan.now lent.faults.now lent.site.now c.in-Err.fault plan faults site c.requires) c.in-Err.ensures
