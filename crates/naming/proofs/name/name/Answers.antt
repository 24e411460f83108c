use Rattle.std.proofs.Common.{refl, ap, ◌∙◌, inr}
use Rattle.loading.specs.Read.{three_of}
use Rattle.reading.specs.Tables.{standings}
use Rattle.naming.proofs.Naming.{beyond, names}
use Rattle.naming.proofs.name.name.Goals as goal

pub returns-then-number-entries : goal.returns-then-number-entries
returns-then-number-entries c =
    let same = ap standings c.entries-entries.ensures ∙ c.atoms.ensures in
    inr (refl, beyond c.args.sources.plan.now c.args.sources.faults.now c.args.sources.site.now (three_of c.in_ok-texts.texts) c.in_ok-texts.ensures c.entries-entries.result.now same c.args.number c.if-number-entries.true)

pub returns : goal.returns
returns c =
    let same = ap standings c.entries-entries.ensures ∙ c.atoms.ensures in
    (_, names c.args.sources.plan.now c.args.sources.faults.now c.args.sources.site.now (three_of c.in_ok-texts.texts) c.in_ok-texts.ensures c.entries-entries.result.now same c.args.number _ c.if-number-entries.false)
