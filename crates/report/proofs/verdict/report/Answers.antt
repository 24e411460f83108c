use Rattle.std.proofs.Common.{Err, sym, refl, ap, ◌∙◌, subst, inl, inr}
use Rattle.std.proofs.lemmas.Result.{err_from_is_err_and}
use Rattle.loading.specs.Read.{three_of, ThreeGives}
use Rattle.reading.specs.Tables.{standings}
use Rattle.report.proofs.Reporting.{strange, starved, reported}
use Rattle.report.proofs.verdict.report.Goals as goal

pub returns-then-not-is_known : goal.returns-then-not-is_known
returns-then-not-is_known c =
    let same = ap standings c.entries-atoms.ensures ∙ c.atoms.ensures in
    (refl, inr (inl (refl, strange c.args.sources.plan.now c.args.sources.faults.now c.args.sources.site.now (three_of c.in_ok-texts.texts) c.in_ok-texts.ensures c.entries-atoms.result.now same c.args.shown c.is_known.result c.is_known.ensures c.if-not-is_known.true)))

pub returns-in_err-lines : goal.returns-in_err-lines
returns-in_err-lines c =
    let e = err_from_is_err_and c.from_residual-in_err-lines.result c.from_residual-in_err-lines.ensures.1 in
    let none = starved c.args.sources.plan.now c.args.sources.faults.now c.args.sources.site.now (three_of c.in_ok-texts.texts) c.in_ok-texts.ensures in
    rw e.1 (refl, inl (subst (λ x. ThreeGives c.args.sources.plan.now c.args.sources.faults.now c.args.sources.site.now (Err x)) (sym (e.2 ∙ c.in_err-lines.ensures)) none))

pub returns : goal.returns
returns c =
    let same = ap standings c.entries-atoms.ensures ∙ c.atoms.ensures in
    let bytes = c.as_slice.ensures.value ∙ c.in_ok-lines.ensures in
    reported c.args.sources.plan.now c.args.sources.faults.now c.args.sources.site.now (three_of c.in_ok-texts.texts) c.in_ok-texts.ensures c.entries-atoms.result.now same c.args.shown c.args.coherent (c.is_known.ensures.0 c.if-not-is_known.false) c.as_slice.result.now c.args.buffer.now c.write_whole.new.out bytes c.write_whole.result c.write_whole.ensures
