use Rattle.std.proofs.Common.{◌≡◌, ◌-◌, true, false, refl, get_or, rules, tests}
use Rattle.std.proofs.lemmas.Iterator.{YieldsList-from_range, cases_from_all}
use Rattle.report.proofs.Marking.{below}
use Rattle.report.proofs.known.marks_below.Goals as goal

pub returns : goal.returns
returns c =
    let marks = c.args.row.now.marks in
    let n = c.args.number in
    below marks n c.args.row.now.wide c.all.result (cases_from_all c.all.new.self _ c.all.result (λ i. get_or marks i false ≡ false) (λ i. get_or marks i false ≡ true) c.all.ensures.ran (YieldsList-from_range n 96 (96 - n) refl refl) (λ x q k. search (rules, tests)) (λ x q k. search (rules, tests)))
