use Rattle.std.proofs.Common.{◌≡◌, true, length, vec_items, sym, ap, subst, ◌∙◌, arith}
use lib.ListN.{length-map}
use Rattle.std.proofs.lemmas.Bool.{le-leb, lt-leb, and_left, and_from}
use Rattle.programs.specs.Limits.{all_fit}
use Rattle.programs.specs.Masked.{AsMasks}
use Rattle.programs.specs.Model.{model, models}
use Rattle.programs.proofs.program.Program.new.Goals as goal

pub returns-then-len-gt256 : goal.returns-then-len-gt256
returns-then-len-gt256 g c = and_left _ _ (lt-leb (length (models (vec_items c.args.rules))) 256 (omega (arith, length-map (vec_items c.args.rules) model, c.args.rules.ok.0)))

pub invariant_of-result : goal.invariant_of-result
invariant_of-result g c =
    let few = le-leb (length (models (vec_items c.args.rules))) 256 (omega (arith, length-map (vec_items c.args.rules) model, c.args.rules.ok.0)) in
    let all : all_fit g.row.N (models (vec_items c.args.rules)) ≡ true = ap (λ rs. all_fit g.row.N (models rs)) (sym c.as_slice.ensures.value) ∙ sym c.if-not-all_fit.ensures in
    record { kept = and_from _ _ few all; same = subst (λ rs. AsMasks (models rs) c.of-masks.result.rules c.of-masks.result.count c.of-masks.result.heads) c.as_slice-2.ensures.value c.of-masks.ensures }
