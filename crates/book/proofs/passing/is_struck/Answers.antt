use Rattle.std.proofs.Common.{◌≡◌, Decides, sym, refl, subst}
use Rattle.std.proofs.Math.Bool.{beq}
use Rattle.std.specs.Cmp.Lexicographic.{pointwise}
use Rattle.std.specs.List.{ContainsAt as Has}
use Rattle.closure.specs.declared.row.Row as code
use Rattle.closure.proofs.Marks.{told_same}
use Rattle.game.specs.Sets.{Row}
use Rattle.book.specs.Models.{rows}
use Rattle.book.proofs.Scanning.{any_decides}
use Rattle.book.proofs.passing.is_struck.Goals as goal

pub returns : goal.returns
returns c =
    let plan = c.args.plan.now.marks in
    let struck = c.args.struck.now in
    let found : Decides c.contains.result ((y : Row) × Has (rows struck) y × (y ≡ plan)) =
    subst (λ b. Decides b ((y : Row) × Has (rows struck) y × (y ≡ plan))) (sym c.contains.ensures.value)
    (any_decides (λ (r : code.Row 96). r.marks) (λ y. y ≡ plan) (λ r. pointwise beq r.marks plan) (λ r. told_same r.marks plan _ refl) struck) in
    (λ e. let (y, has, same) = found.0 e in subst (Has (rows struck)) same has, λ has. found.1 (plan, has, refl))
