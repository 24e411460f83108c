use Rattle.std.proofs.Common.{◌≡◌, suc, ◌+◌, ◌-◌, sym, ap, ◌∙◌, subst, arith}
use Rattle.game.specs.Derives.{SmallestClosed, Settles, settled, settle, derives_at}
use Rattle.programs.specs.Programs.{rules_of}
use Rattle.solving.specs.Levels.{level_in}
use Rattle.solving.proofs.Leveling.{idle_level}
use Rattle.solving.proofs.stratified.Stratified.settle.Goals as goal
use Rattle.solving.proofs.stratified.Stratified.settle.Goals.{then-at, else-at}

pub loop-level-preserved : goal.loop-level-preserved
loop-level-preserved g c u rest =
    let n = g.row.N in
    let self = c.args.self.now in
    let rules = rules_of self.program in
    let level = level_in self.levels.of in
    let l = c.loop-level.level in
    let s = c.loop-level.set.marks in
    let t = c.if-at.set.marks in
    let here : SmallestClosed n (derives_at rules level l s) s t =
    elim c.if-at.branch [
      | then-at w ↦ subst (SmallestClosed n (derives_at rules level l s) s) (sym (ap (λ r. r.marks) w.set-is)) w.settle_level-set.ensures
      | else-at w ↦ subst (SmallestClosed n (derives_at rules level l s) s) (sym (ap (λ r. r.marks) w.set-is)) (idle_level n rules self.levels.of l s self.used.marks c.loop-level.set.wide self.all_used (sym c.at.ensures ∙ w.if-at.false))
    ] in
    let next : l + 1 ≡ suc l = omega arith in
    let one : suc (n - (l + 1)) ≡ n - l = omega (arith, c.loop-level-test.true) in
    c.loop-level.invariant u (subst (λ k. Settles n rules level l k s u) one (settle t here (subst (λ k. Settles n rules level k (n - (l + 1)) t u) next rest)))

pub returns : goal.returns
returns g c =
    let n = g.row.N in
    let s = c.loop-level.set.marks in
    let done : 0 ≡ n - c.loop-level.level = omega (arith, c.loop-level-test.false) in
    c.loop-level.invariant s (subst (λ k. Settles n (rules_of c.args.self.now.program) (level_in c.args.self.now.levels.of) c.loop-level.level k s s) done settled)
