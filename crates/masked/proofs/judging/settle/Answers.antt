use Rattle.std.proofs.Common.{◌≡◌, suc, ◌+◌, ◌-◌, false, get_or, sym, ap, ◌∙◌, subst, arith}
use Rattle.game.specs.Derives.{SmallestClosed, Settles, settled, settle, derives_at}
use Rattle.closure.specs.Bits.{bit_row, length-bit_row}
use Rattle.closure.specs.declared.row.Row as code
use Rattle.programs.specs.Programs.{rules_of}
use Rattle.solving.specs.Levels.{level_in}
use Rattle.solving.proofs.Leveling.{idle_level}
use Rattle.masked.proofs.judging.settle.Goals as goal
use Rattle.masked.proofs.judging.settle.Goals.{then-at, else-at}

pub loop-level-init : goal.loop-level-init
loop-level-init c u rest = rest

pub loop-level-preserved : goal.loop-level-preserved
loop-level-preserved c u rest =
    let st = c.args.stratified.now in
    let rules = rules_of st.program in
    let level = level_in st.levels.of in
    let l = c.loop-level.level in
    let s = bit_row c.loop-level.set.bits in
    let t = bit_row c.if-at.set.bits in
    let here : SmallestClosed 96 (derives_at rules level l s) s t =
    elim c.if-at.branch [
      | then-at w ↦ subst (SmallestClosed 96 (derives_at rules level l s) s) (sym (ap (λ r. bit_row r.bits) w.set-is)) w.settle_level-set.ensures
      | else-at w ↦
          subst (SmallestClosed 96 (derives_at rules level l s) s) (sym (ap (λ r. bit_row r.bits) w.set-is))
          (idle_level 96 rules st.levels.of l s st.used.marks (length-bit_row c.loop-level.set.bits) st.all_used
          (sym (ap (λ (r : code.Row 96). get_or r.marks l false) c.used.ensures) ∙ sym c.at.ensures ∙ w.if-at.false))
    ] in
    let next : l + 1 ≡ suc l = omega arith in
    let one : suc (96 - (l + 1)) ≡ 96 - l = omega (arith, c.loop-level-test.true) in
    c.loop-level.invariant u (subst (λ k. Settles 96 rules level l k s u) one (settle t here (subst (λ k. Settles 96 rules level k (96 - (l + 1)) t u) next rest)))

pub returns : goal.returns
returns c =
    let st = c.args.stratified.now in
    let s = bit_row c.loop-level.set.bits in
    let done : 0 ≡ 96 - c.loop-level.level = omega (arith, c.loop-level-test.false) in
    c.loop-level.invariant s (subst (λ k. Settles 96 (rules_of st.program) (level_in st.levels.of) c.loop-level.level k s s) done settled)
