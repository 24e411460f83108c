use Rattle.std.proofs.Common.{◌≡◌, ◌+◌, ◌-◌, get_or, set, sym, ap, ◌∙◌, subst, ⊎_elim, arith, length-set}
use Rattle.std.proofs.lemmas.List.{get_or-set_same, get_or-set_other}
use Rattle.std.proofs.lemmas.Bool.{cases_eq}
use Rattle.closure.specs.Rows.{marked}
use Rattle.closure.proofs.Marks.{marked_length}
use Rattle.programs.specs.Programs.{rules_of}
use Rattle.solving.specs.Reached.{Reached}
use Rattle.solving.proofs.levels.rank.Goals as goal

pub overflow_sub-level : goal.overflow_sub-level
overflow_sub-level g c = omega (arith, c.count.ensures, marked_length)

pub loop-atom-preserved : goal.loop-atom-preserved
loop-atom-preserved g c =
    let s = c.reach-reached.result.marks in
    let i = c.loop-atom.atom in
    let of = c.loop-atom.level-items in
    let v = g.row.N - c.count.result in (
      length-set of i v ∙ c.loop-atom.invariant.0,
      λ a less.
          ⊎_elim
          (λ same.
          let value : get_or (set of i v) a 0 ≡ v = ap (λ k. get_or (set of i v) k 0) same ∙ get_or-set_same of i v 0 (omega (arith, c.loop-atom.invariant.0, c.loop-atom-test.true)) in
          (s, subst (λ k. Reached (rules_of c.args.program.now) k s) (sym same) c.reach-reached.ensures, c.reach-reached.result.wide, omega (arith, value, c.count.ensures, marked_length s, c.reach-reached.result.wide)))
          (λ other. let old = c.loop-atom.invariant.1 a (omega arith) in (old.0, old.1, old.2, ap (λ l. l + marked old.0) (get_or-set_other of i a v 0 other) ∙ old.3)) (cases_eq a i),
    )
