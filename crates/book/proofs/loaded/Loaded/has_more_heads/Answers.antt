use Rattle.std.proofs.Common.{◌≡◌, refl, ap, ◌∙◌, inl, inr, ⊎_elim, arith}
use Rattle.std.proofs.lemmas.Bool.{ltb-true, lt-ltb}
use Rattle.game.specs.Rules.{is_head}
use Rattle.closure.specs.Rows.{marked}
use Rattle.finders.specs.Meanings.{heads_below}
use Rattle.closure.proofs.Marks.{row_from}
use Rattle.programs.specs.Programs.{rules_of}
use Rattle.book.proofs.loaded.Loaded.has_more_heads.Goals as goal

pub returns-then-count-most : goal.returns-then-count-most
returns-then-count-most c =
    let rules = rules_of c.args.self.now.plan in
    let count : c.count.result ≡ heads_below 96 rules = c.count.ensures ∙ ap marked (row_from 96 (is_head rules) c.heads.result.marks c.heads.result.wide c.heads.ensures) in
    (λ _. inl (omega (arith, c.if-count-most.true, count)), λ _. refl)

pub returns : goal.returns
returns c =
    let plan = rules_of c.args.self.now.plan in
    let faults = rules_of c.args.self.now.faults in
    let count : c.count.result ≡ heads_below 96 plan = c.count.ensures ∙ ap marked (row_from 96 (is_head plan) c.heads.result.marks c.heads.result.wide c.heads.ensures) in
    let count' : c.count-2.result ≡ heads_below 96 faults = c.count-2.ensures ∙ ap marked (row_from 96 (is_head faults) c.heads-2.result.marks c.heads-2.result.wide c.heads-2.ensures) in
    (λ e. let more = ltb-true c.args.most c.count-2.result e in inr (omega (arith, count')), λ over. lt-ltb c.args.most c.count-2.result (⊎_elim (λ more. absurd (omega (arith, c.if-count-most.false, count))) (λ more. omega (arith, count')) over))
