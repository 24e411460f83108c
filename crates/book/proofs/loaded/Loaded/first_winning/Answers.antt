use Rattle.std.proofs.Common.{true, false, [], ◌∷◌, vec_items, sym, ap, ◌∙◌, subst}
use Rattle.game.specs.Sets.{Row}
use Rattle.game.specs.Game.{nothing}
use Rattle.game.proofs.Listing.{lists_differ}
use Rattle.finders.specs.Meanings.{Listed, Rest, Taken}
use Rattle.finders.proofs.Resting.{entry_listed}
use Rattle.programs.specs.Programs.{rules_of}
use Rattle.book.specs.Models.{texts_from, on_from, rows, pairs}
use Rattle.runs.specs.Book.{noted}
use Rattle.book.specs.Passing.{Passed}
use Rattle.book.proofs.Asking.{asked_out, passes, notes, wins, fewer}
use Rattle.book.proofs.loaded.Loaded.first_winning.Goals as goal

pub following-requires : goal.following-requires
following-requires g c =
    let m = g.F.Finder.meaning c.args.finder.now in
    let plans = rules_of c.args.self.now.plan in
    (subst (λ (n : Row). Taken 96 m.most plans n) (sym c.clear-nothing.ensures) c.requires.0.plans, subst (λ (n : Row). Listed (m.order plans n) (on_from c.loop-plan.earlier)) (sym c.clear-nothing.ensures) c.loop-plan.invariant.0)

pub first_beating-requires : goal.first_beating-requires
first_beating-requires g c =
    let m = g.F.Finder.meaning c.args.finder.now in
    let lists = m.law (rules_of c.args.self.now.plan) nothing c.requires.0.plans in
    let (ys, found) = c.in-Some.ensures in
    let rest = subst (λ (n : Row). Rest (m.order (rules_of c.args.self.now.plan) n) (on_from c.loop-plan.earlier) (c.in-Some.plan.marks ∷ ys)) c.clear-nothing.ensures found in
    c.requires.0.faults _ (lists.only _ (entry_listed _ (lists_differ lists) _ _ ys rest))

pub returns-in-None : goal.returns-in-None
returns-in-None g c =
    let m = g.F.Finder.meaning c.args.finder.now in
    let lists = m.law (rules_of c.args.self.now.plan) nothing c.requires.0.plans in
    let (ys, found) = c.in-Some.ensures in
    let rest = subst (λ (n : Row). Rest (m.order (rules_of c.args.self.now.plan) n) (on_from c.loop-plan.earlier) (c.in-Some.plan.marks ∷ ys)) c.clear-nothing.ensures found in
    let passed = subst (λ ps. Passed (texts_from c.args.self.now) (rows c.args.struck.now) (pairs ps) c.in-Some.plan.marks false) c.as_slice.ensures.value c.if-not-passes_over.ensures in
    (wins _ _ _ _ _ (lists_differ lists) _ _ ys rest _ c.loop-plan.invariant.1 passed.0 passed.1 c.in-None.ensures, c.loop-plan.invariant.2)

pub loop-plan-smaller-in-Some-first_beating : goal.loop-plan-smaller-in-Some-first_beating
loop-plan-smaller-in-Some-first_beating g c =
    let m = g.F.Finder.meaning c.args.finder.now in
    let lists = m.law (rules_of c.args.self.now.plan) nothing c.requires.0.plans in
    let (ys, found) = c.in-Some.ensures in
    let rest = subst (λ (n : Row). Rest (m.order (rules_of c.args.self.now.plan) n) (on_from c.loop-plan.earlier) (c.in-Some.plan.marks ∷ ys)) c.clear-nothing.ensures found in
    fewer _ _ _ _ _ (lists_differ lists) _ _ ys rest _ c.loop-plan.invariant.1

pub loop-plan-preserved-in-Some-first_beating : goal.loop-plan-preserved-in-Some-first_beating
loop-plan-preserved-in-Some-first_beating g c =
    let m = g.F.Finder.meaning c.args.finder.now in
    let lists = m.law (rules_of c.args.self.now.plan) nothing c.requires.0.plans in
    let (ys, found) = c.in-Some.ensures in
    let rest = subst (λ (n : Row). Rest (m.order (rules_of c.args.self.now.plan) n) (on_from c.loop-plan.earlier) (c.in-Some.plan.marks ∷ ys)) c.clear-nothing.ensures found in
    let passed = subst (λ ps. Passed (texts_from c.args.self.now) (rows c.args.struck.now) (pairs ps) c.in-Some.plan.marks false) c.as_slice.ensures.value c.if-not-passes_over.ensures in
    (entry_listed _ (lists_differ lists) _ _ ys rest, notes _ _ _ _ _ (lists_differ lists) _ _ ys rest _ c.loop-plan.invariant.1 passed.0 passed.1 c.in-Some-first_beating.reply.marks c.in-Some-first_beating.ensures _ (c.note.ensures.0 ∙ ap (λ r. noted (pairs (vec_items c.loop-plan.sheet)) (record { plan = c.in-Some.plan.marks; reply = r })) c.of-reply.ensures), c.note.ensures.1 ∙ c.loop-plan.invariant.2)

pub loop-plan-smaller : goal.loop-plan-smaller
loop-plan-smaller g c =
    let m = g.F.Finder.meaning c.args.finder.now in
    let lists = m.law (rules_of c.args.self.now.plan) nothing c.requires.0.plans in
    let (ys, found) = c.in-Some.ensures in
    let rest = subst (λ (n : Row). Rest (m.order (rules_of c.args.self.now.plan) n) (on_from c.loop-plan.earlier) (c.in-Some.plan.marks ∷ ys)) c.clear-nothing.ensures found in
    fewer _ _ _ _ _ (lists_differ lists) _ _ ys rest _ c.loop-plan.invariant.1

pub loop-plan-preserved : goal.loop-plan-preserved
loop-plan-preserved g c =
    let m = g.F.Finder.meaning c.args.finder.now in
    let lists = m.law (rules_of c.args.self.now.plan) nothing c.requires.0.plans in
    let (ys, found) = c.in-Some.ensures in
    let rest = subst (λ (n : Row). Rest (m.order (rules_of c.args.self.now.plan) n) (on_from c.loop-plan.earlier) (c.in-Some.plan.marks ∷ ys)) c.clear-nothing.ensures found in
    let passed = subst (λ ps. Passed (texts_from c.args.self.now) (rows c.args.struck.now) (pairs ps) c.in-Some.plan.marks true) c.as_slice.ensures.value c.if-not-passes_over.ensures in
    (entry_listed _ (lists_differ lists) _ _ ys rest, passes _ _ _ _ _ (lists_differ lists) _ _ ys rest _ c.loop-plan.invariant.1 passed, c.loop-plan.invariant.2)

pub returns : goal.returns
returns g c =
    let m = g.F.Finder.meaning c.args.finder.now in
    let lists = m.law (rules_of c.args.self.now.plan) nothing c.requires.0.plans in
    let rest = subst (λ (n : Row). Rest (m.order (rules_of c.args.self.now.plan) n) (on_from c.loop-plan.earlier) []) c.clear-nothing.ensures c.in_default.ensures in
    (asked_out _ _ _ _ _ _ _ (lists_differ lists) rest c.loop-plan.invariant.1, c.loop-plan.invariant.2)
