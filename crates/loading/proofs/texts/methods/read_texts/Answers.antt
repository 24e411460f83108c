use Rattle.std.proofs.Common.{◌≤◌, length, Err}
use Rattle.std.proofs.lemmas.Result.{err_from_is_err_and}
use Rattle.refusals.specs.declared.fault.Text.TheVariants.{Plan, Faults, Site}
use Rattle.reading.specs.Loads.{ThreeRead}
use Rattle.reading.specs.Steps.{TextRead}
use Rattle.reading.specs.Tables.{standings_of}
use Rattle.loading.proofs.Threes.{Chain, told, plan_length, plan_fails, faults_fails, site_fails, all_gives, plan_below, faults_below, site_below}
use Rattle.loading.proofs.texts.methods.read_texts.Goals as goal

pub returns-in_err-plan : goal.returns-in_err-plan
returns-in_err-plan c =
    let e = err_from_is_err_and c.from_residual.result c.from_residual.ensures.1 in
    let p = c.args.sources.plan.now in
    let f = c.args.sources.faults.now in
    let s = c.args.sources.site.now in
    rw e.1 (told (length p ≤ 16384) (length p ≤ 16384) (λ x. TextRead Plan p (standings_of c.new-atoms.result) (Err x)) (λ x. ThreeRead p f s (Err x)) e.0 _ e.2 c.in_err-plan.ensures (λ short. short) (plan_fails p f s (standings_of c.new-atoms.result) c.new-atoms.ensures))

pub returns-in_err-faults : goal.returns-in_err-faults
returns-in_err-faults c =
    let e = err_from_is_err_and c.from_residual-in_err-faults.result c.from_residual-in_err-faults.ensures.1 in
    let p = c.args.sources.plan.now in
    let f = c.args.sources.faults.now in
    let s = c.args.sources.site.now in
    rw e.1 (told (length f ≤ 16384) (length p ≤ 16384) (λ x. TextRead Faults f (standings_of c.in_ok-plan.atoms) (Err x)) (λ x. ThreeRead p f s (Err x)) e.0 _ e.2 c.in_err-faults.ensures (λ _. plan_length p c.in_ok-plan.plan c.in_ok-plan.atoms (record { none = standings_of c.new-atoms.result; empty = c.new-atoms.ensures; ran = c.in_ok-plan.ensures })) (faults_fails p f s c.in_ok-plan.plan c.in_ok-plan.atoms (record { none = standings_of c.new-atoms.result; empty = c.new-atoms.ensures; ran = c.in_ok-plan.ensures })))

pub returns-in_err-site : goal.returns-in_err-site
returns-in_err-site c =
    let e = err_from_is_err_and c.from_residual-in_err-site.result c.from_residual-in_err-site.ensures.1 in
    let p = c.args.sources.plan.now in
    let f = c.args.sources.faults.now in
    let s = c.args.sources.site.now in
    rw e.1 (told (length s ≤ 16384) (length p ≤ 16384) (λ x. TextRead Site s (standings_of c.in_ok-faults.atoms) (Err x)) (λ x. ThreeRead p f s (Err x)) e.0 _ e.2 c.in_err-site.ensures (λ _. plan_length p c.in_ok-plan.plan c.in_ok-plan.atoms (record { none = standings_of c.new-atoms.result; empty = c.new-atoms.ensures; ran = c.in_ok-plan.ensures })) (site_fails p f s c.in_ok-plan.plan c.in_ok-plan.atoms (record { none = standings_of c.new-atoms.result; empty = c.new-atoms.ensures; ran = c.in_ok-plan.ensures }) c.in_ok-faults.faults c.in_ok-faults.atoms c.in_ok-faults.ensures))

pub invariant_of-result : goal.invariant_of-result
invariant_of-result c =
    let chain : Chain c.args.sources.plan.now c.args.sources.faults.now c.args.sources.site.now c.in_ok-plan.plan c.in_ok-plan.atoms c.in_ok-faults.faults c.in_ok-faults.atoms c.in_ok-site.site c.in_ok-site.atoms =
    record { plan = record { none = standings_of c.new-atoms.result; empty = c.new-atoms.ensures; ran = c.in_ok-plan.ensures }; faults = c.in_ok-faults.ensures; site = c.in_ok-site.ensures } in
    record { plan_below = plan_below chain; faults_below = faults_below chain; site_below = site_below chain }

pub returns : goal.returns
returns c =
    let chain : Chain c.args.sources.plan.now c.args.sources.faults.now c.args.sources.site.now c.in_ok-plan.plan c.in_ok-plan.atoms c.in_ok-faults.faults c.in_ok-faults.atoms c.in_ok-site.site c.in_ok-site.atoms =
    record { plan = record { none = standings_of c.new-atoms.result; empty = c.new-atoms.ensures; ran = c.in_ok-plan.ensures }; faults = c.in_ok-faults.ensures; site = c.in_ok-site.ensures } in
    all_gives chain
