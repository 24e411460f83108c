use Rattle.std.proofs.Common.{◌≡◌, ◌≤◌, length, Ok, Err, sym, ◌∙◌, subst, inr}
use Rattle.game.specs.Sides.{Side, side_number}
use Rattle.std.proofs.lemmas.Result.{err_from_is_err_and}
use Rattle.reading.specs.Loads.{ThreeRead, Loads, wrong_side, unread, head_refused, strata_refused, loads}
use Rattle.loading.specs.Sided.{side_of}
use Rattle.loading.specs.Read.{three_of}
use Rattle.loading.proofs.Exactly.{both}
use Rattle.loading.proofs.Threes.{told}
use Rattle.loading.proofs.games.read_game.Goals as goal

pub returns-in_err-side : goal.returns-in_err-side
returns-in_err-side c =
    let e = err_from_is_err_and c.from_residual.result c.from_residual.ensures.1 in
    let p = c.args.sources.plan.now in
    let f = c.args.sources.faults.now in
    let s = c.args.sources.site.now in
    let why = c.in_err-side.ensures in
    both c.args.side p f s c.from_residual.result (rw e.1 (inr (subst (λ x. Loads c.args.side p f s (Err x)) (sym (e.2 ∙ why.0)) (wrong_side why.1))))

pub returns-in_err-texts : goal.returns-in_err-texts
returns-in_err-texts c =
    let e = err_from_is_err_and c.from_residual-in_err-texts.result c.from_residual-in_err-texts.ensures.1 in
    let p = c.args.sources.plan.now in
    let f = c.args.sources.faults.now in
    let s = c.args.sources.site.now in
    both c.args.side p f s c.from_residual-in_err-texts.result
    (rw e.1 (told (length p ≤ 16384) (((x : Side) × (side_number x ≡ c.args.side)) × (length p ≤ 16384)) (λ x. ThreeRead p f s (Err x)) (λ x. Loads c.args.side p f s (Err x)) e.0 _ e.2 c.in_err-texts.ensures (λ short. ((side_of c.in_ok-side.side, c.in_ok-side.ensures), short)) (λ x h. unread (side_of c.in_ok-side.side) c.in_ok-side.ensures h)))

pub returns-in_err-heads_apart : goal.returns-in_err-heads_apart
returns-in_err-heads_apart c =
    let e = err_from_is_err_and c.from_residual-in_err-heads_apart.result c.from_residual-in_err-heads_apart.ensures.1 in
    let p = c.args.sources.plan.now in
    let f = c.args.sources.faults.now in
    let s = c.args.sources.site.now in
    let refused = head_refused (side_of c.in_ok-side.side) (three_of c.in_ok-texts.texts) c.in_ok-side.ensures c.in_ok-texts.ensures c.in_err-heads_apart.ensures in
    both c.args.side p f s c.from_residual-in_err-heads_apart.result (rw e.1 (inr (subst (λ x. Loads c.args.side p f s (Err x)) (sym e.2) refused)))

pub returns-in_err-strata_kept : goal.returns-in_err-strata_kept
returns-in_err-strata_kept c =
    let e = err_from_is_err_and c.from_residual-in_err-strata_kept.result c.from_residual-in_err-strata_kept.ensures.1 in
    let p = c.args.sources.plan.now in
    let f = c.args.sources.faults.now in
    let s = c.args.sources.site.now in
    let (i, first, place) = c.in_err-strata_kept.ensures in
    let refused = strata_refused (side_of c.in_ok-side.side) (three_of c.in_ok-texts.texts) i c.in_ok-side.ensures c.in_ok-texts.ensures c.in_ok-heads_apart.ensures first in
    both c.args.side p f s c.from_residual-in_err-strata_kept.result (rw e.1 (inr (subst (λ x. Loads c.args.side p f s (Err x)) (sym (e.2 ∙ place)) refused)))

pub returns : goal.returns
returns c =
    both c.args.side c.args.sources.plan.now c.args.sources.faults.now c.args.sources.site.now (Ok (record { side = c.in_ok-side.side; texts = c.in_ok-texts.texts }))
    (loads (side_of c.in_ok-side.side) (three_of c.in_ok-texts.texts) c.in_ok-side.ensures c.in_ok-texts.ensures c.in_ok-heads_apart.ensures c.in_ok-strata_kept.ensures)
