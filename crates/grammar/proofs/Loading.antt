-- Three texts: what loads is allowed, and what is allowed loads.
use Rattle.std.proofs.Common.{ℕ, ◌≤◌, List, [], ◌++◌, length, Ok, sym, subst, append-nil, arith}
use Rattle.std.proofs.lemmas.List.{length-map}
use Rattle.game.specs.Sides.{Side}
use Rattle.game.specs.Strata.{Stratified}
use Rattle.refusals.specs.declared.fault.Text.TheVariants.{Plan, Faults, Site}
use Rattle.reading.specs.Steps.{State, TextRead}
use Rattle.reading.specs.Loads.{Three, three, all_read, Loads, loads}
use Rattle.grammar.specs.Grammar.{names, with_names}
use Rattle.grammar.specs.Accepted.{table}
use Rattle.grammar.specs.Loaded.{Sources, all_names, Allowed, Meant}
use Rattle.grammar.proofs.Told.{within, grows, one_read, one_spelled}
use Rattle.grammar.proofs.Turns.{Turns, after_site, meant, unshared}

turns_read : (p f s : List ℕ) (d d' d'' : State) → TextRead Plan p [] (Ok d) → TextRead Faults f d.atoms (Ok d') → TextRead Site s d'.atoms (Ok d'') → (w : Sources) × Turns p f s w d d' d''
turns_read p f s d d' d'' x y z =
    let (plan, first) = one_read Plan p [] d (omega arith) x in
    let (faults, second) = one_read Faults f d.atoms d' (within first).atoms y in
    let (site, third) = one_read Site s d'.atoms d'' (within second).atoms z in
    (record { plan = plan; faults = faults; site = site }, record { plan = first; faults = second; site = third })

turns_allowed : {n : ℕ} {p f s : List ℕ} {w : Sources} → Allowed n p f s w → (d d' d'' : State) × Turns p f s w d d' d''
turns_allowed {p = p} {f} {s} {w} h =
    let later = names w.faults ++ names w.site in
    let (d, first) = one_spelled Plan p [] w.plan later h.plan h.few in
    let few : length (with_names (table d.atoms) later) ≤ 96 = rw (← grows first later) h.few in
    let (d', second) = one_spelled Faults f d.atoms w.faults (names w.site) h.faults few in
    let (d'', third) = one_spelled Site s d'.atoms w.site [] h.site (rw (append-nil, ← grows second (names w.site)) few) in
    (d, d', d'', record { plan = first; faults = second; site = third })

pub loaded_is_allowed : (n : ℕ) (p f s : List ℕ) (x : Side) (t : Three) → Loads n p f s (Ok (x, t)) → (w : Sources) × Allowed n p f s w × Meant w t
loaded_is_allowed n p f s y u (loads x t e (all_read d d' d'' a b c) free even) =
    let (w, o) = turns_read p f s d d' d'' a b c in
    let apart = (unshared o).0 free in
    let few : length (all_names w) ≤ 96 = rw (← after_site o) (simp length-map (within o.site).atoms) in
    (w, record { side = (x, e); plan = o.plan.spelled; faults = o.faults.spelled; site = o.site.spelled; few = few; fault_heads = apart.0; site_heads = apart.1; strata = subst Stratified (meant o).site even }, meant o)

pub allowed_is_loaded : (n : ℕ) (p f s : List ℕ) (w : Sources) → Allowed n p f s w → (x : Side) × (t : Three) × Loads n p f s (Ok (x, t)) × Meant w t
allowed_is_loaded n p f s w h =
    let (x, e) = h.side in
    let (d, d', d'', o) = turns_allowed h in
    (x, three d d' d'', loads x (three d d' d'') e (all_read d d' d'' o.plan.read o.faults.read o.site.read) ((unshared o).1 (h.fault_heads, h.site_heads)) (subst Stratified (sym (meant o).site) h.strata), meant o)
