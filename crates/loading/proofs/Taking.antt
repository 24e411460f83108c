-- Where heads stand in earlier texts.
use Rattle.std.proofs.Common.{◌≡◌, ℕ, Bool, true, false, cond, ◌||◌, List, [], ◌∷◌, Some, None, Option, sym, refl, ap, ◌∙◌, MatchOption}
use Rattle.std.proofs.Math.Bool.{or-false}
use Rattle.std.specs.List.{find, zip}
use Rattle.std.specs.Option.{option_map}
use Rattle.std.specs.Borrow.{Bor}
use Rattle.game.specs.Rules.{Rule, stands}
use Rattle.game.proofs.Heads.{stands_append}
use Rattle.programs.specs.declared.program.Program.{Program}
use Rattle.programs.specs.declared.rule.Rule as code
use Rattle.programs.specs.Model.{head_model, models}
use Rattle.programs.specs.Programs.{rules_of}
use Rattle.reading.specs.Loads.{head_in, taken_head}
use Rattle.loading.specs.Earlier.{earlier}

-- an atom stands in the earlier texts where it stands in the plan text or in the fault text
pub in_either : (a : ℕ) (plan : Program 96) (faults : Option (Bor (Program 96))) (b : Bool) → MatchOption faults (b ≡ false) (λ f. b ≡ stands a (rules_of f.now)) → (stands a (rules_of plan) || b) ≡ stands a (earlier plan faults)
in_either a plan None b h = ap (λ x. stands a (rules_of plan) || x) h ∙ or-false (stands a (rules_of plan))
in_either a plan (Some f) b h = ap (λ x. stands a (rules_of plan) || x) h ∙ sym (stands_append a (rules_of plan) (rules_of f.now))

pub in_plan : (a : ℕ) (plan : Program 96) (faults : Option (Bor (Program 96))) → stands a (rules_of plan) ≡ true → true ≡ stands a (earlier plan faults)
in_plan a plan None h = sym h
in_plan a plan (Some f) h = ap (λ x. x || stands a (rules_of f.now)) (sym h) ∙ sym (stands_append a (rules_of plan) (rules_of f.now))

-- the rules with their places, and the first whose head is taken
taken_is_find : (rs : List code.Rule) (ps : List ℕ) (before : List Rule) → option_map (λ (x : code.Rule × ℕ). x.1) (find (λ x. head_in (head_model x.0.head) before) (zip rs ps)) ≡ taken_head (models rs) ps before
taken_is_find [] ps before = refl
taken_is_find (r ∷ rs) [] before = refl
taken_is_find (r ∷ rs) (p ∷ ps) before =
    elim (head_in (head_model r.head) before) as (λ b. option_map (λ (x : code.Rule × ℕ). x.1) (cond b (Some (r, p)) (find (λ (x : code.Rule × ℕ). head_in (head_model x.0.head) before) (zip rs ps))) ≡ cond b (Some p) (taken_head (models rs) ps before)) [
      | true ↦ refl
      | false ↦ taken_is_find rs ps before
    ]

-- the place of the rule that `find` gives is where the first taken head stands
pub place_found : (rules : List code.Rule) (places ps : List ℕ) (rs before : List Rule) (r : Option (Bor code.Rule × Bor ℕ)) → models rules ≡ rs → places ≡ ps → option_map (λ x. (x.0.now, x.1.now)) r ≡ find (λ (x : code.Rule × ℕ). head_in (head_model x.0.head) before) (zip rules places) → option_map (λ x. x.1.now) r ≡ taken_head rs ps before
place_found rules places ps rs before r e f found =
    let place : option_map (λ (x : Bor code.Rule × Bor ℕ). x.1.now) r ≡ option_map (λ (x : code.Rule × ℕ). x.1) (option_map (λ (x : Bor code.Rule × Bor ℕ). (x.0.now, x.1.now)) r) = elim r as (λ o. option_map (λ (x : Bor code.Rule × Bor ℕ). x.1.now) o ≡ option_map (λ (x : code.Rule × ℕ). x.1) (option_map (λ (x : Bor code.Rule × Bor ℕ). (x.0.now, x.1.now)) o)) [ None ↦ refl | Some x ↦ refl ] in
    place ∙ (ap (option_map (λ (x : code.Rule × ℕ). x.1)) found ∙ (taken_is_find rules places before ∙ (ap (λ l. taken_head l places before) e ∙ ap (λ l. taken_head rs l before) f)))
