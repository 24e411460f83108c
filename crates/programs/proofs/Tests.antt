-- The tests of lists as the library's words for them, which a chain over a slice answers.
use Rattle.std.proofs.Common.{◌≡◌, ℕ, eqb, ltb, ◌&&◌, ◌||◌, List, refl, sym, ap, ◌∙◌, ⊎_elim}
use Rattle.std.specs.List.{list_all, list_any}
use Rattle.std.proofs.lemmas.Bool.{cases_eq, eq-eqb, ne_eqb}
use Rattle.std.proofs.lemmas.List.Recursion.{same_from_clauses}
use Rattle.game.specs.Rules.{among, stands, in_rule}
use Rattle.programs.specs.Limits.{all_below, all_fit, rule_fits}
use Rattle.programs.specs.Model.{model, models}
use Rattle.programs.specs.declared.rule.Rule.{Rule}

pub below_all : (n : ℕ) (as' : List ℕ) → all_below n as' ≡ list_all (λ a. ltb a n) as'
below_all n = same_from_clauses _ _ (λ a so. ltb a n && so) refl (λ a as'. refl) (λ a as'. refl)

pub fit_all : (n : ℕ) (rs : List Rule) → all_fit n (models rs) ≡ list_all (λ r. rule_fits n (model r)) rs
fit_all n = same_from_clauses (λ rs. all_fit n (models rs)) _ (λ r so. rule_fits n (model r) && so) refl (λ r rs. refl) (λ r rs. refl)

swapped : (a b : ℕ) → eqb a b ≡ eqb b a
swapped a b = ⊎_elim (λ e. eq-eqb a b e ∙ sym (eq-eqb b a (sym e))) (λ ne. ne_eqb a b ne ∙ sym (ne_eqb b a (λ e. ne (sym e)))) (cases_eq a b)

pub among_any : (a : ℕ) (bs : List ℕ) → among a bs ≡ list_any (λ b. eqb b a) bs
among_any a = same_from_clauses _ _ (λ b so. eqb b a || so) refl (λ b bs. ap (λ t. t || among a bs) (swapped a b)) (λ b bs. refl)

pub stands_any : (a : ℕ) (rs : List Rule) → stands a (models rs) ≡ list_any (λ r. in_rule a (model r)) rs
stands_any a = same_from_clauses (λ rs. stands a (models rs)) _ (λ r so. in_rule a (model r) || so) refl (λ r rs. refl) (λ r rs. refl)
