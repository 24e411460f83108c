-- Which rule breaks the strata, and which is the first.
use Rattle.std.proofs.Common.{◌≡◌, ℕ, zero, suc, ◌<◌, true, List, [], ◌∷◌, length, get_or, Decides, sym, ◌∙◌, subst, arith}
use lib.ListN.{length-map}
use Rattle.std.proofs.lemmas.List.{get_or-map}
use Rattle.std.proofs.lemmas.Bool.{and_parts}
use Rattle.game.specs.Sets.{Row}
use Rattle.game.specs.Rules.{none, atom, Rule}
use Rattle.game.specs.Strata.{Reaches, Breaks, FirstBreak, Stratified}
use Rattle.programs.specs.declared.rule.Rule as code
use Rattle.programs.specs.Limits.{all_fit, rule_fits}
use Rattle.programs.specs.Model.{model, models}
use Rattle.solving.specs.Reached.{Reached}
use Rattle.game.specs.Published.{any_in}
use Rattle.solving.proofs.Reaching.{any_in_decides}

pub headless : (rules : List Rule) (r : Rule) → r.head ≡ none → Breaks rules r → ⊥
headless rules r e (a, b, head, has, path) = let z : ◌≡◌ {A = ℕ} 0 1 = cc in omega arith

pub breaks_decide : (rules : List Rule) (r : Rule) (a : ℕ) (s : Row) → r.head ≡ atom a → Reached rules a s → Decides (any_in s r.negated) (Breaks rules r)
breaks_decide rules r a s head reached = (
  λ e. let (b, has, marked) = (any_in_decides s r.negated).0 e in (a, b, head, has, (reached b).0 marked),
  λ (a', b, head', has, path). (any_in_decides s r.negated).1 (b, has, (reached b).1 (let same : a' ≡ a = cc in subst (λ x. Reaches rules x b) same path)),
)

-- a rule of a program keeps the limits
pub rule_at : (n : ℕ) (rs : List code.Rule) (i : ℕ) (d : code.Rule) → i < length rs → all_fit n (models rs) ≡ true → rule_fits n (model (get_or rs i d)) ≡ true
rule_at n [] i d h fits = absurd (omega arith)
rule_at n (r ∷ rs) zero d h fits = (and_parts (rule_fits n (model r)) _ fits).0
rule_at n (r ∷ rs) (suc i) d h fits = rule_at n rs i d (omega arith) (and_parts (rule_fits n (model r)) _ fits).1

-- the rules, by the values that the code has
module _ (rs : List code.Rule) where
  -- no rule before i breaks the strata
  abbrev pub Unbroken : ℕ → Type 0
  Unbroken i = (j : ℕ) (d : code.Rule) → j < i → Breaks (models rs) (model (get_or rs j d)) → ⊥

  pub first_at : (i : ℕ) (d : code.Rule) → i < length rs → Unbroken i → Breaks (models rs) (model (get_or rs i d)) → FirstBreak (models rs) i
  first_at i d h before here = record {
    inside = omega (arith, length-map rs model);
    breaks = λ e. subst (Breaks (models rs)) (sym (get_or-map model rs i d e h)) here;
    first = λ j less e broken. before j d less (subst (Breaks (models rs)) (get_or-map model rs j d e (omega arith)) broken);
  }

  pub stratified : Unbroken (length rs) → Stratified (models rs)
  stratified unbroken r (k, h, at) broken =
      let inside : k < length rs = omega (arith, length-map rs model) in
      let d = given rs inside in
      unbroken k d inside (subst (Breaks (models rs)) (sym (at r) ∙ get_or-map model rs k d r inside) broken)
    where
      given : (xs : List code.Rule) {k : ℕ} → k < length xs → code.Rule
      given [] {k} h = absurd (omega arith)
      given (x ∷ xs) h = x
