-- The masks at a place tell the rule that stands there.
use Rattle.std.proofs.Common.{◌≡◌, ℕ, ◌<◌, Bool, true, ◌&&◌, leb, List, [], ◌∷◌, length, get_or, map, Decides, sym, ap, ◌∙◌, subst, arith}
use Rattle.std.proofs.lemmas.List.{get_or-map, get_or_default, length-map}
use Rattle.std.proofs.lemmas.Bool.{and_parts}
use Rattle.std.proofs.lemmas.Bool.Decides.{same_from_decides, Decides-and}
use Rattle.game.specs.Sets.{Row}
use Rattle.game.specs.Rules.{Rule, none, Kept, PlainIn}
use Rattle.game.specs.Derives.{fires}
use Rattle.game.proofs.Deriving.{fires_decides}
use Rattle.programs.specs.Limits.{all_fit, fits, rule_fits}
use Rattle.programs.specs.Model.{head_model, model, models}
use Rattle.programs.specs.declared.rule.Rule as code
use Rattle.solving.specs.Tests.{constraint}
use Rattle.solving.proofs.Breaking.{rule_at}
use Rattle.solving.proofs.Testing.{constraint_decides}
use Rattle.programs.specs.declared.mask_rule.MaskRule.{MaskRule}
use Rattle.programs.specs.Listed.{RowRule, in_rows}
use Rattle.programs.specs.MaskRules.{mask_rule, FiresIn}
use Rattle.programs.proofs.Listing.{fires_in, fires_with}

some_at : (rs : List code.Rule) (i : ℕ) → i < length rs → code.Rule
some_at [] i inside = absurd (omega arith)
some_at (r ∷ rs) i inside = r

-- the limits that each rule of a program keeps
pub all_kept : (rules : List Rule) → fits 96 rules ≡ true → all_fit 96 rules ≡ true
all_kept rules kept = (and_parts (leb (length rules) 256) (all_fit 96 rules) kept).1

-- the rule at the place i, and that it keeps the limits and is told by the masks m
pub record Told (rs : List code.Rule) (i : ℕ) (m : MaskRule) : Type 0 where
  pub rule : code.Rule
  pub inside : i < length rs
  pub is : rule ≡ get_or rs i rule
  pub fits : rule_fits 96 (model rule) ≡ true
  pub same : mask_rule m ≡ in_rows (model rule)

module _ (rs : List code.Rule) (ms : List MaskRule) (fit : all_fit 96 (models rs) ≡ true) (as' : map mask_rule ms ≡ map in_rows (models rs)) where
  pub many : length ms ≡ length rs
  many = sym (length-map ms mask_rule) ∙ ap length as' ∙ length-map (models rs) in_rows ∙ length-map rs model

  pub told_at : (i : ℕ) (m : MaskRule) → i < length ms → m ≡ get_or ms i m → Told rs i m
  told_at i m less is =
      let inside : i < length rs = omega (arith, less, many) in
      let d = some_at rs i inside in
      let r = get_or rs i d in
      let again : r ≡ get_or rs i r = get_or_default rs i d r inside in
      record {
        rule = r;
        inside = inside;
        is = again;
        fits = rule_at 96 rs i d inside fit;
        same =
            ap mask_rule is ∙ sym (get_or-map mask_rule ms i m (mask_rule m) less) ∙ ap (λ l. get_or l i (mask_rule m)) as'
            ∙ get_or-map in_rows (models rs) i (model d) (mask_rule m) (omega (arith, inside, length-map rs model)) ∙ ap in_rows (get_or-map model rs i d (model d) inside);
      }

-- whether the masks of a rule say that it fires
pub same_fires : (x s : Row) (m : MaskRule) (b : Bool) → Decides b (FiresIn x s (mask_rule m)) → (r : Rule) → rule_fits 96 r ≡ true → mask_rule m ≡ in_rows r → b ≡ fires x s r
same_fires x s m b d r fits same = same_from_decides b (fires x s r) (fires_in x s r b fits (subst (λ q. Decides b (FiresIn x s q)) same d)) (fires_decides x s r)

pub same_head : {rs : List code.Rule} {i : ℕ} {m : MaskRule} (t : Told rs i m) → head_model m.head ≡ (model t.rule).head
same_head t = ap (λ (r : RowRule). r.head) t.same

-- whether the masks say that the rule is a constraint that is broken
pub same_broken : (x s : Row) {rs : List code.Rule} {i : ℕ} {m : MaskRule} (t : Told rs i m) (b : Bool) → Decides b ((head_model m.head ≡ none) × FiresIn x s (mask_rule m)) → b ≡ (constraint (model t.rule).head && fires x s (model t.rule))
same_broken x s {m = m} t b d =
    let r : Rule = model t.rule in
    let same : Decides b ((r.head ≡ none) × (Kept x r × PlainIn s r)) =
    fires_with (r.head ≡ none) x s r b t.fits (subst (λ (q : RowRule). Decides b ((q.head ≡ none) × FiresIn x s q)) t.same d) in
    same_from_decides b (constraint r.head && fires x s r) same (Decides-and (constraint r.head) (fires x s r) (constraint_decides r.head) (fires_decides x s r))
