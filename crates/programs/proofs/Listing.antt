-- Lists of atoms as rows: what holds of every atom on the list, and when a rule fires.
use Rattle.std.proofs.Common.{◌≡◌, ℕ, ◌<◌, Bool, true, false, eqb, ltb, List, [], ◌∷◌, length, get_or, Decides, ◌↔◌, sym, refl, ◌∙◌, subst, ⊎_elim}
use Rattle.std.specs.List.{AllByRecursion}
use Rattle.std.proofs.lemmas.Bool.{and_parts, or_cases, or_left, or_right, ltb-true, eqb-true, eq-eqb, false≢true}
use Rattle.std.proofs.lemmas.Bool.Decides.{Decides-like}
use Rattle.game.specs.Sets.{Row, In}
use Rattle.game.specs.Rules.{Rule, among, Kept, PlainIn}
use Rattle.game.proofs.Rows.{length-row, in_width}
use Rattle.closure.proofs.Marks.{get_or-row}
use Rattle.programs.specs.Limits.{all_below, rule_fits}
use Rattle.programs.proofs.Fitting.{kept}
use Rattle.programs.specs.Listed.{listed, in_rows}
use Rattle.programs.specs.MaskRules.{FiresIn}

pub length-listed : (as' : List ℕ) → length (listed as') ≡ 96
unfolding listed
length-listed as' = length-row 96 (λ a. among a as')

pub listed_mark : (as' : List ℕ) (a : ℕ) → a < 96 → get_or (listed as') a false ≡ among a as'
unfolding listed
listed_mark as' a below = get_or-row 96 (λ b. among b as') a below

listed_among : (as' : List ℕ) (a : ℕ) → In a (listed as') → among a as' ≡ true
listed_among as' a h = sym (listed_mark as' a (in_width (listed as') (length-listed as') a h)) ∙ h

each_on : (P : ℕ → Type 0) (as' : List ℕ) → AllByRecursion P as' → (a : ℕ) → among a as' ≡ true → P a
each_on P [] all a e = absurd (false≢true e)
each_on P (b ∷ bs) all a e = ⊎_elim (λ same. subst P (sym (eqb-true a b same)) all.0) (each_on P bs all.1 a) (or_cases (eqb a b) (among a bs) e)

on_each : (P : ℕ → Type 0) (as' : List ℕ) → all_below 96 as' ≡ true → ((a : ℕ) → a < 96 → among a as' ≡ true → P a) → AllByRecursion P as'
on_each P [] fits f = _
on_each P (b ∷ bs) fits f =
    let p = and_parts (ltb b 96) (all_below 96 bs) fits in
    (f b (ltb-true b 96 p.0) (or_left (eqb b b) (among b bs) (eq-eqb b b refl)), on_each P bs p.1 (λ a below e. f a below (or_right (eqb a b) (among a bs) e)))

-- the rule fires as its rows say
fires_as : (x s : Row) (r : Rule) → rule_fits 96 r ≡ true → FiresIn x s (in_rows r) ↔ (Kept x r × PlainIn s r)
fires_as x s r fits =
    let k = kept 96 r fits in (
      λ f. (on_each _ r.negated k.negated (λ a below e h. f.0 a (listed_mark r.negated a below ∙ e) h), on_each _ r.plain k.plain (λ a below e. f.1 a (listed_mark r.plain a below ∙ e))),
      λ f. (λ a h. each_on _ r.negated f.0 a (listed_among r.negated a h), λ a h. each_on _ r.plain f.1 a (listed_among r.plain a h)),
    )

pub fires_in : (x s : Row) (r : Rule) (b : Bool) → rule_fits 96 r ≡ true → Decides b (FiresIn x s (in_rows r)) → Decides b (Kept x r × PlainIn s r)
fires_in x s r b fits = let as' = fires_as x s r fits in Decides-like b as'.0 as'.1

-- the same with a condition besides
pub fires_with : (P : Type 0) (x s : Row) (r : Rule) (b : Bool) → rule_fits 96 r ≡ true → Decides b (P × FiresIn x s (in_rows r)) → Decides b (P × (Kept x r × PlainIn s r))
fires_with P x s r b fits = let as' = fires_as x s r fits in Decides-like b (λ (p, f). (p, as'.0 f)) (λ (p, f). (p, as'.1 f))
