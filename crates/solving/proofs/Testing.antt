-- The answer-set test decides answer sets.
use Rattle.std.proofs.Common.{◌≡◌, ℕ, ◌<◌, Bool, true, false, leb, List, [], ◌∷◌, length, get_or, Decides, sym, refl, ◌∙◌, subst, ⊎_elim, arith}
use Rattle.std.proofs.lemmas.Bool.{and_parts, or_cases, ltb-true, eqb-true, false≢true, both_ways}
use Rattle.std.proofs.lemmas.Bool.Decides.{Decides-and, not_from_Decides}
use Rattle.game.specs.Sets.{Row, In, union}
use Rattle.game.specs.Rules.{Head, none, atom, Rule, heads, is_head, Kept, PlainIn}
use Rattle.game.specs.AnswerSets.{AnswerSet, Allowed, Smallest}
use Rattle.game.proofs.Deriving.{HeadsBelow, decides_some, fires_decides}
use Rattle.closure.proofs.Marks.{in_below, same_rows, in_union, union_left, union_right, length-union}
use Rattle.programs.specs.Limits.{all_fit, rule_fits, head_below, fits}
use Rattle.programs.proofs.Fitting.{kept}
use Rattle.solving.specs.Tests.{constraint, violated, violated_on}
use Rattle.solving.specs.Bounds.{Broken}

pub constraint_decides : (h : Head) → Decides (constraint h) (h ≡ none)
constraint_decides none = (λ _. refl, λ _. refl)
constraint_decides (atom a) = (λ e. cc, λ e. cc)

pub violated_decides : (rules : List Rule) (x s : Row) → Decides (violated_on rules x s) (Broken rules x s)
violated_decides rules x s = decides_some _ (λ r. (r.head ≡ none) × (Kept x r × PlainIn s r)) (λ rs. violated_on rs x s) (λ r. Decides-and _ _ (constraint_decides r.head) (fires_decides x s r)) refl (λ _ _. refl) rules

pub violated_allowed : (rules : List Rule) (s : Row) → violated rules s ≡ false → Allowed rules s
violated_allowed rules s e r has head kept plain = not_from_Decides (violated rules s) (violated_decides rules s s) e (r, has, (head, (kept, plain)))

pub allowed_violated : (rules : List Rule) (s : Row) → Allowed rules s → violated rules s ≡ false
allowed_violated rules s allowed = go (violated rules s) (violated_decides rules s s).0
  where
    go : (b : Bool) → (b ≡ true → Broken rules s s) → b ≡ false
    go true broken = let (r, has, (head, (kept, plain))) = broken refl in absurd (allowed r has head kept plain)
    go false broken = refl

head_fits : (n a : ℕ) (h : Head) → head_below n h ≡ true → heads a h ≡ true → a < n
head_fits n a none fits e = absurd (false≢true e)
head_fits n a (atom b) fits e = let same = eqb-true a b e in let less = ltb-true b n fits in omega arith

-- the heads of a program are below its number of atoms
pub fit_heads : (n : ℕ) (rules : List Rule) → all_fit n rules ≡ true → HeadsBelow rules n
fit_heads n [] fits a e = absurd (false≢true e)
fit_heads n (r ∷ rs) fits a e =
    let p = and_parts (rule_fits n r) _ fits in
    ⊎_elim (head_fits n a r.head (kept n r p.0).head) (fit_heads n rs p.1 a) (or_cases (heads a r.head) (is_head rs a) e)

pub program_heads : (n : ℕ) (rules : List Rule) → fits n rules ≡ true → HeadsBelow rules n
program_heads n rules kept = fit_heads n rules (and_parts (leb (length rules) 256) _ kept).1

-- no row that is refused is an answer set
pub refused : {P Q : Type 0} (b : Bool) → Decides b Q → b ≡ false → (P → Q) → Decides false P
refused b d e through = (λ t. absurd (false≢true t), λ p. absurd (both_ways b e (d.1 (through p))))

-- A row is tried, with hs, the row of all heads.
pub record Trial (n : ℕ) (rules : List Rule) (given row hs : Row) : Type 0 where
  pub below : HeadsBelow rules n
  pub given_wide : length given ≡ n
  pub row_wide : length row ≡ n
  pub hs_wide : length hs ≡ n
  pub is : (a : ℕ) → a < n → get_or hs a false ≡ is_head rules a

pub tried : {n : ℕ} (rules : List Rule) {given row hs : Row} → fits n rules ≡ true → length given ≡ n → length row ≡ n → length hs ≡ n → ((a : ℕ) → a < n → get_or hs a false ≡ is_head rules a) → Trial n rules given row hs
tried {n} rules kept given_wide row_wide hs_wide is = record { below = program_heads n rules kept; given_wide = given_wide; row_wide = row_wide; hs_wide = hs_wide; is = is }

module _ {n : ℕ} {rules : List Rule} {given row hs : Row} (t : Trial n rules given row hs) where
  -- only heads are marked
  pub only_heads : AnswerSet rules given row → union row hs ≡ hs
  only_heads ans =
      same_rows (union row hs) hs (length-union n row hs t.row_wide t.hs_wide ∙ sym t.hs_wide)
      (λ a e. ⊎_elim (λ marked. t.is a (let h = in_below row a marked in omega (arith, t.row_wide)) ∙ ans.heads a marked) (λ head. head) (in_union row hs a e)) (union_right row hs)

  -- c is the smallest set around the given atoms that obeys the reduct for x, which is the row with the given atoms
  module _ (x c : Row) (all : x ≡ union row given) (wide : length c ≡ n) (smallest : Smallest rules given x c) where
    united_wide : length (union row given) ≡ n
    united_wide = length-union n row given t.row_wide t.given_wide

    found : Smallest rules given (union row given) c
    found = subst (λ s. Smallest rules given s c) all smallest

    pub is_smallest : AnswerSet rules given row → c ≡ x
    is_smallest ans =
        same_rows c (union row given) (wide ∙ sym united_wide)
        (found.least (union row given) (united_wide ∙ sym wide) ans.smallest.around ans.smallest.obeys)
        (ans.smallest.least c (wide ∙ sym united_wide) found.around found.obeys)
        ∙ sym all

    pub accepted : union row hs ≡ hs → c ≡ x → (Broken rules x x → ⊥) → AnswerSet rules given row
    accepted inside same unbroken = record {
      width = t.row_wide ∙ sym t.given_wide;
      heads = λ a marked. let h = in_below row a marked in sym (t.is a (omega (arith, t.row_wide))) ∙ subst (In a) inside (union_left row hs a marked);
      smallest = subst (Smallest rules given (union row given)) (same ∙ all) found;
      allowed = λ r has head kept plain. unbroken (subst (λ s. Broken rules s s) (sym all) (r, has, (head, (kept, plain))));
    }

    pub unbroken : AnswerSet rules given row → Broken rules x x → ⊥
    unbroken ans broken = let (r, has, (head, (kept, plain))) = subst (λ s. Broken rules s s) all broken in ans.allowed r has head kept plain
