-- The number of atoms that an atom cannot reach is a level for it, where the program is stratified.
use Rattle.std.proofs.Common.{◌≡◌, ℕ, zero, suc, ◌<◌, ◌≤◌, true, false, ltb, leb, List, [], ◌∷◌, length, get_or, Decides, sym, refl, ◌∙◌, subst, arith}
use Rattle.std.specs.List.{ContainsAt as Has, AllByRecursion}
use Rattle.std.proofs.ByRecursion.{all-has, All-from_get_or, All-get_or, has_append_left, has_append_right, all_has_itself, All-weaker, Decides-by_and}
use Rattle.std.proofs.lemmas.Bool.{and_parts, le-leb, leb-true, false≢true}
use Rattle.std.proofs.lemmas.Bool.Decides.{Decides-like, Decides-and, Decides-ltb}
use Rattle.game.specs.Sets.{Row, In, Within}
use Rattle.game.specs.Rules.{Head, none, atom, Rule, is_head}
use Rattle.game.specs.Derives.{SmallestClosed, derives_at}
use Rattle.game.specs.Strata.{Edge, Reaches, here, on, Stratified, Leveled}
use Rattle.game.proofs.Deriving.{HeadsBelow, head_is_head, derives_at_decides}
use Rattle.closure.specs.Rows.{marked}
use Rattle.closure.proofs.Marks.{marked_within, more_marked}
use Rattle.programs.specs.Limits.{all_below, all_fit, rule_fits}
use Rattle.programs.proofs.Fitting.{Kept, kept}
use Rattle.solving.specs.Levels.{level_in, none_above, all_beneath, rule_leveled, leveled, Ranked}

-- what an atom's successor reaches, the atom reaches
edge_first : {rules : List Rule} {b a : ℕ} → Edge rules b a → {c : ℕ} → Reaches rules a c → Reaches rules b c
edge_first edge here = on here edge
edge_first edge (on path last) = on (edge_first edge path) last

leb_decides : (a b : ℕ) → Decides (leb a b) (a ≤ b)
leb_decides a b = (leb-true a b, le-leb a b)

below_decides : (n : ℕ) (as' : List ℕ) → Decides (all_below n as') (AllByRecursion (λ a. a < n) as')
below_decides n as' = Decides-by_and (λ a. ltb a n) (λ a. a < n) (all_below n) (λ a. Decides-ltb a n) refl (λ _ _. refl) as'

above_decides : (levels : List ℕ) (a : ℕ) (bs : List ℕ) → Decides (none_above levels a bs) (AllByRecursion (λ b. level_in levels b ≤ level_in levels a) bs)
above_decides levels a bs = Decides-by_and (λ b. leb (level_in levels b) (level_in levels a)) (λ b. level_in levels b ≤ level_in levels a) (none_above levels a) (λ b. leb_decides (level_in levels b) (level_in levels a)) refl (λ _ _. refl) bs

beneath_decides : (levels : List ℕ) (a : ℕ) (bs : List ℕ) → Decides (all_beneath levels a bs) (AllByRecursion (λ b. level_in levels b < level_in levels a) bs)
beneath_decides levels a bs = Decides-by_and (λ b. ltb (level_in levels b) (level_in levels a)) (λ b. level_in levels b < level_in levels a) (all_beneath levels a) (λ b. Decides-ltb (level_in levels b) (level_in levels a)) refl (λ _ _. refl) bs

-- the levels fit one rule
abbrev Fit : List ℕ → Rule → Type 0
Fit levels r = (a : ℕ) → r.head ≡ atom a → AllByRecursion (λ b. level_in levels b ≤ level_in levels a) r.plain × AllByRecursion (λ b. level_in levels b < level_in levels a) r.negated

rule_decides : (levels : List ℕ) (h : Head) (r : Rule) → r.head ≡ h → Decides (rule_leveled levels h r) (Fit levels r)
rule_decides levels none r e = (λ _ a head. absurd (let z : ◌≡◌ {A = ℕ} 0 1 = cc in omega arith), λ _. refl)
rule_decides levels (atom a) r e =
    Decides-like (rule_leveled levels (atom a) r) (λ (p, q) b head. let same : a ≡ b = cc in (subst (λ c. AllByRecursion (λ b. level_in levels b ≤ level_in levels c) r.plain) same p, subst (λ c. AllByRecursion (λ b. level_in levels b < level_in levels c) r.negated) same q)) (λ fit. fit a e)
    (Decides-and (none_above levels a r.plain) (all_beneath levels a r.negated) (above_decides levels a r.plain) (beneath_decides levels a r.negated))

leveled_decides : (levels : List ℕ) (rules : List Rule) → Decides (leveled levels rules) (AllByRecursion (Fit levels) rules)
leveled_decides levels rules = Decides-by_and (λ r. rule_leveled levels r.head r) (Fit levels) (leveled levels) (λ r. rule_decides levels r.head r refl) refl (λ _ _. refl) rules

pub leveled_fits : (levels : List ℕ) (rules : List Rule) → leveled levels rules ≡ true → Leveled rules (level_in levels)
leveled_fits levels rules e =
    let all = (leveled_decides levels rules).0 e in
    record { plain = λ r a has head. (all-has (Fit levels) rules r all has a head).0; negated = λ r a has head. (all-has (Fit levels) rules r all has a head).1 }

-- every rule of a program keeps its limits
rules_kept : (n : ℕ) (rules : List Rule) → all_fit n rules ≡ true → AllByRecursion (Kept n) rules
rules_kept n [] fits = tt
rules_kept n (r ∷ rs) fits = let p = and_parts (rule_fits n r) _ fits in (kept n r p.0, rules_kept n rs p.1)

all_from_has : {X : Type 0} (P : X → Type 0) (xs : List X) → ((x : X) → Has xs x → P x) → AllByRecursion P xs
all_from_has P xs each = All-weaker (Has xs) P each xs (all_has_itself xs)

marked_some : (s : Row) (a : ℕ) → In a s → 0 < marked s
marked_some [] a e = absurd (false≢true e)
marked_some (true ∷ s) a e = omega arith
marked_some (false ∷ s) zero e = absurd (false≢true e)
marked_some (false ∷ s) (suc a) e = marked_some s a e

module _ (n : ℕ) (rules : List Rule) (levels : List ℕ) (below : HeadsBelow rules n) (ranked : Ranked rules n n levels) where
  -- along an edge the level does not fall, and it rises where there is no way back
  edge_level : (b a : ℕ) → b < n → a < n → Edge rules b a → (level_in levels b ≤ level_in levels a) × ((Reaches rules a b → ⊥) → level_in levels b < level_in levels a)
  edge_level b a b-in a_in edge =
      let (s, from-b, s-wide, s-size) = ranked b b-in in
      let (t, from-a, t-wide, t-size) = ranked a a_in in
      let within : Within t s = λ c marked. (from-b c).1 (edge_first edge ((from-a c).0 marked)) in
      let wide : length t ≡ length s = t-wide ∙ sym s-wide in
      let less = marked_within t s wide within in
      (omega arith, λ no_way. let strict = more_marked t s wide within (λ same. no_way ((from-a b).0 (subst (In b) (sym same) ((from-b b).1 here)))) in omega arith)

  pub ranked_leveled : all_fit n rules ≡ true → Stratified rules → leveled levels rules ≡ true
  ranked_leveled fits stratified = (leveled_decides levels rules).1 (all_from_has (Fit levels) rules (λ r has a head.
      let limits = all-has (Kept n) rules r (rules_kept n rules fits) has in
      let a_in = below a (head_is_head rules r a has head) in (
        all_from_has (λ b. level_in levels b ≤ level_in levels a) r.plain (λ b among. (edge_level b a (all-has (λ c. c < n) r.plain b ((below_decides n r.plain).0 limits.plain) among) a_in (r, has, head, has_append_left r.plain r.negated b among)).0),
        all_from_has (λ b. level_in levels b < level_in levels a) r.negated (λ b among. (edge_level b a (all-has (λ c. c < n) r.negated b ((below_decides n r.negated).0 limits.negated) among) a_in (r, has, head, has_append_right r.plain r.negated b among)).1 (λ path. stratified r has (a, b, head, among, path))),
      )))

  -- an atom reaches itself, so its level is below n
  pub level_low : (a : ℕ) → a < n → level_in levels a < n
  level_low a inside =
      let (s, reached, wide, size) = ranked a inside in
      let one = marked_some s a ((reached a).1 here) in
      omega arith

  pub levels_low : length levels ≡ n → all_below n levels ≡ true
  levels_low wide = (below_decides n levels).1 (All-from_get_or (λ l. l < n) levels 0 (λ a less. level_low a (omega arith)))

-- levels that are all below n, where n is not 0
pub low_at : (n : ℕ) (levels : List ℕ) → all_below n levels ≡ true → (a : ℕ) → a < n → length levels ≡ n → level_in levels a < n
low_at n levels low a less wide = All-get_or (λ l. l < n) levels a 0 (omega arith) ((below_decides n levels).0 low)

-- at a level that no head has nothing follows
pub idle_level :
    (n : ℕ) (rules : List Rule) (levels : List ℕ) (l : ℕ) (s used : Row) → length s ≡ n
    → ((a : ℕ) → is_head rules a ≡ true → In (level_in levels a) used) → get_or used l false ≡ false → SmallestClosed n (derives_at rules (level_in levels) l s) s s
idle_level n rules levels l s used wide all none' = record {
  width = wide;
  around = λ a h. h;
  closed = λ a less e.
      let (at, (r, has, head, kept, plain)) = (derives_at_decides rules (level_in levels) l s s a).0 e in
      absurd (false≢true (sym none' ∙ subst (λ k. In k used) at (all a (head_is_head rules r a has head))));
  least = λ t width around closed. around;
}
