-- One turn of the loop that marks the heads of picked rules.
use Rattle.std.proofs.Common.{◌≡◌, ℕ, ◌+◌, ◌<◌, ◌≤◌, Bool, true, false, ◌&&◌, ◌||◌, eqb, List, [], ◌∷◌, length, get_or, drop, replicate, sym, refl, ap, ◌∙◌, subst, ⊎_elim, arith}
use Rattle.std.proofs.lemmas.List.{at_drop_more, at_drop_all, get_or-replicate, get_or_past, length-replicate}
use Rattle.std.proofs.lemmas.Bool.{cases_eq, cases_lt, ne_eqb, false≢true}
use Rattle.game.specs.Sets.{Row}
use Rattle.game.specs.Rules.{Head, Rule, heads, is_head, none, atom}
use Rattle.game.specs.Derives.{fires, derives, derives_at, SmallestClosed}
use Rattle.solving.specs.Levels.{level_in, head_at}
use Rattle.std.proofs.Math.Bool.{or-false, and-true, and-false, and-or_distrib_left}
use Rattle.std.proofs.Math.Path.{fun_ext}
use Rattle.programs.specs.declared.rule.Rule as code
use Rattle.programs.specs.Model.{model, models}
use Rattle.solving.specs.Tests.{headed_by}

shift : (x y z : Bool) → ((x || y) || z) ≡ (x || ((y && true) || z))
shift true y z = refl
shift false true z = refl
shift false false z = refl

skip : (x y z : Bool) → (x || z) ≡ (x || ((y && false) || z))
skip true y z = refl
skip false true z = refl
skip false false z = refl

-- a head that is marked already adds nothing
known_there : (b x y z : Bool) → (x ≡ true → b ≡ true) → (b || z) ≡ (b || ((x && y) || z))
known_there true x y z known = refl
known_there false true y z known = absurd (false≢true (known refl))
known_there false false y z known = refl

module _ (p : Rule → Bool) (rs : List code.Rule) (i : ℕ) (r : code.Rule) (inside : i < length rs) (is : r ≡ get_or rs i r) (a : ℕ) where
  -- the heads that are left, with the rule at i first
  left : headed_by p (models (drop i rs)) a ≡ ((heads a (model r).head && p (model r)) || headed_by p (models (drop (i + 1) rs)) a)
  left = at_drop_more (λ l. headed_by p (models l) a) rs i r inside ∙ ap (λ q. (heads a (model q).head && p (model q)) || headed_by p (models (drop (i + 1) rs)) a) (sym is)

  module _ (b : Bool) where
    pub with_head : (h : ℕ) → (model r).head ≡ atom h → p (model r) ≡ true → ((b || eqb a h) || headed_by p (models (drop (i + 1) rs)) a) ≡ (b || headed_by p (models (drop i rs)) a)
    with_head h head picked =
        shift b (eqb a h) (headed_by p (models (drop (i + 1) rs)) a)
        ∙ ap (λ t. b || t) (sym (left ∙ ap (λ q. (heads a q && p (model r)) || headed_by p (models (drop (i + 1) rs)) a) head ∙ ap (λ t. (eqb a h && t) || headed_by p (models (drop (i + 1) rs)) a) picked))

    pub unpicked : p (model r) ≡ false → (b || headed_by p (models (drop (i + 1) rs)) a) ≡ (b || headed_by p (models (drop i rs)) a)
    unpicked e = skip b (heads a (model r).head) (headed_by p (models (drop (i + 1) rs)) a) ∙ ap (λ t. b || t) (sym (left ∙ ap (λ t. (heads a (model r).head && t) || headed_by p (models (drop (i + 1) rs)) a) e))

    pub headless : (model r).head ≡ none → (b || headed_by p (models (drop (i + 1) rs)) a) ≡ (b || headed_by p (models (drop i rs)) a)
    headless e = ap (λ t. b || t) (sym (left ∙ ap (λ q. (heads a q && p (model r)) || headed_by p (models (drop (i + 1) rs)) a) e))

-- the same by the set of the head alone: x tells whether a is the head
module _ (p : Rule → Bool) (rs : List code.Rule) (i : ℕ) (r : code.Rule) (inside : i < length rs) (is : r ≡ get_or rs i r) (a : ℕ) (b x : Bool) (head : x ≡ heads a (model r).head) where
  whole : (b || headed_by p (models (drop i rs)) a) ≡ (b || ((x && p (model r)) || headed_by p (models (drop (i + 1) rs)) a))
  whole = ap (λ t. b || t) (left p rs i r inside is a ∙ ap (λ h. (h && p (model r)) || headed_by p (models (drop (i + 1) rs)) a) (sym head))

  pub with_one : p (model r) ≡ true → ((b || x) || headed_by p (models (drop (i + 1) rs)) a) ≡ (b || headed_by p (models (drop i rs)) a)
  with_one picked = shift b x (headed_by p (models (drop (i + 1) rs)) a) ∙ sym (whole ∙ ap (λ t. b || ((x && t) || headed_by p (models (drop (i + 1) rs)) a)) picked)

  pub known_one : (x ≡ true → b ≡ true) → (b || headed_by p (models (drop (i + 1) rs)) a) ≡ (b || headed_by p (models (drop i rs)) a)
  known_one known = known_there b x (p (model r)) (headed_by p (models (drop (i + 1) rs)) a) known ∙ sym whole

pub none_left : (p : Rule → Bool) (rs : List code.Rule) (i a : ℕ) (b : Bool) → length rs ≤ i → b ≡ (b || headed_by p (models (drop i rs)) a)
none_left p rs i a b h = sym (ap (λ t. b || t) (at_drop_all (λ l. headed_by p (models l) a) rs i h) ∙ or-false b)

-- what is the smallest set for one test is so for a test that tells the same
pub smallest_as : {n : ℕ} {f g : Row → ℕ → Bool} {start s : Row} → ((t : Row) (a : ℕ) → f t a ≡ g t a) → SmallestClosed n f start s → SmallestClosed n g start s
smallest_as {n} {start = start} {s = s} same = subst (λ h. SmallestClosed n h start s) (fun_ext (λ t. fun_ext (same t)))

pub picked_derives : (rules : List Rule) (x s : Row) (a : ℕ) → headed_by (fires x s) rules a ≡ derives rules x s a
picked_derives [] x s a = refl
picked_derives (r ∷ rs) x s a = ap (λ b. (heads a r.head && fires x s r) || b) (picked_derives rs x s a)

and_swap : (x y z : Bool) → (x && (y && z)) ≡ (y && (x && z))
and_swap true y z = refl
and_swap false y z = sym (and-false y)

pub picked_heads : (rules : List Rule) (a : ℕ) → headed_by (λ _. true) rules a ≡ is_head rules a
picked_heads [] a = refl
picked_heads (r ∷ rs) a = ap (λ b. b || headed_by (λ _. true) rs a) (and-true (heads a r.head)) ∙ ap (λ b. heads a r.head || b) (picked_heads rs a)

pub clear_mark : (n a : ℕ) → get_or (replicate n false) a false ≡ false
clear_mark n a = ⊎_elim (λ less. get_or-replicate n a false false less) (λ past. get_or_past (replicate n false) a false (omega (arith, length-replicate n false))) (cases_lt a n)

-- a head of one level that a rule picked by it fires
level_shift : (levels : List ℕ) (l a : ℕ) (h : Head) (f : Bool) → (heads a h && (head_at levels l h && f)) ≡ (eqb (level_in levels a) l && (heads a h && f))
level_shift levels l a none f = sym (and-false (eqb (level_in levels a) l))
level_shift levels l a (atom b) f =
    ⊎_elim (λ same. ap (λ c. eqb a b && (eqb (level_in levels c) l && f)) (sym same) ∙ and_swap (eqb a b) (eqb (level_in levels a) l) f)
    (λ other. ap (λ t. t && (eqb (level_in levels b) l && f)) (ne_eqb a b other) ∙ sym (ap (λ t. eqb (level_in levels a) l && (t && f)) (ne_eqb a b other) ∙ and-false (eqb (level_in levels a) l))) (cases_eq a b)

pub picked_level : (rules : List Rule) (levels : List ℕ) (l : ℕ) (x s : Row) (a : ℕ) → headed_by (λ r. head_at levels l r.head && fires x s r) rules a ≡ derives_at rules (level_in levels) l x s a
picked_level [] levels l x s a = sym (and-false (eqb (level_in levels a) l))
picked_level (r ∷ rs) levels l x s a =
    ap (λ b. b || headed_by (λ r. head_at levels l r.head && fires x s r) rs a) (level_shift levels l a r.head (fires x s r))
    ∙ ap (λ b. (eqb (level_in levels a) l && (heads a r.head && fires x s r)) || b) (picked_level rs levels l x s a) ∙ sym (and-or_distrib_left (eqb (level_in levels a) l) (heads a r.head && fires x s r) (derives rs x s a))
