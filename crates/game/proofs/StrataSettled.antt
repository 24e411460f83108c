-- The set settled level by level is the smallest for its own reduct, so it gives the answer set.
use Rattle.std.proofs.Common.{◌≡◌, ℕ, ◌+◌, ◌<◌, ◌≤◌, Bool, true, false, not, ◌||◌, ◌⊎◌, ◌↔◌, List, length, get_or, Decides, sym, ◌∙◌, inl, inr, arith}
use Rattle.std.specs.List.{ContainsAt as Has}
use Rattle.std.proofs.lemmas.Bool.{cases_Bool, cases_eq, both_ways}
use Rattle.std.proofs.lemmas.Bool.Decides.{Decides-or, Decides-not}
use Rattle.game.specs.Sets.{Row, In, Within, union}
use Rattle.game.specs.Rules.{Rule, atom, headed, is_head, Obeys, Kept, PlainIn}
use Rattle.game.specs.AnswerSets.{Smallest, Allowed, AnswerSet}
use Rattle.game.specs.Derives.{derives_at, Closed, SmallestClosed, Settles, settled, settle}
use Rattle.game.specs.Strata.{Leveled}
use Rattle.game.proofs.StrataRows.{decides_itself, part, length-part, in_part, in_union, length-union, same_rows}
use Rattle.game.proofs.Deriving.{Grows, HeadsBelow, derives_at_decides, derives_at_grows, head_is_head}
use Rattle.game.proofs.StrataHeaded.{smallest_headed, is_head_headed, headed_allowed}
use Rattle.game.proofs.StrataLevels.{plain_upto, kept_below}
use Rattle.game.proofs.StrataOnce.{one_smallest}

-- a member of the smallest closed set around a start is of the start or follows from the set
pub supported : (n : ℕ) (f : Row → ℕ → Bool) (start s : Row) → Grows f → SmallestClosed n f start s → (a : ℕ) → In a s → In a start ⊎ (f s a ≡ true)
supported n f start s grows c a i = ((holds a).0 (c.least t (length-part _ s ∙ c.width) (λ b g. (holds b).1 (c.around b g, inl g)) closed a i)).1
  where
    t : Row
    t = part (λ b. get_or start b false || f s b) s

    holds : (b : ℕ) → Decides (get_or t b false) (In b s × (In b start ⊎ (f s b ≡ true)))
    holds = in_part _ (λ b. In b start ⊎ (f s b ≡ true)) (λ b. Decides-or _ _ (decides_itself (get_or start b false)) (decides_itself (f s b))) s

    closed : Closed n f t
    closed b h e = let follows = grows t s b (λ d j. ((holds d).0 j).0) e in (holds b).1 (c.closed b h follows, inr follows)

module _ {w : ℕ} {rules : List Rule} {level : ℕ → ℕ} where
  pub settles_width : {k n : ℕ} {s u : Row} → Settles w rules level k n s u → length s ≡ w → length u ≡ w
  settles_width settled e = e
  settles_width (settle t c on) e = settles_width on c.width

  pub settles_around : {k n : ℕ} {s u : Row} → Settles w rules level k n s u → Within s u
  settles_around settled a i = i
  settles_around (settle t c on) a i = settles_around on a (c.around a i)

  -- settling from level k on adds heads of level k and higher alone
  pub settles_adds : {k n : ℕ} {s u : Row} → Settles w rules level k n s u → (a : ℕ) → In a u → In a s ⊎ ((k ≤ level a) × (is_head rules a ≡ true))
  settles_adds settled a i = inl i
  settles_adds {k} {s} (settle t c on) a i = elim (settles_adds on a i) [
    | inl i' ↦ here i'
    | inr (low, head) ↦ inr (omega arith, head)
  ]
    where
      here : In a t → In a s ⊎ ((k ≤ level a) × (is_head rules a ≡ true))
      here i' = elim (supported w (derives_at rules level k s) s t (derives_at_grows rules level k s) c a i') [
        | inl g ↦ inl g
        | inr e ↦ let (at, (r, has, head, kept, plain)) = (derives_at_decides rules level k s t a).0 e in inr (omega arith, head_is_head rules r a has head)
      ]

  -- so what stands below level k is settled
  pub settles_below : {k n : ℕ} {s u : Row} → Settles w rules level k n s u → (a : ℕ) → level a < k → In a u → In a s
  settles_below x a low i = elim (settles_adds x a i) [ inl h ↦ h | inr (high, head) ↦ absurd (omega arith) ]

module _ {w : ℕ} {rules : List Rule} {level : ℕ → ℕ} (leveled : Leveled rules level) where
  -- what settling comes to obeys the rules for heads of its levels: it holds no more of what they ask for than stood when their level was settled
  settles_obeys : HeadsBelow rules w → {k n : ℕ} {s u : Row} → Settles w rules level k n s u → (r : Rule) (a : ℕ) → Has rules r → r.head ≡ atom a → k ≤ level a → level a < k + n → Kept u r → PlainIn u r → In a u
  settles_obeys below settled r a has head low high kept plain = absurd (omega arith)
  settles_obeys below {k} {s} {u} (settle t c on) r a has head low high kept plain = elim (cases_eq (level a) k) [
    | inl at ↦ settles_around on a (c.closed a (below a (head_is_head rules r a has head)) ((derives_at_decides rules level k s t a).1 (at, (r, has, head, kept_s, plain_t at))))
    | inr above ↦ settles_obeys below on r a has head (omega arith) (omega arith) kept plain
  ]
    where
      kept_s : Kept s r
      kept_s = kept_below leveled r a has head u s (λ b _ i. settles_around (settle t c on) b i) kept

      plain_t : level a ≡ k → PlainIn t r
      plain_t at = plain_upto leveled r a has head u t (λ b l. settles_below on b (omega arith)) plain

  -- what contains the start and obeys the reduct for what settling comes to contains that
  settles_least : {k n : ℕ} {s u : Row} → Settles w rules level k n s u → (v : Row) → length v ≡ w → Within s v → Obeys rules u v → Within u v
  settles_least settled v e around obeys = around
  settles_least {k} {s} {u} (settle t c on) v e around obeys = settles_least on v e (c.least v e around closed) obeys
    where
      closed : Closed w (derives_at rules level k s) v
      closed a h d =
          let (at, (r, has, head, kept, plain)) = (derives_at_decides rules level k s v a).0 d in
          obeys r a has head (kept_below leveled r a has head s u (λ b low. settles_below (settle t c on) b (omega arith)) kept) plain

-- rules with levels below `top` and heads below w, settled from `given` to s
pub record Settling (w : ℕ) (rules : List Rule) (level : ℕ → ℕ) (top : ℕ) (given s : Row) : Type 0 where
  pub leveled : Leveled rules level
  pub below : HeadsBelow rules w
  pub low : (a : ℕ) → is_head rules a ≡ true → level a < top
  pub width : length given ≡ w
  pub settles : Settles w rules level 0 top given s

module _ {w : ℕ} {rules : List Rule} {level : ℕ → ℕ} {top : ℕ} {given s : Row} (x : Settling w rules level top given s) where
  pub settled_width : length s ≡ w
  settled_width = settles_width x.settles x.width

  pub settled_around : Within given s
  settled_around = settles_around x.settles

  pub settled_members : (a : ℕ) → In a s → In a given ⊎ (is_head rules a ≡ true)
  settled_members a i = elim (settles_adds x.settles a i) [ inl g ↦ inl g | inr (high, head) ↦ inr head ]

  pub settled_smallest : Smallest rules given s s
  settled_smallest = record {
    around = settled_around;
    obeys = λ r a has head. settles_obeys x.leveled x.below x.settles r a has head (omega arith) (let h = x.low a (head_is_head rules r a has head) in omega arith);
    least = λ t e. settles_least x.leveled x.settles t (e ∙ settled_width);
  }

-- ## The answer set

-- i holds the members of s that are not given
abbrev pub New : Row → Row → Row → Type 0
New given s i = (a : ℕ) → In a i ↔ (In a s × (In a given → ⊥))

pub new_part : (given s : Row) → New given s (part (λ a. not (get_or given a false)) s)
new_part given s = in_part _ (λ a. In a given → ⊥) (λ a. Decides-not _ (decides_itself (get_or given a false))) s

-- a set of one width with what is given, and its new members
module _ (given s i : Row) (around : Within given s) (wide : length s ≡ length given) (width : length i ≡ length given) (new : New given s i) where
  pub union_new : union i given ≡ s
  union_new = same_rows (union i given) s (length-union i given width ∙ sym wide) within back
    where
      within : Within (union i given) s
      within a h = elim ((in_union i given a).0 h) [ inl j ↦ ((new a).0 j).0 | inr g ↦ around a g ]

      back : Within s (union i given)
      back a h = (in_union i given a).1 (elim (cases_Bool (get_or given a false)) [
        | inl g ↦ inr g
        | inr out ↦ inl ((new a).1 (h, both_ways (get_or given a false) out))
      ])

  -- the new members of a set that is smallest for its own reduct are an answer set
  pub new_answer : (rules : List Rule) → ((a : ℕ) → In a s → In a given ⊎ (is_head rules a ≡ true)) → Smallest rules given s s → Allowed rules s → AnswerSet rules given i
  new_answer rules members smallest allowed = record {
    width = width;
    heads = λ a j. elim (members a ((new a).0 j).0) [ inl g ↦ absurd (((new a).0 j).1 g) | inr head ↦ head ];
    smallest = rw union_new smallest;
    allowed = rw union_new allowed;
  }

module _ {w : ℕ} {rules : List Rule} {level : ℕ → ℕ} {top : ℕ} {given s : Row} (x : Settling w rules level top given s) where
  settled_wide : length s ≡ length given
  settled_wide = settled_width x ∙ sym x.width

  pub settled_answer : (i : Row) → length i ≡ w → New given s i → Allowed rules s → AnswerSet rules given i
  settled_answer i e new = new_answer given s i (settled_around x) settled_wide (e ∙ sym x.width) new rules (settled_members x) (settled_smallest x)

  pub settled_headed_answer : (i : Row) → length i ≡ w → New given s i → AnswerSet (headed rules) given i
  settled_headed_answer i e new =
      let members : (a : ℕ) → In a s → In a given ⊎ (is_head (headed rules) a ≡ true) = λ a j. rw is_head_headed (settled_members x a j) in
      new_answer given s i (settled_around x) settled_wide (e ∙ sym x.width) new (headed rules) members (smallest_headed rules given s s (settled_smallest x)) (headed_allowed rules s)

  -- an answer set with what is given is the settled set
  pub answer_settled : (j : Row) → AnswerSet rules given j → union j given ≡ s
  answer_settled j ans = one_smallest x.leveled given (union j given) s ans.smallest (settled_smallest x) (length-union j given ans.width ∙ sym settled_wide)

  pub answer_allows : (j : Row) → AnswerSet rules given j → Allowed rules s
  answer_allows j ans = rw (answer_settled j ans) at ans.allowed
