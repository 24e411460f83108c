-- The smallest set around an atom that is closed under the edges holds exactly the atoms that it reaches.
use Rattle.std.proofs.Common.{◌≡◌, ℕ, ◌<◌, true, false, List, ◌++◌, length, get_or, set, replicate, Decides, sym, refl, ap, ◌∙◌, subst, inl, inr, ⊎_elim, arith}
use Rattle.std.specs.List.{ContainsAt as Has}
use Rattle.std.proofs.ByRecursion.{has_append_left, has_append_right}
use Rattle.std.proofs.lemmas.List.{length-set, length-replicate, get_or-set_same, get_or-set_other, get_or_default}
use Rattle.std.proofs.lemmas.Bool.{cases_eq, false≢true}
use Rattle.std.proofs.lemmas.Bool.Decides.{Decides-like, Decides-and, Decides-or, Decides-by_or}
use Rattle.game.specs.Sets.{Row, In}
use Rattle.game.specs.Rules.{Rule, atom}
use Rattle.game.specs.Derives.{SmallestClosed}
use Rattle.game.specs.Strata.{Edge, Reaches, here, on}
use Rattle.game.proofs.Deriving.{HeadsBelow, decides_some, heads_decides, head_is_head}
use Rattle.game.proofs.StrataRows.{decides_itself}
use Rattle.game.proofs.StrataLists.{has_append_cases}
use Rattle.closure.specs.Steps.{Rounds}
use Rattle.closure.proofs.Rounding.{rounds_induction}
use Rattle.game.specs.Published.{any_in}
use Rattle.solving.specs.Tests.{headed_by, touches}
use Rattle.solving.specs.Reached.{Reached}
use Rattle.solving.proofs.Marking.{clear_mark}

-- some atom of the list is in s
abbrev pub SomeIn : Row → List ℕ → Type 0
SomeIn s as' = (a : ℕ) × Has as' a × In a s

pub any_in_decides : (s : Row) (as' : List ℕ) → Decides (any_in s as') (SomeIn s as')
any_in_decides s as' =
    Decides-like (any_in s as') (λ (k, h, at). (get_or as' k 0, (k, h, λ d. get_or_default as' k d 0 h), at 0)) (λ (a, (k, h, at), marked). (k, h, λ d. ap (λ b. get_or s b false) (at d) ∙ marked))
    (Decides-by_or (λ a. get_or s a false) (λ a. In a s) (any_in s) (λ a. decides_itself (get_or s a false)) refl (λ _ _. refl) as')

-- a body atom of the rule is in s
pub touches_decides : (s : Row) (r : Rule) → Decides (touches s r) (SomeIn s (r.plain ++ r.negated))
touches_decides s r =
    Decides-like (touches s r) (⊎_elim (λ (a, has, marked). (a, has_append_left r.plain r.negated a has, marked)) (λ (a, has, marked). (a, has_append_right r.plain r.negated a has, marked)))
    (λ (a, has, marked). ⊎_elim (λ p. inl (a, p, marked)) (λ n. inr (a, n, marked)) (has_append_cases r.plain r.negated a has))
    (Decides-or (any_in s r.plain) (any_in s r.negated) (any_in_decides s r.plain) (any_in_decides s r.negated))

-- an edge leads from s to b
pub edges_decide : (rules : List Rule) (s : Row) (b : ℕ) → Decides (headed_by (touches s) rules b) ((a : ℕ) × In a s × Edge rules a b)
edges_decide rules s b =
    Decides-like _ (λ (r, has, (head, (a, among, marked))). (a, marked, (r, has, head, among))) (λ (a, marked, (r, has, head, among)). (r, has, (head, (a, among, marked))))
    (decides_some _ (λ r. (r.head ≡ atom b) × SomeIn s (r.plain ++ r.negated)) (λ rs. headed_by (touches s) rs b) (λ r. Decides-and _ _ (heads_decides b r.head) (touches_decides s r)) refl (λ _ _. refl) rules)

module _ (n : ℕ) (rules : List Rule) (below : HeadsBelow rules n) (a : ℕ) (inside : a < n) (s : Row) where
  module _ (smallest : SmallestClosed n (λ t b. headed_by (touches t) rules b) (set (replicate n false) a true) s) (rounds : Rounds n (λ t b. headed_by (touches t) rules b) (set (replicate n false) a true) s) where
    wide : length (set (replicate n false) a true) ≡ n
    wide = length-set (replicate n false) a true ∙ length-replicate n false

    -- the start holds a alone
    only_start : (b : ℕ) → In b (set (replicate n false) a true) → a ≡ b
    only_start b e = ⊎_elim (λ same. sym same) (λ other. absurd (false≢true (sym (clear_mark n b) ∙ sym (get_or-set_other (replicate n false) a b true false other) ∙ e))) (cases_eq b a)

    marked_reached : (b : ℕ) → In b s → Reaches rules a b
    marked_reached = rounds_induction n _ _ s wide rounds (Reaches rules a) (λ b e. subst (Reaches rules a) (only_start b e) here) (λ t long all b less e. let (c, marked, edge) = (edges_decide rules t b).0 e in on (all c marked) edge)

    reached_marked : {b : ℕ} → Reaches rules a b → In b s
    reached_marked here = smallest.around a (get_or-set_same (replicate n false) a true false (omega (arith, length-replicate n false)))
    reached_marked {b} (on {b = c} path edge) =
        let (r, has, head, among) = edge in
        smallest.closed b (below b (head_is_head rules r b has head)) ((edges_decide rules s b).1 (c, reached_marked path, edge))

    pub reached : Reached rules a s
    reached b = (marked_reached b, reached_marked)
