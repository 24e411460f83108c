-- The enumeration of the sets of heads, lowest head first, holds each of them exactly once, and what a test of answer sets keeps of it holds each answer set exactly once.
use Rattle.std.proofs.Common.{◌≡◌, ℕ, zero, suc, Bool, true, false, cond, ◌⊎◌, List, [], ◌∷◌, ◌++◌, map, length, Decides, filter, sym, refl, ap, subst, inl, inr, ⊎_elim, arith}
use Rattle.std.proofs.lemmas.List.{nil_from_length}
use Rattle.std.proofs.lemmas.Bool.{false≢true, both_ways}
use Rattle.game.specs.Sets.{Row, In}
use Rattle.game.specs.Rules.{Rule, is_head}
use Rattle.game.specs.AnswerSets.{AnswerSet}
use Rattle.game.specs.Heads.{Lists, Among, sets_among, sets_of_heads}
use Rattle.game.proofs.Listing.{lists_like, lists_none, lists_one, lists_map, lists_append, lists_kept}

same_rest : (b : Bool) (s t : Row) → ◌≡◌ {A = Row} (b ∷ s) (b ∷ t) → s ≡ t
same_rest b s t e = cc

-- the rows with b in front of a row with P
abbrev pub After : Bool → (Row → Type 0) → Row → Type 0
After b P s = (t : Row) × P t × (◌≡◌ {A = Row} (b ∷ t) s)

apart_firsts : (P Q : Row → Type 0) (s : Row) → After false P s → After true Q s → ⊥
apart_firsts P Q s (t, p, e) (u, q, k) = let z : false ≡ true = cc in false≢true z

module _ (n : ℕ) (f : ℕ → Bool) where
  abbrev pub Later : Row → Type 0
  Later = Among n (λ a. f (suc a))

  with_first : (b : Bool) (t : Row) → (b ≡ true → f 0 ≡ true) → Later t → Among (suc n) f (b ∷ t)
  with_first b t first later = record { width = ap suc later.width; passes = each }
    where
      each : (a : ℕ) → In a (b ∷ t) → f a ≡ true
      each zero h = first h
      each (suc a) h = later.passes a h

  pub after : (b : Bool) → (b ≡ true → f 0 ≡ true) → (s : Row) → After b Later s → Among (suc n) f s
  after b first s (t, later, e) = subst (Among (suc n) f) e (with_first b t first later)

  pub by_first : (s : Row) → Among (suc n) f s → After false Later s ⊎ ((f 0 ≡ true) × After true Later s)
  by_first [] h = let w = h.width in absurd (omega arith)
  by_first (false ∷ t) h = let w = h.width in inl (t, record { width = omega arith; passes = λ a k. h.passes (suc a) k }, refl)
  by_first (true ∷ t) h = let w = h.width in inr (h.passes 0 refl, (t, record { width = omega arith; passes = λ a k. h.passes (suc a) k }, refl))

  -- the first number is out, or it is in if it passes
  with_first_lists : (rest : List Row) → Lists rest Later → (b : Bool) → f 0 ≡ b → Lists (map (λ s. false ∷ s) rest ++ cond b (map (λ s. true ∷ s) rest) []) (Among (suc n) f)
  with_first_lists rest l true e =
      lists_like
      (λ s h. ⊎_elim (after false (λ _. e) s) (after true (λ _. e) s) h)
      (λ s h. ⊎_elim inl (λ (_, k). inr k) (by_first s h))
      (lists_append (apart_firsts Later Later) (lists_map (λ s. false ∷ s) (same_rest false) l) (lists_map (λ s. true ∷ s) (same_rest true) l))
  with_first_lists rest l false e =
      lists_like
      (λ s h. ⊎_elim (after false (λ k. absurd (false≢true k)) s) (λ k. absurd k) h)
      (λ s h. ⊎_elim inl (λ (k, _). absurd (both_ways (f 0) e k)) (by_first s h))
      (lists_append (λ s h k. k) (lists_map (λ s. false ∷ s) (same_rest false) l) lists_none)

pub sets_among_lists : (n : ℕ) (f : ℕ → Bool) → Lists (sets_among n f) (Among n f)
sets_among_lists zero f =
    lists_like
    (λ s e. record { width = ap length (sym e); passes = λ a h. absurd (false≢true (subst (In a) (sym e) h)) })
    (λ s h. sym (nil_from_length s h.width))
    (lists_one [])
sets_among_lists (suc n) f = with_first_lists n f (sets_among n (λ a. f (suc a))) (sets_among_lists n (λ a. f (suc a))) (f 0) refl

pub sets_of_heads_lists : (rules : List Rule) (n : ℕ) → Lists (sets_of_heads rules n) (Among n (is_head rules))
sets_of_heads_lists rules n = sets_among_lists n (is_head rules)

-- what a test that decides answer sets keeps of a list of the sets of heads is a list of the answer sets
pub kept_answers : (rules : List Rule) (given : Row) (p : Row → Bool) → ((i : Row) → Among (length given) (is_head rules) i → Decides (p i) (AnswerSet rules given i)) → {xs : List Row} → Lists xs (Among (length given) (is_head rules)) → Lists (filter p xs) (AnswerSet rules given)
kept_answers rules given p decides l =
    lists_like (λ i h. h.1) (λ i answer. (record { width = answer.width; passes = answer.heads }, answer))
    (lists_kept p (AnswerSet rules given) decides l)

pub answers_kept : (rules : List Rule) (given : Row) (p : Row → Bool) → ((i : Row) → Among (length given) (is_head rules) i → Decides (p i) (AnswerSet rules given i)) → Lists (filter p (sets_of_heads rules (length given))) (AnswerSet rules given)
answers_kept rules given p decides = kept_answers rules given p decides (sets_of_heads_lists rules (length given))
