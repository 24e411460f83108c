-- The token at the front of bytes, where no gap begins.
use Rattle.std.proofs.Common.{◌≡◌, ℕ, suc, ◌+◌, ◌≤◌, Bool, true, false, cond, eqb, leb, List, [], ◌∷◌, ◌++◌, length, Some, codes, sym, refl, ap, ◌∙◌, subst, arith}
use Rattle.std.specs.List.{AllByRecursion}
use Rattle.std.specs.Str.{bytes_eq}
use Rattle.std.proofs.lemmas.List.{take_at}
use Rattle.std.proofs.lemmas.Bool.{eqb-true, leb-true, le-leb, not-true, cond-true, cond-false}
use Rattle.std.proofs.lemmas.Bool.Decides.{nat_tests, not_from_Decides, Decides-not}
use Rattle.std.proofs.lemmas.Slice.Eq.{bytes_eq-Decides}
use Rattle.refusals.specs.declared.fault.Text.{Text}
use Rattle.refusals.specs.declared.fault.Fault.{Fault}
use Rattle.reading.specs.Classes.{small, name_part}
use Rattle.reading.specs.Lexical.{run, Word, name, negation, arrow, comma, dot, Lexed, token, no_token, long_name, front, word}
use Rattle.reading.specs.Tokens.{lexical_fault}
use Rattle.grammar.specs.Spelling.{spelling, Proper, Ends, Stops}
use Rattle.grammar.proofs.Gaps.{Clear}

-- letters, digits and underscores
abbrev Parts : List ℕ → Type 0
Parts n = AllByRecursion (λ c. name_part c ≡ true) n

run_over : (n rest : List ℕ) → Parts n → Stops rest → run (n ++ rest) ≡ length n
run_over [] [] a s = refl
run_over [] (b ∷ rest) a s = cond-false (name_part b) _ _ s
run_over (b ∷ bs) rest a s = cond-true (name_part b) _ _ a.0 ∙ ap suc (run_over bs rest a.1 s)

-- a run goes as far as it can
abbrev Run : List ℕ → Type 0
Run bs = (n rest : List ℕ) × (bs ≡ n ++ rest) × Parts n × Stops rest

run_of : (bs : List ℕ) → Run bs
run_of [] = ([], [], refl, tt, tt)
run_of (b ∷ bs) = go (name_part b) refl (run_of bs)
  where
    go : (x : Bool) → name_part b ≡ x → Run bs → Run (b ∷ bs)
    go true e (n, rest, s, p, r) = (b ∷ n, rest, ap (λ l. b ∷ l) s, (e, p), r)
    go false e h = ([], b ∷ bs, refl, tt, e)

module _ (b : ℕ) (bs : List ℕ) (e : small b ≡ true) where
  small_clear : Clear (b ∷ bs)
  small_clear = (grind (arith, nat_tests), grind (arith, nat_tests))

  small_front : (at : ℕ) → front at (b ∷ bs) ≡ word at (suc (run bs)) (b ∷ bs)
  small_front at = cond-false (eqb b 44) _ _ (grind (arith, nat_tests)) ∙ cond-false (eqb b 46) _ _ (grind (arith, nat_tests)) ∙ cond-false (eqb b 58) _ _ (grind (arith, nat_tests)) ∙ cond-true (small b) _ _ e

-- the token of a run that is not too long
abbrev short_word : ℕ → List ℕ → Lexed
short_word at n = cond (bytes_eq n (codes "not")) (token at (at + length n) negation) (token at (at + length n) (name n))

-- what stands at the front where a name or `not` begins
word_front : (b : ℕ) (n rest : List ℕ) (at : ℕ) → small b ≡ true → Parts n → Stops rest → front at (b ∷ (n ++ rest)) ≡ cond (leb (length (b ∷ n)) 32) (short_word at (b ∷ n)) (long_name at)
word_front b n rest at e p s =
    small_front b (n ++ rest) e at
    ∙ ap (λ k. word at (suc k) (b ∷ (n ++ rest))) (run_over n rest p s)
    ∙ ap (λ l. cond (leb (length (b ∷ n)) 32) (cond (bytes_eq l (codes "not")) (token at (at + length (b ∷ n)) negation) (token at (at + length (b ∷ n)) (name l))) (long_name at)) (take_at (b ∷ n) rest (length (b ∷ n)) refl)

-- a spelled token is the token at the front
pub front_spelled : (w : Word) (rest : List ℕ) (at : ℕ) → Proper w → Ends w rest → front at (spelling w ++ rest) ≡ token at (at + length (spelling w)) w
front_spelled (name []) rest at p s = absurd p.0
front_spelled (name (b ∷ n)) rest at p s =
    word_front b n rest at p.0.0 p.0.1 s ∙ cond-true (leb (length (b ∷ n)) 32) _ _ (le-leb _ _ p.2) ∙ cond-false (bytes_eq (b ∷ n) (codes "not")) _ _ (not-true _ ((Decides-not _ (bytes_eq-Decides (b ∷ n) (codes "not"))).1 p.1))
front_spelled negation rest at p s = word_front 110 (111 ∷ 116 ∷ []) rest at refl (refl, (refl, tt)) s
front_spelled arrow rest at p s = refl
front_spelled comma rest at p s = refl
front_spelled dot rest at p s = refl

-- no gap begins at a spelled token
pub spelled_clear : (w : Word) (rest : List ℕ) → Proper w → Clear (spelling w ++ rest)
spelled_clear (name []) rest p = absurd p.0
spelled_clear (name (b ∷ n)) rest p = small_clear b (n ++ rest) p.0.0
spelled_clear negation rest p = (refl, refl)
spelled_clear arrow rest p = (refl, refl)
spelled_clear comma rest p = (refl, refl)
spelled_clear dot rest p = (refl, refl)

-- a spelled token is not empty
pub spelled_long : (w : Word) → Proper w → 1 ≤ length (spelling w)
spelled_long (name []) p = absurd p.0
spelled_long (name (b ∷ n)) p = omega arith
spelled_long negation p = omega arith
spelled_long arrow p = omega arith
spelled_long comma p = omega arith
spelled_long dot p = omega arith

-- what stands at the front of bytes: a token, or what is refused
pub data Front (bs : List ℕ) : Type 0 where
  spelled : (w : Word) (rest : List ℕ) → bs ≡ spelling w ++ rest → Proper w → Ends w rest → Front bs
  refused : ((t : Text) (at : ℕ) → (f : Fault) × (lexical_fault t (front at bs) ≡ Some f)) → Front bs

refused_as : (bs : List ℕ) (l : ℕ → Lexed) → ((at : ℕ) → front at bs ≡ l at) → ((t : Text) (at : ℕ) → (f : Fault) × (lexical_fault t (l at) ≡ Some f)) → Front bs
refused_as bs l e h = refused (λ t at. ((h t at).0, ap (lexical_fault t) (e at) ∙ (h t at).1))

after_colon : (bs : List ℕ) → Front (58 ∷ bs)
after_colon [] = refused_as (58 ∷ []) no_token (λ at. refl) (λ t at. (_, refl))
after_colon (c ∷ bs) = go (eqb c 45) refl
  where
    go : (x : Bool) → eqb c 45 ≡ x → Front (58 ∷ c ∷ bs)
    go true e = spelled arrow bs (ap (λ d. 58 ∷ d ∷ bs) (eqb-true c 45 e)) tt tt
    go false e = refused_as (58 ∷ c ∷ bs) no_token (λ at. cond-false (eqb c 45) _ _ e) (λ t at. (_, refl))

front_word : (b : ℕ) (n rest : List ℕ) → small b ≡ true → Parts n → Stops rest → Front (b ∷ (n ++ rest))
front_word b n rest e p s = go (leb (length (b ∷ n)) 32) (bytes_eq (b ∷ n) (codes "not")) refl refl
  where
    go : (x y : Bool) → leb (length (b ∷ n)) 32 ≡ x → bytes_eq (b ∷ n) (codes "not") ≡ y → Front (b ∷ (n ++ rest))
    go true true f g = spelled negation rest (ap (λ l. l ++ rest) ((bytes_eq-Decides (b ∷ n) (codes "not")).0 g)) tt s
    go true false f g = spelled (name (b ∷ n)) rest refl ((e, p), not_from_Decides _ (bytes_eq-Decides (b ∷ n) (codes "not")) g, leb-true _ _ f) s
    go false y f g = refused_as (b ∷ (n ++ rest)) long_name (λ at. word_front b n rest at e p s ∙ cond-false (leb (length (b ∷ n)) 32) _ _ f) (λ t at. (_, refl))

pub front_of : (b : ℕ) (bs : List ℕ) → Front (b ∷ bs)
front_of b bs = go (eqb b 44) (eqb b 46) (eqb b 58) (small b) refl refl refl refl
  where
    go : (x y z s : Bool) → eqb b 44 ≡ x → eqb b 46 ≡ y → eqb b 58 ≡ z → small b ≡ s → Front (b ∷ bs)
    go true y z s e f g h = spelled comma bs (ap (λ c. c ∷ bs) (eqb-true b 44 e)) tt tt
    go false true z s e f g h = spelled dot bs (ap (λ c. c ∷ bs) (eqb-true b 46 f)) tt tt
    go false false true s e f g h = subst (λ c. Front (c ∷ bs)) (sym (eqb-true b 58 g)) (after_colon bs)
    go false false false true e f g h = let (n, rest, i, p, r) = run_of bs in subst (λ l. Front (b ∷ l)) (sym i) (front_word b n rest h p r)
    go false false false false e f g h = refused_as (b ∷ bs) no_token (λ at. cond-false (eqb b 44) _ _ e ∙ cond-false (eqb b 46) _ _ f ∙ cond-false (eqb b 58) _ _ g ∙ cond-false (small b) _ _ h) (λ t at. (_, refl))
