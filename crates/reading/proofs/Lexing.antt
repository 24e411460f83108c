-- How many bytes are a gap or a name, and what stands at a place.
use Rattle.std.proofs.Common.{◌≡◌, ℕ, suc, ◌+◌, ◌-◌, ◌≤◌, Bool, true, false, cond, not, eqb, leb, subst, List, [], ◌∷◌, refl, length, take, drop, codes, sym, ap, ◌∙◌, arith}
use Rattle.std.proofs.lemmas.List.{take_all, length-drop, at_drop_all}
use Rattle.std.specs.List.{take_while}
use Rattle.std.specs.Str.{bytes_eq}
use Rattle.std.proofs.lemmas.List.Sums.{take_while-cons}
use Rattle.std.proofs.lemmas.Bool.{le-leb}
use Rattle.reading.specs.Classes.{blank, small, name_part}
use Rattle.reading.specs.Lexical.{gap, run, Word, Lexed, no_token, long_name, token, name, negation, word, colon, front, end, lexed, past_gap}

-- the run of a name is what `take_while` takes
run_taken : (bs : List ℕ) → length (take_while name_part bs) ≡ run bs
run_taken [] = refl
run_taken (b ∷ bs) =
    ap length (take_while-cons name_part b bs)
    ∙ elim (name_part b) as (λ v. length (cond v (b ∷ take_while name_part bs) []) ≡ cond v (suc (run bs)) 0) [ true ↦ ap suc (run_taken bs) | false ↦ refl ]

run_bound : (bs : List ℕ) → run bs ≤ length bs
run_bound [] = omega arith
run_bound (b ∷ bs) = elim (name_part b) as (λ v. cond v (suc (run bs)) 0 ≤ suc (length bs)) [ true ↦ omega (arith, run_bound bs) | false ↦ omega arith ]

gap_bound : (inside : Bool) (bs : List ℕ) → gap inside bs ≤ length bs
gap_bound true [] = omega arith
gap_bound false [] = omega arith
gap_bound true (b ∷ bs) = omega (arith, gap_bound (not (eqb b 10)) bs)
gap_bound false (b ∷ bs) =
    elim (blank b) as (λ v. cond v (suc (gap false bs)) (cond (eqb b 37) (suc (gap true bs)) 0) ≤ suc (length bs)) [
      | true ↦ omega (arith, gap_bound false bs)
      | false ↦ elim (eqb b 37) as (λ v. cond v (suc (gap true bs)) 0 ≤ suc (length bs)) [ true ↦ omega (arith, gap_bound true bs) | false ↦ omega arith ]
    ]

-- the part of a text from a place to its end
rest : (bs : List ℕ) (i : ℕ) → take (length bs - i) (drop i bs) ≡ drop i bs
rest bs i = take_all (length bs - i) (drop i bs) (omega (arith, length-drop i bs))

pub run_rest : (bs : List ℕ) (i n : ℕ) → i ≤ length bs → n ≡ length (take_while name_part (take (length bs - i) (drop i bs))) → (n ≡ run (drop i bs)) × (i + n ≤ length bs)
run_rest bs i n h e =
    let same = e ∙ run_taken (take (length bs - i) (drop i bs)) ∙ ap run (rest bs i) in
    (same, omega (arith, same, run_bound (drop i bs), length-drop i bs))

pub gap_rest : (bs : List ℕ) (i n : ℕ) → i ≤ length bs → n ≡ gap false (take (length bs - i) (drop i bs)) → (n ≡ gap false (drop i bs)) × (i + n ≤ length bs)
gap_rest bs i n h e =
    let same = e ∙ ap (gap false) (rest bs i) in
    (same, omega (arith, same, gap_bound false (drop i bs), length-drop i bs))

-- a word of at most 32 bytes is a name or the word `not`
pub word_name : (at n after : ℕ) (bs : List ℕ) → after ≡ at + n → n ≤ 32 → bytes_eq (take n bs) (codes "not") ≡ false → word at n bs ≡ token at after (name (take (after - at) bs))
word_name at n after bs e few other =
    let size : n ≡ after - at = omega arith in
    ap (λ b. cond b (cond (bytes_eq (take n bs) (codes "not")) (token at (at + n) negation) (token at (at + n) (name (take n bs)))) (long_name at)) (le-leb n 32 few)
    ∙ ap (λ b. cond b (token at (at + n) negation) (token at (at + n) (name (take n bs)))) other ∙ ap (λ a. token at a (name (take n bs))) (sym e) ∙ ap (λ k. token at after (name (take k bs))) size

pub lexed_at : (bs : List ℕ) (from at : ℕ) → at ≡ past_gap bs from → lexed bs from ≡ front at (drop at bs)
unfolding lexed
lexed_at bs from at e = ap (λ a. front a (drop a bs)) (sym e)

pub front_end : (bs : List ℕ) (i at : ℕ) → length bs ≤ i → front at (drop i bs) ≡ end
front_end bs i at h = at_drop_all (front at) bs i h

-- a token that starts at a place with n bytes ends within them
abbrev Ends : ℕ → ℕ → Lexed → Type 0
Ends at n end = Unit {0}
Ends at n (no_token at') = Unit {0}
Ends at n (long_name at') = Unit {0}
Ends at n (token at' after w) = after ≤ at + n

either : (P : Lexed → Type 0) (b : Bool) (x y : Lexed) → P x → P y → P (cond b x y)
either P true x y p q = p
either P false x y p q = q

colon_ends : (at : ℕ) (bs : List ℕ) → Ends at (suc (length bs)) (colon at bs)
colon_ends at [] = tt
colon_ends at (b ∷ bs) = either (Ends at (suc (suc (length bs)))) (eqb b 45) _ _ (omega arith) tt

word_ends : (at : ℕ) (b : ℕ) (bs : List ℕ) → Ends at (suc (length bs)) (word at (suc (run bs)) (b ∷ bs))
word_ends at b bs =
    let P = Ends at (suc (length bs)) in
    let within : at + suc (run bs) ≤ at + suc (length bs) = omega (arith, run_bound bs) in
    either P (leb (suc (run bs)) 32) _ _ (either P (bytes_eq (take (suc (run bs)) (b ∷ bs)) (codes "not")) _ _ within within) tt

front_ends : (at : ℕ) (bs : List ℕ) → Ends at (length bs) (front at bs)
front_ends at [] = tt
front_ends at (b ∷ bs) =
    let P = Ends at (suc (length bs)) in
    let within : at + 1 ≤ at + suc (length bs) = omega arith in
    either P (eqb b 44) _ _ within (either P (eqb b 46) _ _ within (either P (eqb b 58) _ _ (colon_ends at bs) (either P (small b) _ _ (word_ends at b bs) tt)))

pub token_ends : (bs : List ℕ) (i after : ℕ) (w : Word) → i ≤ length bs → front i (drop i bs) ≡ token i after w → after ≤ length bs
token_ends bs i after w h e = omega (arith, subst (Ends i (length (drop i bs))) e (front_ends i (drop i bs)), length-drop i bs)
