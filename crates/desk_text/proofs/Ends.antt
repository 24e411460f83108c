-- A line, with a byte at its end or without.
use Rattle.std.proofs.Common.{◌≡◌, ℕ, ◌+◌, ◌-◌, ◌≤◌, List, [], ◌∷◌, ◌++◌, length, get_or, take, cond, suc, sym, refl, ap, ◌∙◌, arith, eq-eqb}
use Rattle.std.proofs.Math.Seq.{take-suc}
use Rattle.std.proofs.lemmas.Bool.{ne_eqb}
use Rattle.std.proofs.lemmas.Grind.{common_steps}
use Rattle.desk_text.specs.Commands.{without_end}

-- a line that is not empty is its front and its last byte
split_last : (bs : List ℕ) → 1 ≤ length bs → bs ≡ take (length bs - 1) bs ++ (get_or bs (length bs - 1) 0 ∷ [])
split_last bs some =
    let is : suc (length bs - 1) ≡ length bs = omega arith in
    let whole : take (length bs) bs ≡ bs = grind (arith, common_steps) in
    sym whole ∙ ap (λ n. take n bs) (sym is) ∙ take-suc bs (length bs - 1) 0 (omega arith)

taken_off : (c : ℕ) (xs : List ℕ) → without_end c (xs ++ (c ∷ [])) ≡ xs
taken_off c [] = ap (λ b. cond b [] (c ∷ [])) (eq-eqb c c refl)
taken_off c (x ∷ []) = ap (λ l. x ∷ l) (taken_off c [])
taken_off c (x ∷ y ∷ xs) = ap (λ l. x ∷ l) (taken_off c (y ∷ xs))

kept_on : (c b : ℕ) (xs : List ℕ) → (b ≡ c → ⊥) → without_end c (xs ++ (b ∷ [])) ≡ xs ++ (b ∷ [])
kept_on c b [] ne = ap (λ t. cond t [] (b ∷ [])) (ne_eqb b c ne)
kept_on c b (x ∷ []) ne = ap (λ l. x ∷ l) (kept_on c b [] ne)
kept_on c b (x ∷ y ∷ xs) ne = ap (λ l. x ∷ l) (kept_on c b (y ∷ xs) ne)

-- the last byte is this one
pub ended : (c : ℕ) (bs : List ℕ) → 1 ≤ length bs → get_or bs (length bs - 1) 0 ≡ c → take (length bs - 1) bs ≡ without_end c bs
ended c bs some is =
    let front = take (length bs - 1) bs in
    sym (ap (without_end c) (split_last bs some ∙ ap (λ b. front ++ (b ∷ [])) is) ∙ taken_off c front)

-- it is another
pub unended : (c : ℕ) (bs : List ℕ) → 1 ≤ length bs → (get_or bs (length bs - 1) 0 ≡ c → ⊥) → bs ≡ without_end c bs
unended c bs some ne =
    let e = split_last bs some in
    e ∙ sym (ap (without_end c) e ∙ kept_on c (get_or bs (length bs - 1) 0) (take (length bs - 1) bs) ne)
