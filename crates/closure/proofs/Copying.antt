-- A row that is copied mark by mark into an empty one.
use Rattle.std.proofs.Common.{◌≡◌, ℕ, ◌+◌, ◌<◌, ◌≤◌, ◌≢◌, true, false, ◌&&◌, ltb, length, get_or, set, replicate, sym, ap, ◌∙◌, ⊎_elim, arith}
use Rattle.std.proofs.lemmas.List.{ext_get_or, get_or-set_same, get_or-set_other, get_or-replicate}
use Rattle.std.proofs.lemmas.Bool.{cases_lt, cases_eq, lt-ltb, le-ltb}
use Rattle.game.specs.Sets.{Row}

-- the first k marks are those of the other row, and the others are not set
abbrev pub CopiedTo : ℕ → Row → Row → Type 0
CopiedTo k from is = (j : ℕ) → j < 96 → get_or is j false ≡ (ltb j k && get_or from j false)

pub copied_none : (from is : Row) → is ≡ replicate 96 false → CopiedTo 0 from is
copied_none from is e j below = ap (λ s. get_or s j false) e ∙ get_or-replicate 96 j false false below ∙ sym (ap (λ b. b && get_or from j false) (le-ltb j 0 (omega arith)))

-- the place k is neither nearer nor further for any other
same_side : (j k : ℕ) → j ≢ k → ltb j k ≡ ltb j (k + 1)
same_side j k ne = ⊎_elim (λ less. lt-ltb j k less ∙ sym (lt-ltb j (k + 1) (omega (arith, less)))) (λ more. le-ltb j k more ∙ sym (le-ltb j (k + 1) (omega (arith, more, ne)))) (cases_lt j k)

here : (j k : ℕ) → j ≡ k → ltb j (k + 1) ≡ true
here j k e = lt-ltb j (k + 1) (omega (arith, e))

pub copied_skip : (k : ℕ) (from is : Row) → CopiedTo k from is → get_or from k false ≡ false → CopiedTo (k + 1) from is
copied_skip k from is so none j below = ⊎_elim same other (cases_eq j k)
  where
    same : j ≡ k → get_or is j false ≡ (ltb j (k + 1) && get_or from j false)
    same e =
        let lost : get_or from j false ≡ false = ap (λ i. get_or from i false) e ∙ none in
        so j below ∙ ap (λ b. b && get_or from j false) (le-ltb j k (omega (arith, e))) ∙ sym lost ∙ sym (ap (λ b. b && get_or from j false) (here j k e))

    other : j ≢ k → get_or is j false ≡ (ltb j (k + 1) && get_or from j false)
    other ne = so j below ∙ ap (λ b. b && get_or from j false) (same_side j k ne)

pub copied_put : (k : ℕ) (from is : Row) → length is ≡ 96 → CopiedTo k from is → get_or from k false ≡ true → CopiedTo (k + 1) from (set is k true)
copied_put k from is wide so one j below = ⊎_elim same other (cases_eq j k)
  where
    same : j ≡ k → get_or (set is k true) j false ≡ (ltb j (k + 1) && get_or from j false)
    same e =
        let put : get_or (set is k true) j false ≡ true = ap (λ i. get_or (set is k true) i false) e ∙ get_or-set_same is k true false (omega (arith, e, below, wide)) in
        let marked : get_or from j false ≡ true = ap (λ i. get_or from i false) e ∙ one in
        put ∙ sym marked ∙ sym (ap (λ b. b && get_or from j false) (here j k e))

    other : j ≢ k → get_or (set is k true) j false ≡ (ltb j (k + 1) && get_or from j false)
    other ne = get_or-set_other is k j true false ne ∙ so j below ∙ ap (λ b. b && get_or from j false) (same_side j k ne)

pub copied_all : (k : ℕ) (from is : Row) → 96 ≤ k → length from ≡ 96 → length is ≡ 96 → CopiedTo k from is → is ≡ from
copied_all k from is all wide wide' so =
    ext_get_or false is from (wide' ∙ sym wide)
    (λ j less. let below : j < 96 = omega (arith, less, wide') in so j below ∙ ap (λ b. b && get_or from j false) (lt-ltb j k (omega (arith, below, all))))
