-- From the marks of the numbers in a range to every mark of a row.
use Rattle.std.proofs.Common.{◌≡◌, ℕ, ◌+◌, ◌-◌, ◌<◌, ◌≤◌, Bool, true, false, List, length, get_or, Decides, MatchBool, sym, refl, ap, ◌∙◌, arith}
use Rattle.std.specs.List.{range_with_len, AllWithin, HoldsAt}
use Rattle.std.proofs.lemmas.List.FromFn.{length-range_with_len, get_or-range_with_len}
use Rattle.std.proofs.lemmas.Bool.{both_ways}
use Rattle.game.specs.Sets.{In, Row}
use Rattle.game.proofs.Rows.{in_width}

module _ (marks : Row) (n : ℕ) (wide : length marks ≡ 96) where
  from_n : List ℕ
  from_n = range_with_len n (96 - n)

  nth : (j : ℕ) → j < 96 - n → get_or (range_with_len n (96 - n)) j 0 ≡ n + j
  nth j h = get_or-range_with_len n (96 - n) j 0 h

  none_above : AllWithin (λ i. get_or marks i false ≡ false) (range_with_len n (96 - n)) 0 (length (range_with_len n (96 - n))) → (k : ℕ) → In k marks → n ≤ k → ⊥
  none_above all k marked h =
      let width = in_width marks wide k marked in
      let many = length-range_with_len n (96 - n) in
      let at : get_or (range_with_len n (96 - n)) (k - n) 0 ≡ k = nth (k - n) (omega arith) ∙ omega arith in
      let off = all (k - n) 0 (omega arith) (omega (arith, many)) in
      both_ways (get_or marks k false) (ap (λ i. get_or marks i false) (sym at) ∙ off) marked

  -- no number from n on is marked exactly where every mark is below n
  pub below : (b : Bool) → MatchBool b (AllWithin (λ i. get_or marks i false ≡ false) (range_with_len n (96 - n)) 0 (length (range_with_len n (96 - n)))) ((j : ℕ) × (j < length (range_with_len n (96 - n))) × HoldsAt (λ i. get_or marks i false ≡ true) (range_with_len n (96 - n)) j) → Decides b ((k : ℕ) → In k marks → k < n)
  below true all = (λ _ k marked. let no = none_above all k marked in omega (arith, no), λ _. refl)
  below false (j, h, found) =
      let many = length-range_with_len n (96 - n) in
      let at = nth j (omega (arith, many)) in
      (λ e. cc, λ within. absurd (let less = within (n + j) (ap (λ i. get_or marks i false) (sym at) ∙ found 0) in omega (arith, less)))
