-- A text may be cut beside a blank.
use Rattle.std.proofs.Common.{◌≡◌, ℕ, ◌+◌, ◌-◌, ◌<◌, ◌≤◌, true, false, not, List, length, reverse, get_or, IsUtf8, sym, refl, ap, ◌∙◌, subst, ⊎_elim, arith}
use Rattle.std.specs.List.{prefix_len, suffix_len, position_or_len}
use Rattle.std.specs.Str.{IsCharBoundary}
use Rattle.std.proofs.lemmas.Bool.{cases_lt}
use Rattle.std.proofs.lemmas.Bool.Decides.{nat_tests}
use Rattle.std.proofs.lemmas.List.{get_or-reverse, length-reverse}
use Rattle.std.proofs.lemmas.List.Sums.{prefix_len-le-length, prefix_len_passes, passes_at_first, suffix_len-le-length}
use Rattle.std.proofs.lemmas.Str.{IsCharBoundary-start, IsCharBoundary-end, IsCharBoundary-before_ascii, IsCharBoundary-after_ascii}
use Rattle.desk_text.specs.Words.{is_blank}

blank_ascii : (b : ℕ) → is_blank b ≡ true → b < 128
blank_ascii b e = grind (arith, nat_tests)

-- behind the blanks at the start
pub after_blanks : (bs : List ℕ) → IsUtf8 bs → IsCharBoundary bs (prefix_len is_blank bs)
after_blanks bs utf8 =
    let n = prefix_len is_blank bs in
    let le : n ≤ length bs = prefix_len-le-length is_blank bs in
    ⊎_elim
    (λ (some : 0 < n).
    let last = blank_ascii _ (prefix_len_passes is_blank bs (n - 1) 0 (omega arith)) in
    let is : n - 1 + 1 ≡ n = omega arith in
    subst (IsCharBoundary bs) is (IsCharBoundary-after_ascii bs (n - 1) utf8 (omega arith) last))
    (λ (none : n ≤ 0).
    let is : 0 ≡ n = omega arith in
    subst (IsCharBoundary bs) is (IsCharBoundary-start bs utf8))
    (cases_lt 0 n)

-- behind the first word
pub after_word : (bs : List ℕ) → IsCharBoundary bs (position_or_len is_blank bs)
after_word bs =
    let n = position_or_len is_blank bs in
    let le : n ≤ length bs = prefix_len-le-length (λ b. not (is_blank b)) bs in
    ⊎_elim
    (λ (within : n < length bs). IsCharBoundary-before_ascii bs n within (blank_ascii _ (passes_at_first is_blank bs 0 within)))
    (λ (past : length bs ≤ n).
    let is : length bs ≡ n = omega arith in
    subst (IsCharBoundary bs) is (IsCharBoundary-end bs))
    (cases_lt n (length bs))

-- before the blanks at the end
pub before_blanks : (bs : List ℕ) → IsCharBoundary bs (length bs - suffix_len is_blank bs)
before_blanks bs =
    let m = suffix_len is_blank bs in
    let le : m ≤ length bs = suffix_len-le-length is_blank bs in
    ⊎_elim
    (λ (some : 0 < m).
    let first = prefix_len_passes is_blank (reverse bs) (m - 1) 0 (omega arith) in
    let at = get_or-reverse bs (m - 1) 0 (omega arith) in
    let is : length bs - 1 - (m - 1) ≡ length bs - m = omega arith in
    IsCharBoundary-before_ascii bs (length bs - m) (omega arith) (blank_ascii _ (sym (ap is_blank (at ∙ ap (λ k. get_or bs k 0) is)) ∙ first)))
    (λ (none : m ≤ 0).
    let is : length bs ≡ length bs - m = omega arith in
    subst (IsCharBoundary bs) is (IsCharBoundary-end bs))
    (cases_lt 0 m)
