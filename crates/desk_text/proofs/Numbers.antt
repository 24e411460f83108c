-- The number that a word of digits says.
use Rattle.std.proofs.Common.{◌≡◌, ◌≢◌, ℕ, ◌<◌, ◌^◌, Bool, true, false, ltb, cond, ◌&&◌, List, length, get_or, Some, None, Ok, Err, Option, Result, sym, refl, ap, ◌∙◌, inl, inr, arith, lt-ltb}
use Rattle.std.specs.Result.{OkIff, result_ok}
use Rattle.std.specs.Str.{all_ascii_digits}
use Rattle.std.specs.Str.Parse.{digits_value, ParsesUnsigned}
use Rattle.std.proofs.lemmas.Bool.Decides.{Decides-and, Decides-ltb}
use Rattle.std.proofs.lemmas.Str.Parse.{IsNumeralModel, numerals_by_value, tells_all_ascii_digits, parse_plain}
use Rattle.desk_text.specs.Words.{number_said}

own : IsNumeralModel (λ ds. all_ascii_digits ds ≡ true) (digits_value 10)
own = numerals_by_value _ tells_all_ascii_digits

-- digits, at least one, of a value that fits
abbrev Fits : List ℕ → Type 0
Fits word = (all_ascii_digits word ≡ true) × (0 < length word) × (digits_value 10 word < 2 ^ 64)

unsaid : (test : Bool) (n : ℕ) → (test ≡ true → ⊥) → None ≡ cond test (Some n) None
unsaid true n no' = absurd (no' refl)
unsaid false n no' = refl

said : {E : Type 0} (word : List ℕ) (r : Result ℕ E) → OkIff r (Fits word) (digits_value 10 word) → result_ok r ≡ number_said word
said word (Ok x) ((digits, some, small), is) = rw (lt-ltb 0 (length word) some, digits, lt-ltb (digits_value 10 word) (2 ^ 64) small, is) refl
said word (Err e) none =
    let some = ltb 0 (length word) in
    let digits = all_ascii_digits word in
    let small = ltb (digits_value 10 word) (2 ^ 64) in
    let tested = Decides-and (some && digits) small (Decides-and some digits (Decides-ltb 0 (length word)) (λ e. e, λ e. e)) (Decides-ltb (digits_value 10 word) (2 ^ 64)) in
    unsaid _ _ (λ e. let ((s, d), v) = tested.0 e in none (d, s, v))

-- what `parse` gives of a word that does not begin with a plus
pub number_parsed : {E : Type 0} (word : List ℕ) (r : Result ℕ E) → get_or word 0 0 ≢ 43 → ParsesUnsigned 64 10 word r → result_ok r ≡ number_said word
number_parsed word r bare parsed = said word r (parse_plain own 64 word r parsed bare)
