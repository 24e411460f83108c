-- The orders of the two finders: the sets of heads in a fixed order, of which the answer sets are kept.
use Rattle.std.specs.Prelude.{◌≡◌, ℕ, ◌<◌, Bool, true, false, List, length, filter, slice_index_or}
use Rattle.game.specs.Sets.{Row, In}
use Rattle.game.specs.Rules.{Rule, is_head}
use Rattle.game.specs.Heads.{sets_of_heads, counted_among}
use Rattle.game.proofs.Decided.{dec_answer}

abbrev pub told : {P : Type 0} → Dec P → Bool
told (yes _) = true
told (no _) = false

-- i is an answer set, as a test
abbrev pub answers : List Rule → Row → Row → Bool
answers rules given i = told (dec_answer rules given i)

-- the lowest head is settled first, and is out before it is in
unfoldable pub branching_order : List Rule → Row → List Row
branching_order rules given = filter (answers rules given) (sets_of_heads rules (length given))

-- at the lowest place where they differ, the first row has no mark and the second has one
abbrev pub Lexical : Row → Row → Type 0
Lexical s t = (k : ℕ) × ((j : ℕ) → j < k → slice_index_or s j false ≡ slice_index_or t j false) × (slice_index_or s k false ≡ false) × In k t

-- as binary numbers, of which the lowest head is the lowest digit
unfoldable pub counting_order : List Rule → Row → List Row
counting_order rules given = filter (answers rules given) (counted_among (length given) (is_head rules))

-- at the highest place where they differ, the first row has no mark and the second has one
abbrev pub Lower : Row → Row → Type 0
Lower s t = (k : ℕ) × ((j : ℕ) → k < j → slice_index_or s j false ≡ slice_index_or t j false) × (slice_index_or s k false ≡ false) × In k t
