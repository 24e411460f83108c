-- The limits on one text: what is read keeps them, and what keeps them is read.
use Rattle.std.proofs.Common.{◌≡◌, ℕ, ◌+◌, ◌≤◌, false, leb, List, [], ◌∷◌, ◌++◌, map, length, refl, arith, length-append}
use Rattle.std.specs.List.{AllByRecursion}
use Rattle.std.proofs.lemmas.List.{length_push, length-map}
use Rattle.std.proofs.ByRecursion.{All-push}
use Rattle.std.proofs.lemmas.Bool.{leb-false, lt-leb}
use Rattle.game.specs.Rules.{Rule}
use Rattle.reading.specs.Lexical.{Word}
use Rattle.reading.specs.Steps.{literals}
use Rattle.grammar.specs.Grammar.{Name, Literal, plain, negated, Written, fact, rule, body_of, plains, negateds, numbered}
use Rattle.grammar.proofs.Places.{Place, Start, AfterHead, AfterArrow, AfterNot, AfterLiteral, AfterComma}
use Rattle.grammar.proofs.Stepping.{many, long, rule_after, ended_after}
use Rattle.grammar.proofs.Ahead.{Ahead, with_body, outcome, Moves, head_of_fact, head_of_rule, no_head, head_arrow, fact_ends, no_body, first_plain, first_not, negated_name, body_ends, one_more, next_plain, next_not}

abbrev Short : Rule → Type 0
Short r = literals r ≤ 16

-- rules within the limits on one text
pub record Fine (rs : List Rule) : Type 0 where
  pub few : length rs ≤ 256
  pub short : AllByRecursion Short rs

-- the rules that ended, with how many more have begun, and how many literals have begun in the rule that goes on
pub record Kept (rules body : ℕ) (rs : List Rule) : Type 0 where
  pub few : length rs + rules ≤ 256
  pub short : body ≤ 16
  pub all : AllByRecursion Short rs

abbrev pub rules_begun : Place → ℕ
rules_begun Start = 0
rules_begun AfterHead = 1
rules_begun AfterArrow = 1
rules_begun AfterNot = 1
rules_begun AfterLiteral = 1
rules_begun AfterComma = 1

abbrev pub literals_begun : Place → ℕ
literals_begun Start = 0
literals_begun AfterHead = 0
literals_begun AfterArrow = 0
literals_begun AfterNot = 1
literals_begun AfterLiteral = 0
literals_begun AfterComma = 0

abbrev pub Keeps : Place → Rule → List Rule → Type 0
Keeps p r rs = Kept (rules_begun p) (literals r + literals_begun p) rs

module _ (r : Rule) (rs : List Rule) where
  begins_rule : leb 256 (length rs) ≡ false → Kept 0 (literals r + 0) rs → Kept 1 (literals r + 0) rs
  begins_rule e h = record { few = omega (arith, leb-false 256 (length rs) e); short = h.short; all = h.all }

  begins_literal : leb 16 (literals r) ≡ false → Kept 1 (literals r + 0) rs → Kept 1 (literals r + 1) rs
  begins_literal e h = record { few = h.few; short = omega (arith, leb-false 16 (literals r) e); all = h.all }

  -- a literal that has begun stands in the rule then
  ends_literal : (n : ℕ) → n ≡ literals r + 1 → Kept 1 (literals r + 1) rs → Kept 1 (n + 0) rs
  ends_literal n e h = record { few = h.few; short = omega arith; all = h.all }

  ends_rule : Kept 1 (literals r + 0) rs → Kept 0 0 (rs ++ r ∷ [])
  ends_rule h = record { few = simp length_push (omega arith); short = omega arith; all = All-push Short rs r h.all (omega arith) }

one_plain : (r : Rule) (k : ℕ) → length (r.plain ++ k ∷ []) + length r.negated ≡ literals r + 1
one_plain r k = simp length_push (omega arith)

one_negated : (r : Rule) (k : ℕ) → length r.plain + length (r.negated ++ k ∷ []) ≡ literals r + 1
one_negated r k = simp length_push (omega arith)

-- a token that is within the limits leaves what is read so
pub kept_move : (r : Rule) (rs : List Rule) (k : ℕ) {p q : Place} {a : Ahead p} {w : Word} {a' : Ahead q} → Moves p q a w a' → many p rs ≡ false → long p w r ≡ false → Keeps p r rs → Keeps q (rule_after p w k r) (ended_after w r rs)
kept_move r rs k (head_of_fact n ws) m l h = begins_rule r rs m h
kept_move r rs k (head_of_rule n b ws) m l h = begins_rule r rs m h
kept_move r rs k (no_head b ws) m l h = begins_rule r rs m h
kept_move r rs k (head_arrow b ws) m l h = h
kept_move r rs k (fact_ends ws) m l h = ends_rule r rs h
kept_move r rs k (no_body ws) m l h = ends_rule r rs h
kept_move r rs k (first_plain n ls ws) m l h = ends_literal r rs _ (one_plain r k) (begins_literal r rs l h)
kept_move r rs k (first_not n ls ws) m l h = begins_literal r rs l h
kept_move r rs k (negated_name n ls ws) m l h = ends_literal r rs _ (one_negated r k) h
kept_move r rs k (body_ends ws) m l h = ends_rule r rs h
kept_move r rs k (one_more l' ls ws) m l h = h
kept_move r rs k (next_plain n ls ws) m l h = ends_literal r rs _ (one_plain r k) (begins_literal r rs l h)
kept_move r rs k (next_not n ls ws) m l h = begins_literal r rs l h

module _ (table : List Name) where
  body_length : (ls : List Literal) → length (plains table ls) + length (negateds table ls) ≡ length ls
  body_length [] = refl
  body_length (plain n ∷ ls) = let ih = body_length ls in omega arith
  body_length (negated n ∷ ls) = let ih = body_length ls in omega arith

  literals_with_body : (r : Rule) (ls : List Literal) → literals (with_body table r ls) ≡ literals r + length ls
  literals_with_body r ls = let long = body_length ls in simp length-append (omega arith)

all_at : {X : Type 0} (P : X → Type 0) (xs : List X) (y : X) (ys : List X) → AllByRecursion P (xs ++ y ∷ ys) → P y
all_at P [] y ys h = h.0
all_at P (x ∷ xs) y ys h = all_at P xs y ys h.1

module _ (table : List Name) (r : Rule) (rs : List Rule) where
  rule_passes : (x : Rule) (xs : List Rule) → Fine (rs ++ x ∷ xs) → leb 256 (length rs) ≡ false
  rule_passes x xs h = lt-leb 256 (length rs) (let all : length rs + length (x ∷ xs) ≤ 256 = simp length-append at h.few in omega arith)

  literal_passes : (l : Literal) (ls : List Literal) (xs : List Rule) → Fine (rs ++ with_body table r (l ∷ ls) ∷ xs) → leb 16 (literals r) ≡ false
  literal_passes l ls xs h = lt-leb 16 (literals r) (let here = all_at Short rs (with_body table r (l ∷ ls)) xs h.short in omega (arith, literals_with_body table r (l ∷ ls)))

  -- a token passes, where the rules are fine in the end
  pub passes : {p q : Place} {a : Ahead p} {w : Word} {a' : Ahead q} → Moves p q a w a' → Fine (rs ++ outcome table r a) → (many p rs ≡ false) × (long p w r ≡ false)
  passes (head_of_fact n ws) h = (rule_passes _ _ h, refl)
  passes (head_of_rule n b ws) h = (rule_passes _ _ h, refl)
  passes (no_head b ws) h = (rule_passes _ _ h, refl)
  passes (head_arrow b ws) h = (refl, refl)
  passes (fact_ends ws) h = (refl, refl)
  passes (no_body ws) h = (refl, refl)
  passes (first_plain n ls ws) h = (refl, literal_passes (plain n) ls _ h)
  passes (first_not n ls ws) h = (refl, literal_passes (negated n) ls _ h)
  passes (negated_name n ls ws) h = (refl, refl)
  passes (body_ends ws) h = (refl, refl)
  passes (one_more l ls ws) h = (refl, refl)
  passes (next_plain n ls ws) h = (refl, literal_passes (plain n) ls _ h)
  passes (next_not n ls ws) h = (refl, literal_passes (negated n) ls _ h)

-- the limits on rules as they are written
module _ (table : List Name) where
  literals_numbered : (w : Written) → literals (numbered table w) ≡ length (body_of w)
  literals_numbered (fact n) = refl
  literals_numbered (rule h b) = body_length table b

  abbrev ShortBody : Written → Type 0
  ShortBody w = length (body_of w) ≤ 16

  short_numbered : (ws : List Written) → AllByRecursion ShortBody ws → AllByRecursion Short (map (numbered table) ws)
  short_numbered [] h = tt
  short_numbered (w ∷ ws) h = (rw literals_numbered h.0, short_numbered ws h.1)

  numbered_short : (ws : List Written) → AllByRecursion Short (map (numbered table) ws) → AllByRecursion ShortBody ws
  numbered_short [] h = tt
  numbered_short (w ∷ ws) h = (rw literals_numbered at h.0, numbered_short ws h.1)

  pub fine_numbered : (ws : List Written) → length ws ≤ 256 → AllByRecursion ShortBody ws → Fine (map (numbered table) ws)
  fine_numbered ws few short = record { few = simp length-map few; short = short_numbered ws short }

  pub numbered_fine : (ws : List Written) → Fine (map (numbered table) ws) → (length ws ≤ 256) × AllByRecursion ShortBody ws
  numbered_fine ws h = (simp length-map at h.few, numbered_short ws h.short)
