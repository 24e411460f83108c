-- What may be left of a text after a part of it, in the grammar's words, and how a token takes it on.
use Rattle.std.proofs.Common.{◌≡◌, ℕ, true, false, ◌⊎◌, List, [], ◌∷◌, ◌++◌, map, Some, None, Option, refl, ap, ◌∙◌, inl, inr, append_assoc, append-nil}
use Rattle.game.specs.Rules.{Rule}
use Rattle.reading.specs.Lexical.{Word, name, negation, arrow, comma, dot}
use Rattle.reading.specs.Steps.{follow, opens_rule, put, no_rule}
use Rattle.grammar.specs.Grammar.{Name, Literal, plain, negated, Written, fact, rule, body_words, more_words, text_words, literal_name, names, number, plains, negateds, numbered}
use Rattle.grammar.proofs.Places.{Place, Start, AfterHead, AfterArrow, AfterNot, AfterLiteral, AfterComma, reached}
use Rattle.grammar.proofs.Stepping.{word_names, rule_after, ended_after, Follows}

-- the rest of the rule at hand, if there is one, and the rules after it
pub data Ahead : Place → Type 0 where
  start : List Written → Ahead Start
  after_head : Option (List Literal) → List Written → Ahead AfterHead
  after_arrow : List Literal → List Written → Ahead AfterArrow
  after_not : Name → List Literal → List Written → Ahead AfterNot
  after_literal : List Literal → List Written → Ahead AfterLiteral
  after_comma : Literal → List Literal → List Written → Ahead AfterComma

abbrev to_end : List Word → List Written → List Word
to_end body ws = (body ++ dot ∷ []) ++ text_words ws

abbrev pub ahead_words : {p : Place} → Ahead p → List Word
ahead_words (start ws) = text_words ws
ahead_words (after_head None ws) = dot ∷ text_words ws
ahead_words (after_head (Some b) ws) = arrow ∷ to_end (body_words b) ws
ahead_words (after_arrow b ws) = to_end (body_words b) ws
ahead_words (after_not n ls ws) = name n ∷ to_end (more_words ls) ws
ahead_words (after_literal ls ws) = to_end (more_words ls) ws
ahead_words (after_comma l ls ws) = to_end (body_words (l ∷ ls)) ws

abbrev names_of : List Literal → List Written → List Name
names_of ls ws = map literal_name ls ++ names ws

abbrev pub ahead_names : {p : Place} → Ahead p → List Name
ahead_names (start ws) = names ws
ahead_names (after_head None ws) = names ws
ahead_names (after_head (Some b) ws) = names_of b ws
ahead_names (after_arrow b ws) = names_of b ws
ahead_names (after_not n ls ws) = names_of (negated n ∷ ls) ws
ahead_names (after_literal ls ws) = names_of ls ws
ahead_names (after_comma l ls ws) = names_of (l ∷ ls) ws

-- the rules that come of it: r is what is read of the rule at hand, and the table numbers the names
module _ (table : List Name) (r : Rule) where
  abbrev pub with_body : List Literal → Rule
  with_body ls = record { head = r.head; plain = r.plain ++ plains table ls; negated = r.negated ++ negateds table ls }

  abbrev finished : List Literal → List Written → List Rule
  finished ls ws = with_body ls ∷ map (numbered table) ws

abbrev headed : List Name → Name → Rule → Rule
headed table n r = rule_after Start (name n) (number table n) r

abbrev pub outcome : List Name → Rule → {p : Place} → Ahead p → List Rule
outcome table r (start []) = []
outcome table r (start (fact n ∷ ws)) = finished table (headed table n r) [] ws
outcome table r (start (rule None b ∷ ws)) = finished table r b ws
outcome table r (start (rule (Some n) b ∷ ws)) = finished table (headed table n r) b ws
outcome table r (after_head None ws) = finished table r [] ws
outcome table r (after_head (Some b) ws) = finished table r b ws
outcome table r (after_arrow b ws) = finished table r b ws
outcome table r (after_not n ls ws) = finished table r (negated n ∷ ls) ws
outcome table r (after_literal ls ws) = finished table r ls ws
outcome table r (after_comma l ls ws) = finished table r (l ∷ ls) ws

pub outcome_start : (table : List Name) (ws : List Written) → outcome table no_rule (start ws) ≡ map (numbered table) ws
outcome_start table [] = refl
outcome_start table (fact n ∷ ws) = refl
outcome_start table (rule None b ∷ ws) = refl
outcome_start table (rule (Some n) b ∷ ws) = refl

-- `Moves p q a w a'`: the token w is the first of a, and leaves a'
pub data Moves : (p q : Place) → Ahead p → Word → Ahead q → Type 0 where
  head_of_fact : (n : Name) (ws : List Written) → Moves Start AfterHead (start (fact n ∷ ws)) (name n) (after_head None ws)
  head_of_rule : (n : Name) (b : List Literal) (ws : List Written) → Moves Start AfterHead (start (rule (Some n) b ∷ ws)) (name n) (after_head (Some b) ws)
  no_head : (b : List Literal) (ws : List Written) → Moves Start AfterArrow (start (rule None b ∷ ws)) arrow (after_arrow b ws)
  head_arrow : (b : List Literal) (ws : List Written) → Moves AfterHead AfterArrow (after_head (Some b) ws) arrow (after_arrow b ws)
  fact_ends : (ws : List Written) → Moves AfterHead Start (after_head None ws) dot (start ws)
  no_body : (ws : List Written) → Moves AfterArrow Start (after_arrow [] ws) dot (start ws)
  first_plain : (n : Name) (ls : List Literal) (ws : List Written) → Moves AfterArrow AfterLiteral (after_arrow (plain n ∷ ls) ws) (name n) (after_literal ls ws)
  first_not : (n : Name) (ls : List Literal) (ws : List Written) → Moves AfterArrow AfterNot (after_arrow (negated n ∷ ls) ws) negation (after_not n ls ws)
  negated_name : (n : Name) (ls : List Literal) (ws : List Written) → Moves AfterNot AfterLiteral (after_not n ls ws) (name n) (after_literal ls ws)
  body_ends : (ws : List Written) → Moves AfterLiteral Start (after_literal [] ws) dot (start ws)
  one_more : (l : Literal) (ls : List Literal) (ws : List Written) → Moves AfterLiteral AfterComma (after_literal (l ∷ ls) ws) comma (after_comma l ls ws)
  next_plain : (n : Name) (ls : List Literal) (ws : List Written) → Moves AfterComma AfterLiteral (after_comma (plain n) ls ws) (name n) (after_literal ls ws)
  next_not : (n : Name) (ls : List Literal) (ws : List Written) → Moves AfterComma AfterNot (after_comma (negated n) ls ws) negation (after_not n ls ws)

-- the tokens and the names of what is ahead, and that the grammar allows the token
pub moved : {p q : Place} {a : Ahead p} {w : Word} {a' : Ahead q} → Moves p q a w a' → (ahead_words a ≡ w ∷ ahead_words a') × (ahead_names a ≡ word_names w ++ ahead_names a') × Follows p w q
moved (head_of_fact n ws) = (refl, refl, refl)
moved (head_of_rule n b ws) = (refl, refl, refl)
moved (no_head b ws) = (refl, refl, refl)
moved (head_arrow b ws) = (refl, refl, refl)
moved (fact_ends ws) = (refl, refl, refl)
moved (no_body ws) = (refl, refl, refl)
moved (first_plain n ls ws) = (refl, refl, refl)
moved (first_not n ls ws) = (refl, refl, refl)
moved (negated_name n ls ws) = (refl, refl, refl)
moved (body_ends ws) = (refl, refl, refl)
moved (one_more l ls ws) = (refl, refl, refl)
moved (next_plain n ls ws) = (refl, refl, refl)
moved (next_not n ls ws) = (refl, refl, refl)

abbrev pub number_of : List Name → Word → ℕ
number_of table (name n) = number table n
number_of table negation = 0
number_of table arrow = 0
number_of table comma = 0
number_of table dot = 0

module _ (table : List Name) where
  put_plain : (r : Rule) (n : Name) (ls : List Literal) → with_body table (put (reached AfterComma).phase (number table n) r) ls ≡ with_body table r (plain n ∷ ls)
  put_plain r n ls = ap (λ ks. record { head = r.head; plain = ks; negated = r.negated ++ negateds table ls }) (append_assoc r.plain (number table n ∷ []) (plains table ls))

  put_negated : (r : Rule) (n : Name) (ls : List Literal) → with_body table (put (reached AfterNot).phase (number table n) r) ls ≡ with_body table r (negated n ∷ ls)
  put_negated r n ls = ap (λ ks. record { head = r.head; plain = r.plain ++ plains table ls; negated = ks }) (append_assoc r.negated (number table n ∷ []) (negateds table ls))

  ends_rule : (r : Rule) (rs : List Rule) (ws : List Written) → (rs ++ r ∷ []) ++ outcome table no_rule (start ws) ≡ rs ++ with_body table r [] ∷ map (numbered table) ws
  ends_rule r rs ws = append_assoc rs (r ∷ []) (outcome table no_rule (start ws)) ∙ simp (outcome_start, append-nil)

  -- the token changes nothing of the rules in the end
  pub rules_move : (r : Rule) (rs : List Rule) {p q : Place} {a : Ahead p} {w : Word} {a' : Ahead q} → Moves p q a w a' → ended_after w r rs ++ outcome table (rule_after p w (number_of table w) r) a' ≡ rs ++ outcome table r a
  rules_move r rs (head_of_fact n ws) = refl
  rules_move r rs (head_of_rule n b ws) = refl
  rules_move r rs (no_head b ws) = refl
  rules_move r rs (head_arrow b ws) = refl
  rules_move r rs (fact_ends ws) = ends_rule r rs ws
  rules_move r rs (no_body ws) = ends_rule r rs ws
  rules_move r rs (first_plain n ls ws) = ap (λ x. rs ++ x ∷ map (numbered table) ws) (put_plain r n ls)
  rules_move r rs (first_not n ls ws) = refl
  rules_move r rs (negated_name n ls ws) = ap (λ x. rs ++ x ∷ map (numbered table) ws) (put_negated r n ls)
  rules_move r rs (body_ends ws) = ends_rule r rs ws
  rules_move r rs (one_more l ls ws) = refl
  rules_move r rs (next_plain n ls ws) = ap (λ x. rs ++ x ∷ map (numbered table) ws) (put_plain r n ls)
  rules_move r rs (next_not n ls ws) = refl

-- nothing is ahead
pub record Nothing {p : Place} (a : Ahead p) : Type 0 where
  pub opens : opens_rule (reached p).phase ≡ true
  pub no_words : ahead_words a ≡ []
  pub no_names : ahead_names a ≡ []
  pub no_rules : (table : List Name) (r : Rule) → outcome table r a ≡ []

pub nothing : Nothing (start [])
nothing = record { opens = refl; no_words = refl; no_names = refl; no_rules = λ table r. refl }

-- a text may end only where a rule may start
pub ending : (p : Place) → ((a : Ahead p) × Nothing a) ⊎ (opens_rule (reached p).phase ≡ false)
ending Start = inl (start [], nothing)
ending AfterHead = inr refl
ending AfterArrow = inr refl
ending AfterNot = inr refl
ending AfterLiteral = inr refl
ending AfterComma = inr refl

-- what is ahead has a first token, if it is not nothing
pub data Forth {p : Place} (a : Ahead p) : Type 0 where
  none_left : Nothing a → Forth a
  begins : {q : Place} {w : Word} {a' : Ahead q} → Moves p q a w a' → Forth a

pub forth : {p : Place} (a : Ahead p) → Forth a
forth (start []) = none_left nothing
forth (start (fact n ∷ ws)) = begins (head_of_fact n ws)
forth (start (rule None b ∷ ws)) = begins (no_head b ws)
forth (start (rule (Some n) b ∷ ws)) = begins (head_of_rule n b ws)
forth (after_head None ws) = begins (fact_ends ws)
forth (after_head (Some b) ws) = begins (head_arrow b ws)
forth (after_arrow [] ws) = begins (no_body ws)
forth (after_arrow (plain n ∷ ls) ws) = begins (first_plain n ls ws)
forth (after_arrow (negated n ∷ ls) ws) = begins (first_not n ls ws)
forth (after_not n ls ws) = begins (negated_name n ls ws)
forth (after_literal [] ws) = begins (body_ends ws)
forth (after_literal (l ∷ ls) ws) = begins (one_more l ls ws)
forth (after_comma (plain n) ls ws) = begins (next_plain n ls ws)
forth (after_comma (negated n) ls ws) = begins (next_not n ls ws)

-- a token that the grammar allows can stand before whatever is ahead then
pub data Back (p : Place) (w : Word) : Type 0 where
  stuck : follow (reached p).phase w ≡ None → Back p w
  leads : (q : Place) → Follows p w q → ((a' : Ahead q) → (a : Ahead p) × Moves p q a w a') → Back p w

pub back : (p : Place) (w : Word) → Back p w
back Start (name n) = leads AfterHead refl (elim [ after_head None ws ↦ (start (fact n ∷ ws), head_of_fact n ws) | after_head (Some b) ws ↦ (start (rule (Some n) b ∷ ws), head_of_rule n b ws) ])
back Start negation = stuck refl
back Start arrow = leads AfterArrow refl (elim [ after_arrow b ws ↦ (start (rule None b ∷ ws), no_head b ws) ])
back Start comma = stuck refl
back Start dot = stuck refl
back AfterHead (name n) = stuck refl
back AfterHead negation = stuck refl
back AfterHead arrow = leads AfterArrow refl (elim [ after_arrow b ws ↦ (after_head (Some b) ws, head_arrow b ws) ])
back AfterHead comma = stuck refl
back AfterHead dot = leads Start refl (elim [ start ws ↦ (after_head None ws, fact_ends ws) ])
back AfterArrow (name n) = leads AfterLiteral refl (elim [ after_literal ls ws ↦ (after_arrow (plain n ∷ ls) ws, first_plain n ls ws) ])
back AfterArrow negation = leads AfterNot refl (elim [ after_not n ls ws ↦ (after_arrow (negated n ∷ ls) ws, first_not n ls ws) ])
back AfterArrow arrow = stuck refl
back AfterArrow comma = stuck refl
back AfterArrow dot = leads Start refl (elim [ start ws ↦ (after_arrow [] ws, no_body ws) ])
back AfterNot (name n) = leads AfterLiteral refl (elim [ after_literal ls ws ↦ (after_not n ls ws, negated_name n ls ws) ])
back AfterNot negation = stuck refl
back AfterNot arrow = stuck refl
back AfterNot comma = stuck refl
back AfterNot dot = stuck refl
back AfterLiteral (name n) = stuck refl
back AfterLiteral negation = stuck refl
back AfterLiteral arrow = stuck refl
back AfterLiteral comma = leads AfterComma refl (elim [ after_comma l ls ws ↦ (after_literal (l ∷ ls) ws, one_more l ls ws) ])
back AfterLiteral dot = leads Start refl (elim [ start ws ↦ (after_literal [] ws, body_ends ws) ])
back AfterComma (name n) = leads AfterLiteral refl (elim [ after_literal ls ws ↦ (after_comma (plain n) ls ws, next_plain n ls ws) ])
back AfterComma negation = leads AfterNot refl (elim [ after_not n ls ws ↦ (after_comma (negated n) ls ws, next_not n ls ws) ])
back AfterComma arrow = stuck refl
back AfterComma comma = stuck refl
back AfterComma dot = stuck refl
