-- Names by their numbers: a number tells its name, and rules keep their numbers when the table grows.
use Rattle.std.proofs.Common.{◌≡◌, suc, Bool, true, false, cond, ◌||◌, eqb, List, [], ◌∷◌, ◌++◌, map, Some, None, sym, refl, ap, ◌∙◌, ap₂, arith}
use Rattle.std.specs.List.{AllByRecursion}
use Rattle.std.specs.Str.{bytes_eq}
use Rattle.std.proofs.lemmas.Bool.{false≢true}
use Rattle.std.proofs.lemmas.Bool.Decides.{same_from_decides, Decides-like, Decides-eqb}
use Rattle.std.proofs.lemmas.Slice.Eq.{bytes_eq-Decides}
use Rattle.grammar.specs.Grammar.{Name, Literal, plain, negated, Written, fact, rule, literal_name, rule_names, names, known, number, plains, negateds, numbered}

-- a name with the number of a known one is that one
number_same : (table : List Name) (m n : Name) → known m table ≡ true → number table m ≡ number table n → m ≡ n
number_same [] m n k e = absurd (false≢true k)
number_same (x ∷ table) m n k e = go (bytes_eq x m) (bytes_eq x n) (bytes_eq-Decides x m).0 (bytes_eq-Decides x n).0 k e (number_same table m n)
  where
    go : (b c : Bool) → (b ≡ true → x ≡ m) → (c ≡ true → x ≡ n) → (b || known m table) ≡ true → cond b 0 (suc (number table m)) ≡ cond c 0 (suc (number table n)) → (known m table ≡ true → number table m ≡ number table n → m ≡ n) → m ≡ n
    go true true f g k e ih = sym (f refl) ∙ g refl
    go true false f g k e ih = absurd (omega arith)
    go false true f g k e ih = absurd (omega arith)
    go false false f g k e ih = ih k (omega arith)

-- so numbers are compared as names are
pub number_test : (table : List Name) (m n : Name) → known m table ≡ true → eqb (number table m) (number table n) ≡ bytes_eq n m
number_test table m n k = same_from_decides _ _ (Decides-like _ (λ e. sym (number_same table m n k e)) (λ e. ap (number table) (sym e)) (Decides-eqb (number table m) (number table n))) (bytes_eq-Decides n m)

pub all_parts : {X : Type 0} (P : X → Type 0) (xs ys : List X) → AllByRecursion P (xs ++ ys) → AllByRecursion P xs × AllByRecursion P ys
all_parts P [] ys h = (tt, h)
all_parts P (x ∷ xs) ys h = let rest = all_parts P xs ys h.1 in ((h.0, rest.0), rest.1)

-- two tables that number the names alike number the rules alike
module _ (t u : List Name) where
  abbrev Same : Name → Type 0
  Same n = number t n ≡ number u n

  same_body : (ls : List Literal) → AllByRecursion Same (map literal_name ls) → (plains t ls ≡ plains u ls) × (negateds t ls ≡ negateds u ls)
  same_body [] h = (refl, refl)
  same_body (plain n ∷ ls) h = let rest = same_body ls h.1 in (ap₂ ◌∷◌ h.0 rest.0, rest.1)
  same_body (negated n ∷ ls) h = let rest = same_body ls h.1 in (rest.0, ap₂ ◌∷◌ h.0 rest.1)

  same_rule : (w : Written) → AllByRecursion Same (rule_names w) → numbered t w ≡ numbered u w
  same_rule (fact n) h = rw h.0
  same_rule (rule None b) h = rw ((same_body b h).0, (same_body b h).1)
  same_rule (rule (Some n) b) h = rw (h.0, (same_body b h.1).0, (same_body b h.1).1)

  pub same_rules : (ws : List Written) → AllByRecursion Same (names ws) → map (numbered t) ws ≡ map (numbered u) ws
  same_rules [] h = refl
  same_rules (w ∷ ws) h = let parts = all_parts Same (rule_names w) (names ws) h in ap₂ ◌∷◌ (same_rule w parts.0) (same_rules ws parts.1)
