-- A head stands in an earlier text, by its number, where its name does.
use Rattle.std.proofs.Common.{◌≡◌, ℕ, Bool, true, false, cond, ◌||◌, eqb, ◌↔◌, List, [], ◌∷◌, ◌++◌, map, length, Some, None, Decides, Option, sym, refl, ap, ◌∙◌, inl, inr, arith}
use mathlib.Core.Bool.{or_assoc, or_comm}
use Rattle.std.specs.List.{ContainsAt as Has, AllByRecursion}
use Rattle.std.specs.Str.{bytes_eq}
use Rattle.std.proofs.ByRecursion.{all-has, All-weaker, all_has_itself}
use Rattle.std.proofs.lemmas.Bool.{true≢false, cases_Bool}
use Rattle.std.proofs.lemmas.Bool.Decides.{Decides-by_or, not_from_Decides}
use Rattle.std.proofs.lemmas.Slice.Eq.{bytes_eq-Decides}
use Rattle.game.specs.Rules.{Rule, among, in_rule, stands}
use Rattle.reading.specs.Loads.{taken_head}
use Rattle.grammar.specs.Grammar.{Name, Literal, plain, negated, Written, fact, rule, literal_name, rule_names, names, known, number, plains, negateds, numbered}
use Rattle.grammar.specs.Loaded.{heads}
use Rattle.grammar.proofs.Never.{never}
use Rattle.grammar.proofs.Names.{Known}
use Rattle.grammar.proofs.Numbers.{number_test, all_parts}

-- a test that some element passes
module _ {X : Type 0} (p : X → Bool) (f : List X → Bool) (none : f [] ≡ false) (more : (x : X) (xs : List X) → f (x ∷ xs) ≡ (p x || f xs)) where
  some_append : (xs ys : List X) → f (xs ++ ys) ≡ (f xs || f ys)
  some_append [] ys = rw none
  some_append (x ∷ xs) ys = let rest = some_append xs ys in simp (more, rest, or_assoc)

known_append : (n : Name) (ns ms : List Name) → known n (ns ++ ms) ≡ (known n ns || known n ms)
known_append n = some_append (λ m. bytes_eq m n) (known n) refl (λ _ _. refl)

stands_append : (a : ℕ) (rs qs : List Rule) → stands a (rs ++ qs) ≡ (stands a rs || stands a qs)
stands_append a = some_append (in_rule a) (stands a) refl (λ _ _. refl)

known_has : (n : Name) (ns : List Name) → Decides (known n ns) (Has ns n)
known_has n = Decides-by_or (λ m. bytes_eq m n) (λ m. m ≡ n) (known n) (λ m. bytes_eq-Decides m n) refl (λ _ _. refl)

or_swap : (x y z : Bool) → (x || (y || z)) ≡ (y || (x || z))
or_swap x y z = sym (or_assoc x y z) ∙ ap (λ b. b || z) (or_comm x y) ∙ or_assoc y x z

module _ (table : List Name) (n : Name) (k : known n table ≡ true) where
  here : (m : Name) → eqb (number table n) (number table m) ≡ bytes_eq m n
  here m = number_test table n m k

  in_body : (ls : List Literal) → (among (number table n) (plains table ls) || among (number table n) (negateds table ls)) ≡ known n (map literal_name ls)
  in_body [] = refl
  in_body (plain m ∷ ls) = rw (or_assoc, here m, in_body ls)
  in_body (negated m ∷ ls) = rw (or_swap, here m, in_body ls)

  in_numbered : (w : Written) → in_rule (number table n) (numbered table w) ≡ known n (rule_names w)
  in_numbered (fact m) = ap (λ b. b || false) (here m)
  in_numbered (rule None b) = in_body b
  in_numbered (rule (Some m) b) = cc (here m, in_body b)

  stands_numbered : (ws : List Written) → stands (number table n) (map (numbered table) ws) ≡ known n (names ws)
  stands_numbered [] = refl
  stands_numbered (w ∷ ws) = cc (in_numbered w, stands_numbered ws, known_append n (rule_names w) (names ws))

-- a name of the table stands in the rules, by its number, exactly when it is on the list
pub record ByName (table : List Name) (rs : List Rule) (ns : List Name) : Type 0 where
  at : (n : Name) → Known table n → stands (number table n) rs ≡ known n ns

pub numbered_by_name : (table : List Name) (ws : List Written) → ByName table (map (numbered table) ws) (names ws)
numbered_by_name table ws = record { at = λ n k. stands_numbered table n k ws }

pub append_by_name : {table ns ms : List Name} {rs qs : List Rule} → ByName table rs ns → ByName table qs ms → ByName table (rs ++ qs) (ns ++ ms)
append_by_name f g = record { at = λ n k. rw (stands_append, f.at n k, g.at n k, known_append) }

-- no name is on both lists
abbrev pub Apart : List Name → List Name → Type 0
Apart ns ms = (n : Name) → Has ns n → Has ms n → ⊥

module _ (ms : List Name) where
  abbrev New : Name → Type 0
  New n = known n ms ≡ false

  new_apart : (ns : List Name) → AllByRecursion New ns ↔ Apart ns ms
  new_apart ns = (λ new n here there. not_from_Decides (known n ms) (known_has n ms) (all-has New ns n new here) there, λ off. All-weaker (Has ns) New (λ n here. new n (off n here)) ns (all_has_itself ns))
    where
      new : (n : Name) → (Has ms n → ⊥) → New n
      new n off = elim (cases_Bool (known n ms)) [ inl e ↦ absurd (off ((known_has n ms).0 e)) | inr e ↦ e ]

  module _ (table : List Name) (earlier : List Rule) (by_name : ByName table earlier ms) where
    one_new : (n : Name) (at : ℕ) (o : Option ℕ) (P : Type 0) → Known table n → (o ≡ None ↔ P) → (cond (stands (number table n) earlier) (Some at) o ≡ None ↔ New n × P)
    one_new n at o P k rest = rw (by_name.at n k) (go (known n ms))
      where
        go : (b : Bool) → (cond b (Some at) o ≡ None ↔ (b ≡ false) × P)
        go true = (λ e. never (cc), λ h. absurd (true≢false h.0))
        go false = (λ e. (refl, rest.0 e), λ h. rest.1 h.1)

    -- `taken_head` goes down rules and places together, so there is a place for each rule
    all_new : (ws : List Written) (places : List ℕ) → length places ≡ length ws → AllByRecursion (Known table) (names ws) → (taken_head (map (numbered table) ws) places earlier ≡ None ↔ AllByRecursion New (heads ws))
    all_new [] places same k = (λ e. tt, λ h. refl)
    all_new (w ∷ ws) [] same k = absurd (omega arith)
    all_new (fact n ∷ ws) (at ∷ places) same k = one_new n at _ _ k.0 (all_new ws places (omega arith) k.1)
    all_new (rule None b ∷ ws) (at ∷ places) same k = all_new ws places (omega arith) (all_parts _ (map literal_name b) (names ws) k).1
    all_new (rule (Some n) b ∷ ws) (at ∷ places) same k = one_new n at _ _ k.0 (all_new ws places (omega arith) (all_parts _ (map literal_name b) (names ws) k.1).1)

    -- no head is taken exactly when none is on the list
    pub none_taken : (ws : List Written) (places : List ℕ) → length places ≡ length ws → AllByRecursion (Known table) (names ws) → (taken_head (map (numbered table) ws) places earlier ≡ None ↔ Apart (heads ws) ms)
    none_taken ws places same k = let new = all_new ws places same k in let apart = new_apart (heads ws) in (λ e. apart.0 (new.0 e), λ h. new.1 (apart.1 h))
