-- A side and three texts load exactly when the format allows them.
use Rattle.std.specs.Prelude.{◌≡◌, ℕ, ◌≤◌, List, [], ◌∷◌, ◌++◌, map, length, Ok, Result}
use Rattle.std.specs.List.{flat_map, ContainsAt as Has}
use Rattle.game.specs.Sides.{Side, side_number}
use Rattle.game.specs.Strata.{Stratified}
use Rattle.refusals.specs.declared.fault.Fault.{Fault}
use Rattle.reading.specs.Loads.{Three, Loads}
use Rattle.grammar.specs.Grammar.{Name, Written, fact, rule, head_names, names, with_names, numbered}
use Rattle.grammar.specs.Accepted.{Spelled, table}

-- the three texts as they are written
pub record Sources : Type 0 where
  pub plan : List Written
  pub faults : List Written
  pub site : List Written

abbrev pub rule_heads : Written → List Name
rule_heads (fact n) = n ∷ []
rule_heads (rule h b) = head_names h

abbrev pub heads : List Written → List Name
heads ws = flat_map rule_heads ws

-- the different names of the three texts, by first appearance
abbrev pub all_names : Sources → List Name
all_names w = with_names [] (names w.plan ++ (names w.faults ++ names w.site))

-- the format allows the side n and the texts p, f and s, which are written so
pub record Allowed (n : ℕ) (p f s : List ℕ) (w : Sources) : Type 0 where
  pub side : (x : Side) × (side_number x ≡ n)
  pub plan : Spelled p w.plan
  pub faults : Spelled f w.faults
  pub site : Spelled s w.site
  pub few : length (all_names w) ≤ 96
  -- no head of the fault text stands anywhere in the plan text, and no head of the site text in either
  pub fault_heads : (h : Name) → Has (heads w.faults) h → Has (names w.plan) h → ⊥
  pub site_heads : (h : Name) → Has (heads w.site) h → Has (names w.plan ++ names w.faults) h → ⊥
  -- the site text is stratified
  pub strata : Stratified (map (numbered (all_names w)) w.site)

-- what is read of texts that are written so: the atoms by first appearance, and the rules over their numbers
pub record Meant (w : Sources) (t : Three) : Type 0 where
  pub atoms : table t.atoms ≡ all_names w
  pub plan : t.plan.rules ≡ map (numbered (all_names w)) w.plan
  pub faults : t.faults.rules ≡ map (numbered (all_names w)) w.faults
  pub site : t.site.rules ≡ map (numbered (all_names w)) w.site

-- what loads is allowed, and read as it is meant
abbrev pub LoadedIsAllowed : Type 0
LoadedIsAllowed = (n : ℕ) (p f s : List ℕ) (x : Side) (t : Three) → Loads n p f s (Ok (x, t)) → (w : Sources) × Allowed n p f s w × Meant w t

-- what is allowed loads, as it is meant
abbrev pub AllowedIsLoaded : Type 0
AllowedIsLoaded = (n : ℕ) (p f s : List ℕ) (w : Sources) → Allowed n p f s w → (x : Side) × (t : Three) × Loads n p f s (Ok (x, t)) × Meant w t

-- a side and three texts have one outcome at most, and one at least
abbrev pub OneLoading : Type 0
OneLoading =
    ((n : ℕ) (p f s : List ℕ) (r r' : Result (Side × Three) Fault) → Loads n p f s r → Loads n p f s r' → r ≡ r')
    × ((n : ℕ) (p f s : List ℕ) → (r : Result (Side × Three) Fault) × Loads n p f s r)
