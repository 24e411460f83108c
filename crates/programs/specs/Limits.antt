-- The limits of a program: at most 256 rules, at most 16 literals in a body, every atom below a number.
use Rattle.std.specs.Prelude.{ℕ, ◌+◌, Bool, true, ◌&&◌, List, [], ◌∷◌, length, nat_le, nat_lt}
use Rattle.game.specs.Rules.{Head, none, atom, Rule}

abbrev pub all_below : ℕ → List ℕ → Bool
all_below n [] = true
all_below n (a ∷ as') = nat_lt a n && all_below n as'

abbrev pub head_below : ℕ → Head → Bool
head_below n none = true
head_below n (atom a) = nat_lt a n

abbrev pub rule_fits : ℕ → Rule → Bool
rule_fits n r = nat_le (length r.plain + length r.negated) 16 && (head_below n r.head && (all_below n r.plain && all_below n r.negated))

abbrev pub all_fit : ℕ → List Rule → Bool
all_fit n [] = true
all_fit n (r ∷ rs) = rule_fits n r && all_fit n rs

abbrev pub fits : ℕ → List Rule → Bool
fits n rs = nat_le (length rs) 256 && all_fit n rs
