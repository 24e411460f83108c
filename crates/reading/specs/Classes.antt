-- The kinds of character that tokens are made of.
use Rattle.std.specs.Prelude.{ℕ, Bool, ◌&&◌, ◌||◌, ◌==◌, nat_le}

-- a space, tab, carriage return or line feed
abbrev pub blank : ℕ → Bool
blank c = c == 32 || (c == 9 || (c == 13 || c == 10))

-- a to z
abbrev pub small : ℕ → Bool
small c = nat_le 97 c && nat_le c 122

-- a letter of either case, a digit or an underscore
abbrev pub name_part : ℕ → Bool
name_part c = small c || ((nat_le 65 c && nat_le c 90) || ((nat_le 48 c && nat_le c 57) || c == 95))
