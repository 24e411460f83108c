-- The lines that tell a listing.
use Rattle.std.specs.Prelude.{ℕ, ◌+◌, false, cond, List, [], ◌∷◌, ◌++◌, codes, decimal, slice_index_or}
use Rattle.game.specs.Sets.{Row}
use Rattle.reading.specs.Steps.{Standing}
use Rattle.finders.specs.Asked.{refusal_number}
use Rattle.finders.specs.declared.finder.Refusal.{Refusal}
use Rattle.listing_text.specs.declared.lines.Ending.{Ending}
use Rattle.listing_text.specs.declared.lines.Ending.TheVariants.{Complete, Stopped}

-- the names of the atoms in the set, in the order of their numbers; the first atom of the table has number k
abbrev pub names_from : ℕ → List Standing → Row → List (List ℕ)
names_from k [] set = []
names_from k (s ∷ ss) set = cond (slice_index_or set k false) (s.name ∷ names_from (k + 1) ss set) (names_from (k + 1) ss set)

-- each name with a dot; the lead stands before the first, and one space before each further name
abbrev pub dotted : List ℕ → List (List ℕ) → List ℕ
dotted lead [] = []
dotted lead (n ∷ ns) = (lead ++ (n ++ codes ".")) ++ dotted (codes " ") ns

-- the atoms of the set on one line
abbrev pub set_line : List Standing → Row → List ℕ
set_line atoms set = dotted [] (names_from 0 atoms set) ++ codes "\n"

-- how many sets were told, and whether the listing was stopped before its end
abbrev pub count_line : ℕ → Ending → List ℕ
count_line n Complete = codes "% " ++ (decimal n ++ codes " answer sets\n")
count_line n Stopped = codes "% " ++ (decimal n ++ codes " answer sets, stopped\n")

-- a finder's refusal concerns the plan text as a whole
abbrev pub refused_line : Refusal → List ℕ
refused_line r = codes "% refused " ++ (decimal (refusal_number r) ++ codes " text 1 byte 0\n")
