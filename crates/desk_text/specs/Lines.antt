-- The lines that the desk prints.
use Rattle.std.specs.Prelude.{ℕ, cond, nat_lt, List, [], ◌∷◌, ◌++◌, codes, decimal}
use Rattle.game.specs.Sets.{Row}
use Rattle.reading.specs.Steps.{Standing}
use Rattle.listing_text.specs.declared.lines.Ending.{Ending}
use Rattle.listing_text.specs.declared.lines.Ending.TheVariants.{Complete, Stopped}
use Rattle.listing_text.specs.Lines.{names_from, dotted}

-- how many rules and atoms the texts have that were loaded
abbrev pub loaded_line : ℕ → ℕ → List ℕ
loaded_line rules atoms = codes "% loaded " ++ (decimal rules ++ (codes " rules, " ++ (decimal atoms ++ codes " atoms\n")))

-- a refusal that concerns no text
abbrev pub refused_line : ℕ → List ℕ
refused_line cause = codes "% refused " ++ (decimal cause ++ codes " text 0 byte 0\n")

-- the sizes of the sheet and of the list of struck plans
abbrev pub sizes_line : ℕ → ℕ → List ℕ
sizes_line pairs struck = codes "% pairs " ++ (decimal pairs ++ (codes " struck " ++ (decimal struck ++ codes "\n")))

abbrev pub struck_line : ℕ → List ℕ
struck_line struck = codes "% struck " ++ (decimal struck ++ codes "\n")

abbrev pub wiped_line : List ℕ
wiped_line = codes "% wiped\n"

-- the names of the set's atoms, each with a dot and a space before it
abbrev pub spaced : List Standing → Row → List ℕ
spaced atoms set = dotted (codes " ") (names_from 0 atoms set)

abbrev pub pair_lines : List Standing → Row → Row → List ℕ
pair_lines atoms plan reply = (codes "% plan" ++ (spaced atoms plan ++ codes "\n")) ++ (codes "% reply" ++ (spaced atoms reply ++ codes "\n"))

abbrev pub struck_plan_line : List Standing → Row → List ℕ
struck_plan_line atoms plan = codes "% struck" ++ (spaced atoms plan ++ codes "\n")

abbrev pub or_nothing : List ℕ → List ℕ
or_nothing [] = codes "nothing"
or_nothing (b ∷ bs) = b ∷ bs

-- the names of the set's atoms, each with a dot, with a space between; the empty set by a word
abbrev pub set_in_words : List Standing → Row → List ℕ
set_in_words atoms set = or_nothing (dotted [] (names_from 0 atoms set))

abbrev pub reason_line : List Standing → Row → Row → List ℕ
reason_line atoms plan reply = codes "% " ++ (set_in_words atoms plan ++ (codes " is beaten by " ++ (set_in_words atoms reply ++ codes "\n")))

-- how many reasons there are; a full sheet may lack some
abbrev pub reasons_line : ℕ → List ℕ
reasons_line pairs = cond (nat_lt pairs 256) (codes "% " ++ (decimal pairs ++ codes " pairs\n")) (codes "% " ++ (decimal pairs ++ codes " pairs, the sheet is full: it may not hold every reason\n"))

-- how many winning plans were told, and whether one more was shown that was not struck
abbrev pub winners_line : ℕ → Ending → List ℕ
winners_line plans Complete = codes "% " ++ (decimal plans ++ codes " winning plans\n")
winners_line plans Stopped = codes "% " ++ (decimal plans ++ codes " winning plans, and more\n")

abbrev pub no_command_line : List ℕ
no_command_line = codes "% no such command: help lists them\n"

abbrev pub unread_line : List ℕ
unread_line = codes "% the files cannot be read\n"

abbrev pub help_lines : List ℕ
help_lines =
    codes "% load SIDE FOLDER: read plan.lp, faults.lp and site.lp; the side is 1 or 2\n"
    ++ (codes "% ask, ask branching, ask counting: show the first winning plan that is not struck\n"
    ++ (codes "% strike: strike the plan shown\n"
    ++ (codes "% wipe: forget the struck plans, the reasons and the plan shown\n"
    ++ (codes "% look KIND PLACE: kind 1 a beaten plan and its reply, kind 2 a struck plan; from place 0\n"
    ++ (codes "% why: the beaten plans, each with a reply that beats it\n"
    ++ (codes "% all: ask and strike until no plan is left\n"
    ++ codes "% help: these lines\n"))))))
