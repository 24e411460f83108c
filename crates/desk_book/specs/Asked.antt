-- The lines of an ask.
use Rattle.std.specs.Prelude.{◌≡◌, ℕ, List, ◌++◌, Option}
use Rattle.closure.specs.declared.row.Row as code
use Rattle.game.specs.Sets.{Row}
use Rattle.reading.specs.Steps.{Standing}
use Rattle.runs.specs.Book.{Verdict, Coherence}
use Rattle.book.specs.Models.{row_shown}
use Rattle.report.specs.Reported.{report_bytes}
use Rattle.deciding.specs.Decided.{ShownBy, says_coherent}
use Rattle.desk_text.specs.Lines.{sizes_line}

-- the report of what is shown, and the sizes, behind what was there
abbrev pub AskLines : List Standing → Verdict → Coherence → ℕ → ℕ → Row → List ℕ → List ℕ → Type 0
AskLines atoms v c pairs struck row was is = (shown : Option (code.Row 96)) × ShownBy v row (row_shown shown) × (is ≡ was ++ (report_bytes (says_coherent c) shown atoms ++ sizes_line pairs struck))
