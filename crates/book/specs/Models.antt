-- What the values of the code stand for.
use Rattle.std.specs.Prelude.{List, map, Some, None, vec_items, Option, Vec}
use Rattle.game.specs.Sets.{Row}
use Rattle.std.specs.declared.alloc.Global.{Global}
use Rattle.game.specs.Game.{Texts}
use Rattle.programs.specs.Programs.{rules_of}
use Rattle.closure.specs.declared.row.Row as code
use Rattle.closure.specs.Bits.{bit_row}
use Rattle.finders.specs.Meanings.{From, start, after}
use Rattle.loading.specs.Sided.{side_of}
use Rattle.runs.specs.Book as runs
use Rattle.book.specs.declared.loaded.Loaded.{Loaded}
use Rattle.book.specs.declared.pair.Pair.{Pair}

abbrev pub texts_from : Loaded → Texts
texts_from l = record { side = side_of l.side; plans = rules_of l.plan; faults = rules_of l.faults; site = rules_of l.site.program }

-- where a listing goes on
abbrev pub on_from : Option (code.Row 96) → From
on_from None = start
on_from (Some entry) = after entry.marks

abbrev pub rows : List (code.Row 96) → List Row
rows rs = map (λ (r : code.Row 96). r.marks) rs

abbrev pub pair_of : Pair → runs.Pair
pair_of p = record { plan = p.plan.marks; reply = bit_row p.reply.bits }

abbrev pub pairs : List Pair → List runs.Pair
pairs ps = map pair_of ps

abbrev pub row_shown : Option (code.Row 96) → Option Row
row_shown None = None
row_shown (Some r) = Some r.marks

-- the book with this loaded, these plans struck, these pairs on the sheet and this plan shown
abbrev pub book_from : Loaded → Vec (code.Row 96) Global → Vec Pair Global → Option (code.Row 96) → runs.Book
book_from l struck sheet shown = record { texts = Some (texts_from l); struck = rows (vec_items struck); sheet = pairs (vec_items sheet); shown = row_shown shown }
