-- The reasons on the sheet, in lines.
use Rattle.std.specs.Prelude.{◌≡◌, ℕ, List, ◌++◌, length, Some}
use Rattle.std.specs.List.{HoldsAt, flat_map}
use Rattle.game.specs.Game.{Texts}
use Rattle.reading.specs.Steps.{Standing}
use Rattle.reading.specs.Loads.{Three}
use Rattle.runs.specs.Book.{Pair, Book, Goes, look, refused, nothing_loaded}
use Rattle.desk_text.specs.Lines.{reason_line, reasons_line}
use Rattle.desk_book.specs.Loaded.{Bytes, Gives}
use Rattle.desk_book.specs.Told.{refusal_line}

-- a line for each pair
abbrev pub reason_lines : List Standing → List Pair → List ℕ
reason_lines atoms pairs = flat_map (λ p. reason_line atoms p.plan p.reply) pairs

-- the line of the pair at a place, behind what was there
abbrev pub AddsReason : List Standing → List Pair → ℕ → List ℕ → List ℕ → Type 0
AddsReason atoms sheet n was is = (p : Pair) × HoldsAt (λ q. q ≡ p) sheet n × (is ≡ was ++ reason_line atoms p.plan p.reply)

-- A book with nothing loaded refuses a look, and that is told; of another the sheet is told, and how many pairs are on it.
pub data WhyLines (b : Book) (w : Bytes) : List ℕ → Type 0 where
  unloaded_so : Goes (look 1 0) b (refused nothing_loaded) b → WhyLines b w (refusal_line nothing_loaded)
  reasons_so : (texts : Texts) (t : Three) → b.texts ≡ Some texts → Gives w t → WhyLines b w (reason_lines t.atoms b.sheet ++ reasons_line (length b.sheet))
