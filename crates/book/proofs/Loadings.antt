-- What a load guarantees.
use Rattle.std.proofs.Common.{◌≡◌, ℕ, true, List, [], Some, None, Ok, vec_items, Vec, ap, ◌∙◌}
use Rattle.game.specs.Sides.{Side}
use Rattle.game.specs.Strata.{Stratified}
use Rattle.reading.specs.Loads.{Three, Loads, loads}
use Rattle.runs.specs.Book.{texts_of, opened, new_book, load, done, loads as Goes-Load}
use Rattle.runs.specs.Runs.{Keeps}
use Rattle.std.specs.declared.alloc.Global.{Global}
use Rattle.closure.specs.declared.row.Row as code
use Rattle.book.specs.declared.loaded.Loaded.{Loaded}
use Rattle.book.specs.declared.pair.Pair.{Pair}
use Rattle.book.specs.Models.{texts_from, rows, pairs, book_from}
use Rattle.runs.proofs.Kept.{call_keeps, new_keeps}

pub loads_stratified : (i : ℕ) (p f s : List ℕ) (x : Side × Three) → Loads i p f s (Ok x) → Stratified (texts_of x).site
loads_stratified i p f s x (loads y t e read free even) = even

pub opened_keeps : (i : ℕ) (p f s : List ℕ) (x : Side × Three) → Loads i p f s (Ok x) → Keeps (opened (Some (texts_of x)))
opened_keeps i p f s x l = call_keeps (load true i p f s) new_book (opened (Some (texts_of x))) done (Goes-Load x l) new_keeps

-- with nothing struck, noted or shown, the book is one that a load leaves
pub opened_book : (l : Loaded) (struck : Vec (code.Row 96) Global) (sheet : Vec Pair Global) (x : Side × Three) → texts_from l ≡ texts_of x → vec_items struck ≡ [] → vec_items sheet ≡ [] → book_from l struck sheet None ≡ opened (Some (texts_of x))
opened_book l struck sheet x texts none none' =
    ap (λ t. record { texts = Some t; struck = rows (vec_items struck); sheet = pairs (vec_items sheet); shown = None }) texts
    ∙ ap (λ rs. record { texts = Some (texts_of x); struck = rows rs; sheet = pairs (vec_items sheet); shown = None }) none
    ∙ ap (λ ps. record { texts = Some (texts_of x); struck = []; sheet = pairs ps; shown = None }) none'
