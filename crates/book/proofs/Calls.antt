-- How what the code finds makes the calls of a book go.
use Rattle.std.proofs.Common.{◌≡◌, ℕ, ◌<◌, ◌≤◌, Bool, true, false, ◌⊎◌, List, [], ◌∷◌, ◌++◌, length, get_or, Some, None, Err, vec_items, Option, Vec, sym, refl, ap, ◌∙◌, subst, inl, inr, arith}
use lib.ListN.{length-map}
use Rattle.std.proofs.lemmas.List.{get_or-map}
use Rattle.closure.specs.declared.row.Row as code
use Rattle.closure.specs.Bits.{bit_row}
use Rattle.game.specs.Sets.{Row}
use Rattle.game.specs.Sides.{Side, side_number}
use Rattle.game.specs.Game.{Texts, nothing}
use Rattle.reading.specs.Loads.{Loads}
use Rattle.refusals.specs.declared.fault.Fault.{Fault}
use Rattle.refusals.specs.declared.fault.Fault.TheVariants.{NoMemory}
use Rattle.runs.specs.Book as runs
use Rattle.runs.specs.Runs.{Keeps}
use Rattle.runs.proofs.Kept.{call_keeps}
use Rattle.std.specs.declared.alloc.Global.{Global}
use Rattle.runs.specs.Book.{Goes, strike, strikes, wipe, wipes, done, opened, load, look, wrote, refused, not_loaded, load_refused, load_starved, looks_pair, looks_struck}
use Rattle.book.specs.declared.open.Open.{Open}
use Rattle.book.specs.declared.pair.Pair.{Pair}
use Rattle.book.specs.declared.loaded.Loaded.{Loaded}
use Rattle.book.specs.Kept.{with_struck}
use Rattle.book.specs.Models.{texts_from, pair_of, pairs, rows, row_shown, book_from}
use Rattle.book.proofs.Noting.{map_append}
use Rattle.book.specs.Opened.{open_book}
use Rattle.book.specs.Books.{open_or_new}

-- what holds of an open book holds of the book that is it
pub at_open : (P : runs.Book → Type 0) (o : Option Open) (x : Open) → o ≡ Some x → P (open_book x) → P (open_or_new o)
at_open P o x e p = subst (λ (z : Option Open). P (open_or_new z)) (sym e) p

pub at_new : (P : runs.Book → Type 0) (o : Option Open) → o ≡ None → P runs.new_book → P (open_or_new o)
at_new P o e p = subst (λ (z : Option Open). P (open_or_new z)) (sym e) p

-- a load that is refused, or that found no memory
pub load_refusal : (i : ℕ) (p f s : List ℕ) (b : runs.Book) (e : Fault) → ((e ≡ NoMemory) × (((x : Side) × (side_number x ≡ i)) × (length p ≤ 16384))) ⊎ Loads i p f s (Err e) → (memory : Bool) × Goes (load memory i p f s) b (refused (not_loaded e)) b
load_refusal i p f s b e (inl (is, ((x, sx), short))) = (false, subst (λ (z : Fault). Goes (load false i p f s) b (refused (not_loaded z)) b) (sym is) (load_starved x sx short))
load_refusal i p f s b e (inr l) = (true, load_refused e l)

module _ (b : runs.Book) (t : Texts) (has : b.texts ≡ Some t) (place : ℕ) where
  pub look_pair : (items : List Pair) (p : Pair) → b.sheet ≡ pairs items → place < length items → p ≡ get_or items place p → Goes (look 1 place) b (wrote p.plan.marks (bit_row p.reply.bits)) b
  look_pair items p sheet less is =
      looks_pair t (pair_of p) has (subst (λ (xs : List runs.Pair). place < length xs) (sym sheet) (omega (arith, length-map items pair_of)))
      (subst (λ (xs : List runs.Pair). (d : runs.Pair) → get_or xs place d ≡ pair_of p) (sym sheet) (λ d. get_or-map pair_of items place p d less ∙ ap pair_of (sym is)))

  pub look_struck : (items : List (code.Row 96)) (r : code.Row 96) (second : Row) → b.struck ≡ rows items → second ≡ nothing → place < length items → r ≡ get_or items place r → Goes (look 2 place) b (wrote r.marks second) b
  look_struck items r second struck clear less is =
      subst (λ (y : Row). Goes (look 2 place) b (wrote r.marks y) b) (sym clear)
      (looks_struck t r.marks has (subst (λ (xs : List Row). place < length xs) (sym struck) (omega (arith, length-map items (λ (q : code.Row 96). q.marks))))
      (subst (λ (xs : List Row). (d : Row) → get_or xs place d ≡ r.marks) (sym struck) (λ d. get_or-map (λ (q : code.Row 96). q.marks) items place r d less ∙ ap (λ (q : code.Row 96). q.marks) (sym is))))

-- the book with one plan more struck, and the book wiped, as the code has them
pub struck_book : (l : Loaded) (struck struck' : Vec (code.Row 96) Global) (sheet : Vec Pair Global) (shown : Option (code.Row 96)) (r : code.Row 96) → vec_items struck' ≡ vec_items struck ++ (r ∷ []) → book_from l struck' sheet None ≡ with_struck (book_from l struck sheet shown) r.marks
struck_book l struck struck' sheet shown r is =
    ap (λ (xs : List Row). record { texts = Some (texts_from l); struck = xs; sheet = pairs (vec_items sheet); shown = None }) (ap rows is ∙ map_append (λ (q : code.Row 96). q.marks) (vec_items struck) (r ∷ []))

pub strike_keeps : (l : Loaded) (struck : Vec (code.Row 96) Global) (sheet : Vec Pair Global) (shown : Option (code.Row 96)) (r : code.Row 96) → shown ≡ Some r → length (vec_items struck) < 64 → Keeps (book_from l struck sheet shown) → Keeps (with_struck (book_from l struck sheet shown) r.marks)
strike_keeps l struck sheet shown r is few =
    call_keeps strike (book_from l struck sheet shown) (with_struck (book_from l struck sheet shown) r.marks) done (strikes (texts_from l) r.marks refl (ap row_shown is) (omega (arith, length-map (vec_items struck) (λ (q : code.Row 96). q.marks))))

pub wiped_book : (l : Loaded) (struck : Vec (code.Row 96) Global) (sheet : Vec Pair Global) → vec_items struck ≡ [] → vec_items sheet ≡ [] → book_from l struck sheet None ≡ opened (Some (texts_from l))
wiped_book l struck sheet none none' =
    ap (λ rs. record { texts = Some (texts_from l); struck = rows rs; sheet = pairs (vec_items sheet); shown = None }) none
    ∙ ap (λ ps. record { texts = Some (texts_from l); struck = []; sheet = pairs ps; shown = None }) none'

pub wipe_keeps : (l : Loaded) (struck : Vec (code.Row 96) Global) (sheet : Vec Pair Global) (shown : Option (code.Row 96)) → Keeps (book_from l struck sheet shown) → Keeps (opened (Some (texts_from l)))
wipe_keeps l struck sheet shown = call_keeps wipe (book_from l struck sheet shown) (opened (Some (texts_from l))) done wipes
