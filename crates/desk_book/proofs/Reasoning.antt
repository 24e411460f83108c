-- The pairs of a sheet, one after another.
use Rattle.std.proofs.Common.{◌≡◌, ℕ, ◌+◌, ◌<◌, ◌≤◌, ◌⊎◌, true, false, List, [], ◌∷◌, ◌++◌, length, take, Some, None, Option, sym, refl, ap, ◌∙◌, inl, inr, arith}
use Rattle.std.specs.List.{HoldsAt, flat_map}
use Rattle.std.specs.Option.{is_some}
use Rattle.std.proofs.lemmas.Bool.{false≢true}
use Rattle.std.proofs.lemmas.List.{take_more, flat_map_more}
use Rattle.reading.specs.Steps.{Standing}
use Rattle.runs.specs.Book.{Pair, Book, Answer, refused, done, told, wrote, Goes, look, looks_pair, looks_struck, look_unloaded, look_nowhere}
use Rattle.book.specs.Books.{open_or_new}
use Rattle.book.specs.declared.open.Open.{Open}
use Rattle.desk_text.specs.Lines.{reason_line}
use Rattle.desk_book.specs.Reasons.{reason_lines, AddsReason}

-- a look at a pair writes the one that stands there, or is refused where none does
abbrev pub PairAt : ℕ → Answer → Book → Type 0
PairAt n (wrote x y) b = (p : Pair) × HoldsAt (λ q. q ≡ p) b.sheet n × (p.plan ≡ x) × (p.reply ≡ y)
PairAt n (refused e) b = (b.texts ≡ None) ⊎ (length b.sheet ≤ n)
PairAt n done b = Unit {0}
PairAt n (told v c p s r) b = Unit {0}

pub pair_at : (k n : ℕ) (b b' : Book) (a : Answer) → Goes (look k n) b a b' → k ≡ 1 → PairAt n a b
pair_at _ n b _ _ (looks_pair t p has less at) one = (p, at, refl, refl)
pair_at _ n b _ _ (looks_struck t m has less at) one = absurd (omega arith)
pair_at k n b _ _ (look_unloaded none) one = inl none
pair_at k n b _ _ (look_nowhere t has past past') one = inr (past one)

-- where nothing is loaded the sheet is empty
pub empty_sheet : (o : Option Open) → (open_or_new o).texts ≡ None → length (open_or_new o).sheet ≡ 0
empty_sheet None none = refl
empty_sheet (Some o) none = absurd (let z : ◌≡◌ {A = ℕ} 0 1 = cc in omega arith)

-- one line more
pub reasons_on : (atoms : List Standing) (sheet : List Pair) (n : ℕ) (was now next : List ℕ) → n < length sheet → now ≡ was ++ reason_lines atoms (take n sheet) → AddsReason atoms sheet n now next → next ≡ was ++ reason_lines atoms (take (n + 1) sheet)
reasons_on atoms sheet n was now next less so (p, at, added) =
    let f : Pair → List ℕ = λ q. reason_line atoms q.plan q.reply in
    let front : take (n + 1) sheet ≡ take n sheet ++ (p ∷ []) = take_more sheet n p less ∙ ap (λ q. take n sheet ++ (q ∷ [])) (at p) in
    added ∙ ap (λ l. l ++ f p) so ∙ flat_map_more f was (take n sheet) p ∙ ap (λ xs. was ++ flat_map f xs) (sym front)

-- what a test for texts tells
pub none_there : {X : Type 0} (o : Option X) → is_some o ≡ false → o ≡ None
none_there None e = refl
none_there (Some x) e = absurd (false≢true (sym e))

pub some_there : {X : Type 0} (o : Option X) → is_some o ≡ true → (x : X) × (o ≡ Some x)
some_there None e = absurd (false≢true e)
some_there (Some x) e = (x, refl)
