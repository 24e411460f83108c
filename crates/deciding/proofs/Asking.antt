-- An ask with the branching finder after a load.
use Rattle.std.proofs.Common.{◌≡◌, ℕ, ◌<◌, Bool, List, Some, None, Ok, Err, Option, Result, sym, refl, ap, ◌∙◌, subst, inl, inr, arith}
use Rattle.game.specs.Sets.{Row}
use Rattle.game.specs.Rules.{Rule, is_head}
use Rattle.game.specs.Game.{Texts}
use Rattle.game.proofs.Rows.{row, length-row}
use Rattle.closure.proofs.Marks.{marked_length}
use Rattle.finders.specs.Meanings.{heads_below}
use Rattle.finders.specs.Supplied.{branching}
use Rattle.runs.specs.Book.{Book, Answer, refused, done, told, wrote, Verdict, verdict_of, row_of, texts_of, Goes, load, ask, loads, load_refused, load_starved, asks, ask_unloaded, ask_too_many}
use Rattle.closure.specs.declared.row.Row as code
use Rattle.refusals.specs.declared.fault.Fault.{Fault}
use Rattle.report.specs.Reported.{Reported}
use Rattle.deciding.specs.Decided.{ShownBy, Fits}

none≢some : {X : Type 0} {x : X} → ◌≡◌ {A = Option X} None (Some x) → ⊥
none≢some e = let z : ◌≡◌ {A = ℕ} 0 1 = cc in omega arith

abbrev HasTexts : Answer → Book → Type 0
HasTexts done b = (t : Texts) × (b.texts ≡ Some t)
HasTexts (refused e) b = Unit {0}
HasTexts (told v c p k r) b = Unit {0}
HasTexts (wrote x y) b = Unit {0}

-- a load that is taken leaves texts
pub has_texts : (m : Bool) (i : ℕ) (p f s : List ℕ) (b b' : Book) (a : Answer) → Goes (load m i p f s) b a b' → HasTexts a b'
has_texts _ i p f s b _ _ (loads x l) = (texts_of x, refl)
has_texts _ i p f s b _ _ (load_refused e l) = tt
has_texts _ i p f s b _ _ (load_starved x sx short) = tt

no_more : (rules : List Rule) → 96 < heads_below 96 rules → ⊥
no_more rules more = let few = marked_length (row 96 (is_head rules)) in let wide = length-row 96 (is_head rules) in omega arith

-- an ask with the branching finder is not refused then, and tells what is shown
abbrev Shows : Answer → Book → Book → Type 0
Shows (refused e) b b' = (t : Texts) → b.texts ≡ Some t → ⊥
Shows (told v c p k r) b b' = (v ≡ verdict_of b'.shown) × (r ≡ row_of b'.shown)
Shows done b b' = Unit {0}
Shows (wrote x y) b b' = Unit {0}

pub shows : (b b' : Book) (a : Answer) → Goes (ask (branching 96)) b a b' → Shows a b b'
shows b _ _ (asks t o sheet c has few asked is) = (refl, refl)
shows b _ _ (ask_unloaded none) = λ t has. none≢some (sym none ∙ has)
shows b _ _ (ask_too_many t has (inl more)) = λ t' has'. no_more t.plans more
shows b _ _ (ask_too_many t has (inr more)) = λ t' has'. no_more t.faults more

pub shown_is : (o s : Option Row) (v : Verdict) (r : Row) → v ≡ verdict_of o → r ≡ row_of o → ShownBy v r s → s ≡ o
shown_is None s v r e k by = subst (λ (w : Verdict). ShownBy w r s) e by
shown_is (Some m) s v r e k by = subst (λ (w : Verdict). ShownBy w r s) e by ∙ ap Some k

pub reported_fits : (p f s : List ℕ) (co : Bool) (sh : Option (code.Row 96)) (was is : List ℕ) (r : Result ℕ Fault) → Reported p f s co sh was is r → Fits was r
reported_fits p f s co sh was is (Ok n) w = w.written.fits
reported_fits p f s co sh was is (Err e) w = tt
