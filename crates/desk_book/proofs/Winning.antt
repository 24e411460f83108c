-- Plans shown and struck, one after another.
use Rattle.std.proofs.Common.{◌≡◌, ℕ, ◌+◌, ◌<◌, ◌≤◌, ◌⊎◌, List, [], ◌∷◌, ◌++◌, length, Some, None, Option, sym, refl, ap, ap₂, ◌∙◌, subst, ⊎_elim, inl, inr, append_assoc, append-nil, arith}
use Rattle.std.specs.List.{flat_map}
use Rattle.std.proofs.lemmas.List.{length_push, flat_map_more}
use Rattle.closure.specs.declared.row.Row as code
use Rattle.game.specs.Sets.{Row}
use Rattle.finders.specs.Meanings.{Meaning}
use Rattle.finders.specs.Supplied.{branching}
use Rattle.reading.specs.Steps.{Standing}
use Rattle.grammar.proofs.Never.{never}
use Rattle.runs.specs.Book.{Book, Answer, refused, done, told, wrote, Refusal, struck_full, Verdict, plan_shown, no_plan, verdict_of, Coherence, Goes, ask, strike, strikes, strike_unloaded, strike_none, strike_full, asks, ask_unloaded, ask_too_many}
use Rattle.deciding.proofs.Asking.{shows}
use Rattle.listing_text.specs.declared.lines.Ending.{Ending}
use Rattle.listing_text.specs.declared.lines.Ending.TheVariants.{Stopped}
use Rattle.listing_text.specs.Lines.{set_line}
use Rattle.desk_text.specs.Lines.{winners_line}
use Rattle.desk_book.specs.declared.winners.Next.TheVariants.{Winner, End}
use Rattle.desk_book.specs.Winners.{Shows, Wins, no_more, one_more, left_over, NextGoes, WinnersTold, HasTexts}
use Rattle.desk_book.proofs.Going.{ask_stays, strike_stays}

-- why a strike is refused
abbrev Unstruck : Answer → Book → Book → Type 0
Unstruck (refused e) b b' = (b.texts ≡ None) ⊎ ((b.shown ≡ None) ⊎ ((b ≡ b') × Goes strike b (refused struck_full) b))
Unstruck done b b' = Unit {0}
Unstruck (told v c p s r) b b' = Unit {0}
Unstruck (wrote x y) b b' = Unit {0}

unstruck : (b b' : Book) (a : Answer) → Goes strike b a b' → Unstruck a b b'
unstruck b _ _ (strikes t m has shown few) = tt
unstruck b _ _ (strike_unloaded none) = inl none
unstruck b _ _ (strike_none t has none) = inr (inl none)
unstruck b _ _ (strike_full t m has shown full) = inr (inr (refl, strike_full t m has shown full))

some_is_not_none : {X : Type 0} {x : X} {o : Option X} → o ≡ Some x → o ≡ None → ⊥
some_is_not_none some none = never (let z : ◌≡◌ {A = ℕ} 0 1 = cc in z)

-- where a plan is shown, the book has one
shown_there : (b b' : Book) (m : Row) → Shows b m b' → b'.shown ≡ None → ⊥
shown_there b b' m (c, p, k, goes) none =
    let (v, r) = shows b b' (told plan_shown c p k m) goes in
    never (let e : plan_shown ≡ no_plan = v ∙ ap verdict_of none in let z : ◌≡◌ {A = ℕ} 0 1 = cc in z)

-- a plan that is shown and cannot be struck is one too many
pub one_too_many : (b b' b'' : Book) (m : Row) (e : Refusal) → HasTexts b → Shows b m b' → Goes strike b' (refused e) b'' → Wins b [] Stopped b''
one_too_many b b' b'' m e (t, has) (c, p, k, goes) no' =
    let stays = ask_stays (branching 96) b b' (told plan_shown c p k m) goes in
    ⊎_elim (λ none. absurd (some_is_not_none (stays ∙ has) none))
    (λ rest. ⊎_elim (λ none. absurd (shown_there b b' m (c, p, k, goes) none)) (λ full. subst (λ (x : Book). Wins b [] Stopped x) full.0 (left_over m (c, p, k, goes) full.1)) rest)
    (unstruck b' b'' (refused e) no')

-- a plan more that is struck
abbrev pub StruckMore : Answer → Book → Book → Type 0
StruckMore done b b' = (b'.texts ≡ b.texts) × (length b'.struck ≡ length b.struck + 1) × (length b.struck < 64)
StruckMore (refused e) b b' = Unit {0}
StruckMore (told v c p s r) b b' = Unit {0}
StruckMore (wrote x y) b b' = Unit {0}

struck_more : (b b' : Book) (a : Answer) → Goes strike b a b' → StruckMore a b b'
struck_more b _ _ (strikes t m has shown few) = (refl, length_push b.struck m, few)
struck_more b _ _ (strike_unloaded none) = tt
struck_more b _ _ (strike_none t has none) = tt
struck_more b _ _ (strike_full t m has shown full) = tt

ask_keeps_struck : (f : Meaning 96) (b b' : Book) (a : Answer) → Goes (ask f) b a b' → b'.struck ≡ b.struck
ask_keeps_struck f b _ _ (asks t o sheet c has few asked is) = refl
ask_keeps_struck f b _ _ (ask_unloaded none) = refl
ask_keeps_struck f b _ _ (ask_too_many t has more) = refl

pub one_more_struck : (b b'' : Book) (m : code.Row 96) → NextGoes b (Winner m) b'' → StruckMore done b b''
one_more_struck b b'' m (b', (c, p, k, goes), struck) =
    let a = told plan_shown c p k m.marks in
    let (texts, more, few) = struck_more b' b'' done struck in
    let same = ap length (ask_keeps_struck (branching 96) b b' a goes) in
    (texts ∙ ask_stays (branching 96) b b' a goes, omega (arith, more, same), omega (arith, few, same))

pub end_stays : (b b' : Book) (ms : List Row) (e : Ending) → Wins b ms e b' → ms ≡ [] → b'.texts ≡ b.texts
end_stays b b' _ _ (no_more (c, p, k, row, goes)) none = ask_stays (branching 96) b b' (told no_plan c p k row) goes
end_stays b b' _ _ (left_over m (c, p, k, goes) full) none = ask_stays (branching 96) b b' (told plan_shown c p k m) goes
end_stays b b' _ _ (one_more c d shown struck rest) none = never (let z : ◌≡◌ {A = ℕ} 0 1 = cc in z)

-- some plans were struck and told, and what is left to do makes the whole
pub record OnTheWay (atoms : List Standing) (start b : Book) (was now : List ℕ) (plans : ℕ) : Type 0 where
  pub winners : List Row
  pub counted : plans ≡ length winners
  pub lines : now ≡ was ++ flat_map (set_line atoms) winners
  pub texts : b.texts ≡ start.texts
  pub rest : (ms : List Row) (e : Ending) (b' : Book) → Wins b ms e b' → Wins start (winners ++ ms) e b'
  pub few : length winners ≤ length b.struck

pub set_out : (atoms : List Standing) (b : Book) (was : List ℕ) → OnTheWay atoms b b was was 0
set_out atoms b was = record { winners = []; counted = refl; lines = sym (append-nil was); texts = refl; rest = λ ms e b' wins. wins; few = omega arith }

module _ (atoms : List Standing) (start b b' : Book) (was now : List ℕ) (plans : ℕ) (way : OnTheWay atoms start b was now plans) where
  pub go_on : (m : code.Row 96) (next : List ℕ) → NextGoes b (Winner m) b' → next ≡ now ++ set_line atoms m.marks → OnTheWay atoms start b' was next (plans + 1)
  go_on m next goes line =
      let more = one_more_struck b b' m goes in
      let (between, shown, struck) = goes in
      record {
        winners = way.winners ++ (m.marks ∷ []);
        counted = omega (arith, way.counted, length_push way.winners m.marks);
        lines = line ∙ ap (λ l. l ++ set_line atoms m.marks) way.lines ∙ flat_map_more (set_line atoms) was way.winners m.marks;
        texts = more.0 ∙ way.texts;
        rest = λ ms e b'' wins. subst (λ (l : List Row). Wins start l e b'') (sym (append_assoc way.winners (m.marks ∷ []) ms)) (way.rest (m.marks ∷ ms) e b'' (one_more between b' shown struck wins));
        few = omega (arith, way.few, length_push way.winners m.marks, more.1);
      }

  pub arrive : (e : Ending) (is : List ℕ) → NextGoes b (End e) b' → is ≡ now ++ winners_line plans e → WinnersTold atoms start b' was is
  arrive e is wins line = (
    way.winners,
    e,
    subst (λ (l : List Row). Wins start l e b') (append-nil way.winners) (way.rest [] e b' wins),
    line ∙ ap₂ (λ l n. l ++ winners_line n e) way.lines way.counted ∙ append_assoc was (flat_map (set_line atoms) way.winners) (winners_line (length way.winners) e),
  )
