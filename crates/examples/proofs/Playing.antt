-- Moves put to a loaded book, computed: what passes is a run.
use Rattle.std.proofs.Common.{◌≡◌, ℕ, ◌<◌, ◌≤◌, Bool, true, false, ◌&&◌, eqb, ltb, leb, List, [], ◌∷◌, ◌++◌, map, length, Some, None, Option, sym, refl, ◌∙◌, subst, ap₂, inl, inr, arith}
use Rattle.std.specs.List.{ContainsAt as Has, AllByRecursion}
use Rattle.std.proofs.lemmas.Bool.{false≢true, and_parts, eqb-true, leb-true, ltb-true}
use Rattle.game.specs.Sets.{Row}
use Rattle.game.specs.Game.{Texts, Beats, nothing}
use Rattle.game.proofs.StrataLists.{has_first, has_later}
use Rattle.programs.specs.Limits.{all_fit}
use Rattle.finders.specs.Meanings.{heads_below}
use Rattle.grammar.specs.Grammar.{Name}
use Rattle.runs.specs.Book as book
use Rattle.runs.specs.Book.{Pair, Asked, run_out, over_struck, over_beaten, newly_beaten, SheetBeats, First, noted, Verdict, plan_shown, no_plan, Coherence, coherent, incoherent, ask, told, verdict_of, row_of, TooMany, Goes, Run}
use Rattle.examples.specs.Examples.{Finder, meaning_of, Move, shows, shows_none, strikes, set_of, call_of, answer_of, pair_of}
use Rattle.examples.proofs.Answering.{same, same_decides}
use Rattle.examples.proofs.Ordering.{order_of, order_lists, order_is}
use Rattle.examples.proofs.Beating.{dec_by, on, on_decides, FirstTold, first_by, Wide, wide_nothing, fits_at, Fit, dec_beats, dec_sheet_beats, coherence_of}

abbrev by_test : {X : Type 0} (b : Bool) → (b ≡ true → X) → Option X
by_test true k = Some (k refl)
by_test false k = None

abbrev then : {X Y : Type 0} → Option X → (X → Option Y) → Option Y
then None k = None
then (Some x) k = k x

-- an ask shows this plan, or none and an empty row
abbrev shown_is : Option Row → Verdict → Row → Bool
shown_is None plan_shown row = false
shown_is None no_plan row = same nothing row
shown_is (Some m) plan_shown row = same m row
shown_is (Some m) no_plan row = false

shown_so : (o : Option Row) (v : Verdict) (row : Row) → shown_is o v row ≡ true → (verdict_of o ≡ v) × (row_of o ≡ row)
shown_so None plan_shown row e = absurd (false≢true e)
shown_so None no_plan row e = (refl, (same_decides nothing row).0 e)
shown_so (Some m) plan_shown row e = (refl, (same_decides m row).0 e)
shown_so (Some m) no_plan row e = absurd (false≢true e)

abbrev same_coherence : Coherence → Coherence → Bool
same_coherence coherent coherent = true
same_coherence coherent incoherent = false
same_coherence incoherent coherent = false
same_coherence incoherent incoherent = true

same_coherence_so : (c d : Coherence) → same_coherence c d ≡ true → c ≡ d
same_coherence_so coherent coherent e = refl
same_coherence_so coherent incoherent e = absurd (false≢true e)
same_coherence_so incoherent coherent e = absurd (false≢true e)
same_coherence_so incoherent incoherent e = refl

abbrev few : Finder → Texts → Bool
few f t = leb (heads_below 96 t.plans) (meaning_of f).most && leb (heads_below 96 t.faults) (meaning_of f).most

not_both : (n m : ℕ) → n ≤ m → m < n → ⊥
not_both n m le lt = omega arith

few_so : (f : Finder) (t : Texts) → few f t ≡ true → TooMany (meaning_of f) t → ⊥
few_so f t e (inl more) = not_both (heads_below 96 t.plans) (meaning_of f).most (leb-true (heads_below 96 t.plans) (meaning_of f).most (and_parts (leb (heads_below 96 t.plans) (meaning_of f).most) _ e).0) more
few_so f t e (inr more) = not_both (heads_below 96 t.faults) (meaning_of f).most (leb-true (heads_below 96 t.faults) (meaning_of f).most (and_parts (leb (heads_below 96 t.plans) (meaning_of f).most) _ e).1) more

module _ (t : Texts) (fit : Fit t) where
  -- ## Going down the plans

  module _ (f : Finder) (struck : List Row) where
    abbrev Down : List Row → List Pair → Type 0
    Down ms s = (o : Option Row) × (s' : List Pair) × Asked t struck (λ m. (meaning_of f).order t.faults m) ms s o s'

    abbrev past : (m : Row) (ms : List Row) (s : List Pair) (rs : List Row) → rs ≡ (meaning_of f).order t.faults m → ((s' : List Pair) → Down ms s') → Dec (Has struck m) → Dec (SheetBeats t s m) → FirstTold (Beats t m) rs → Down (m ∷ ms) s
    past m ms s rs e later (yes h) d k = let (o, s', a) = later s in (o, s', over_struck h a)
    past m ms s rs e later (no n) (yes b) k = let (o, s', a) = later s in (o, s', over_beaten n b a)
    past m ms s rs e later (no n) (no u) (inl (r, first)) = let (o, s', a) = later (noted s (record { plan = m; reply = r })) in (o, s', newly_beaten r n u (subst (λ xs. First (Beats t m) xs r) e first) a)
    past m ms s rs e later (no n) (no u) (inr none) = (Some m, s, book.shows n u (subst (AllByRecursion (λ r. Beats t m r → ⊥)) e none))

    abbrev down : (ms : List Row) → ((m : Row) → Has ms m → Wide m) → (s : List Pair) → Down ms s
    down [] wide s = (None, s, run_out)
    down (m ∷ ms) wide s =
        past m ms s (order_of f t.faults m) (sym (order_is f t.faults m (fits_at t.faults m fit.faults (wide m (has_first m ms))))) (down ms (λ x h. wide x (has_later m x ms h)))
        (dec_by (on struck m) (on_decides struck m))
        (dec_sheet_beats t fit m (wide m (has_first m ms)) s)
        (first_by (Beats t m) (order_of f t.faults m) (λ r _. dec_beats t fit m (wide m (has_first m ms)) r))

    pub wide_plan : (m : Row) → Has (order_of f t.plans nothing) m → Wide m
    wide_plan m has = ((order_lists f t.plans nothing (fits_at t.plans nothing fit.plans wide_nothing)).only m has).width ∙ wide_nothing

    abbrev asked : (s : List Pair) → Down ((meaning_of f).order t.plans nothing) s
    asked s = let (o, s', a) = down (order_of f t.plans nothing) wide_plan s in (o, s', subst (λ ms. Asked t struck (λ m. (meaning_of f).order t.faults m) ms s o s') (sym (order_is f t.plans nothing (fits_at t.plans nothing fit.plans wide_nothing))) a)

  -- ## Moves

  abbrev kept : List Row → List Pair → Option Row → book.Book
  kept struck sheet shown = record { texts = Some t; struck = struck; sheet = sheet; shown = shown }

  -- the call leaves a book
  abbrev Left : book.Call → book.Book → book.Answer → Type 0
  Left c b a = (struck : List Row) × (sheet : List Pair) × (shown : Option Row) × Goes c b a (kept struck sheet shown)

  module _ (struck : List Row) (sheet : List Pair) (shown : Option Row) where
    abbrev here : book.Book
    here = kept struck sheet shown

    abbrev tells : (o : Option Row) (s' : List Pair) (d : Coherence) → Finder → Verdict → Coherence → ℕ → ℕ → Row → Bool
    tells o s' d f v c pairs n row = few f t && (shown_is o v row && (same_coherence d c && (eqb (length s') pairs && eqb (length struck) n)))

    pub asks_so : (f : Finder) (v : Verdict) (c : Coherence) (pairs n : ℕ) (row : Row) (o : Option Row) (s' : List Pair) (d : Coherence) → Asked t struck (λ m. (meaning_of f).order t.faults m) ((meaning_of f).order t.plans nothing) sheet o s' → book.IsCoherence d t → tells o s' d f v c pairs n row ≡ true → Goes (ask (meaning_of f)) here (told v c pairs n row) (kept struck s' o)
    asks_so f v c pairs n row o s' d a k e =
        let (taken, e1) = and_parts (few f t) _ e in
        let (as-shown, e2) = and_parts (shown_is o v row) _ e1 in
        let (as_said, e3) = and_parts (same_coherence d c) _ e2 in
        let (as_many, as-struck) = and_parts (eqb (length s') pairs) _ e3 in
        let (verdict, is_row) = shown_so o v row as-shown in
        let said = same_coherence_so d c as_said in
        let counted = eqb-true _ _ as_many in
        let lines = eqb-true _ _ as-struck in
        let same_answer : told (verdict_of o) d (length s') (length struck) (row_of o) ≡ told v c pairs n row = cc in
        subst (λ x. Goes (ask (meaning_of f)) here x (kept struck s' o)) same_answer (book.asks t o s' d refl (few_so f t taken) a k)

    abbrev ask_goes : (f : Finder) (v : Verdict) (c : Coherence) (pairs n : ℕ) (row : Row) → Option (Left (ask (meaning_of f)) here (told v c pairs n row))
    ask_goes f v c pairs n row =
        let (o, s', a) = asked f struck sheet in
        let (d, k) = coherence_of t fit in
        by_test (tells o s' d f v c pairs n row) (λ e. (struck, s', o, asks_so f v c pairs n row o s' d a k e))

  abbrev strike_goes : (struck : List Row) (sheet : List Pair) (shown : Option Row) → Option (Left book.strike (kept struck sheet shown) book.done)
  strike_goes struck sheet None = None
  strike_goes struck sheet (Some m) = by_test (ltb (length struck) 64) (λ e. (struck ++ (m ∷ []), sheet, None, book.strikes t m refl refl (ltb-true _ _ e)))

  module _ (atoms : List Name) where
    abbrev goes : (x : Move) (struck : List Row) (sheet : List Pair) (shown : Option Row) → Option (Left (call_of x) (kept struck sheet shown) (answer_of atoms x))
    goes (shows f plan c pairs n) struck sheet shown = ask_goes struck sheet shown f plan_shown c pairs n (set_of atoms plan)
    goes (shows_none f c pairs n) struck sheet shown = ask_goes struck sheet shown f no_plan c pairs n nothing
    goes strikes struck sheet shown = strike_goes struck sheet shown

    abbrev pub Ran : book.Book → List Move → Type 0
    Ran b moves = (b' : book.Book) × Run b (map call_of moves) (map (answer_of atoms) moves) b'

    abbrev pub plays : (moves : List Move) (struck : List Row) (sheet : List Pair) (shown : Option Row) → Option (Ran (kept struck sheet shown) moves)
    plays [] struck sheet shown = Some (kept struck sheet shown, book.stop)
    plays (x ∷ xs) struck sheet shown = then (goes x struck sheet shown) (λ (struck', sheet', shown', g). then (plays xs struck' sheet' shown') (λ (b, run). Some (b, book.step _ g run)))

-- ## The sheet at the end

abbrev same_pair : Pair → Pair → Bool
same_pair p q = same p.plan q.plan && same p.reply q.reply

same_pair_so : (p q : Pair) → same_pair p q ≡ true → p ≡ q
same_pair_so p q e =
    let (first, second) = and_parts (same p.plan q.plan) _ e in
    ap₂ (λ m r. record { plan = m; reply = r }) ((same_decides p.plan q.plan).0 first) ((same_decides p.reply q.reply).0 second)

abbrev same_sheet : List Pair → List Pair → Bool
same_sheet [] [] = true
same_sheet [] (q ∷ qs) = false
same_sheet (p ∷ ps) [] = false
same_sheet (p ∷ ps) (q ∷ qs) = same_pair p q && same_sheet ps qs

pub same_sheet_so : (ps qs : List Pair) → same_sheet ps qs ≡ true → ps ≡ qs
same_sheet_so [] [] e = refl
same_sheet_so [] (q ∷ qs) e = absurd (false≢true e)
same_sheet_so (p ∷ ps) [] e = absurd (false≢true e)
same_sheet_so (p ∷ ps) (q ∷ qs) e = let (first, rest) = and_parts (same_pair p q) _ e in ap₂ ◌∷◌ (same_pair_so p q first) (same_sheet_so ps qs rest)

abbrev fit_texts : Texts → Bool
fit_texts t = all_fit 96 t.plans && (all_fit 96 t.faults && all_fit 96 t.site)

pub fit_so : (t : Texts) → fit_texts t ≡ true → Fit t
fit_so t e = let (plans, rest) = and_parts (all_fit 96 t.plans) _ e in let (faults, site) = and_parts (all_fit 96 t.faults) _ rest in record { plans = plans; faults = faults; site = site }

abbrev fit_by : (t : Texts) → Option (Fit t)
fit_by t = by_test (fit_texts t) (fit_so t)

module _ (t : Texts) (atoms : List Name) (moves : List Move) (sheet : List (List Name × List Name)) where
  -- the moves, from the load on, are answered so and leave this sheet
  abbrev pub Ended : Type 0
  Ended = (b : book.Book) × Run (book.opened (Some t)) (map call_of moves) (map (answer_of atoms) moves) b × (b.sheet ≡ map (pair_of atoms) sheet)

  unfoldable pub ended : Option Ended
  ended = then (fit_by t) (λ fit. then (plays t fit atoms moves [] [] None) (λ (b, run). by_test (same_sheet b.sheet (map (pair_of atoms) sheet)) (λ e. (b, run, same_sheet_so _ _ e))))
