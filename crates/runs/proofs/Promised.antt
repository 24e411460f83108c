-- No order of calls spoils a book.
use Rattle.std.proofs.Common.{◌≡◌, ℕ, ◌<◌, ◌⊎◌, ◌↔◌, List, length, get_or, Some, None, Option, sym, refl, ap, ◌∙◌, subst, inl, inr}
use Rattle.std.specs.List.{ContainsAt as Has}
use Rattle.std.proofs.lemmas.List.{get_or_default}
use Rattle.std.proofs.ByRecursion.{has_get_or}
use Rattle.game.specs.Sets.{Row}
use Rattle.game.specs.Game.{Texts, Plan, Beats, Wins, nothing}
use Rattle.game.specs.Heads.{Lists}
use Rattle.game.proofs.Listing.{differ_once}
use Rattle.grammar.proofs.Never.{never}
use Rattle.finders.specs.Meanings.{Meaning}
use Rattle.runs.specs.Book.{Book, Pair, Verdict, plan_shown, no_plan, Coherence, Call, ask, Answer, told, Goes, Run, new_book, asks, looks_pair, looks_struck}
use Rattle.runs.specs.Runs.{History, blank, UnstruckWinner, WinnerLeft, Told, Ask, Writes, Sound, Past, Keeps, NoOrderOfCallsSpoilsABook}
use Rattle.runs.proofs.Firsts.{first_holds}
use Rattle.runs.proofs.Deciding.{dec_has, one_coherence}
use Rattle.runs.proofs.Listed.{shown_first, none_unstruck, beaten_from_sheet}
use Rattle.runs.proofs.Keeping.{history_of, Good, Sane, run_history}
use Rattle.runs.proofs.Histories.{same_loaded, some_history, one_history}
use Rattle.runs.proofs.Kept.{new_keeps, call_keeps, run_keeps}

shown_is_not : ◌≡◌ {A = Verdict} plan_shown no_plan → ⊥
shown_is_not e = never (cc)

none_is_not : ◌≡◌ {A = Verdict} no_plan plan_shown → ⊥
none_is_not e = never (cc)

-- where no winner is left, the struck plans are the winning ones
struck_listed : {t : Texts} {struck : List Row} {shown : Option Row} → Good t struck shown → ((m : Row) → UnstruckWinner t struck m → ⊥) → Lists struck (Wins t)
struck_listed {t} {struck} g gone = record { only = g.wins; every = λ m w. (elim (dec_has struck m) [ yes h ↦ h | no n ↦ absurd (gone m (w, n)) ]); once = differ_once struck g.differ }

-- the sheet at a place
entry : (b : Book) (t : Texts) → Keeps b → b.texts ≡ Some t → (n : ℕ) → n < length b.sheet → (x : Row) × (y : Row) × Writes b 1 n x y × Plan t x × Beats t x y
entry b t k e n less =
    let p : Pair = get_or b.sheet n (record { plan = nothing; reply = nothing }) in
    let (plan, beats) = k.pairs_beat t p e (has_get_or b.sheet n _ less) in
    (p.plan, p.reply, looks_pair t p e less (λ d. get_or_default b.sheet n d _ less), plan, beats)

module _ (calls : List Call) (answers : List Answer) (b : Book) (run : Run new_book calls answers b) (f : Meaning 96) (g : Sane (history_of b)) (kept : Keeps b) where
  abbrev asked : (v : Verdict) (c : Coherence) (pairs struck : ℕ) (row : Row) (b' : Book) → Goes (ask f) b (told v c pairs struck row) b' → Ask
  asked v c pairs struck row b' goes = record { calls = calls; answers = answers; before = b; run = run; finder = f; verdict = v; coherence = c; pairs = pairs; struck = struck; row = row; after = b'; goes = goes }

  goes_sound : (v : Verdict) (c : Coherence) (pairs struck : ℕ) (row : Row) (b' : Book) (goes : Goes (ask f) b (told v c pairs struck row) b') → (t : Texts) × (b.texts ≡ Some t) × Sound (asked v c pairs struck row b' goes) (history_of b) t
  goes_sound v c pairs struck row b' (asks t None sheet d e few w k) =
      let good = g t e in
      let gone = none_unstruck f t good.readable few b.struck b.sheet sheet w in (
        t,
        e,
        record {
          verdict = (λ _. gone, λ _. refl);
          shown = λ z. absurd (none_is_not z);
          counted = entry _ t (call_keeps (ask f) b _ _ (asks t None sheet d e few w k) kept) e;
          reasons = λ _ short m p u. (let (q, (n, less, at), beats) = beaten_from_sheet f t good.readable few b.struck b.sheet sheet w short m p u in (n, q.plan, q.reply, less, looks_pair t q e less at, beats));
          winners = λ _. struck_listed good gone;
          listed = refl;
          in_order = λ n d' less. looks_struck t (get_or b.struck n d') e less (λ z. get_or_default b.struck n z d' less);
          coherence = k;
        },
      )
  goes_sound v c pairs struck row b' (asks t (Some m) sheet d e few w k) =
      let first = shown_first f t (g t e).readable few b.struck b.sheet sheet m w in
      let winner = first_holds (UnstruckWinner t b.struck) (f.order t.plans nothing) m first in (
        t,
        e,
        record {
          verdict = (λ z. absurd (shown_is_not z), λ none. absurd (none m winner));
          shown = λ _. first;
          counted = entry _ t (call_keeps (ask f) b _ _ (asks t (Some m) sheet d e few w k) kept) e;
          reasons = λ z. absurd (shown_is_not z);
          winners = λ z. absurd (shown_is_not z);
          listed = refl;
          in_order = λ n d' less. looks_struck t (get_or b.struck n d') e less (λ z. get_or_default b.struck n z d' less);
          coherence = k;
        },
      )

module _ (a : Ask) where
  abbrev here : History
  here = history_of a.before

  past : Told a.calls blank here × Sane here
  past = run_history a.calls a.answers a.before a.run

  judged : (t : Texts) × (here.texts ≡ Some t) × Sound a here t
  judged = goes_sound a.calls a.answers a.before a.run a.finder past.1 (run_keeps a.calls a.answers new_book a.before a.run new_keeps) a.verdict a.coherence a.pairs a.struck a.row a.after a.goes

  loaded : (h : History) × (t : Texts) × Past a h t
  loaded = (here, judged.0, record { told = past.0; texts = judged.1 })

  sound : (h : History) (t : Texts) → Past a h t → Sound a h t
  sound h t before =
      let same : here ≡ h = one_history a.calls here h past.0 before.told in
      let alike : judged.0 ≡ t = same_loaded (ap (λ x. x.texts) (sym same) ∙ judged.1) before.texts in
      subst (λ x. Sound a x t) same (subst (Sound a here) alike judged.2)

-- ## Two asks

-- what the verdict says of the winners that are left
module _ (a : Ask) (h : History) (t : Texts) (s : Sound a h t) where
  some_left : a.verdict ≡ plan_shown → WinnerLeft t h
  some_left e = (a.row, first_holds (UnstruckWinner t h.struck) (a.finder.order t.plans nothing) a.row (s.shown e))

  none_left : a.verdict ≡ no_plan → WinnerLeft t h → ⊥
  none_left e (m, w) = s.verdict.0 e m w

  says_none : (WinnerLeft t h → ⊥) → a.verdict ≡ no_plan
  says_none n = s.verdict.1 (λ m w. n (m, w))

  says_plan : WinnerLeft t h → a.verdict ≡ plan_shown
  says_plan w = go a.verdict refl
    where
      go : (v : Verdict) → a.verdict ≡ v → a.verdict ≡ plan_shown
      go plan_shown e = e
      go no_plan e = absurd (none_left e w)

agree : (a a' : Ask) (h h' : History) (t t' : Texts) → Sound a h t → Sound a' h' t' → (a.verdict ≡ a'.verdict) ↔ ((WinnerLeft t h × WinnerLeft t' h') ⊎ ((WinnerLeft t h → ⊥) × (WinnerLeft t' h' → ⊥)))
agree a a' h h' t t' s s' = (λ e. go a'.verdict refl e, back)
  where
    go : (v : Verdict) → a'.verdict ≡ v → a.verdict ≡ a'.verdict → (WinnerLeft t h × WinnerLeft t' h') ⊎ ((WinnerLeft t h → ⊥) × (WinnerLeft t' h' → ⊥))
    go plan_shown q e = inl (some_left a h t s (e ∙ q), some_left a' h' t' s' q)
    go no_plan q e = inr (none_left a h t s (e ∙ q), none_left a' h' t' s' q)

    back : (WinnerLeft t h × WinnerLeft t' h') ⊎ ((WinnerLeft t h → ⊥) × (WinnerLeft t' h' → ⊥)) → a.verdict ≡ a'.verdict
    back (inl (w, w')) = says_plan a h t s w ∙ sym (says_plan a' h' t' s' w')
    back (inr (n, n')) = says_none a h t s n ∙ sym (says_none a' h' t' s' n')

left_too : (t : Texts) (h h' : History) → ((m : Row) → Has h.struck m ↔ Has h'.struck m) → WinnerLeft t h → WinnerLeft t h'
left_too t h h' same (m, (wins, new)) = (m, (wins, λ k. new ((same m).1 k)))

alike : (a a' : Ask) (h h' : History) (t : Texts) → Sound a h t → Sound a' h' t → ((m : Row) → Has h.struck m ↔ Has h'.struck m) → (a.verdict ≡ a'.verdict) × (a.coherence ≡ a'.coherence)
alike a a' h h' t s s' same = (go a.verdict refl, one_coherence t a.coherence a'.coherence s.coherence s'.coherence)
  where
    go : (v : Verdict) → a.verdict ≡ v → a.verdict ≡ a'.verdict
    go plan_shown e = e ∙ sym (says_plan a' h' t s' (left_too t h h' same (some_left a h t s e)))
    go no_plan e = e ∙ sym (says_none a' h' t s' (λ w. none_left a h t s e (left_too t h' h (λ m. ((same m).1, (same m).0)) w)))

pub no_order_of_calls_spoils_a_book : NoOrderOfCallsSpoilsABook
no_order_of_calls_spoils_a_book = record {
  some_history = some_history;
  one_history = one_history;
  loaded = loaded;
  sound = sound;
  agree = λ a a' h h' t t' before before'. agree a a' h h' t t' (sound a h t before) (sound a' h' t' before');
  alike = λ a a' h h' t before before'. alike a a' h h' t (sound a h t before) (sound a' h' t before');
}
