-- An ask put to a book: what it takes, what it leaves in order, and what it says of the texts.
use Rattle.std.proofs.Common.{◌≡◌, ℕ, ◌<◌, ◌≤◌, Bool, true, false, List, [], ◌∷◌, length, Some, None, Option, sym, refl, ap, ◌∙◌, subst, inl, inr, arith}
use mathlib.Core.HLevel.{⊥_prop}
use mathlib.Core.Logic.{∥∥₁_elim, ∥∥₁_prop}
use lib.ListN.{length-replicate}
use Rattle.std.specs.List.{ContainsAt as Has}
use Rattle.std.proofs.lemmas.Bool.{false≢true}
use Rattle.game.specs.Sets.{Row}
use Rattle.game.specs.Rules.{Rule}
use Rattle.game.specs.Sides.{Side, some_plan, every_plan}
use Rattle.game.specs.Game.{Texts, Wins, nothing}
use Rattle.game.proofs.Rows.{in_none}
use Rattle.game.proofs.StrataLists.{has_first}
use Rattle.finders.specs.Meanings.{Meaning, heads_below}
use Rattle.runs.specs.Book as runs
use Rattle.runs.specs.Book.{Book, Asked, TooMany, Coherence, IsCoherence, coherent, incoherent, Goes, asks, ask, told, verdict_of, row_of}
use Rattle.runs.specs.Runs.{Keeps}
use Rattle.runs.proofs.Readable.{Readable}
use Rattle.runs.proofs.Listed.{shown_first, none_unstruck}
use Rattle.runs.proofs.Firsts.{first_holds}
use Rattle.runs.proofs.Deciding.{some_coherence}
use Rattle.runs.proofs.Kept.{call_keeps}
use Rattle.book.specs.declared.loaded.Loaded.{Loaded}
use Rattle.book.specs.Models.{texts_from}
use Rattle.book.specs.Passing.{Takes}
use Rattle.book.specs.Asks.{coherence_by}
use Rattle.book.specs.Showing.{AsksTo, some_winner}

pub readable : (l : Loaded) → Readable (texts_from l)
readable l = record { plans = l.plan.kept; faults = l.faults.kept; apart = l.apart }

not_above : (n m : ℕ) → (m < n → ⊥) → n ≤ m
not_above n m f = omega arith

-- the heads are few enough for the finder
pub takes : (f : Meaning 96) (l : Loaded) → (TooMany f (texts_from l) → ⊥) → Takes f (texts_from l)
takes f l few = record {
  plans = record {
    kept = l.plan.kept;
    width = length-replicate 96 false;
    few = not_above (heads_below 96 (texts_from l).plans) f.most (λ m. few (inl m));
    apart = λ a i h. in_none 96 a i;
  };
  faults = λ m p. record {
    kept = l.faults.kept;
    width = p.width ∙ length-replicate 96 false;
    few = not_above (heads_below 96 (texts_from l).faults) f.most (λ m. few (inr m));
    apart = λ a i h. l.apart a (p.heads a i) h;
  };
}

-- an ask, put to the book b, leaves b'
module _ (f : Meaning 96) (t : Texts) (b b' : Book) (has : b.texts ≡ Some t) (few : TooMany f t → ⊥) (asked : AsksTo f t b b') where
  leaves : Book
  leaves = record { texts = b.texts; struck = b.struck; sheet = b'.sheet; shown = b'.shown }

  same_book : leaves ≡ b'
  unfolding leaves
  same_book = ap (λ x. record { texts = x; struck = b.struck; sheet = b'.sheet; shown = b'.shown }) (sym asked.texts) ∙ ap (λ x. record { texts = b'.texts; struck = x; sheet = b'.sheet; shown = b'.shown }) (sym asked.struck)

  pub ask_goes : (c : Coherence) → IsCoherence c t → Goes (ask f) b (told (verdict_of b'.shown) c (length b'.sheet) (length b.struck) (row_of b'.shown)) b'
  unfolding leaves
  ask_goes c is = subst (λ (x : Book). Goes (ask f) b (told (verdict_of b'.shown) c (length b'.sheet) (length b.struck) (row_of b'.shown)) x) same_book (asks t b'.shown b'.sheet c has few asked.asked is)

  pub asked_keeps : Keeps b → Keeps b'
  asked_keeps keeps = let (c, is) = some_coherence t in call_keeps (ask f) b b' (told (verdict_of b'.shown) c (length b'.sheet) (length b.struck) (row_of b'.shown)) (ask_goes c is) keeps

  module _ (read : Readable t) (keeps : ∥ Keeps b ∥₁) where
    -- some plan wins exactly where one is shown or was struck
    winner : (o : Option Row) (struck : List Row) → o ≡ b'.shown → struck ≡ b.struck → some_winner o struck ≡ true → ∥ ((m : Row) × Wins t m) ∥₁
    winner (Some m) struck e k w = ∣ (m, (first_holds _ (f.order t.plans nothing) m (shown_first f t read few b.struck b.sheet b'.sheet m (subst (λ (o : Option Row). Asked t b.struck (λ x. f.order t.faults x) (f.order t.plans nothing) b.sheet o b'.sheet) (sym e) asked.asked))).0) ∣₁
    winner None [] e k w = absurd (false≢true w)
    winner None (m ∷ ms) e k w = ∥∥₁_elim keeps ∥∥₁_prop (λ kept. ∣ (m, kept.struck_win t m has (subst (λ (xs : List Row). Has xs m) k (has_first m ms))) ∣₁)

    no_winner : (o : Option Row) (struck : List Row) → o ≡ b'.shown → struck ≡ b.struck → some_winner o struck ≡ false → (m : Row) → Wins t m → ⊥
    no_winner (Some n) struck e k w m wins = false≢true (sym w)
    no_winner None (n ∷ ms) e k w m wins = false≢true (sym w)
    no_winner None [] e k w m wins =
        none_unstruck f t read few b.struck b.sheet b'.sheet (subst (λ (o : Option Row). Asked t b.struck (λ x. f.order t.faults x) (f.order t.plans nothing) b.sheet o b'.sheet) (sym e) asked.asked) m (wins, λ (i, l, at). let n : length b.struck ≡ 0 = sym (ap length k) in omega (arith, n))

    pub some_wins : some_winner b'.shown b.struck ≡ true → ∥ ((m : Row) × Wins t m) ∥₁
    some_wins = winner b'.shown b.struck refl refl

    pub none_wins : some_winner b'.shown b.struck ≡ false → (m : Row) → Wins t m → ⊥
    none_wins = no_winner b'.shown b.struck refl refl

-- the coherence that is told is that of the texts
pub coherence_is : (s : Side) (p f q : List Rule) (w : Bool) → let t : Texts = record { side = s; plans = p; faults = f; site = q } in (w ≡ true → ∥ ((m : Row) × Wins t m) ∥₁) → (w ≡ false → (m : Row) → Wins t m → ⊥) → IsCoherence (coherence_by s w) t
coherence_is some_plan p f q true yes' no' = yes' refl
coherence_is some_plan p f q false yes' no' = λ some. ∥∥₁_elim some ⊥_prop (λ (m, wins). no' refl m wins)
coherence_is every_plan p f q true yes' no' = λ none. ∥∥₁_elim (yes' refl) ⊥_prop (λ (m, wins). none m wins)
coherence_is every_plan p f q false yes' no' = no' refl

-- what is told of an ask is what it goes to
module _ (f : Meaning 96) (t : Texts) (b b' : Book) (has : b.texts ≡ Some t) (few : TooMany f t → ⊥) (asked : AsksTo f t b b') (read : Readable t) (keeps : ∥ Keeps b ∥₁) where
  pub told_goes : (v : runs.Verdict) (c : Coherence) (p k : ℕ) (row : Row) → v ≡ verdict_of b'.shown → c ≡ coherence_by t.side (some_winner b'.shown b'.struck) → p ≡ length b'.sheet → k ≡ length b'.struck → row ≡ row_of b'.shown → Goes (ask f) b (told v c p k row) b'
  told_goes v c p k row v-is c-is p-is k_is row_is =
      let w = some_winner b'.shown b.struck in
      let is : IsCoherence (coherence_by t.side w) t = coherence_is t.side t.plans t.faults t.site w (some_wins f t b b' has few asked read keeps) (none_wins f t b b' has few asked read keeps) in
      let c_same : c ≡ coherence_by t.side w = c-is ∙ ap (λ (xs : List Row). coherence_by t.side (some_winner b'.shown xs)) asked.struck in
      let k_same : k ≡ length b.struck = k_is ∙ ap length asked.struck in
      subst (λ (z : runs.Verdict). Goes (ask f) b (told z c p k row) b') (sym v-is)
      (subst (λ (z : Coherence). Goes (ask f) b (told (verdict_of b'.shown) z p k row) b') (sym c_same)
      (subst (λ z. Goes (ask f) b (told (verdict_of b'.shown) (coherence_by t.side w) z k row) b') (sym p-is)
      (subst (λ z. Goes (ask f) b (told (verdict_of b'.shown) (coherence_by t.side w) (length b'.sheet) z row) b') (sym k_same)
      (subst (λ (z : Row). Goes (ask f) b (told (verdict_of b'.shown) (coherence_by t.side w) (length b'.sheet) (length b.struck) z) b') (sym row_is)
      (ask_goes f t b b' has few asked (coherence_by t.side w) is)))))
