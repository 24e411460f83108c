-- What a call leaves of the texts, and what it shows of them.
use Rattle.std.proofs.Common.{◌≡◌, ℕ, Bool, List, Some, None, Ok, Option, Result, sym, refl, ap, ◌∙◌, subst}
use mathlib.Core.Logic.{∥∥₁_elim, ∥∥₁_prop}
use Rattle.game.specs.Game.{Texts}
use Rattle.finders.specs.Meanings.{Meaning}
use Rattle.runs.specs.Book.{Book, Call, load, ask, strike, look, wipe, Answer, refused, done, told, wrote, Goes, texts_of, loads, load_refused, load_starved, asks, ask_unloaded, ask_too_many, strikes, strike_unloaded, strike_none, strike_full, looks_pair, looks_struck, look_unloaded, look_nowhere, wipes}
use Rattle.runs.proofs.Keeping.{some_is}
use Rattle.desk_book.specs.Loaded.{Bytes, LoadedFrom}

pub strike_stays : (b b' : Book) (a : Answer) → Goes strike b a b' → b'.texts ≡ b.texts
strike_stays b _ _ (strikes t m has shown few) = refl
strike_stays b _ _ (strike_unloaded none) = refl
strike_stays b _ _ (strike_none t has none) = refl
strike_stays b _ _ (strike_full t m has shown full) = refl

pub wipe_stays : (b b' : Book) (a : Answer) → Goes wipe b a b' → b'.texts ≡ b.texts
wipe_stays b _ _ wipes = refl

pub ask_stays : (f : Meaning 96) (b b' : Book) (a : Answer) → Goes (ask f) b a b' → b'.texts ≡ b.texts
ask_stays f b _ _ (asks t o sheet c has few asked is) = refl
ask_stays f b _ _ (ask_unloaded none) = refl
ask_stays f b _ _ (ask_too_many t has more) = refl

-- a book that keeps its texts keeps where they were loaded from
pub still_loaded : (b b' : Book) (w : Bytes) → b'.texts ≡ b.texts → ∥ LoadedFrom b w ∥₁ → ∥ LoadedFrom b' w ∥₁
still_loaded b b' w stays from = ∥∥₁_elim from ∥∥₁_prop (λ from. ∣ (λ t has. from t (sym stays ∙ has)) ∣₁)

-- what a load leaves: texts that were loaded from these bytes, or those that it found
abbrev pub LoadLeaves : Bytes → Answer → Book → Book → Type 0
LoadLeaves w done b b' = ((t : Texts) × (b'.texts ≡ Some t)) × LoadedFrom b' w
LoadLeaves w (refused e) b b' = b'.texts ≡ b.texts
LoadLeaves w (told v c p s r) b b' = Unit {0}
LoadLeaves w (wrote x y) b b' = Unit {0}

pub load_leaves : (m : Bool) (i : ℕ) (p f s : List ℕ) (b b' : Book) (a : Answer) → Goes (load m i p f s) b a b' → LoadLeaves (record { plan = p; faults = f; site = s }) a b b'
load_leaves _ i p f s b _ _ (loads x l) = ((texts_of x, refl), λ t has. (i, x, l, some_is has))
load_leaves _ i p f s b _ _ (load_refused e l) = refl
load_leaves _ i p f s b _ _ (load_starved x sx short) = refl

-- a load of the bytes that were lent is a load of the bytes
module _ (side : ℕ) (w : Bytes) (p f s : List ℕ) (plan : p ≡ w.plan) (faults : f ≡ w.faults) (site : s ≡ w.site) (b b' : Book) (a : Answer) where
  pub of_bytes : (m : Bool) × Goes (load m side p f s) b a b' → (m : Bool) × Goes (load m side w.plan w.faults w.site) b a b'
  of_bytes (m, goes) = (
    m,
    subst (λ x. Goes (load m side w.plan w.faults x) b a b') site (subst (λ x. Goes (load m side w.plan x s) b a b') faults (subst (λ x. Goes (load m side x f s) b a b') plan goes)),
  )

-- an ask that tells something was put to a book with texts
abbrev pub HasTexts : Answer → Book → Type 0
HasTexts (told v c p s r) b = (t : Texts) × (b.texts ≡ Some t)
HasTexts (refused e) b = Unit {0}
HasTexts done b = Unit {0}
HasTexts (wrote x y) b = Unit {0}

pub asked_texts : (f : Meaning 96) (b b' : Book) (a : Answer) → Goes (ask f) b a b' → HasTexts a b
asked_texts f b _ _ (asks t o sheet c has few asked is) = (t, has)
asked_texts f b _ _ (ask_unloaded none) = tt
asked_texts f b _ _ (ask_too_many t has more) = tt
