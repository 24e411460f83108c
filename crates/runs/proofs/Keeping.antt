-- The history goes along with the book: what one call does to both.
use Rattle.std.proofs.Common.{◌≡◌, List, [], ◌∷◌, ◌++◌, Some, None, Option, sym, ◌∙◌, subst, inl, inr, arith}
use Rattle.std.specs.List.{ContainsAt as Has}
use Rattle.std.proofs.ByRecursion.{has_push_cases}
use Rattle.game.specs.Sets.{Row}
use Rattle.game.specs.Game.{Texts, Wins, nothing}
use Rattle.game.proofs.Listing.{Differ, differ_append}
use Rattle.game.proofs.StrataLists.{has_cases}
use Rattle.grammar.proofs.Never.{never}
use Rattle.runs.specs.Book
use Rattle.runs.specs.Book.{Call, Answer, Goes, Run, new_book}
use Rattle.runs.specs.Runs
use Rattle.runs.specs.Runs.{History, blank, UnstruckWinner, Tells, Told}
use Rattle.runs.proofs.Firsts.{first_holds}
use Rattle.runs.proofs.Readable.{Readable, loads_readable}
use Rattle.runs.proofs.Listed.{shown_first, none_unstruck}

pub some_is : {X : Type 0} {x y : X} → ◌≡◌ {A = Option X} (Some x) (Some y) → x ≡ y
some_is e = cc

abbrev pub history_of : Book.Book → History
history_of b = record { texts = b.texts; struck = b.struck; shown = b.shown }

-- what a history keeps to, where t is loaded
pub record Good (t : Texts) (struck : List Row) (shown : Option Row) : Type 0 where
  pub readable : Readable t
  pub wins : (m : Row) → Has struck m → Wins t m
  pub differ : Differ struck
  pub new : (m : Row) → shown ≡ Some m → UnstruckWinner t struck m

abbrev pub Sane : History → Type 0
Sane h = (t : Texts) → h.texts ≡ Some t → Good t h.struck h.shown

fresh : (t : Texts) → Readable t → Good t [] None
fresh t l = record { readable = l; wins = λ m (k, below, at). absurd (omega arith); differ = tt; new = λ m e. never (cc) }

hidden : {t : Texts} {struck : List Row} {shown : Option Row} → Good t struck shown → Good t struck None
hidden g = record { readable = g.readable; wins = g.wins; differ = g.differ; new = λ m e. never (cc) }

showing : {t : Texts} {struck : List Row} {shown : Option Row} (m : Row) → UnstruckWinner t struck m → Good t struck shown → Good t struck (Some m)
showing {t} {struck} m w g = record { readable = g.readable; wins = g.wins; differ = g.differ; new = λ x e. subst (UnstruckWinner t struck) (some_is e) w }

-- a shown plan is struck
pub differ_push : {X : Type 0} (xs : List X) (x : X) → Differ xs → (Has xs x → ⊥) → Differ (xs ++ (x ∷ []))
differ_push xs x o n = differ_append xs (x ∷ []) o (λ (k, below, at). omega arith, tt) (λ y h k. elim (has_cases x y [] k) [ inl e ↦ n (subst (Has xs) (sym e) h) | inr (j, below, at) ↦ omega arith ])

striking : {t : Texts} {struck : List Row} {shown : Option Row} (m : Row) → shown ≡ Some m → Good t struck shown → Good t (struck ++ (m ∷ [])) None
striking {t} {struck} m e g =
    let w = g.new m e in
    record {
      readable = g.readable;
      wins = λ x h. elim (has_push_cases struck m x h) [ inl k ↦ g.wins x k | inr same ↦ subst (Wins t) same w.0 ];
      differ = differ_push struck m g.differ w.1;
      new = λ x z. never (cc);
    }

-- the histories that calls make keep to it
pub tells_sane : (c : Call) (h h' : History) → Tells c h h' → Sane h → Sane h'
tells_sane c h h' (Runs.loads {i} {p} {f} {s} x l) g = λ t e. subst (λ u. Good u [] None) (some_is e) (fresh _ (loads_readable i p f s x l))
tells_sane c h h' (Runs.load_refused e l) g = g
tells_sane c h h' Runs.load_starved g = g
tells_sane c h h' (Runs.ask_shows {f} t m e few first) g = λ u q. showing m (subst (λ v. UnstruckWinner v h.struck m) (some_is (sym e ∙ q)) (first_holds (UnstruckWinner t h.struck) (f.order t.plans nothing) m first)) (g u q)
tells_sane c h h' (Runs.ask_shows_none t e few gone) g = λ u q. hidden (g u q)
tells_sane c h h' (Runs.ask_refused r) g = g
tells_sane c h h' (Runs.strikes t m e s l) g = λ u q. striking m s (g u q)
tells_sane c h h' (Runs.strike_refused r) g = g
tells_sane c h h' Runs.looks g = g
tells_sane c h h' Runs.wipes g = λ u q. fresh u (g u q).readable

-- one call more
goes_tells : (c : Call) (b b' : Book.Book) (a : Answer) → Goes c b a b' → Sane (history_of b) → Tells c (history_of b) (history_of b')
goes_tells c b b' a (Book.loads x l) g = Runs.loads x l
goes_tells c b b' a (Book.load_refused e l) g = Runs.load_refused e l
goes_tells c b b' a (Book.load_starved x e l) g = Runs.load_starved
goes_tells c b b' a (Book.asks {f} t None sheet h e few w k) g = Runs.ask_shows_none t e few (none_unstruck f t (g t e).readable few b.struck b.sheet sheet w)
goes_tells c b b' a (Book.asks {f} t (Some m) sheet h e few w k) g = Runs.ask_shows t m e few (shown_first f t (g t e).readable few b.struck b.sheet sheet m w)
goes_tells c b b' a (Book.ask_unloaded e) g = Runs.ask_refused (inl e)
goes_tells c b b' a (Book.ask_too_many t e m) g = Runs.ask_refused (inr (t, e, m))
goes_tells c b b' a (Book.strikes t m e h k) g = Runs.strikes t m e h k
goes_tells c b b' a (Book.strike_unloaded e) g = Runs.strike_refused (inl e)
goes_tells c b b' a (Book.strike_none t e h) g = Runs.strike_refused (inr (inl h))
goes_tells c b b' a (Book.strike_full t m e h k) g = Runs.strike_refused (inr (inr k))
goes_tells c b b' a (Book.looks_pair t p e l h) g = Runs.looks
goes_tells c b b' a (Book.looks_struck t m e l h) g = Runs.looks
goes_tells c b b' a (Book.look_unloaded e) g = Runs.looks
goes_tells c b b' a (Book.look_nowhere t e h k) g = Runs.looks
goes_tells c b b' a Book.wipes g = Runs.wipes

-- a list of calls
run_tells : (calls : List Call) (answers : List Answer) (b b' : Book.Book) → Run b calls answers b' → Sane (history_of b) → Told calls (history_of b) (history_of b') × Sane (history_of b')
run_tells [] [] b b' Book.stop g = (Runs.stop, g)
run_tells [] (a ∷ more) b b' r g = elim r [ ]
run_tells (c ∷ cs) [] b b' r g = elim r [ ]
run_tells (c ∷ cs) (a ∷ more) b b' (Book.step x s r) g =
    let one = goes_tells c b x a s g in
    let rest = run_tells cs more x b' r (tells_sane c (history_of b) (history_of x) one g) in
    (Runs.step (history_of x) one rest.0, rest.1)

pub blank_sane : Sane blank
blank_sane t e = never (cc)

-- the history of a list of calls is that of the book which they leave
pub run_history : (calls : List Call) (answers : List Answer) (b : Book.Book) → Run new_book calls answers b → Told calls blank (history_of b) × Sane (history_of b)
run_history calls answers b r = run_tells calls answers new_book b r blank_sane
