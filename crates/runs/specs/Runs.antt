-- What holds of a book after every list of calls, told by the history of the list; and that each call has one outcome.
use Rattle.std.specs.Prelude.{◌≡◌, ℕ, ◌<◌, ◌≤◌, true, false, ◌⊎◌, ◌↔◌, List, [], ◌∷◌, ◌++◌, map, length, Some, None, Ok, Err, Option, slice_index_or}
use Rattle.std.specs.List.{ContainsAt as Has}
use Rattle.game.specs.Sets.{Row}
use Rattle.game.specs.Sides.{Side, side_number}
use Rattle.game.specs.Game.{Texts, Plan, Beats, Wins, nothing}
use Rattle.game.specs.Heads.{Lists}
use Rattle.refusals.specs.declared.fault.Fault.{Fault}
use Rattle.finders.specs.Meanings.{Meaning}
use Rattle.reading.specs.Loads.{Three, Loads}
use Rattle.runs.specs.Book.{Pair, Book, new_book, texts_of, First, Verdict, plan_shown, no_plan, Coherence, IsCoherence, Call, load, ask, strike, look, wipe, Answer, told, wrote, TooMany, Goes, Run}

-- ## The history of a list of calls

-- a plain model made from the arguments of the calls: it has no sheet, and knows nothing of how an ask goes about its work
pub record History : Type 0 where
  pub texts : Option Texts
  pub struck : List Row
  pub shown : Option Row

abbrev pub blank : History
blank = record { texts = None; struck = []; shown = None }

-- a plan that wins and is not struck
abbrev pub UnstruckWinner : Texts → List Row → Row → Type 0
UnstruckWinner t struck m = Wins t m × (Has struck m → ⊥)

-- one call more; a call that is refused changes nothing
pub data Tells : Call → History → History → Type 0 where
  loads : {i : ℕ} {p f s : List ℕ} {h : History} (x : Side × Three) → Loads i p f s (Ok x) → Tells (load true i p f s) h (record { texts = Some (texts_of x); struck = []; shown = None })
  load_refused : {i : ℕ} {p f s : List ℕ} {h : History} (e : Fault) → Loads i p f s (Err e) → Tells (load true i p f s) h h
  load_starved : {i : ℕ} {p f s : List ℕ} {h : History} → Tells (load false i p f s) h h
  ask_shows : {f : Meaning 96} {h : History} (t : Texts) (m : Row) → h.texts ≡ Some t → (TooMany f t → ⊥) → First (UnstruckWinner t h.struck) (f.order t.plans nothing) m → Tells (ask f) h (record { texts = h.texts; struck = h.struck; shown = Some m })
  ask_shows_none : {f : Meaning 96} {h : History} (t : Texts) → h.texts ≡ Some t → (TooMany f t → ⊥) → ((m : Row) → UnstruckWinner t h.struck m → ⊥) → Tells (ask f) h (record { texts = h.texts; struck = h.struck; shown = None })
  ask_refused : {f : Meaning 96} {h : History} → (h.texts ≡ None) ⊎ ((t : Texts) × (h.texts ≡ Some t) × TooMany f t) → Tells (ask f) h h
  strikes : {h : History} (t : Texts) (m : Row) → h.texts ≡ Some t → h.shown ≡ Some m → length h.struck < 64 → Tells strike h (record { texts = h.texts; struck = h.struck ++ (m ∷ []); shown = None })
  strike_refused : {h : History} → (h.texts ≡ None) ⊎ ((h.shown ≡ None) ⊎ (64 ≤ length h.struck)) → Tells strike h h
  looks : {k n : ℕ} {h : History} → Tells (look k n) h h
  wipes : {h : History} → Tells wipe h (record { texts = h.texts; struck = []; shown = None })

-- the calls of a list in turn, from a history to another
pub data Told : List Call → History → History → Type 0 where
  stop : {h : History} → Told [] h h
  step : {h h'' : History} {c : Call} {cs : List Call} (h' : History) → Tells c h h' → Told cs h' h'' → Told (c ∷ cs) h h''

-- ## The promise

-- an ask that is not refused, put to the book that a list of calls left of a new one: what was called, what is answered, and the book then
pub record Ask : Type 0 where
  pub calls : List Call
  pub answers : List Answer
  pub before : Book
  pub run : Run new_book calls answers before
  pub finder : Meaning 96
  pub verdict : Verdict
  pub coherence : Coherence
  pub pairs : ℕ
  pub struck : ℕ
  pub row : Row
  pub after : Book
  pub goes : Goes (ask finder) before (told verdict coherence pairs struck row) after

-- a look at b, of this kind and at this place, writes x and y
abbrev pub Writes : Book → ℕ → ℕ → Row → Row → Type 0
Writes b k n x y = Goes (look k n) b (wrote x y) b

-- an ask, judged by a history and the texts that the history has
pub record Sound (a : Ask) (h : History) (t : Texts) : Type 0 where
  -- it says "no plan" exactly when no unstruck plan wins
  pub verdict : (a.verdict ≡ no_plan) ↔ ((m : Row) → UnstruckWinner t h.struck m → ⊥)
  -- the plan that it shows is the first in the finder's order that wins and is not struck
  pub shown : a.verdict ≡ plan_shown → First (UnstruckWinner t h.struck) (a.finder.order t.plans nothing) a.row
  -- a look at each place below the number of pairs writes a plan and a reply that beats it
  pub counted : (n : ℕ) → n < a.pairs → (x : Row) × (y : Row) × Writes a.after 1 n x y × Plan t x × Beats t x y
  -- after "no plan" with fewer than 256 pairs, every unstruck plan is beaten by a reply that a look writes
  pub reasons : a.verdict ≡ no_plan → a.pairs < 256 → (m : Row) → Plan t m → (Has h.struck m → ⊥) → (n : ℕ) × (x : Row) × (y : Row) × (n < a.pairs) × Writes a.after 1 n x y × Beats t m y
  -- after "no plan", the struck plans are the winning plans, each once
  pub winners : a.verdict ≡ no_plan → Lists h.struck (Wins t)
  -- looks write as many struck plans as it says, and these in the order of striking
  pub listed : a.struck ≡ length h.struck
  pub in_order : (n : ℕ) (d : Row) → n < a.struck → Writes a.after 2 n (slice_index_or h.struck n d) nothing
  -- the coherence that it tells is that of the texts: on the first side some plan wins, on the second none does, and a struck plan wins as before
  pub coherence : IsCoherence a.coherence t

abbrev pub WinnerLeft : Texts → History → Type 0
WinnerLeft t h = (m : Row) × UnstruckWinner t h.struck m

-- the history of the calls before the ask is h, and it has the texts t
pub record Past (a : Ask) (h : History) (t : Texts) : Type 0 where
  pub told : Told a.calls blank h
  pub texts : h.texts ≡ Some t

pub record NoOrderOfCallsSpoilsABook : Type 0 where
  -- every list of calls has a history, and only one
  pub some_history : (calls : List Call) → (h : History) × Told calls blank h
  pub one_history : (calls : List Call) (h h' : History) → Told calls blank h → Told calls blank h' → h ≡ h'
  -- before an ask that is not refused, that history has texts
  pub loaded : (a : Ask) → (h : History) × (t : Texts) × Past a h t
  -- whatever the list of calls was, the ask is sound by that history
  pub sound : (a : Ask) (h : History) (t : Texts) → Past a h t → Sound a h t
  -- two asks, after any two lists of calls, agree in their verdict exactly when both have an unstruck winner or neither has
  pub agree : (a a' : Ask) (h h' : History) (t t' : Texts) → Past a h t → Past a' h' t' → (a.verdict ≡ a'.verdict) ↔ ((WinnerLeft t h × WinnerLeft t' h') ⊎ ((WinnerLeft t h → ⊥) × (WinnerLeft t' h' → ⊥)))
  -- so they agree where the same texts are loaded and the same plans are struck, in whatever order, and whichever finders they bring
  pub alike : (a a' : Ask) (h h' : History) (t : Texts) → Past a h t → Past a' h' t → ((m : Row) → Has h.struck m ↔ Has h'.struck m) → (a.verdict ≡ a'.verdict) × (a.coherence ≡ a'.coherence)

-- ## Each call has one outcome

abbrev pub WasRead : Texts → Type 0
WasRead t = (i : ℕ) × (p : List ℕ) × (f : List ℕ) × (s : List ℕ) × (x : Side × Three) × Loads i p f s (Ok x) × (texts_of x ≡ t)

abbrev pub AllDiffer : {X : Type 0} → List X → Type 0
AllDiffer {X} xs = (i j : ℕ) (d : X) → i < length xs → j < length xs → slice_index_or xs i d ≡ slice_index_or xs j d → i ≡ j

-- what a book keeps to
pub record Keeps (b : Book) : Type 0 where
  -- what is loaded was read
  pub read : (t : Texts) → b.texts ≡ Some t → WasRead t
  -- nothing is kept where nothing is loaded
  pub empty : b.texts ≡ None → (b.struck ≡ []) × (b.sheet ≡ []) × (b.shown ≡ None)
  -- the struck plans win and differ, and are at most 64
  pub struck_win : (t : Texts) (m : Row) → b.texts ≡ Some t → Has b.struck m → Wins t m
  pub struck_differ : AllDiffer b.struck
  pub struck_few : length b.struck ≤ 64
  -- on the sheet each reply beats its plan, the plans differ, the replies differ, and there are at most 256 pairs
  pub pairs_beat : (t : Texts) (p : Pair) → b.texts ≡ Some t → Has b.sheet p → Plan t p.plan × Beats t p.plan p.reply
  pub plans_differ : AllDiffer (map (λ p. p.plan) b.sheet)
  pub replies_differ : AllDiffer (map (λ p. p.reply) b.sheet)
  pub pairs_few : length b.sheet ≤ 256
  -- the plan shown wins and is not struck
  pub shown_wins : (t : Texts) (m : Row) → b.texts ≡ Some t → b.shown ≡ Some m → UnstruckWinner t b.struck m

-- memory can be wanting only for a right side and a plan text that is not too long
abbrev pub Possible : Call → Type 0
Possible (load true i p f s) = Unit {0}
Possible (load false i p f s) = ((x : Side) × (side_number x ≡ i)) × (length p ≤ 16384)
Possible (ask f) = Unit {0}
Possible strike = Unit {0}
Possible (look k n) = Unit {0}
Possible wipe = Unit {0}

pub record EachCallHasOneOutcome : Type 0 where
  -- whatever the book, a call gives an answer and leaves a book
  pub some_outcome : (c : Call) (b : Book) → Possible c → (a : Answer) × (b' : Book) × Goes c b a b'
  -- and no other answer and no other book
  pub one_outcome : (c : Call) (b b' b'' : Book) (a a' : Answer) → Goes c b a b' → Goes c b a' b'' → (a ≡ a') × (b' ≡ b'')
  -- a new book keeps to the above, and each call leaves a book that does, if it finds one
  pub new_keeps : Keeps new_book
  pub call_keeps : (c : Call) (b b' : Book) (a : Answer) → Goes c b a b' → Keeps b → Keeps b'
