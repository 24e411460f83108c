-- The book that is kept on a game, the calls that it takes, and what each call answers and leaves.
use Rattle.std.specs.Prelude.{◌≡◌, ℕ, ◌<◌, ◌≤◌, Bool, true, false, cond, ◌⊎◌, List, [], ◌∷◌, ◌++◌, length, Some, None, Ok, Err, Option, nat_lt}
use Rattle.std.specs.List.{HoldsAt, ContainsAt as Has, AllByRecursion}
use Rattle.game.specs.Sets.{Row}
use Rattle.game.specs.Sides.{Side, side_number}
use Rattle.game.specs.Game.{Texts, Beats, Coherent, nothing}
use Rattle.refusals.specs.declared.fault.Fault.{Fault}
use Rattle.refusals.specs.declared.fault.Fault.TheVariants.{NoMemory}
use Rattle.refusals.specs.Numbers.{number_of}
use Rattle.finders.specs.Meanings.{Meaning, heads_below}
use Rattle.reading.specs.Loads.{Three, Loads}

-- a plan, and a reply that beats it
pub record Pair : Type 0 where
  pub plan : Row
  pub reply : Row

-- what is loaded, the plans that were struck, the sheet of beaten plans with what beats them, and the plan shown
pub record Book : Type 0 where
  pub texts : Option Texts
  pub struck : List Row
  pub sheet : List Pair
  pub shown : Option Row

-- the book with these texts and nothing else
abbrev pub opened : Option Texts → Book
opened texts = record { texts = texts; struck = []; sheet = []; shown = None }

abbrev pub new_book : Book
new_book = opened None

-- the game that a side and three texts make once they are read
abbrev pub texts_of : Side × Three → Texts
texts_of (x, t) = record { side = x; plans = t.plan.rules; faults = t.faults.rules; site = t.site.rules }

-- a reply on the sheet beats m, which includes being a reply to m
abbrev pub SheetBeats : Texts → List Pair → Row → Type 0
SheetBeats t sheet m = (p : Pair) × Has sheet p × Beats t m p.reply

-- x is the first of the list with P
abbrev pub First : {X : Type 0} → (X → Type 0) → List X → X → Type 0
First P [] x = ⊥
First P (y ∷ ys) x = ((y ≡ x) × P x) ⊎ ((P y → ⊥) × First P ys x)

-- the sheet with one pair more at its end, unless 256 are there
abbrev pub noted : List Pair → Pair → List Pair
noted sheet p = cond (nat_lt (length sheet) 256) (sheet ++ (p ∷ [])) sheet

-- How an ask goes down a list of plans: from a sheet to the plan shown, or none, and the sheet then. Each plan has its list of replies.
pub data Asked (t : Texts) (struck : List Row) (replies : Row → List Row) : List Row → List Pair → Option Row → List Pair → Type 0 where
  run_out : {s : List Pair} → Asked t struck replies [] s None s
  over_struck : {m : Row} {ms : List Row} {s s' : List Pair} {o : Option Row} → Has struck m → Asked t struck replies ms s o s' → Asked t struck replies (m ∷ ms) s o s'
  over_beaten : {m : Row} {ms : List Row} {s s' : List Pair} {o : Option Row} → (Has struck m → ⊥) → SheetBeats t s m → Asked t struck replies ms s o s' → Asked t struck replies (m ∷ ms) s o s'
  newly_beaten : {m : Row} {ms : List Row} {s s' : List Pair} {o : Option Row} (r : Row) → (Has struck m → ⊥) → (SheetBeats t s m → ⊥) → First (Beats t m) (replies m) r → Asked t struck replies ms (noted s (record { plan = m; reply = r })) o s' → Asked t struck replies (m ∷ ms) s o s'
  shows : {m : Row} {ms : List Row} {s : List Pair} → (Has struck m → ⊥) → (SheetBeats t s m → ⊥) → AllByRecursion (λ r. Beats t m r → ⊥) (replies m) → Asked t struck replies (m ∷ ms) s (Some m) s

-- what an ask says of the plans that are not struck
pub data Verdict : Type 0 where
  plan_shown : Verdict
  no_plan : Verdict

abbrev pub verdict_number : Verdict → ℕ
verdict_number plan_shown = 1
verdict_number no_plan = 2

-- what an ask says of the loaded texts, struck plans included
pub data Coherence : Type 0 where
  coherent : Coherence
  incoherent : Coherence

abbrev pub coherence_number : Coherence → ℕ
coherence_number coherent = 1
coherence_number incoherent = 2

abbrev pub IsCoherence : Coherence → Texts → Type 0
IsCoherence coherent t = Coherent t
IsCoherence incoherent t = Coherent t → ⊥

-- why a call is refused
pub data Refusal : Type 0 where
  not_loaded : Fault → Refusal
  nothing_loaded : Refusal
  too_many_heads : Refusal
  none_shown : Refusal
  struck_full : Refusal
  no_entry : Refusal

abbrev pub no_memory : Refusal
no_memory = not_loaded NoMemory

-- the number of the question that was answered with no
abbrev pub refusal_number : Refusal → ℕ
refusal_number (not_loaded e) = number_of e
refusal_number nothing_loaded = 11
refusal_number too_many_heads = 12
refusal_number none_shown = 13
refusal_number struck_full = 14
refusal_number no_entry = 15

-- A call with its arguments. Whether a load had the memory that it needs is for its surroundings to say.
pub data Call : Type 0 where
  load : (memory : Bool) (side : ℕ) (plans faults site : List ℕ) → Call
  ask : Meaning 96 → Call
  strike : Call
  look : (kind place : ℕ) → Call
  wipe : Call

-- what a call answers; the rows are those that it writes
pub data Answer : Type 0 where
  refused : Refusal → Answer
  done : Answer
  told : Verdict → Coherence → (pairs struck : ℕ) → Row → Answer
  wrote : (first second : Row) → Answer

abbrev pub verdict_of : Option Row → Verdict
verdict_of None = no_plan
verdict_of (Some m) = plan_shown

-- the row of the plan shown; it is cleared where none is
abbrev pub row_of : Option Row → Row
row_of None = nothing
row_of (Some m) = m

-- more heads than the finder takes, in the plan text or in the fault text
abbrev pub TooMany : Meaning 96 → Texts → Type 0
TooMany f t = (f.most < heads_below 96 t.plans) ⊎ (f.most < heads_below 96 t.faults)

-- A call, put to a book, gives an answer and leaves a book.
pub data Goes : Call → Book → Answer → Book → Type 0 where
  -- a side and three texts are read, and replace all that the book had, or are refused
  loads : {i : ℕ} {p f s : List ℕ} {b : Book} (x : Side × Three) → Loads i p f s (Ok x) → Goes (load true i p f s) b done (opened (Some (texts_of x)))
  load_refused : {i : ℕ} {p f s : List ℕ} {b : Book} (e : Fault) → Loads i p f s (Err e) → Goes (load true i p f s) b (refused (not_loaded e)) b
  -- memory can be wanting only for a right side and a plan text that is not too long
  load_starved : {i : ℕ} {p f s : List ℕ} {b : Book} (x : Side) → side_number x ≡ i → length p ≤ 16384 → Goes (load false i p f s) b (refused no_memory) b
  -- the plans in the finder's order, and for each the replies in the finder's order
  asks : {f : Meaning 96} {b : Book} (t : Texts) (o : Option Row) (sheet : List Pair) (c : Coherence) → b.texts ≡ Some t → (TooMany f t → ⊥) → Asked t b.struck (λ m. f.order t.faults m) (f.order t.plans nothing) b.sheet o sheet → IsCoherence c t → Goes (ask f) b (told (verdict_of o) c (length sheet) (length b.struck) (row_of o)) (record { texts = b.texts; struck = b.struck; sheet = sheet; shown = o })
  ask_unloaded : {f : Meaning 96} {b : Book} → b.texts ≡ None → Goes (ask f) b (refused nothing_loaded) b
  ask_too_many : {f : Meaning 96} {b : Book} (t : Texts) → b.texts ≡ Some t → TooMany f t → Goes (ask f) b (refused too_many_heads) b
  -- the shown plan joins the end of the struck ones, and none is shown then
  strikes : {b : Book} (t : Texts) (m : Row) → b.texts ≡ Some t → b.shown ≡ Some m → length b.struck < 64 → Goes strike b done (record { texts = b.texts; struck = b.struck ++ (m ∷ []); sheet = b.sheet; shown = None })
  strike_unloaded : {b : Book} → b.texts ≡ None → Goes strike b (refused nothing_loaded) b
  strike_none : {b : Book} (t : Texts) → b.texts ≡ Some t → b.shown ≡ None → Goes strike b (refused none_shown) b
  strike_full : {b : Book} (t : Texts) (m : Row) → b.texts ≡ Some t → b.shown ≡ Some m → 64 ≤ length b.struck → Goes strike b (refused struck_full) b
  -- kind 1 is a pair of the sheet, kind 2 a struck plan with an empty second row
  looks_pair : {n : ℕ} {b : Book} (t : Texts) (p : Pair) → b.texts ≡ Some t → n < length b.sheet → HoldsAt (λ q. q ≡ p) b.sheet n → Goes (look 1 n) b (wrote p.plan p.reply) b
  looks_struck : {n : ℕ} {b : Book} (t : Texts) (m : Row) → b.texts ≡ Some t → n < length b.struck → HoldsAt (λ x. x ≡ m) b.struck n → Goes (look 2 n) b (wrote m nothing) b
  look_unloaded : {k n : ℕ} {b : Book} → b.texts ≡ None → Goes (look k n) b (refused nothing_loaded) b
  look_nowhere : {k n : ℕ} {b : Book} (t : Texts) → b.texts ≡ Some t → (k ≡ 1 → length b.sheet ≤ n) → (k ≡ 2 → length b.struck ≤ n) → Goes (look k n) b (refused no_entry) b
  -- only the texts stay
  wipes : {b : Book} → Goes wipe b done (opened b.texts)

-- a list of calls, each going on from the book that it finds, and their answers
pub data Run : Book → List Call → List Answer → Book → Type 0 where
  stop : {b : Book} → Run b [] [] b
  step : {b b'' : Book} {c : Call} {cs : List Call} {a : Answer} {more : List Answer} (b' : Book) → Goes c b a b' → Run b' cs more b'' → Run b (c ∷ cs) (a ∷ more) b''
