-- Whatever the book, a call has one outcome and no second one.
use Rattle.std.proofs.Common.{◌≡◌, ℕ, ◌<◌, Bool, true, false, ◌⊎◌, List, [], ◌∷◌, ◌++◌, length, get_or, Some, None, Ok, Err, Option, Result, sym, refl, ap, ◌∙◌, subst, inl, inr, arith}
use native.Mathlib.Decide.{dec_lt, ℕ_discrete}
use Rattle.std.specs.List.{ContainsAt as Has, AllByRecursion}
use Rattle.std.proofs.lemmas.List.{get_or_default}
use Rattle.std.proofs.ByRecursion.{all-has}
use Rattle.game.specs.Sets.{Row}
use Rattle.game.specs.Sides.{Side}
use Rattle.game.specs.Game.{Texts, Beats, nothing}
use Rattle.refusals.specs.declared.fault.Fault.{Fault}
use Rattle.finders.specs.Meanings.{Meaning}
use Rattle.reading.specs.Loads.{Three, Loads}
use Rattle.grammar.proofs.Outcomes.{one_loading}
use Rattle.runs.specs.Book
use Rattle.runs.specs.Book.{Pair, Asked, run_out, over_struck, over_beaten, newly_beaten, shows, SheetBeats, First, noted, Coherence, IsCoherence, Call, load, ask, strike, look, wipe, Answer, refused, not_loaded, done, told, wrote, verdict_of, row_of, opened, texts_of, TooMany, Goes}
use Rattle.runs.specs.Runs.{Possible}
use Rattle.runs.proofs.Firsts.{first_or_none, first_has, first_holds, one_first}
use Rattle.runs.proofs.Deciding.{dec_has, dec_beats, dec_sheet_beats, some_coherence, one_coherence}
use Rattle.runs.proofs.Histories.{dec_too_many, loads_same, not_both, same_loaded, none_loaded}

-- ## Going down the plans

module _ (t : Texts) (struck : List Row) (replies : Row → List Row) where
  abbrev Down : List Row → List Pair → Option Row → List Pair → Type 0
  Down = Asked t struck replies

  abbrev SomeDown : List Row → List Pair → Type 0
  SomeDown ms s = (o : Option Row) × (s' : List Pair) × Down ms s o s'

  some_asked : (ms : List Row) (s : List Pair) → SomeDown ms s
  some_asked [] s = (None, s, run_out)
  some_asked (m ∷ ms) s = go (λ s'. some_asked ms s') (dec_has struck m) (dec_sheet_beats t s m) (first_or_none (Beats t m) (dec_beats t m) (replies m))
    where
      go : ((s' : List Pair) → SomeDown ms s') → Dec (Has struck m) → Dec (SheetBeats t s m) → (((r : Row) × First (Beats t m) (replies m) r) ⊎ AllByRecursion (λ r. Beats t m r → ⊥) (replies m)) → SomeDown (m ∷ ms) s
      go later (yes h) d e = let (o, s', a) = later s in (o, s', over_struck h a)
      go later (no n) (yes b) e = let (o, s', a) = later s in (o, s', over_beaten n b a)
      go later (no n) (no u) (inl (r, f)) = let (o, s', a) = later (noted s (record { plan = m; reply = r })) in (o, s', newly_beaten r n u f a)
      go later (no n) (no u) (inr none) = (Some m, s, shows n u none)

  unbeaten : (m r : Row) → First (Beats t m) (replies m) r → AllByRecursion (λ q. Beats t m q → ⊥) (replies m) → ⊥
  unbeaten m r f none = all-has (λ q. Beats t m q → ⊥) (replies m) r none (first_has (Beats t m) (replies m) r f) (first_holds (Beats t m) (replies m) r f)

  one_asked : (ms : List Row) (s : List Pair) (o p : Option Row) (s' s'' : List Pair) → Down ms s o s' → Down ms s p s'' → (o ≡ p) × (s' ≡ s'')
  one_asked [] s o p s' s'' run_out run_out = (refl, refl)
  one_asked (m ∷ ms) s o p s' s'' (over_struck h a) (over_struck k b) = one_asked ms s o p s' s'' a b
  one_asked (m ∷ ms) s o p s' s'' (over_struck h a) (over_beaten k u b) = absurd (k h)
  one_asked (m ∷ ms) s o p s' s'' (over_struck h a) (newly_beaten r k u f b) = absurd (k h)
  one_asked (m ∷ ms) s o p s' s'' (over_struck h a) (shows k u n) = absurd (k h)
  one_asked (m ∷ ms) s o p s' s'' (over_beaten h u a) (over_struck k b) = absurd (h k)
  one_asked (m ∷ ms) s o p s' s'' (over_beaten h u a) (over_beaten k v b) = one_asked ms s o p s' s'' a b
  one_asked (m ∷ ms) s o p s' s'' (over_beaten h u a) (newly_beaten r k v f b) = absurd (v u)
  one_asked (m ∷ ms) s o p s' s'' (over_beaten h u a) (shows k v n) = absurd (v u)
  one_asked (m ∷ ms) s o p s' s'' (newly_beaten r h u f a) (over_struck k b) = absurd (h k)
  one_asked (m ∷ ms) s o p s' s'' (newly_beaten r h u f a) (over_beaten k v b) = absurd (u v)
  one_asked (m ∷ ms) s o p s' s'' (newly_beaten r h u f a) (newly_beaten q k v g b) = one_asked ms (noted s (record { plan = m; reply = r })) o p s' s'' a (subst (λ x. Down ms (noted s (record { plan = m; reply = x })) p s'') (one_first (Beats t m) (replies m) q r g f) b)
  one_asked (m ∷ ms) s o p s' s'' (newly_beaten r h u f a) (shows k v n) = absurd (unbeaten m r f n)
  one_asked (m ∷ ms) s o p s' s'' (shows h u n) (over_struck k b) = absurd (h k)
  one_asked (m ∷ ms) s o p s' s'' (shows h u n) (over_beaten k v b) = absurd (u v)
  one_asked (m ∷ ms) s o p s' s'' (shows h u n) (newly_beaten q k v g b) = absurd (unbeaten m q g n)
  one_asked (m ∷ ms) s o p s' s'' (shows h u n) (shows k v l) = (refl, refl)

-- ## There is an outcome

abbrev Outcome : Call → Book.Book → Type 0
Outcome c b = (a : Answer) × (b' : Book.Book) × Goes c b a b'

load_outcome : (memory : Bool) (i : ℕ) (p f s : List ℕ) (b : Book.Book) → Possible (load memory i p f s) → Outcome (load memory i p f s) b
load_outcome false i p f s b ((x, e), short) = (_, b, Book.load_starved x e short)
load_outcome true i p f s b possible = go (one_loading.1 i p f s).0 (one_loading.1 i p f s).1
  where
    go : (r : Result (Side × Three) Fault) → Loads i p f s r → Outcome (load true i p f s) b
    go (Ok x) l = (done, _, Book.loads x l)
    go (Err e) l = (_, b, Book.load_refused e l)

ask_outcome : (f : Meaning 96) (b : Book.Book) → Outcome (ask f) b
ask_outcome f b = go b.texts refl
  where
    plans : (t : Texts) → b.texts ≡ Some t → (TooMany f t → ⊥) → Outcome (ask f) b
    plans t e few =
        let (o, sheet, a) = some_asked t b.struck (λ m. f.order t.faults m) (f.order t.plans nothing) b.sheet in
        let (c, is) = some_coherence t in
        (_, _, Book.asks t o sheet c e few a is)

    go : (o : Option Texts) → b.texts ≡ o → Outcome (ask f) b
    go None e = (_, b, Book.ask_unloaded e)
    go (Some t) e = elim (dec_too_many f t) [ yes many ↦ (_, b, Book.ask_too_many t e many) | no few ↦ plans t e few ]

strike_outcome : (b : Book.Book) → Outcome strike b
strike_outcome b = go b.texts refl b.shown refl (dec_lt (length b.struck) 64)
  where
    go : (o : Option Texts) → b.texts ≡ o → (q : Option Row) → b.shown ≡ q → Dec (length b.struck < 64) → Outcome strike b
    go None e q s d = (_, b, Book.strike_unloaded e)
    go (Some t) e None s d = (_, b, Book.strike_none t e s)
    go (Some t) e (Some m) s (yes l) = (_, _, Book.strikes t m e s l)
    go (Some t) e (Some m) s (no n) = (_, b, Book.strike_full t m e s (omega arith))

look_outcome : (k n : ℕ) (b : Book.Book) → Outcome (look k n) b
look_outcome k n b = go b.texts refl (ℕ_discrete k 1) (ℕ_discrete k 2) (dec_lt n (length b.sheet)) (dec_lt n (length b.struck))
  where
    pair : Pair
    pair = get_or b.sheet n (record { plan = nothing; reply = nothing })

    plan : Row
    plan = get_or b.struck n nothing

    go : (o : Option Texts) → b.texts ≡ o → Dec (k ≡ 1) → Dec (k ≡ 2) → Dec (n < length b.sheet) → Dec (n < length b.struck) → Outcome (look k n) b
    go None e one two p q = (_, b, Book.look_unloaded e)
    go (Some t) e (yes one) two (yes l) q = subst (λ j. Outcome (look j n) b) (sym one) (_, b, Book.looks_pair t pair e l (λ d. get_or_default b.sheet n d _ l))
    go (Some t) e (yes one) two (no l) q = (_, b, Book.look_nowhere t e (λ _. omega arith) (λ two'. absurd (omega arith)))
    go (Some t) e (no one) (yes two) p (yes l) = subst (λ j. Outcome (look j n) b) (sym two) (_, b, Book.looks_struck t plan e l (λ d. get_or_default b.struck n d _ l))
    go (Some t) e (no one) (yes two) p (no l) = (_, b, Book.look_nowhere t e (λ one'. absurd (one one')) (λ _. omega arith))
    go (Some t) e (no one) (no two) p q = (_, b, Book.look_nowhere t e (λ one'. absurd (one one')) (λ two'. absurd (two two')))

pub some_outcome : (c : Call) (b : Book.Book) → Possible c → Outcome c b
some_outcome (load memory i p f s) b possible = load_outcome memory i p f s b possible
some_outcome (ask f) b possible = ask_outcome f b
some_outcome strike b possible = strike_outcome b
some_outcome (look k n) b possible = look_outcome k n b
some_outcome wipe b possible = (_, _, Book.wipes)

-- ## There is no second one

abbrev Same : Answer → Book.Book → Answer → Book.Book → Type 0
Same a b a' b' = (a ≡ a') × (b ≡ b')

same_answer : {x y : Answer} (b : Book.Book) → x ≡ y → Same x b y b
same_answer b e = (e, refl)

module _ (b : Book.Book) where
  one_load : (memory : Bool) (i : ℕ) (p f s : List ℕ) (b' b'' : Book.Book) (a a' : Answer) → Goes (load memory i p f s) b a b' → Goes (load memory i p f s) b a' b'' → Same a b' a' b''
  one_load true i p f s b' b'' a a' (Book.loads x l) (Book.loads y k) = (refl, ap (λ z. opened (Some (texts_of z))) (loads_same l k))
  one_load true i p f s b' b'' a a' (Book.loads x l) (Book.load_refused e k) = absurd (not_both l k)
  one_load true i p f s b' b'' a a' (Book.load_refused e k) (Book.loads x l) = absurd (not_both l k)
  one_load true i p f s b' b'' a a' (Book.load_refused e k) (Book.load_refused e' k') = same_answer b (ap (λ q. refused (not_loaded q)) (faults_same k k'))
    where
      faults_same : {e e' : Fault} → Loads i p f s (Err e) → Loads i p f s (Err e') → e ≡ e'
      faults_same {e} {e'} l l' = let same = one_loading.0 i p f s (Err e) (Err e') l l' in cc
  one_load false i p f s b' b'' a a' (Book.load_starved x e l) (Book.load_starved y q k) = (refl, refl)

  many_or_few : (f : Meaning 96) {t u : Texts} → b.texts ≡ Some t → b.texts ≡ Some u → (TooMany f t → ⊥) → TooMany f u → ⊥
  many_or_few f e q few many = few (subst (TooMany f) (same_loaded q e) many)

  same_told : {o p : Option Row} {c d : Coherence} {s s' : List Pair} → (o ≡ p) × (s ≡ s') → c ≡ d → Same (told (verdict_of o) c (length s) (length b.struck) (row_of o)) (record { texts = b.texts; struck = b.struck; sheet = s; shown = o }) (told (verdict_of p) d (length s') (length b.struck) (row_of p)) (record { texts = b.texts; struck = b.struck; sheet = s'; shown = p })
  same_told (e, q) r = (cc, cc)

  one_ask : (f : Meaning 96) (b' b'' : Book.Book) (a a' : Answer) → Goes (ask f) b a b' → Goes (ask f) b a' b'' → Same a b' a' b''
  one_ask f b' b'' a a' (Book.asks t o s c e few w is) (Book.asks u p s' d q few' w' is') =
      let same : u ≡ t = same_loaded q e in
      let down = subst (λ v. Asked v b.struck (λ m. f.order v.faults m) (f.order v.plans nothing) b.sheet p s') same w' in
      same_told (one_asked t b.struck (λ m. f.order t.faults m) (f.order t.plans nothing) b.sheet o p s s' w down) (one_coherence t c d is (subst (IsCoherence d) same is'))
  one_ask f b' b'' a a' (Book.asks t o s c e few w is) (Book.ask_unloaded q) = absurd (none_loaded q e)
  one_ask f b' b'' a a' (Book.asks t o s c e few w is) (Book.ask_too_many u q many) = absurd (many_or_few f e q few many)
  one_ask f b' b'' a a' (Book.ask_unloaded e) (Book.asks u p s' d q few' w' is') = absurd (none_loaded e q)
  one_ask f b' b'' a a' (Book.ask_unloaded e) (Book.ask_unloaded q) = (refl, refl)
  one_ask f b' b'' a a' (Book.ask_unloaded e) (Book.ask_too_many u q many) = absurd (none_loaded e q)
  one_ask f b' b'' a a' (Book.ask_too_many t e many) (Book.asks u p s' d q few' w' is') = absurd (many_or_few f q e few' many)
  one_ask f b' b'' a a' (Book.ask_too_many t e many) (Book.ask_unloaded q) = absurd (none_loaded q e)
  one_ask f b' b'' a a' (Book.ask_too_many t e many) (Book.ask_too_many u q many') = (refl, refl)

  one_strike : (b' b'' : Book.Book) (a a' : Answer) → Goes strike b a b' → Goes strike b a' b'' → Same a b' a' b''
  one_strike b' b'' a a' (Book.strikes t m e s l) (Book.strikes u n q r k) = (refl, ap (λ x. record { texts = b.texts; struck = b.struck ++ (x ∷ []); sheet = b.sheet; shown = None }) (same_loaded s r))
  one_strike b' b'' a a' (Book.strikes t m e s l) (Book.strike_unloaded q) = absurd (none_loaded q e)
  one_strike b' b'' a a' (Book.strikes t m e s l) (Book.strike_none u q r) = absurd (none_loaded r s)
  one_strike b' b'' a a' (Book.strikes t m e s l) (Book.strike_full u n q r k) = absurd (omega arith)
  one_strike b' b'' a a' (Book.strike_unloaded e) (Book.strikes u n q r k) = absurd (none_loaded e q)
  one_strike b' b'' a a' (Book.strike_unloaded e) (Book.strike_unloaded q) = (refl, refl)
  one_strike b' b'' a a' (Book.strike_unloaded e) (Book.strike_none u q r) = absurd (none_loaded e q)
  one_strike b' b'' a a' (Book.strike_unloaded e) (Book.strike_full u n q r k) = absurd (none_loaded e q)
  one_strike b' b'' a a' (Book.strike_none t e s) (Book.strikes u n q r k) = absurd (none_loaded s r)
  one_strike b' b'' a a' (Book.strike_none t e s) (Book.strike_unloaded q) = absurd (none_loaded q e)
  one_strike b' b'' a a' (Book.strike_none t e s) (Book.strike_none u q r) = (refl, refl)
  one_strike b' b'' a a' (Book.strike_none t e s) (Book.strike_full u n q r k) = absurd (none_loaded s r)
  one_strike b' b'' a a' (Book.strike_full t m e s l) (Book.strikes u n q r k) = absurd (omega arith)
  one_strike b' b'' a a' (Book.strike_full t m e s l) (Book.strike_unloaded q) = absurd (none_loaded q e)
  one_strike b' b'' a a' (Book.strike_full t m e s l) (Book.strike_none u q r) = absurd (none_loaded r s)
  one_strike b' b'' a a' (Book.strike_full t m e s l) (Book.strike_full u n q r k) = (refl, refl)

  one_look : (k n : ℕ) (b' b'' : Book.Book) (a a' : Answer) → Goes (look k n) b a b' → Goes (look k n) b a' b'' → Same a b' a' b''
  one_look k n b' b'' a a' (Book.looks_pair t p e l at) (Book.looks_pair u q r m at') = same_answer b (ap (λ x. wrote x.plan x.reply) (sym (at p) ∙ at' p))
  one_look k n b' b'' a a' (Book.looks_pair t p e l at) (Book.look_unloaded r) = absurd (none_loaded r e)
  one_look k n b' b'' a a' (Book.looks_pair t p e l at) (Book.look_nowhere u r off off') = absurd (let off1 = off refl in omega arith)
  one_look k n b' b'' a a' (Book.looks_struck t p e l at) (Book.looks_struck u q r m at') = same_answer b (ap (λ x. wrote x nothing) (sym (at p) ∙ at' p))
  one_look k n b' b'' a a' (Book.looks_struck t p e l at) (Book.look_unloaded r) = absurd (none_loaded r e)
  one_look k n b' b'' a a' (Book.looks_struck t p e l at) (Book.look_nowhere u r off off') = absurd (let off2 = off' refl in omega arith)
  one_look k n b' b'' a a' (Book.look_unloaded e) (Book.looks_pair u q r m at') = absurd (none_loaded e r)
  one_look k n b' b'' a a' (Book.look_unloaded e) (Book.looks_struck u q r m at') = absurd (none_loaded e r)
  one_look k n b' b'' a a' (Book.look_unloaded e) (Book.look_unloaded r) = (refl, refl)
  one_look k n b' b'' a a' (Book.look_unloaded e) (Book.look_nowhere u r off off') = absurd (none_loaded e r)
  one_look k n b' b'' a a' (Book.look_nowhere t e off off') (Book.looks_pair u q r m at') = absurd (let off1 = off refl in omega arith)
  one_look k n b' b'' a a' (Book.look_nowhere t e off off') (Book.looks_struck u q r m at') = absurd (let off2 = off' refl in omega arith)
  one_look k n b' b'' a a' (Book.look_nowhere t e off off') (Book.look_unloaded r) = absurd (none_loaded r e)
  one_look k n b' b'' a a' (Book.look_nowhere t e off off') (Book.look_nowhere u r on on') = (refl, refl)

  one_wipe : (b' b'' : Book.Book) (a a' : Answer) → Goes wipe b a b' → Goes wipe b a' b'' → Same a b' a' b''
  one_wipe b' b'' a a' Book.wipes Book.wipes = (refl, refl)

pub one_outcome : (c : Call) (b b' b'' : Book.Book) (a a' : Answer) → Goes c b a b' → Goes c b a' b'' → Same a b' a' b''
one_outcome (load memory i p f s) b = one_load b memory i p f s
one_outcome (ask f) b = one_ask b f
one_outcome strike b = one_strike b
one_outcome (look k n) b = one_look b k n
one_outcome wipe b = one_wipe b
