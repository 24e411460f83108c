-- Each call leaves a book that keeps to what a book keeps to, if it finds one.
use Rattle.std.proofs.Common.{◌≡◌, ◌<◌, ◌≤◌, Bool, true, false, cond, ltb, List, [], ◌∷◌, ◌++◌, map, length, Some, None, Option, sym, refl, subst, inl, inr, arith}
use mathlib.Core.List.{map-append}
use Rattle.std.specs.List.{ContainsAt as Has}
use Rattle.std.proofs.lemmas.List.{length_push}
use Rattle.std.proofs.ByRecursion.{has_push_cases}
use Rattle.std.proofs.lemmas.Bool.{ltb-true}
use Rattle.game.specs.Sets.{Row}
use Rattle.game.specs.Game.{Texts, Plan, Beats, Wins, nothing}
use Rattle.game.proofs.Listing.{Differ, differ_once, once_differ, has_map_from}
use Rattle.game.proofs.StrataLists.{has_first, has_later}
use Rattle.grammar.proofs.Never.{never}
use Rattle.finders.specs.Meanings.{Meaning}
use Rattle.runs.specs.Book
use Rattle.runs.specs.Book.{Pair, Asked, run_out, over_struck, over_beaten, newly_beaten, shows, SheetBeats, noted, opened, TooMany, Call, Answer, Goes, Run, new_book}
use Rattle.runs.specs.Runs.{WasRead, Keeps, UnstruckWinner, EachCallHasOneOutcome}
use Rattle.runs.proofs.Firsts.{first_holds}
use Rattle.runs.proofs.Readable.{Readable, read_readable}
use Rattle.runs.proofs.Listed.{plans_listed, shown_first}
use Rattle.runs.proofs.Keeping.{some_is, differ_push}
use Rattle.runs.proofs.Histories.{same_loaded, none_loaded}
use Rattle.runs.proofs.Outcomes.{some_outcome, one_outcome}

-- ## The sheet

record Sheet (t : Texts) (s : List Pair) : Type 0 where
  beat : (p : Pair) → Has s p → Plan t p.plan × Beats t p.plan p.reply
  plans : Differ (map (λ p. p.plan) s)
  replies : Differ (map (λ p. p.reply) s)
  few : length s ≤ 256

-- a pair whose plan nothing on the sheet beats
module _ (t : Texts) (s : List Pair) (m r : Row) (sheet : Sheet t s) (plan : Plan t m) (new : SheetBeats t s m → ⊥) (beats : Beats t m r) where
  abbrev pair : Pair
  pair = record { plan = m; reply = r }

  new_plan : Has (map (λ p. p.plan) s) m → ⊥
  new_plan h = let (p, has, e) = has_map_from (λ p. p.plan) s m h in new (p, has, subst (λ x. Beats t x p.reply) e (sheet.beat p has).1)

  new_reply : Has (map (λ p. p.reply) s) r → ⊥
  new_reply h = let (p, has, e) = has_map_from (λ p. p.reply) s r h in new (p, has, subst (Beats t m) (sym e) beats)

  pushed : length s < 256 → Sheet t (s ++ (pair ∷ []))
  pushed less = record {
    beat = λ q h. elim (has_push_cases s (pair) q h) [ inl k ↦ sheet.beat q k | inr e ↦ subst (λ x. Plan t x.plan × Beats t x.plan x.reply) e (plan, beats) ];
    plans = subst Differ (sym (map-append (λ p. p.plan) s (pair ∷ []))) (differ_push (map (λ p. p.plan) s) m sheet.plans new_plan);
    replies = subst Differ (sym (map-append (λ p. p.reply) s (pair ∷ []))) (differ_push (map (λ p. p.reply) s) r sheet.replies new_reply);
    few = simp length_push (omega arith);
  }

  noted_sheet : Sheet t (noted s (pair))
  noted_sheet = go (ltb (length s) 256) refl
    where
      go : (b : Bool) → ltb (length s) 256 ≡ b → Sheet t (cond b (s ++ (pair ∷ [])) s)
      go true e = pushed (ltb-true (length s) 256 e)
      go false e = sheet

module _ (t : Texts) (struck : List Row) (replies : Row → List Row) where
  asked_sheet : (ms : List Row) (s s' : List Pair) (o : Option Row) → ((x : Row) → Has ms x → Plan t x) → Asked t struck replies ms s o s' → Sheet t s → Sheet t s'
  asked_sheet [] s s' o only run_out k = k
  asked_sheet (m ∷ ms) s s' o only (over_struck h a) k = asked_sheet ms s s' o (λ x i. only x (has_later m x ms i)) a k
  asked_sheet (m ∷ ms) s s' o only (over_beaten h b a) k = asked_sheet ms s s' o (λ x i. only x (has_later m x ms i)) a k
  asked_sheet (m ∷ ms) s s' o only (newly_beaten r h b f a) k = asked_sheet ms (noted s (record { plan = m; reply = r })) s' o (λ x i. only x (has_later m x ms i)) a (noted_sheet t s m r k (only m (has_first m ms)) b (first_holds (Beats t m) (replies m) r f))
  asked_sheet (m ∷ ms) s s' o only (shows h b n) k = k

sheet_of : {b : Book.Book} {t : Texts} → Keeps b → b.texts ≡ Some t → Sheet t b.sheet
sheet_of {b} {t} k e = record { beat = λ p h. k.pairs_beat t p e h; plans = once_differ _ k.plans_differ; replies = once_differ _ k.replies_differ; few = k.pairs_few }

-- ## The calls

opened_keeps : (o : Option Texts) → ((t : Texts) → o ≡ Some t → WasRead t) → Keeps (opened o)
opened_keeps o read = record {
  read = read;
  empty = λ _. (refl, refl, refl);
  struck_win = λ t m e (k, less, at). absurd (omega arith);
  struck_differ = differ_once [] tt;
  struck_few = omega arith;
  pairs_beat = λ t p e (k, less, at). absurd (omega arith);
  plans_differ = differ_once [] tt;
  replies_differ = differ_once [] tt;
  pairs_few = omega arith;
  shown_wins = λ t m e s. never (cc);
}

-- another sheet and another plan shown
module _ (b : Book.Book) (k : Keeps b) (t : Texts) (e : b.texts ≡ Some t) where
  shown_keeps : (sheet : List Pair) (o : Option Row) → Sheet t sheet → ((m : Row) → o ≡ Some m → UnstruckWinner t b.struck m) → Keeps (record { texts = b.texts; struck = b.struck; sheet = sheet; shown = o })
  shown_keeps sheet o good wins = record {
    read = k.read;
    empty = λ q. absurd (none_loaded q e);
    struck_win = k.struck_win;
    struck_differ = k.struck_differ;
    struck_few = k.struck_few;
    pairs_beat = λ u p q h. subst (λ v. Plan v p.plan × Beats v p.plan p.reply) (same_loaded e q) (good.beat p h);
    plans_differ = differ_once _ good.plans;
    replies_differ = differ_once _ good.replies;
    pairs_few = good.few;
    shown_wins = λ u m q s. subst (λ v. UnstruckWinner v b.struck m) (same_loaded e q) (wins m s);
  }

  asks_keeps : (f : Meaning 96) (o : Option Row) (sheet : List Pair) → (TooMany f t → ⊥) → Asked t b.struck (λ m. f.order t.faults m) (f.order t.plans nothing) b.sheet o sheet → Keeps (record { texts = b.texts; struck = b.struck; sheet = sheet; shown = o })
  asks_keeps f o sheet few w = shown_keeps sheet o (asked_sheet t b.struck _ (f.order t.plans nothing) b.sheet sheet o (plans_listed f t readable few).only w (sheet_of k e)) (wins o w)
    where
      readable : Readable t
      readable = read_readable t (k.read t e)

      wins : (o : Option Row) → Asked t b.struck (λ m. f.order t.faults m) (f.order t.plans nothing) b.sheet o sheet → (m : Row) → o ≡ Some m → UnstruckWinner t b.struck m
      wins o w m s = first_holds (UnstruckWinner t b.struck) (f.order t.plans nothing) m (shown_first f t readable few b.struck b.sheet sheet m (subst (λ q. Asked t b.struck (λ x. f.order t.faults x) (f.order t.plans nothing) b.sheet q sheet) s w))

  strike_keeps : (m : Row) → b.shown ≡ Some m → length b.struck < 64 → Keeps (record { texts = b.texts; struck = b.struck ++ (m ∷ []); sheet = b.sheet; shown = None })
  strike_keeps m s less = record {
    read = k.read;
    empty = λ q. absurd (none_loaded q e);
    struck_win = λ u x q h. elim (has_push_cases b.struck m x h) [ inl i ↦ k.struck_win u x q i | inr same ↦ subst (Wins u) same (k.shown_wins u m q s).0 ];
    struck_differ = differ_once _ (differ_push b.struck m (once_differ _ k.struck_differ) (k.shown_wins t m e s).1);
    struck_few = simp length_push (omega arith);
    pairs_beat = k.pairs_beat;
    plans_differ = k.plans_differ;
    replies_differ = k.replies_differ;
    pairs_few = k.pairs_few;
    shown_wins = λ u x q z. never (cc);
  }

pub call_keeps : (c : Call) (b b' : Book.Book) (a : Answer) → Goes c b a b' → Keeps b → Keeps b'
call_keeps c b b' a (Book.loads {i} {p} {f} {s} x l) k = opened_keeps _ (λ t e. (i, p, f, s, x, l, some_is e))
call_keeps c b b' a (Book.load_refused e l) k = k
call_keeps c b b' a (Book.load_starved x e l) k = k
call_keeps c b b' a (Book.asks {f} t o sheet d e few w is) k = asks_keeps b k t e f o sheet few w
call_keeps c b b' a (Book.ask_unloaded e) k = k
call_keeps c b b' a (Book.ask_too_many t e m) k = k
call_keeps c b b' a (Book.strikes t m e s l) k = strike_keeps b k t e m s l
call_keeps c b b' a (Book.strike_unloaded e) k = k
call_keeps c b b' a (Book.strike_none t e s) k = k
call_keeps c b b' a (Book.strike_full t m e s l) k = k
call_keeps c b b' a (Book.looks_pair t p e l at) k = k
call_keeps c b b' a (Book.looks_struck t m e l at) k = k
call_keeps c b b' a (Book.look_unloaded e) k = k
call_keeps c b b' a (Book.look_nowhere t e off off') k = k
call_keeps c b b' a Book.wipes k = opened_keeps b.texts k.read

pub run_keeps : (calls : List Call) (answers : List Answer) (b b' : Book.Book) → Run b calls answers b' → Keeps b → Keeps b'
run_keeps [] [] b b' Book.stop k = k
run_keeps [] (a ∷ more) b b' r k = elim r [ ]
run_keeps (c ∷ cs) [] b b' r k = elim r [ ]
run_keeps (c ∷ cs) (a ∷ more) b b' (Book.step x s r) k = run_keeps cs more x b' r (call_keeps c b x a s k)

pub new_keeps : Keeps new_book
new_keeps = opened_keeps None (λ t e. never (cc))

pub each_call_has_one_outcome : EachCallHasOneOutcome
each_call_has_one_outcome = record {
  some_outcome = some_outcome;
  one_outcome = one_outcome;
  new_keeps = new_keeps;
  call_keeps = call_keeps;
}
