-- The table of names: a name's number stays when the table grows, and how a name joins it.
use Rattle.std.proofs.Common.{◌≡◌, ℕ, suc, ◌<◌, ◌≤◌, Bool, true, false, cond, ◌||◌, ltb, List, [], ◌∷◌, ◌++◌, length, Ok, Err, Result, sym, refl, ap, ◌∙◌, subst, arith}
use Rattle.std.specs.List.{AllByRecursion}
use Rattle.std.specs.Str.{bytes_eq}
use Rattle.std.proofs.lemmas.List.{map_push, length_push, length-map}
use Rattle.std.proofs.lemmas.Bool.{ltb-true, ltb-false, lt-ltb, or_right, false≢true, cond-true, cond-false, cond_both}
use Rattle.std.proofs.lemmas.Bool.Decides.{nat_tests}
use Rattle.std.proofs.lemmas.Slice.Eq.{bytes_eq-Decides}
use Rattle.refusals.specs.declared.fault.Text.{Text}
use Rattle.refusals.specs.declared.fault.Fault.{Fault}
use Rattle.refusals.specs.declared.fault.Fault.TheVariants.{ManyAtoms}
use Rattle.reading.specs.Steps.{Standing, index, entered}
use Rattle.grammar.specs.Grammar.{Name, known, with_names, number}
use Rattle.grammar.specs.Accepted.{table, name_of}
use Rattle.grammar.proofs.Never.{never}

pub index_number : (n : Name) (ss : List Standing) → index n ss ≡ number (table ss) n
index_number n [] = refl
index_number n (s ∷ ss) = ap (λ k. cond (bytes_eq s.name n) 0 (suc k)) (index_number n ss)

index_known : (n : Name) (ss : List Standing) → ltb (index n ss) (length ss) ≡ known n (table ss)
index_known n [] = refl
index_known n (s ∷ ss) = go (bytes_eq s.name n) (index_known n ss)
  where
    go : (b : Bool) → ltb (index n ss) (length ss) ≡ known n (table ss) → ltb (cond b 0 (suc (index n ss))) (suc (length ss)) ≡ (b || known n (table ss))
    go true ih = lt-ltb _ _ (omega arith)
    go false ih = grind (arith, nat_tests)

module _ (n : Name) where
  -- a name that is known stays, with its number, when others come after
  known_append : (t u : List Name) → known n t ≡ true → (known n (t ++ u) ≡ true) × (number (t ++ u) n ≡ number t n)
  known_append [] u k = absurd (false≢true k)
  known_append (m ∷ t) u k = go (bytes_eq m n) k (known_append t u)
    where
      go : (b : Bool) → (b || known n t) ≡ true → (known n t ≡ true → (known n (t ++ u) ≡ true) × (number (t ++ u) n ≡ number t n)) → ((b || known n (t ++ u)) ≡ true) × (cond b 0 (suc (number (t ++ u) n)) ≡ cond b 0 (suc (number t n)))
      go true k ih = (refl, refl)
      go false k ih = ((ih k).0, ap suc (ih k).1)

  same : bytes_eq n n ≡ true
  same = (bytes_eq-Decides n n).1 refl

  known_push : (t : List Name) → known n (t ++ n ∷ []) ≡ true
  known_push [] = ap (λ b. b || false) same
  known_push (m ∷ t) = or_right (bytes_eq m n) _ (known_push t)

  number_push : (t : List Name) → number (t ++ n ∷ []) n ≡ number t n
  number_push [] = cond-true (bytes_eq n n) 0 1 same
  number_push (m ∷ t) = ap (λ k. cond (bytes_eq m n) 0 (suc k)) (number_push t)

-- the table with one name, where it is new
abbrev join : Name → List Name → List Name
join n t = cond (known n t) t (t ++ n ∷ [])

module _ (n : Name) (t : List Name) where
  join_is : (P : List Name → Type 0) → (known n t ≡ true → P t) → P (t ++ n ∷ []) → P (join n t)
  join_is P old new = cond_both (known n t) t (t ++ n ∷ []) P old (λ e. new)

  known_join : known n (join n t) ≡ true
  known_join = join_is (λ l. known n l ≡ true) (λ e. e) (known_push n t)

  number_join : number (join n t) n ≡ number t n
  number_join = join_is (λ l. number l n ≡ number t n) (λ e. refl) (number_push n t)

  join_longer : length t ≤ length (join n t)
  join_longer = join_is (λ l. length t ≤ length l) (λ e. omega arith) (simp length_push (omega arith))

  join_keeps : (m : Name) → known m t ≡ true → (known m (join n t) ≡ true) × (number (join n t) m ≡ number t m)
  join_keeps m k = join_is (λ l. (known m l ≡ true) × (number l m ≡ number t m)) (λ e. (k, refl)) (known_append m t (n ∷ []) k)

-- a name that is known stays so, with its number, when more names come
pub stays : (n : Name) (ns t : List Name) → known n t ≡ true → (known n (with_names t ns) ≡ true) × (number (with_names t ns) n ≡ number t n)
stays n [] t k = (k, refl)
stays n (m ∷ ns) t k = let here = join_keeps m t n k in let then = stays n ns (join m t) here.0 in (then.0, then.1 ∙ here.1)

-- a name has the number in the end that it has when it comes
pub number_final : (n : Name) (ns t : List Name) → number (with_names t (n ∷ ns)) n ≡ number t n
number_final n ns t = (stays n ns (join n t) (known_join n t)).1 ∙ number_join n t

abbrev pub Known : List Name → Name → Type 0
Known t n = known n t ≡ true

pub all_known : (ns t : List Name) → AllByRecursion (Known (with_names t ns)) ns
all_known [] t = tt
all_known (n ∷ ns) t = ((stays n ns (join n t) (known_join n t)).0, all_known ns (join n t))

pub with_names_append : (ns ms t : List Name) → with_names t (ns ++ ms) ≡ with_names (with_names t ns) ms
with_names_append [] ms t = refl
with_names_append (n ∷ ns) ms t = with_names_append ns ms (join n t)

pub with_names_longer : (ns t : List Name) → length t ≤ length (with_names t ns)
with_names_longer [] t = omega arith
with_names_longer (n ∷ ns) t = let more = with_names_longer ns (join n t) in let one = join_longer n t in omega arith

-- how entering a name ends
pub data Entered (ss : List Standing) (ns : List Name) (r : Result (List Standing) Fault) : Type 0 where
  joins : (ss' : List Standing) → r ≡ Ok ss' → table ss' ≡ with_names (table ss) ns → (length ss ≤ 96 → length ss' ≤ 96) → Entered ss ns r
  full : (f : Fault) → r ≡ Err f → 96 < length (with_names (table ss) ns) → Entered ss ns r

pub enters : (t : Text) (at : ℕ) (n : Name) (ss : List Standing) → Entered ss (n ∷ []) (entered t at n ss)
enters t at n ss =
    subst (λ b. EndsWell (cond b (Ok ss) new)) (sym (index_known n ss)) (cond_both (known n (table ss)) (Ok ss) new EndsWell (λ e. joins ss refl (sym (cond-true (known n (table ss)) _ _ e)) (λ h. h)) (λ e. as_new (cond-false (known n (table ss)) _ _ e)))
  where
    EndsWell : Result (List Standing) Fault → Type 0
    EndsWell r = Entered ss (n ∷ []) r

    grown : List Standing
    grown = ss ++ record { text = t; at = at; name = n } ∷ []

    new : Result (List Standing) Fault
    new = cond (ltb (length ss) 96) (Ok grown) (Err (ManyAtoms t at))

    as_new : with_names (table ss) (n ∷ []) ≡ table ss ++ n ∷ [] → EndsWell new
    as_new e =
        cond_both (ltb (length ss) 96) (Ok grown) (Err (ManyAtoms t at)) EndsWell
        (λ f. joins grown refl (map_push name_of ss _ ∙ sym e) (λ h. simp length_push (omega (arith, ltb-true (length ss) 96 f))))
        (λ f. full _ refl (rw e (simp (length_push, length-map) (omega (arith, ltb-false (length ss) 96 f)))))

pub entered_ok : {ss ss' : List Standing} {ns : List Name} {r : Result (List Standing) Fault} → Entered ss ns r → r ≡ Ok ss' → (table ss' ≡ with_names (table ss) ns) × (length ss ≤ 96 → length ss' ≤ 96)
entered_ok {ss} {ss'} {ns} (joins new e j few) o = let same : new ≡ ss' = cc in (rw (← same) j, rw (← same) few)
entered_ok (full f e many) o = never (cc)
