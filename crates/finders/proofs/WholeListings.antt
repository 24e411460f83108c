-- A listing from the start meets every answer set exactly once.
use Rattle.std.proofs.Common.{◌≡◌, ℕ, suc, ◌≤◌, false, List, [], ◌∷◌, ◌++◌, length, replicate, sym, refl, ap, ◌∙◌, subst, ⊎_elim, arith}
use Rattle.std.specs.List.{ContainsAt as Has}
use Rattle.std.proofs.ByRecursion.{has_append_right}
use Rattle.std.proofs.lemmas.List.{append_assoc}
use Rattle.game.specs.Sets.{Row}
use Rattle.game.specs.Rules.{Rule}
use Rattle.game.specs.AnswerSets.{AnswerSet}
use Rattle.game.specs.Heads.{Lists}
use Rattle.game.proofs.Listing.{Differ, lists_differ}
use Rattle.game.proofs.StrataLists.{has_first, has_later, has_cases}
use Rattle.finders.specs.Meanings.{Meaning, Taken, From, start, after, Rest, whole, part}
use Rattle.finders.specs.Asked.{entry, end}
use Rattle.finders.specs.Listings.{Listing, ends, goes, Whole, Alike, ListingsAreWhole}

-- ## What is left after an entry

-- where no entry stands twice, it is one list
same_rest : (x : Row) (before before' rest rest' : List Row) → Differ (before ++ (x ∷ rest)) → before ++ (x ∷ rest) ≡ before' ++ (x ∷ rest') → rest ≡ rest'
same_rest x [] [] rest rest' o e = cc
same_rest x [] (y ∷ before') rest rest' o e =
    let is : rest ≡ before' ++ (x ∷ rest') = cc in
    absurd (o.0 (subst (λ (l : List Row). Has l x) (sym is) (has_append_right before' (x ∷ rest') x (has_first x rest'))))
same_rest x (y ∷ before) [] rest rest' o e =
    let is : x ≡ y = cc in
    absurd (o.0 (subst (Has (before ++ (x ∷ rest))) is (has_append_right before (x ∷ rest) x (has_first x rest))))
same_rest x (y ∷ before) (z ∷ before') rest rest' o e =
    let is : before ++ (x ∷ rest) ≡ before' ++ (x ∷ rest') = cc in
    same_rest x before before' rest rest' o.1 is

one_rest : (xs : List Row) → Differ xs → (x : Row) (rest rest' : List Row) → Rest xs (after x) rest → Rest xs (after x) rest' → rest ≡ rest'
one_rest xs o x rest rest' (part before _ _ e) (part before' _ _ e') = same_rest x before before' rest rest' (subst Differ e o) (sym e ∙ e')

-- one entry on
rest_on : (xs : List Row) (at : From) (x : Row) (rest : List Row) → Rest xs at (x ∷ rest) → Rest xs (after x) rest
rest_on xs _ x rest whole = part [] x rest refl
rest_on xs _ x rest (part before y _ e) = part (before ++ (y ∷ [])) x rest (e ∙ sym (append_assoc before (y ∷ []) (x ∷ rest)))

-- ## Lists that hold the same

-- without the entry at its place, the others are still there
record Without (ys : List Row) (x : Row) : Type 0 where
  rest : List Row
  shorter : length ys ≡ suc (length rest)
  others : (z : Row) → Has ys z → (x ≡ z → ⊥) → Has rest z

without : (ys : List Row) (x : Row) → Has ys x → Without ys x
without [] x (k, l, at) = absurd (omega arith)
without (y ∷ ys) x h = ⊎_elim here (λ more. further (without ys x more)) (has_cases y x ys h)
  where
    here : y ≡ x → Without (y ∷ ys) x
    here e = record { rest = ys; shorter = refl; others = λ z has apart. ⊎_elim (λ same. absurd (apart (sym e ∙ same))) (λ more. more) (has_cases y z ys has) }

    further : Without ys x → Without (y ∷ ys) x
    further w = record {
      rest = y ∷ w.rest;
      shorter = ap suc w.shorter;
      others = λ z has apart. ⊎_elim (λ same. subst (Has (y ∷ w.rest)) same (has_first y w.rest)) (λ more. has_later y z w.rest (w.others z more apart)) (has_cases y z ys has);
    }

no_longer : (xs ys : List Row) → Differ xs → ((x : Row) → Has xs x → Has ys x) → length xs ≤ length ys
no_longer [] ys o to = omega arith
no_longer (x ∷ xs) ys o to =
    let w = without ys x (to x (has_first x xs)) in
    let less = no_longer xs w.rest o.1 (λ z has. w.others z (to z (has_later x z xs has)) (λ same. o.0 (subst (Has xs) (sym same) has))) in
    let one = w.shorter in
    omega arith

-- ## Listings

module _ {n : ℕ} (m : Meaning n) (rules : List Rule) (given : Row) where
  taken_of : (at : From) (xs : List Row) → Listing m rules given at xs → Taken n m.most rules given
  taken_of _ _ (ends at was row (end taken rest)) = taken
  taken_of _ _ (goes at was x xs (entry _ _ taken rest) more) = taken

  resumed : (at : From) (xs : List Row) → Listing m rules given at xs → Rest (m.order rules given) at xs
  resumed _ _ (ends at was row (end taken rest)) = rest
  resumed _ _ (goes at was x xs (entry _ left taken rest) more) =
      let o = lists_differ (m.law rules given taken) in
      let is : left ≡ xs = one_rest (m.order rules given) o x left xs (rest_on (m.order rules given) at x left rest) (resumed (after x) xs more) in
      subst (λ (l : List Row). Rest (m.order rules given) at (x ∷ l)) is rest

  -- each call goes on, whatever row it is handed
  reaches_end : Taken n m.most rules given → (at : From) (xs : List Row) → Rest (m.order rules given) at xs → Listing m rules given at xs
  reaches_end taken at [] rest = ends at given (replicate n false) (end taken rest)
  reaches_end taken at (x ∷ xs) rest =
      goes at given x xs (entry x xs taken rest) (reaches_end taken (after x) xs (rest_on (m.order rules given) at x xs rest))

  ordered : (xs : List Row) → Rest (m.order rules given) start xs → xs ≡ m.order rules given
  ordered _ whole = refl

  is_whole : (xs : List Row) → Listing m rules given start xs → Whole m rules given xs
  is_whole xs listing =
      let is = ordered xs (resumed start xs listing) in
      record { lists = subst (λ (l : List Row). Lists l (AnswerSet rules given)) (sym is) (m.law rules given (taken_of start xs listing)); ordered = is }

alike : {xs ys : List Row} {P : Row → Type 0} → Lists xs P → Lists ys P → Alike xs ys
alike {xs} {ys} l k =
    let to : (x : Row) → Has xs x → Has ys x = λ x h. k.every x (l.only x h) in
    let back : (x : Row) → Has ys x → Has xs x = λ x h. l.every x (k.only x h) in
    let one = no_longer xs ys (lists_differ l) to in
    let two = no_longer ys xs (lists_differ k) back in
    record { to = to; back = back; as_long = omega arith }

pub listings_are_whole : ListingsAreWhole
listings_are_whole = record {
  whole = λ n m rules given xs listing. is_whole m rules given xs listing;
  resumed = λ n m rules given at xs listing. resumed m rules given at xs listing;
  reaches_end = λ n m rules given taken at xs rest. reaches_end m rules given taken at xs rest;
  alike = λ n m m' rules given xs ys listing other. alike (is_whole m rules given xs listing).lists (is_whole m' rules given ys other).lists;
}
