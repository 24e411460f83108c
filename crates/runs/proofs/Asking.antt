-- What going down the plans gives, where each plan's list of replies has every reply.
use Rattle.std.proofs.Common.{◌≡◌, ◌<◌, ◌≤◌, Bool, true, false, cond, ltb, ◌⊎◌, List, [], ◌∷◌, ◌++◌, length, Some, None, Option, sym, refl, subst, inl, inr, arith, length-append}
use Rattle.std.specs.List.{ContainsAt as Has}
use Rattle.std.proofs.ByRecursion.{has_append_left, has_push, all-has}
use Rattle.std.proofs.lemmas.Bool.{ltb-false}
use Rattle.game.specs.Sets.{Row}
use Rattle.game.specs.Game.{Texts, Plan, Reply, Beats}
use Rattle.game.proofs.StrataLists.{has_first, has_later, has_cases}
use Rattle.runs.specs.Book.{Pair, Asked, run_out, over_struck, over_beaten, newly_beaten, shows, SheetBeats, First, noted}
use Rattle.runs.specs.Runs.{UnstruckWinner}
use Rattle.runs.proofs.Firsts.{first_holds}

-- ## One pair more

noted_keeps : (b : Bool) (s : List Pair) (p q : Pair) → Has s q → Has (cond b (s ++ (p ∷ [])) s) q
noted_keeps true s p q h = has_append_left s (p ∷ []) q h
noted_keeps false s p q h = h

noted_grows : (b : Bool) (s : List Pair) (p : Pair) → length s ≤ length (cond b (s ++ (p ∷ [])) s)
noted_grows true s p = simp length-append (omega arith)
noted_grows false s p = omega arith

noted_has : (b : Bool) (s : List Pair) (p : Pair) → ltb (length s) 256 ≡ b → (Has (cond b (s ++ (p ∷ [])) s) p) ⊎ (256 ≤ length s)
noted_has true s p e = inl (has_push s p)
noted_has false s p e = inr (ltb-false (length s) 256 e)

module _ (t : Texts) (struck : List Row) (replies : Row → List Row) where
  -- the pair of a plan and what beats it
  abbrev pair : Row → Row → Pair
  pair m r = record { plan = m; reply = r }

  -- ## The sheet

  pub sheet_kept : (ms : List Row) (s s' : List Pair) (o : Option Row) → Asked t struck replies ms s o s' → (q : Pair) → Has s q → Has s' q
  sheet_kept [] s s' o run_out q h = h
  sheet_kept (m ∷ ms) s s' o (over_struck x a) q h = sheet_kept ms s s' o a q h
  sheet_kept (m ∷ ms) s s' o (over_beaten x y a) q h = sheet_kept ms s s' o a q h
  sheet_kept (m ∷ ms) s s' o (newly_beaten r x y z a) q h = sheet_kept ms (noted s (pair m r)) s' o a q (noted_keeps (ltb (length s) 256) s (pair m r) q h)
  sheet_kept (m ∷ ms) s s' o (shows x y z) q h = h

  pub sheet_grows : (ms : List Row) (s s' : List Pair) (o : Option Row) → Asked t struck replies ms s o s' → length s ≤ length s'
  sheet_grows [] s s' o run_out = omega arith
  sheet_grows (m ∷ ms) s s' o (over_struck x a) = sheet_grows ms s s' o a
  sheet_grows (m ∷ ms) s s' o (over_beaten x y a) = sheet_grows ms s s' o a
  sheet_grows (m ∷ ms) s s' o (newly_beaten r x y z a) =
      let grown = sheet_grows ms (noted s (pair m r)) s' o a in
      let here = noted_grows (ltb (length s) 256) s (pair m r) in
      omega arith
  sheet_grows (m ∷ ms) s s' o (shows x y z) = omega arith

  -- ## The plans passed over, and the plan shown

  not_winner : (m r : Row) → Beats t m r → UnstruckWinner t struck m → ⊥
  not_winner m r b w = w.0.1 r b

  beaten_first : (m r : Row) → First (Beats t m) (replies m) r → Beats t m r
  beaten_first m r = first_holds (Beats t m) (replies m) r

  -- a plan that is passed over is no unstruck winner
  pub none_left : (ms : List Row) (s s' : List Pair) → Asked t struck replies ms s None s' → (m : Row) → Has ms m → UnstruckWinner t struck m → ⊥
  none_left [] s s' run_out m (k, lt, at) w = omega arith
  none_left (x ∷ ms) s s' (over_struck h a) m i w = elim (has_cases x m ms i) [ inl e ↦ w.1 (subst (Has struck) e h) | inr j ↦ none_left ms s s' a m j w ]
  none_left (x ∷ ms) s s' (over_beaten h b a) m i w = elim (has_cases x m ms i) [ inl e ↦ not_winner x b.0.reply b.2 (subst (UnstruckWinner t struck) (sym e) w) | inr j ↦ none_left ms s s' a m j w ]
  none_left (x ∷ ms) s s' (newly_beaten r h b f a) m i w = elim (has_cases x m ms i) [ inl e ↦ not_winner x r (beaten_first x r f) (subst (UnstruckWinner t struck) (sym e) w) | inr j ↦ none_left ms (noted s (pair x r)) s' a m j w ]

  -- unless the sheet is full, a plan that is passed over and not struck is beaten from the sheet
  pub reasons : (ms : List Row) (s s' : List Pair) → Asked t struck replies ms s None s' → length s' < 256 → (m : Row) → Has ms m → (Has struck m → ⊥) → SheetBeats t s' m
  reasons [] s s' run_out few m (k, lt, at) u = absurd (omega arith)
  reasons (x ∷ ms) s s' (over_struck h a) few m i u = elim (has_cases x m ms i) [ inl e ↦ absurd (u (subst (Has struck) e h)) | inr j ↦ reasons ms s s' a few m j u ]
  reasons (x ∷ ms) s s' (over_beaten h b a) few m i u = elim (has_cases x m ms i) [ inl e ↦ (b.0, sheet_kept ms s s' None a b.0 b.1, subst (λ y. Beats t y b.0.reply) e b.2) | inr j ↦ reasons ms s s' a few m j u ]
  reasons (x ∷ ms) s s' (newly_beaten r h b f a) few m i u =
      let p : Pair = pair x r in
      elim (has_cases x m ms i) [
        | inl e ↦ elim (noted_has (ltb (length s) 256) s p refl) [
          | inl k ↦ (p, sheet_kept ms (noted s p) s' None a p k, subst (λ y. Beats t y r) e (beaten_first x r f))
          | inr full ↦ (let grown = sheet_grows ms (noted s p) s' None a in let here = noted_grows (ltb (length s) 256) s p in absurd (omega arith))
        ]
        | inr j ↦ reasons ms (noted s p) s' a few m j u
      ]

  -- the plan shown is the first unstruck winner
  pub first_shown : (ms : List Row) (s s' : List Pair) (m : Row) → ((x : Row) → Has ms x → Plan t x) → ((x r : Row) → Plan t x → Reply t x r → Has (replies x) r) → Asked t struck replies ms s (Some m) s' → First (UnstruckWinner t struck) ms m
  first_shown [] s s' m only every a = elim a [ ]
  first_shown (x ∷ ms) s s' m only every (over_struck h a) = inr (λ w. w.1 h, first_shown ms s s' m (λ y i. only y (has_later x y ms i)) every a)
  first_shown (x ∷ ms) s s' m only every (over_beaten h b a) = inr (not_winner x b.0.reply b.2, first_shown ms s s' m (λ y i. only y (has_later x y ms i)) every a)
  first_shown (x ∷ ms) s s' m only every (newly_beaten r h b f a) = inr (not_winner x r (beaten_first x r f), first_shown ms (noted s (pair x r)) s' m (λ y i. only y (has_later x y ms i)) every a)
  first_shown (x ∷ ms) s s' m only every (shows h b n) =
      let plan = only x (has_first x ms) in
      inl (refl, ((plan, λ r z. all-has (λ q. Beats t x q → ⊥) (replies x) r n (every x r plan z.0) z), h))
