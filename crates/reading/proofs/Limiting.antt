-- Each step keeps the limits.
use Rattle.std.proofs.Common.{◌≡◌, ℕ, ◌+◌, ◌<◌, ◌≤◌, Bool, true, false, cond, ◌&&◌, ltb, leb, List, [], ◌∷◌, ◌++◌, length, Some, None, Ok, Err, Option, Result, sym, refl, ap, ◌∙◌, subst, arith}
use Rattle.std.proofs.lemmas.List.{length_push}
use Rattle.std.proofs.lemmas.Bool.{ltb-true, leb-false, lt-ltb, true≢false, both_ways}
use Rattle.game.specs.Rules.{Rule}
use Rattle.programs.specs.Limits.{fits}
use Rattle.programs.proofs.Fitting.{Kept, kept, kept_fits, kept_more, below_push, all_fit_more, all_fit_push, fits_from}
use Rattle.refusals.specs.declared.fault.Text.{Text}
use Rattle.refusals.specs.declared.fault.Fault.{Fault}
use Rattle.refusals.specs.declared.fault.Fault.TheVariants.{ManyAtoms}
use Rattle.reading.specs.declared.phase.Phase.{Phase}
use Rattle.reading.specs.declared.phase.Phase.TheVariants.{Start, AfterHead, AfterArrow, AfterNot, AfterLiteral, AfterComma}
use Rattle.reading.specs.Lexical.{Word, name, negation, arrow, comma, dot}
use Rattle.reading.specs.Steps.{State, Standing, follow, opens_rule, index, entered, put, literals, named, taken, asked, step, no_rule, fresh}
use Rattle.reading.specs.Within.{Within}
use Rattle.reading.proofs.Entering.{none_some, index_bound}
use Rattle.reading.proofs.Stepping.{crowded, overfull}

pub err_ok : {X Y : Type 0} {y : Y} {x : X} → ◌≡◌ {A = Result X Y} (Err y) (Ok x) → ⊥
err_ok e = let z : ◌≡◌ {A = ℕ} 0 1 = cc in omega arith

-- a question that was not refused was answered with yes
pub passed : {X Y : Type 0} (b : Bool) (y : Y) (r : Result X Y) (x : X) → cond b (Err y) r ≡ Ok x → (b ≡ false) × (r ≡ Ok x)
passed true y r x e = absurd (err_ok e)
passed false y r x e = (refl, e)

-- a table that took a name has it, and is no longer than a table may be
pub record Grown (ss ss' : List Standing) (n : List ℕ) : Type 0 where
  pub longer : length ss ≤ length ss'
  pub has : index n ss < length ss'
  pub few : length ss ≤ 96 → length ss' ≤ 96

module _ (t : Text) (at : ℕ) (n : List ℕ) (ss : List Standing) where
  new : Standing
  new = record { text = t; at = at; name = n }

  pub grown : (ss' : List Standing) → entered t at n ss ≡ Ok ss' → Grown ss ss' n
  unfolding new
  grown ss' e = known (ltb (index n ss) (length ss)) refl e
    where
      room : (b : Bool) → ltb (length ss) 96 ≡ b → cond b (Ok (ss ++ new ∷ [])) (Err (ManyAtoms t at)) ≡ Ok ss' → Grown ss ss' n
      room true less e =
          let same : ss ++ new ∷ [] ≡ ss' = cc in
          let long : length ss' ≡ length ss + 1 = ap length (sym same) ∙ length_push ss new in
          let few = ltb-true (length ss) 96 less in
          record { longer = omega arith; has = omega (arith, index_bound n ss); few = λ _. omega arith }
      room false full e = absurd (err_ok e)

      known : (b : Bool) → ltb (index n ss) (length ss) ≡ b → cond b (Ok ss) (cond (ltb (length ss) 96) (Ok (ss ++ new ∷ [])) (Err (ManyAtoms t at))) ≡ Ok ss' → Grown ss ss' n
      known true has e =
          let same : ss ≡ ss' = cc in
          let long : length ss ≡ length ss' = ap length same in
          record { longer = omega arith; has = omega (arith, ltb-true (index n ss) (length ss) has); few = λ h. omega arith }
      known false new' e = room (ltb (length ss) 96) refl e

some_same : {X : Type 0} {x y : X} → ◌≡◌ {A = Option X} (Some x) (Some y) → y ≡ x
some_same e = cc

-- a phase other than after a `not`
abbrev is_not : Phase → Bool
is_not Start = false
is_not AfterHead = false
is_not AfterArrow = false
is_not AfterNot = true
is_not AfterLiteral = false
is_not AfterComma = false

no_not : (p q : Phase) → is_not p ≡ false → ◌≡◌ {A = Option Phase} (Some p) (Some q) → q ≡ AfterNot → ⊥
no_not p q off led same = both_ways (is_not p) off (ap is_not (sym (some_same led) ∙ same))

pub ok_same : {X Y : Type 0} {x x' : X} → ◌≡◌ {A = Result X Y} (Ok x) (Ok x') → x ≡ x'
ok_same e = cc

-- the rule that goes on, with an atom more, over a longer table
put_kept : (p : Phase) (n m a : ℕ) (r : Rule) → n ≤ m → a < m → literals (put p a r) ≤ 16 → Kept n r → Kept m (put p a r)
put_kept Start n m a r le less short k = let k' = kept_more n m r le k in record { short = short; head = lt-ltb a m less; plain = k'.plain; negated = k'.negated }
put_kept AfterHead n m a r le less short k = kept_more n m r le k
put_kept AfterArrow n m a r le less short k = let k' = kept_more n m r le k in record { short = short; head = k'.head; plain = below_push m a r.plain less k'.plain; negated = k'.negated }
put_kept AfterNot n m a r le less short k = let k' = kept_more n m r le k in record { short = short; head = k'.head; plain = k'.plain; negated = below_push m a r.negated less k'.negated }
put_kept AfterLiteral n m a r le less short k = kept_more n m r le k
put_kept AfterComma n m a r le less short k = let k' = kept_more n m r le k in record { short = short; head = k'.head; plain = below_push m a r.plain less k'.plain; negated = k'.negated }

abbrev state : Phase → ℕ → Rule → List Rule → List ℕ → List Standing → State
state p b r rs ps ss = record { phase = p; begun = b; rule = r; rules = rs; places = ps; atoms = ss }

module _ (t : Text) (at b : ℕ) (r : Rule) (rs : List Rule) (ps : List ℕ) (ss : List Standing) (few : length rs < 256) where
  name_within : (p next : Phase) (n : List ℕ) (d' : State) → Within (state p b r rs ps ss) → (next ≡ AfterNot → ⊥) → literals (put p (index n ss) r) ≤ 16 → (e : Result (List Standing) Fault) → entered t at n ss ≡ e → named at n next (state p b r rs ps ss) e ≡ Ok d' → Within d'
  name_within p next n d' w other short (Ok ss') took e =
      let g = grown t at n ss ss' took in
      subst Within (ok_same e) (record {
        atoms = g.few w.atoms;
        few = w.few;
        placed = w.placed;
        rules = all_fit_more (length ss) (length ss') rs g.longer w.rules;
        rule = kept_fits (length ss') (put p (index n ss) r) (put_kept p (length ss) (length ss') (index n ss) r g.longer g.has short (kept (length ss) r w.rule));
        room = λ _. few;
        begun = λ same. absurd (other same);
      })
  name_within p next n d' w other short (Err f) took e = absurd (err_ok e)

  -- only the phase and the place where the rule starts change
  phase_within : (p next : Phase) (b' : ℕ) (d' : State) → Within (state p b r rs ps ss) → (next ≡ AfterNot → literals r < 16) → ◌≡◌ {A = Result State Fault} (Ok (state next b' r rs ps ss)) (Ok d') → Within d'
  phase_within p next b' d' w begun e = subst Within (ok_same e) (record { atoms = w.atoms; few = w.few; placed = w.placed; rules = w.rules; rule = w.rule; room = λ _. few; begun = begun })

  close_within : (p : Phase) (d' : State) → Within (state p b r rs ps ss) → ◌≡◌ {A = Result State Fault} (Ok (state Start b no_rule (rs ++ r ∷ []) (ps ++ b ∷ []) ss)) (Ok d') → Within d'
  close_within p d' w e =
      let long = length_push rs r in
      subst Within (ok_same e) (record {
        atoms = w.atoms;
        few = omega arith;
        placed = omega (arith, length_push ps b, w.placed);
        rules = all_fit_push (length ss) r rs w.rule w.rules;
        rule = refl;
        room = λ off. absurd (true≢false off);
        begun = λ off. absurd (no_not Start Start refl refl off);
      })

  plain_more : (a : ℕ) → literals r < 16 → length (r.plain ++ a ∷ []) + length r.negated ≤ 16
  plain_more a h = omega (arith, length_push r.plain a)

  negated_more : (a : ℕ) → literals r < 16 → length r.plain + length (r.negated ++ a ∷ []) ≤ 16
  negated_more a h = omega (arith, length_push r.negated a)

  literals_few : Within (state Start b r rs ps ss) → literals r ≤ 16
  literals_few w = (kept (length ss) r w.rule).short

  taken_within : (p : Phase) (x : Word) (next : Phase) (d' : State) → Within (state p b r rs ps ss) → follow p x ≡ Some next → overfull (state p b r rs ps ss) x ≡ false → taken t at next (state p b r rs ps ss) x ≡ Ok d' → Within d'
  taken_within Start (name n) next d' w f o e = name_within Start next n d' w (no_not AfterHead next refl f) (literals_few w) (entered t at n ss) refl e
  taken_within Start negation next d' w f o e = absurd (none_some f)
  taken_within Start arrow next d' w f o e = phase_within Start next at d' w (λ same. absurd (no_not AfterArrow next refl f same)) e
  taken_within Start comma next d' w f o e = absurd (none_some f)
  taken_within Start dot next d' w f o e = absurd (none_some f)
  taken_within AfterHead (name n) next d' w f o e = absurd (none_some f)
  taken_within AfterHead negation next d' w f o e = absurd (none_some f)
  taken_within AfterHead arrow next d' w f o e = phase_within AfterHead next b d' w (λ same. absurd (no_not AfterArrow next refl f same)) e
  taken_within AfterHead comma next d' w f o e = absurd (none_some f)
  taken_within AfterHead dot next d' w f o e = close_within AfterHead d' w (ap (λ p. Ok (state p b no_rule (rs ++ r ∷ []) (ps ++ b ∷ []) ss)) (sym (some_same f)) ∙ e)
  taken_within AfterArrow (name n) next d' w f o e = name_within AfterArrow next n d' w (no_not AfterLiteral next refl f) (plain_more (index n ss) (leb-false 16 (literals r) o)) (entered t at n ss) refl e
  taken_within AfterArrow negation next d' w f o e = phase_within AfterArrow next b d' w (λ _. leb-false 16 (literals r) o) e
  taken_within AfterArrow arrow next d' w f o e = absurd (none_some f)
  taken_within AfterArrow comma next d' w f o e = absurd (none_some f)
  taken_within AfterArrow dot next d' w f o e = close_within AfterArrow d' w (ap (λ p. Ok (state p b no_rule (rs ++ r ∷ []) (ps ++ b ∷ []) ss)) (sym (some_same f)) ∙ e)
  taken_within AfterNot (name n) next d' w f o e = name_within AfterNot next n d' w (no_not AfterLiteral next refl f) (negated_more (index n ss) (w.begun refl)) (entered t at n ss) refl e
  taken_within AfterNot negation next d' w f o e = absurd (none_some f)
  taken_within AfterNot arrow next d' w f o e = absurd (none_some f)
  taken_within AfterNot comma next d' w f o e = absurd (none_some f)
  taken_within AfterNot dot next d' w f o e = absurd (none_some f)
  taken_within AfterLiteral (name n) next d' w f o e = absurd (none_some f)
  taken_within AfterLiteral negation next d' w f o e = absurd (none_some f)
  taken_within AfterLiteral arrow next d' w f o e = absurd (none_some f)
  taken_within AfterLiteral comma next d' w f o e = phase_within AfterLiteral next b d' w (λ same. absurd (no_not AfterComma next refl f same)) e
  taken_within AfterLiteral dot next d' w f o e = close_within AfterLiteral d' w (ap (λ p. Ok (state p b no_rule (rs ++ r ∷ []) (ps ++ b ∷ []) ss)) (sym (some_same f)) ∙ e)
  taken_within AfterComma (name n) next d' w f o e = name_within AfterComma next n d' w (no_not AfterLiteral next refl f) (plain_more (index n ss) (leb-false 16 (literals r) o)) (entered t at n ss) refl e
  taken_within AfterComma negation next d' w f o e = phase_within AfterComma next b d' w (λ _. leb-false 16 (literals r) o) e
  taken_within AfterComma arrow next d' w f o e = absurd (none_some f)
  taken_within AfterComma comma next d' w f o e = absurd (none_some f)
  taken_within AfterComma dot next d' w f o e = absurd (none_some f)

-- where no rule too many opens, there is room for the rule that opens or goes on
uncrowded : (p : Phase) (n : ℕ) → (opens_rule p ≡ false → n < 256) → (opens_rule p && leb 256 n) ≡ false → n < 256
uncrowded Start n room few = leb-false 256 n few
uncrowded AfterHead n room few = room refl
uncrowded AfterArrow n room few = room refl
uncrowded AfterNot n room few = room refl
uncrowded AfterLiteral n room few = room refl
uncrowded AfterComma n room few = room refl

pub step_within : (t : Text) (at : ℕ) (d : State) (x : Word) (d' : State) → Within d → step t at d x ≡ Ok d' → Within d'
unfolding step
step_within t at d x d' w e = go (follow d.phase x) refl e
  where
    go : (o : Option Phase) → follow d.phase x ≡ o → asked t at d x o ≡ Ok d' → Within d'
    go None f e = absurd (err_ok e)
    go (Some next) f e =
        let a = passed (crowded d) _ _ d' e in
        let b = passed (overfull d x) _ _ d' a.1 in
        taken_within t at d.begun d.rule d.rules d.places d.atoms (uncrowded d.phase (length d.rules) w.room a.0) d.phase x next d' w f b.0 b.1

-- before the first token
pub fresh_within : (ss : List Standing) → length ss ≤ 96 → Within (fresh ss)
fresh_within ss few = record { atoms = few; few = omega arith; placed = refl; rules = refl; rule = refl; room = λ off. absurd (true≢false off); begun = λ off. absurd (no_not Start Start refl refl off) }

pub within_fits : (d : State) → Within d → fits 96 d.rules ≡ true
within_fits d w = fits_from 96 d.rules w.few (all_fit_more (length d.atoms) 96 d.rules w.atoms w.rules)
