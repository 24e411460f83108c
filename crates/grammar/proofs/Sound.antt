-- What is read from a place on is spelled there.
use Rattle.std.proofs.Common.{◌≡◌, ℕ, ◌≤◌, false, cond, ◌⊎◌, List, length, drop, Ok, Err, Result, sym, ap, ◌∙◌, subst, inl, inr, append-nil, arith}
use Rattle.std.proofs.lemmas.Bool.{cond-true}
use Rattle.refusals.specs.declared.fault.Text.{Text}
use Rattle.refusals.specs.declared.fault.Fault.{Fault}
use Rattle.refusals.specs.declared.fault.Fault.TheVariants.{Misplaced}
use Rattle.reading.specs.Lexical.{Word}
use Rattle.reading.specs.Steps.{State, Standing, opens_rule, step, ended, Reads, ends, no_word, refused, goes}
use Rattle.grammar.specs.Spelling.{Spells, done, more, LastGap}
use Rattle.grammar.specs.Accepted.{table}
use Rattle.grammar.proofs.Never.{never}
use Rattle.grammar.proofs.Lexing.{Next, token_next, end_last}
use Rattle.grammar.proofs.Names.{entered_ok}
use Rattle.grammar.proofs.Places.{Place, reached, Got, state}
use Rattle.grammar.proofs.Stepping.{index_of, entries, after, refused_step, Takes, takes_step}
use Rattle.grammar.proofs.Ahead.{Ahead, ahead_words, Nothing, ending, Back, stuck, leads, back, Moves, moved}
use Rattle.grammar.proofs.Leads.{Leads, leads_back}
use Rattle.grammar.proofs.Limits.{Fine, Keeps, kept_move}

-- what the bytes from a place on spell, where reading goes on from g and comes to d
pub record ComesOf (text : List ℕ) (from : ℕ) (p : Place) (g : Got) (d : State) : Type 0 where
  pub ahead : Ahead p
  pub spelled : Spells (drop from text) (ahead_words ahead)
  pub led : Leads (table d.atoms) d.rules g ahead
  pub fine : Keeps p g.rule g.rules → Fine d.rules
  pub few : length g.atoms ≤ 96 → length d.atoms ≤ 96

module _ (t : Text) (text : List ℕ) (from : ℕ) (p : Place) (g : Got) where
  sound_end : LastGap (drop from text) → (d : State) → ended t (length text) (state p g) ≡ Ok d → ComesOf text from p g d
  sound_end l d e = go (ending p)
    where
      go : ((a : Ahead p) × Nothing a) ⊎ (opens_rule (reached p).phase ≡ false) → ComesOf text from p g d
      go (inl (a, n)) =
          let same : state p g ≡ d = (let e' : Ok (state p g) ≡ Ok d = sym (cond-true (opens_rule (reached p).phase) _ _ n.opens) ∙ e in cc) in
          subst (ComesOf text from p g) same (record { ahead = a; spelled = rw n.no_words (done l); led = record { names = rw n.no_names; rules = rw n.no_rules (append-nil g.rules) }; fine = λ k. record { few = omega arith; short = k.all }; few = λ h. h })
      go (inr o) = let e' : cond false (Ok (state p g)) (Err (Misplaced t (length text))) ≡ Ok d = rw o at e in never (cc)

  sound_move : {at stop : ℕ} {w : Word} {q : Place} {d : State} (ss : List Standing) → Next text from w at stop → Takes t at p w g ss → (then : ComesOf text stop q (after at p w g ss) d) → {a : Ahead p} → Moves p q a w then.ahead → ComesOf text from p g d
  sound_move {at} {stop} {w} {q} {d} ss n takes then {a} m =
      let (joined, grows) = entered_ok (entries t at w g.atoms) takes.enter in
      record {
        ahead = a;
        spelled = rw ((moved m).0, n.bytes) (more n.skips n.proper n.ends then.spelled);
        led = leads_back m at g ss joined then.led;
        fine = λ k. then.fine (kept_move g.rule g.rules (index_of w g.atoms) m takes.few takes.short k);
        few = λ h. then.few (grows h);
      }

  sound_step : {at stop : ℕ} {w : Word} {d' d : State} → Next text from w at stop → step t at (state p g) w ≡ Ok d' → ((q : Place) (g' : Got) → d' ≡ state q g' → ComesOf text stop q g' d) → ComesOf text from p g d
  sound_step {at} {stop} {w} {d'} {d} n s on = go (back p w)
    where
      go : Back p w → ComesOf text from p g d
      go (stuck f) = absurd (refused_step t at p w g f d' s)
      go (leads q f build) =
          let (ss, takes, e) = takes_step t at p w g q f s in
          let then = on q (after at p w g ss) e in
          sound_move ss n takes then (build then.ahead).1

module _ (t : Text) (text : List ℕ) (d : State) where
  pub sound : {from : ℕ} {s : State} {r : Result State Fault} → Reads t text from s r → r ≡ Ok d → (p : Place) (g : Got) → s ≡ state p g → ComesOf text from p g d
  sound {from} (ends e) o p g i = sound_end t text from p g (end_last text from t e) d (ap (ended t (length text)) (sym i) ∙ o)
  sound (no_word f e) o p g i = never (cc)
  sound (refused at after w f e s) o p g i = never (cc)
  sound {from} (goes at after w d' e s x) o p g i = sound_step t text from p g (token_next text from t e) (ap (λ s. step t at s w) (sym i) ∙ s) (λ q g' j. sound x o q g' j)
