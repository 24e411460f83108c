-- What entering a name keeps of the table of atoms, reading a text keeps. So the table never gets shorter, and what holds of
-- each name where it stands holds of each entry.
use Rattle.std.proofs.Common.{◌≡◌, ℕ, ◌≤◌, Bool, true, false, cond, ltb, leb, List, [], ◌∷◌, ◌++◌, length, Some, None, Ok, Err, Option, Result, sym, refl, subst, arith}
use Rattle.std.specs.List.{AllByRecursion}
use Rattle.std.proofs.ByRecursion.{All-push}
use Rattle.refusals.specs.declared.fault.Text.{Text}
use Rattle.refusals.specs.declared.fault.Fault.{Fault}
use Rattle.refusals.specs.declared.fault.Fault.TheVariants.{LongText, Misplaced, ManyAtoms}
use Rattle.reading.specs.declared.phase.Phase.{Phase}
use Rattle.reading.specs.Lexical.{Word, name, negation, arrow, comma, dot, lexed, token}
use Rattle.reading.specs.Steps.{State, Standing, opens_rule, follow, index, entered, named, taken, asked, step, ended, fresh, Reads, ends, no_word, refused, goes, TextRead}
use Rattle.reading.proofs.Limiting.{err_ok, ok_same, passed, grown}
use Rattle.reading.proofs.Stepping.{crowded, overfull}

ended_same : (t : Text) (n : ℕ) (d d' : State) → ended t n d ≡ Ok d' → d ≡ d'
ended_same t n d d' e = go (opens_rule d.phase) e
  where
    go : (b : Bool) → cond b (Ok d) (Err (Misplaced t n)) ≡ Ok d' → d ≡ d'
    go true e = ok_same e
    go false e = absurd (err_ok e)

-- Q holds of a table
module _ (Q : List Standing → Type 0) (t : Text) where
  module _ (at : ℕ) (d d' : State) (held : Q d.atoms) where
    -- a name that is entered keeps it
    abbrev Keeps : Word → Type 0
    Keeps w = (n : List ℕ) (ss : List Standing) → w ≡ name n → entered t at n d.atoms ≡ Ok ss → Q ss

    same_keeps : (d'' : State) → Q d''.atoms → ◌≡◌ {A = Result State Fault} (Ok d'') (Ok d') → Q d'.atoms
    same_keeps d'' h e = subst (λ s. Q s.atoms) (ok_same e) h

    taken_keeps : (next : Phase) (w : Word) → Keeps w → taken t at next d w ≡ Ok d' → Q d'.atoms
    taken_keeps next (name n) keeps e = go (entered t at n d.atoms) refl e
      where
        go : (r : Result (List Standing) Fault) → entered t at n d.atoms ≡ r → named at n next d r ≡ Ok d' → Q d'.atoms
        go (Ok ss) took e = same_keeps _ (keeps n ss refl took) e
        go (Err f) took e = absurd (err_ok e)
    taken_keeps next negation keeps e = same_keeps _ held e
    taken_keeps next arrow keeps e = same_keeps _ held e
    taken_keeps next comma keeps e = same_keeps _ held e
    taken_keeps next dot keeps e = same_keeps _ held e

    step_keeps : (w : Word) → Keeps w → step t at d w ≡ Ok d' → Q d'.atoms
    unfolding step
    step_keeps w keeps e = go (follow d.phase w) e
      where
        go : (o : Option Phase) → asked t at d w o ≡ Ok d' → Q d'.atoms
        go None e = absurd (err_ok e)
        go (Some next) e = taken_keeps next w keeps (passed (overfull d w) _ _ d' (passed (crowded d) _ _ d' e).1).1

  module _ (text : List ℕ) (keeps : (from at after : ℕ) (n : List ℕ) (ss ss' : List Standing) → lexed text from ≡ token at after (name n) → entered t at n ss ≡ Ok ss' → Q ss → Q ss') where
    reads_keeps : (d' : State) {from : ℕ} {d : State} {r : Result State Fault} → Reads t text from d r → r ≡ Ok d' → Q d.atoms → Q d'.atoms
    reads_keeps d' {d = d} (ends e) is held = subst (λ s. Q s.atoms) (ended_same t (length text) d d' is) held
    reads_keeps d' (no_word f e) is held = absurd (err_ok is)
    reads_keeps d' (refused at after w f e s) is held = absurd (err_ok is)
    reads_keeps d' {from = from} {d = d} (goes at after w d'' e s more) is held =
        reads_keeps d' more is (step_keeps at d d'' held w (λ n ss same took. keeps from at after n d.atoms ss (subst (λ v. lexed text from ≡ token at after v) same e) took held) s)

    text_keeps : (before : List Standing) (d : State) → TextRead t text before (Ok d) → Q before → Q d.atoms
    text_keeps before d h held = go (leb (length text) 16384) h
      where
        go : (b : Bool) → (elim b as (λ _. Type 0) [ true ↦ Reads t text 0 (fresh before) (Ok d) | false ↦ Ok d ≡ Err (LongText t) ]) → Q d.atoms
        go true h = reads_keeps d h refl held
        go false h = absurd (err_ok (sym h))

pub text_longer : (t : Text) (text : List ℕ) (before : List Standing) (d : State) → TextRead t text before (Ok d) → length before ≤ length d.atoms
text_longer t text before d h =
    text_keeps (λ ss. length before ≤ length ss) t text (λ from at after n ss ss' _ took held. let more = (grown t at n ss ss' took).longer in omega arith) before d h (omega arith)

module _ (P : Standing → Type 0) (t : Text) (at : ℕ) (n : List ℕ) (ss ss' : List Standing) where
  entered_all : P (record { text = t; at = at; name = n }) → entered t at n ss ≡ Ok ss' → AllByRecursion P ss → AllByRecursion P ss'
  entered_all here e all = known (ltb (index n ss) (length ss)) e
    where
      room : (b : Bool) → cond b (Ok (ss ++ record { text = t; at = at; name = n } ∷ [])) (Err (ManyAtoms t at)) ≡ Ok ss' → AllByRecursion P ss'
      room true e = subst (AllByRecursion P) (ok_same e) (All-push P ss _ all here)
      room false e = absurd (err_ok e)

      known : (b : Bool) → cond b (Ok ss) (cond (ltb (length ss) 96) (Ok (ss ++ record { text = t; at = at; name = n } ∷ [])) (Err (ManyAtoms t at))) ≡ Ok ss' → AllByRecursion P ss'
      known true e = subst (AllByRecursion P) (ok_same e) all
      known false e = room (ltb (length ss) 96) e

-- what holds of each name where it stands in the text holds of each entry
pub text_all : (P : Standing → Type 0) (t : Text) (text : List ℕ) → ((from at after : ℕ) (n : List ℕ) → lexed text from ≡ token at after (name n) → P (record { text = t; at = at; name = n })) → (before : List Standing) (d : State) → TextRead t text before (Ok d) → AllByRecursion P before → AllByRecursion P d.atoms
text_all P t text stands before d h all = text_keeps (AllByRecursion P) t text (λ from at after n ss ss' e took held. entered_all P t at n ss ss' (stands from at after n e) took held) before d h all
