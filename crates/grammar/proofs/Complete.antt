-- What is spelled from a place on is read there.
use Rattle.std.proofs.Common.{◌≡◌, ℕ, ◌≤◌, List, [], ◌∷◌, ◌++◌, length, drop, Ok, sym, ap, ◌∙◌, subst, append-nil, arith}
use Rattle.std.proofs.lemmas.Bool.{cond-true}
use Rattle.game.specs.Rules.{Rule}
use Rattle.refusals.specs.declared.fault.Text.{Text}
use Rattle.reading.specs.Lexical.{Word}
use Rattle.reading.specs.Steps.{State, Standing, opens_rule, ended, Reads, ends, goes}
use Rattle.grammar.specs.Grammar.{Name, with_names}
use Rattle.grammar.specs.Spelling.{Gap, LastGap, spelling, Proper, Ends, Spells, done, more}
use Rattle.grammar.specs.Accepted.{table}
use Rattle.grammar.proofs.Never.{never}
use Rattle.grammar.proofs.Lexing.{Next, next, past_word, lexed_next, lexed_last}
use Rattle.grammar.proofs.Names.{Entered, joins, full, with_names_append, with_names_longer}
use Rattle.grammar.proofs.Places.{Place, reached, Got, state}
use Rattle.grammar.proofs.Stepping.{word_names, entry, entries, after, step_takes}
use Rattle.grammar.proofs.Ahead.{Ahead, ahead_words, ahead_names, Nothing, Forth, none_left, begins, forth, Moves, moved}
use Rattle.grammar.proofs.Leads.{Leads, leads_on}
use Rattle.grammar.proofs.Limits.{Fine, passes}

module _ (t : Text) (text : List ℕ) (atoms : List Name) (all : List Rule) (few : length atoms ≤ 96) (fine : Fine all) where
  -- reading goes on from here, and comes to the atoms and the rules
  abbrev pub ReadOn : ℕ → State → Type 0
  ReadOn from s = (d : State) × Reads t text from s (Ok d) × (table d.atoms ≡ atoms) × (d.rules ≡ all)

  module _ (from : ℕ) {p : Place} (g : Got) {a : Ahead p} (led : Leads atoms all g a) where
    complete_end : LastGap (drop from text) → Nothing a → ReadOn from (state p g)
    complete_end l n =
        let ok : ended t (length text) (state p g) ≡ Ok (state p g) = cond-true (opens_rule (reached p).phase) _ _ n.opens in
        (state p g, subst (Reads t text from (state p g)) ok (ends (lexed_last text from l)), rw n.no_names at led.names, sym (append-nil g.rules) ∙ (rw n.no_rules at led.rules))

    -- the name of a token joins the table, which has room for all that are ahead
    joins_table : {q : Place} {w : Word} {a' : Ahead q} (at : ℕ) → Moves p q a w a' → (ss : List Standing) × (entry t at w g.atoms ≡ Ok ss) × (table ss ≡ with_names (table g.atoms) (word_names w))
    joins_table {q} {w} {a'} at m = go (entries t at w g.atoms)
      where
        go : Entered g.atoms (word_names w) (entry t at w g.atoms) → (ss : List Standing) × (entry t at w g.atoms ≡ Ok ss) × (table ss ≡ with_names (table g.atoms) (word_names w))
        go (joins ss e j h) = (ss, e, j)
        go (full f e many) =
            let ends_as : with_names (with_names (table g.atoms) (word_names w)) (ahead_names a') ≡ atoms = sym (with_names_append (word_names w) (ahead_names a') (table g.atoms)) ∙ ap (with_names (table g.atoms)) (sym (moved m).1) ∙ led.names in
            let room = with_names_longer (ahead_names a') (with_names (table g.atoms) (word_names w)) in
            absurd (omega (arith, ap length ends_as))

    -- the token is read, and the rest then
    complete_move : {q : Place} {w : Word} {a' : Ahead q} {at stop : ℕ} → Moves p q a w a' → Next text from w at stop → ((g' : Got) → Leads atoms all g' a' → ReadOn stop (state q g')) → ReadOn from (state p g)
    complete_move {q} {w} {a'} {at} {stop} m n on =
        let (ss, enter, joined) = joins_table at m in
        let (few, short) = passes atoms g.rule g.rules m (rw led.rules fine) in
        let (d, x, e, f) = on (after at p w g ss) (leads_on m at g ss joined led) in
        (d, goes at stop w _ (lexed_next text from n) (step_takes t at p w g q (moved m).2 (record { few = few; short = short; enter = enter })) x, e, f)

    complete_word : {w : Word} {vs : List Word} (gap rest : List ℕ) → drop from text ≡ gap ++ (spelling w ++ rest) → Gap gap → Proper w → Ends w rest → ahead_words a ≡ w ∷ vs → ((stop : ℕ) → drop stop text ≡ rest → (q : Place) (g' : Got) (a' : Ahead q) → ahead_words a' ≡ vs → Leads atoms all g' a' → ReadOn stop (state q g')) → ReadOn from (state p g)
    complete_word {w} {vs} gap rest b h pr en v on = go (forth a)
      where
        go : Forth a → ReadOn from (state p g)
        go (none_left n) = let e = n.no_words in never (cc)
        go (begins {q} {w = w'} {a'} m) =
            let first = (moved m).0 in
            let same : w' ≡ w = cc in
            let left : ahead_words a' ≡ vs = cc in
            complete_move (rw same at m) (next text from rest b h pr en) (λ g' led'. on _ (past_word text from gap w rest b) q g' a' left led')

    complete_last : LastGap (drop from text) → ahead_words a ≡ [] → ReadOn from (state p g)
    complete_last l v = go (forth a)
      where
        go : Forth a → ReadOn from (state p g)
        go (none_left n) = complete_end l n
        go (begins m) = let first = (moved m).0 in never (cc)

  pub complete : {bs : List ℕ} {vs : List Word} → Spells bs vs → (from : ℕ) → drop from text ≡ bs → {p : Place} (g : Got) (a : Ahead p) → ahead_words a ≡ vs → Leads atoms all g a → ReadOn from (state p g)
  complete (done l) from b g a v led = complete_last from g led (subst LastGap (sym b) l) v
  complete (more {gap} {rest} {w} {ws} h pr en s) from b g a v led = complete_word from g led gap rest b h pr en v (λ stop e q g' a' v' led'. complete s stop e g' a' v' led')
