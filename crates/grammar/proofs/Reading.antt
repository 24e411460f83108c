-- A whole text: what is read is spelled, what is spelled is read, and there is one reading.
use Rattle.std.proofs.Common.{◌≡◌, ℕ, suc, ◌≤◌, Bool, true, false, cond, leb, List, map, length, Ok, Err, Result, sym, refl, ◌∙◌, subst, arith}
use Rattle.std.proofs.lemmas.List.{length-map}
use Rattle.std.proofs.lemmas.Bool.{leb-true, le-leb, false≢true}
use Rattle.refusals.specs.declared.fault.Text.{Text}
use Rattle.refusals.specs.declared.fault.Fault.{Fault}
use Rattle.refusals.specs.declared.fault.Fault.TheVariants.{LongText}
use Rattle.reading.specs.Steps.{State, Standing, fresh, Reads, TextRead}
use Rattle.grammar.specs.Grammar.{Name, Written, numbered, names, with_names}
use Rattle.grammar.specs.Spelling.{Spells}
use Rattle.grammar.specs.Accepted.{table, Spelled, Says}
use Rattle.grammar.proofs.Never.{never}
use Rattle.grammar.proofs.Places.{Start, none_yet}
use Rattle.grammar.proofs.Ahead.{Ahead, start, ahead_words, outcome_start}
use Rattle.grammar.proofs.Leads.{Leads}
use Rattle.grammar.proofs.Limits.{Fine, fine_numbered, numbered_fine}
use Rattle.grammar.proofs.Once.{reading, agrees, reads}
use Rattle.grammar.proofs.Sound.{ComesOf, sound}
use Rattle.grammar.proofs.Complete.{complete}

-- the reading of a text, by whether it is short enough
abbrev Whole : Text → List ℕ → List Standing → Bool → Result State Fault → Type 0
Whole t text before b r = elim b as (λ b. Type 0) [ true ↦ Reads t text 0 (fresh before) r | false ↦ r ≡ Err (LongText t) ]

abbrev IsSpelled : List ℕ → List Standing → State → Type 0
IsSpelled text before d = (ws : List Written) × Spelled text ws × (length (with_names (table before) (names ws)) ≤ 96) × Says before ws d

spelled_from : (text : List ℕ) (before : List Standing) (d : State) → length text ≤ 16384 → length before ≤ 96 → ComesOf text 0 Start (none_yet before) d → IsSpelled text before d
spelled_from text before d short few c = go c.ahead c.spelled c.led
  where
    fine : Fine d.rules
    fine = c.fine (record { few = omega arith; short = omega arith; all = tt })

    go : (a : Ahead Start) → Spells text (ahead_words a) → Leads (table d.atoms) d.rules (none_yet before) a → IsSpelled text before d
    go (start ws) spelled led =
        let all : d.rules ≡ map (numbered (table d.atoms)) ws = sym led.rules ∙ outcome_start (table d.atoms) ws in
        let (rules, bodies) = numbered_fine (table d.atoms) ws (rw all at fine) in
        (ws, record { short = short; spells = spelled; few = rules; bodies = bodies }, rw led.names (simp length-map (c.few few)), record { atoms = sym led.names; rules = all })

pub read_is_spelled : (t : Text) (text : List ℕ) (before : List Standing) (d : State) → length before ≤ 96 → TextRead t text before (Ok d) → IsSpelled text before d
read_is_spelled t text before d few = go (leb (length text) 16384) refl
  where
    go : (b : Bool) → leb (length text) 16384 ≡ b → Whole t text before b (Ok d) → IsSpelled text before d
    go true e x = spelled_from text before d (leb-true _ _ e) few (sound t text d x refl Start (none_yet before) refl)
    go false e x = never (cc)

pub spelled_is_read :
    (t : Text) (text : List ℕ) (before : List Standing) (ws : List Written) → Spelled text ws → length (with_names (table before) (names ws)) ≤ 96 →
    (d : State) × TextRead t text before (Ok d) × Says before ws d
spelled_is_read t text before ws h few = go (leb (length text) 16384) (le-leb _ _ h.short)
  where
    atoms : List Name
    atoms = with_names (table before) (names ws)

    led : Leads atoms (map (numbered atoms) ws) (none_yet before) (start ws)
    led = record { names = refl; rules = outcome_start atoms ws }

    go : (b : Bool) → b ≡ true → (d : State) × Whole t text before b (Ok d) × Says before ws d
    go true e =
        let (d, x, n, r) = complete t text atoms (map (numbered atoms) ws) few (fine_numbered atoms ws h.few h.bodies) h.spells 0 refl (none_yet before) (start ws) refl led in
        (d, x, record { atoms = n; rules = rw n r })
    go false e = absurd (false≢true e)

-- the reading of a text, as a function
abbrev pub reading_by : Text → List ℕ → List Standing → Bool → Result State Fault
reading_by t text before b = cond b (reading t text (suc (length text)) 0 (fresh before)) (Err (LongText t))

unfoldable pub read_of : Text → List ℕ → List Standing → Result State Fault
read_of t text before = reading_by t text before (leb (length text) 16384)

module _ (t : Text) (text : List ℕ) (before : List Standing) where
  whole_is : (b : Bool) (r : Result State Fault) → Whole t text before b r → r ≡ reading_by t text before b
  whole_is true r x = agrees t text (length text) x (omega arith)
  whole_is false r x = x

  some : (b : Bool) → (r : Result State Fault) × Whole t text before b r
  some true = reads t text (length text) 0 (fresh before) (omega arith)
  some false = (Err (LongText t), refl)

  pub read_is : {r : Result State Fault} → TextRead t text before r → read_of t text before ≡ r
  unfolding read_of
  read_is {r} x = sym (whole_is (leb (length text) 16384) r x)

  pub read_so : TextRead t text before (read_of t text before)
  unfolding read_of
  read_so = let (r, x) = some (leb (length text) 16384) in subst (TextRead t text before) (whole_is (leb (length text) 16384) r x) x

pub one_reading :
    ((t : Text) (text : List ℕ) (before : List Standing) (r r' : Result State Fault) → TextRead t text before r → TextRead t text before r' → r ≡ r')
    × ((t : Text) (text : List ℕ) (before : List Standing) → (r : Result State Fault) × TextRead t text before r)
one_reading = (λ t text before r r' x y. sym (read_is t text before x) ∙ read_is t text before y, λ t text before. (read_of t text before, read_so t text before))
