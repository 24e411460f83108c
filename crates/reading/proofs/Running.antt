-- From the steps of reading to the whole of it.
use Rattle.std.proofs.Common.{◌≡◌, ℕ, ◌≤◌, Bool, true, false, leb, List, length, Ok, Err, Result, sym, refl, subst, inr, arith}
use Rattle.std.proofs.lemmas.Bool.{le-leb, leb-true}
use Rattle.refusals.specs.declared.fault.Text.{Text}
use Rattle.refusals.specs.declared.fault.Fault.{Fault}
use Rattle.refusals.specs.declared.fault.Fault.TheVariants.{LongText}
use Rattle.reading.specs.declared.section.Section.{Section}
use Rattle.reading.specs.declared.table.Atoms.{Atoms}
use Rattle.reading.specs.Steps.{State, Standing, fresh, Reads, TextRead}
use Rattle.reading.specs.Sections.{Finishes, Gives}

module _ (t : Text) (text : List ℕ) (before : List Standing) where
  -- a text by the answer to the question on its length
  abbrev by_length : Result State Fault → Bool → Type 0
  by_length r b = elim b [ true ↦ Reads t text 0 (fresh before) r | false ↦ r ≡ Err (LongText t) ]

  pub read_short : (r : Result State Fault) → length text ≤ 16384 → Reads t text 0 (fresh before) r → TextRead t text before r
  read_short r short h = subst (by_length r) (sym (le-leb (length text) 16384 short)) h

  -- the same reading, of a state that is as before the first token
  pub as_fresh : (d : State) (r : Result State Fault) → d ≡ fresh before → Reads t text 0 d r → Reads t text 0 (fresh before) r
  as_fresh d r same h = subst (λ s. Reads t text 0 s r) same h

  pub finished : (want : Result State Fault) (r : Result (Section × Atoms) Fault) → Finishes want r → TextRead t text before want → Gives t text before r
  finished want (Ok s) f h = (f.0, subst (TextRead t text before) f.1 h, f.2)
  finished want (Err g) f h = inr (subst (TextRead t text before) f h)

-- a text that is read is not too long
pub read_length : (t : Text) (text : List ℕ) (before : List Standing) (d : State) → TextRead t text before (Ok d) → length text ≤ 16384
read_length t text before d h = go (leb (length text) 16384) refl h
  where
    go : (b : Bool) → leb (length text) 16384 ≡ b → by_length t text before (Ok d) b → length text ≤ 16384
    go true short h = leb-true (length text) 16384 short
    go false long h = let z : ◌≡◌ {A = ℕ} 0 1 = cc in omega arith
