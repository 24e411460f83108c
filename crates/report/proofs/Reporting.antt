-- From what the parts of the report's call say of the code's table of atoms to what the call promises of the texts.
use Rattle.std.proofs.Common.{◌≡◌, ℕ, ◌≤◌, Bool, false, List, [], length, Ok, Err, Decides, Option, Result, sym, refl, ap, ◌∙◌, subst, inl, inr, MatchResult}
use lib.ListN.{length-map}
use Rattle.std.proofs.lemmas.Bool.{both_ways}
use Rattle.closure.specs.declared.row.Row.{Row}
use Rattle.refusals.specs.declared.fault.Text.TheVariants.{Plan}
use Rattle.refusals.specs.declared.fault.Fault.{Fault}
use Rattle.refusals.specs.declared.fault.Fault.TheVariants.{NoMemory}
use Rattle.refusals.specs.Room.{Written, Unwritten}
use Rattle.reading.specs.declared.table.Atom.{Atom}
use Rattle.reading.specs.Loads.{Three, ThreeRead, plan_refused, faults_refused, site_refused, all_read}
use Rattle.reading.specs.Tables.{standing, standings}
use Rattle.reading.proofs.Limiting.{err_ok}
use Rattle.reading.proofs.Running.{read_length}
use Rattle.loading.specs.Read.{ThreeGives}
use Rattle.report.specs.Reported.{report_bytes, Known, Strange, Reported}

plan_length : (p f s : List ℕ) (t : Three) {r : Result Three Fault} → ThreeRead p f s r → r ≡ Ok t → length p ≤ 16384
plan_length p f s t (plan_refused h) is = absurd (err_ok is)
plan_length p f s t (faults_refused d g h) is = absurd (err_ok is)
plan_length p f s t (site_refused d d' g h k) is = absurd (err_ok is)
plan_length p f s t (all_read d d' d'' g h k) is = read_length Plan p [] d g

module _ (p f s : List ℕ) (t : Three) (read : ThreeRead p f s (Ok t)) where
  -- want of memory after the texts are read
  pub starved : ThreeGives p f s (Err NoMemory)
  starved = inl (refl, plan_length p f s t read refl)

  module _ (atoms : List Atom) (same : standings atoms ≡ t.atoms) (shown : Option (Row 96)) where
    as_many : length atoms ≡ length t.atoms
    as_many = sym (length-map atoms standing) ∙ ap length same

    pub strange : (b : Bool) → Decides b (Known shown (length atoms)) → b ≡ false → Strange p f s shown
    strange b decides off = record { three = t; read = read; unknown = λ known. both_ways b off (decides.1 (subst (Known shown) (sym as_many) known)) }

    module _ (coherent : Bool) (known : Known shown (length atoms)) (bytes before after : List ℕ) (is : bytes ≡ report_bytes coherent shown (standings atoms)) where
      whole : bytes ≡ report_bytes coherent shown t.atoms
      whole = is ∙ ap (report_bytes coherent shown) same

      pub reported : (r : Result ℕ Fault) → MatchResult r (Written bytes before after) (Unwritten bytes before after) → Reported p f s coherent shown before after r
      reported (Ok n) w = record { three = t; read = read; known = subst (Known shown) as_many known; written = subst (λ b. Written b before after n) whole w }
      reported (Err e) w = (w.kept, inr (inr (record { three = t; read = read; known = subst (Known shown) as_many known; unwritten = subst (λ b. Unwritten b before after e) whole w })))
