-- What is read of a whole text keeps the limits, and has a place for each rule.
use Rattle.std.proofs.Common.{◌≡◌, ℕ, ◌≤◌, Bool, true, false, cond, leb, List, length, Ok, Err, Result, refl, subst}
use Rattle.refusals.specs.declared.fault.Text.{Text}
use Rattle.refusals.specs.declared.fault.Fault.{Fault}
use Rattle.refusals.specs.declared.fault.Fault.TheVariants.{LongText, Misplaced}
use Rattle.reading.specs.Steps.{State, Standing, opens_rule, ended, fresh, Reads, ends, no_word, refused, goes, TextRead}
use Rattle.reading.specs.Within.{Within}
use Rattle.reading.proofs.Limiting.{step_within, fresh_within}
use Rattle.grammar.proofs.Never.{never}

module _ (t : Text) (text : List ℕ) (d' : State) where
  ended_within : (d : State) → ended t (length text) d ≡ Ok d' → Within d → Within d'
  ended_within d e w = go (opens_rule d.phase) e
    where
      go : (b : Bool) → cond b (Ok d) (Err (Misplaced t (length text))) ≡ Ok d' → Within d'
      go true e = let same : d ≡ d' = cc in subst Within same w
      go false e = never (cc)

  reads_within : {from : ℕ} {d : State} {r : Result State Fault} → Reads t text from d r → r ≡ Ok d' → Within d → Within d'
  reads_within {d = d} (ends e) is w = ended_within d is w
  reads_within (no_word f e) is w = never (cc)
  reads_within (refused at after x f e s) is w = never (cc)
  reads_within {d = d} (goes at after x d'' e s more) is w = reads_within more is (step_within t at d x d'' w s)

  pub text_within : (before : List Standing) → length before ≤ 96 → TextRead t text before (Ok d') → Within d'
  text_within before few = go (leb (length text) 16384)
    where
      go : (b : Bool) → (elim b as (λ _. Type 0) [ true ↦ Reads t text 0 (fresh before) (Ok d') | false ↦ Ok d' ≡ Err (LongText t) ]) → Within d'
      go true x = reads_within x refl (fresh_within before few)
      go false x = never (cc)
