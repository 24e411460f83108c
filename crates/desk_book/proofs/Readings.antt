-- Three texts are read in one way.
use Rattle.std.proofs.Common.{◌≡◌, ℕ, List, [], Some, Ok, Err, Result, sym, refl, subst}
use mathlib.Core.HLevel.{⊥_prop}
use mathlib.Core.Logic.{∥∥₁_elim, ∥∥₁_prop}
use Rattle.game.specs.Game.{Texts}
use Rattle.game.specs.Sides.{Side}
use Rattle.refusals.specs.declared.fault.Text.TheVariants.{Plan, Faults, Site}
use Rattle.refusals.specs.declared.fault.Fault.{Fault}
use Rattle.reading.specs.Steps.{State, TextRead}
use Rattle.reading.specs.Loads.{Three, ThreeRead, plan_refused, faults_refused, site_refused, all_read, Loads, loads}
use Rattle.reading.proofs.Limiting.{err_ok, ok_same}
use Rattle.grammar.proofs.Reading.{one_reading}
use Rattle.runs.specs.Book.{Book}
use Rattle.desk_book.specs.Loaded.{Bytes, Gives, LoadedFrom}

-- what is loaded was read
loads_read : (i : ℕ) (p f s : List ℕ) (x : Side × Three) → Loads i p f s (Ok x) → ThreeRead p f s (Ok x.1)
loads_read i p f s _ (loads x t side read apart even) = read

module _ (p f s : List ℕ) where
  -- what the plan text gives, and what the fault text gives behind it
  plan_again : (d c : State) → TextRead Plan p [] (Ok d) → TextRead Plan p [] (Ok c) → c ≡ d
  plan_again d c h k = ok_same (one_reading.0 Plan p [] (Ok c) (Ok d) k h)

  faults_again : (d c d' : State) {r : Result State Fault} → c ≡ d → TextRead Faults f d.atoms (Ok d') → TextRead Faults f c.atoms r → r ≡ Ok d'
  faults_again d c d' {r} same h k = one_reading.0 Faults f d.atoms r (Ok d') (subst (λ (z : State). TextRead Faults f z.atoms r) same k) h

  site_again : (d c d' : State) {r : Result State Fault} → c ≡ d → TextRead Site s d.atoms (Ok d') → TextRead Site s c.atoms r → r ≡ Ok d'
  site_again d c d' {r} same h k = one_reading.0 Site s d.atoms r (Ok d') (subst (λ (z : State). TextRead Site s z.atoms r) same k) h

  refused_too : {r r' : Result Three Fault} (t : Three) (e : Fault) → ThreeRead p f s r → ThreeRead p f s r' → r ≡ Ok t → r' ≡ Err e → ⊥
  refused_too t e (plan_refused h) other is no' = err_ok is
  refused_too t e (faults_refused d g h) other is no' = err_ok is
  refused_too t e (site_refused d d' g h k) other is no' = err_ok is
  refused_too t e (all_read d d' d'' g h k) (plan_refused h') is no' = err_ok (one_reading.0 Plan p [] _ _ h' g)
  refused_too t e (all_read d d' d'' g h k) (faults_refused c g' h') is no' = err_ok (faults_again d c d' (plan_again d c g g') h h')
  refused_too t e (all_read d d' d'' g h k) (site_refused c c' g' h' k') is no' = err_ok (site_again d' c' d'' (ok_same (faults_again d c d' (plan_again d c g g') h h')) k k')
  refused_too t e (all_read d d' d'' g h k) (all_read c c' c'' g' h' k') is no' = err_ok (sym no')

  -- what is read is not refused as well
  pub not_refused : (t : Three) (e : Fault) → ThreeRead p f s (Ok t) → ThreeRead p f s (Err e) → ⊥
  not_refused t e h k = refused_too t e h k refl refl

-- bytes that give something are not refused
pub given_unrefused : (w : Bytes) (p f s : List ℕ) (e : Fault) → p ≡ w.plan → f ≡ w.faults → s ≡ w.site → ∥ ((t : Three) × Gives w t) ∥₁ → ThreeRead p f s (Err e) → ⊥
given_unrefused w p f s e same same' same'' given no' =
    let k = subst (λ (x : List ℕ). ThreeRead x f s (Err e)) same no' in
    let k' = subst (λ (x : List ℕ). ThreeRead w.plan x s (Err e)) same' k in
    let k'' = subst (λ (x : List ℕ). ThreeRead w.plan w.faults x (Err e)) same'' k' in
    ∥∥₁_elim given ⊥_prop (λ (t, gives). not_refused w.plan w.faults w.site t e gives k'')

-- what a book's texts were loaded from gives something
pub loaded_given : (b : Book) (w : Bytes) (t : Texts) → b.texts ≡ Some t → ∥ LoadedFrom b w ∥₁ → ∥ ((x : Three) × Gives w x) ∥₁
loaded_given b w t has from =
    ∥∥₁_elim from ∥∥₁_prop (λ from. let (i, x, loaded, is) = from t has in ∣ (x.1, loads_read i w.plan w.faults w.site x loaded) ∣₁)
