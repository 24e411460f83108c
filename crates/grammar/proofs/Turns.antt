-- The three texts in turn: they lead to one table, over which question 9 is about names.
use Rattle.std.proofs.Common.{◌≡◌, ℕ, ◌↔◌, List, [], ◌++◌, Some, None, Option, sym, refl, ◌∙◌}
use Rattle.refusals.specs.declared.fault.Text.TheVariants.{Plan, Faults, Site}
use Rattle.reading.specs.Steps.{State}
use Rattle.reading.specs.Loads.{three, or_else, shared_head}
use Rattle.grammar.specs.Grammar.{names, with_names}
use Rattle.grammar.specs.Accepted.{table}
use Rattle.grammar.specs.Loaded.{Sources, heads, all_names, Meant}
use Rattle.grammar.proofs.Never.{never}
use Rattle.grammar.proofs.Apart.{Apart, append_by_name}
use Rattle.grammar.proofs.Told.{One, grows, Told, told, by_name, untaken}

-- no head is taken, of the fault text nor of the site text
neither : (a b : Option ℕ) {P Q : Type 0} → (a ≡ None ↔ P) → (b ≡ None ↔ Q) → (or_else Faults a (or_else Site b None) ≡ None ↔ P × Q)
neither None None f g = (λ e. (f.0 refl, g.0 refl), λ h. refl)
neither None (Some at) f g = (λ e. never (cc), λ h. never (let off = g.1 h.1 in cc))
neither (Some at) b f g = (λ e. never (cc), λ h. never (let off = f.1 h.0 in cc))

-- the three texts, each with the atoms of those before it
pub record Turns (p f s : List ℕ) (w : Sources) (d d' d'' : State) : Type 0 where
  pub plan : One Plan p [] w.plan d
  pub faults : One Faults f d.atoms w.faults d'
  pub site : One Site s d'.atoms w.site d''

module _ {p f s : List ℕ} {w : Sources} {d d' d'' : State} (x : Turns p f s w d d' d'') where
  -- each text leads to one table in the end
  after_plan : with_names (table d.atoms) (names w.faults ++ names w.site) ≡ all_names w
  after_plan = sym (grows x.plan _)

  after_faults : with_names (table d'.atoms) (names w.site) ≡ all_names w
  after_faults = sym (grows x.faults _) ∙ after_plan

  pub after_site : table d''.atoms ≡ all_names w
  after_site = x.site.says.atoms ∙ after_faults

  plan_told : Told (all_names w) w.plan d
  plan_told = rw after_plan at (told x.plan (names w.faults ++ names w.site))

  faults_told : Told (all_names w) w.faults d'
  faults_told = rw after_faults at (told x.faults (names w.site))

  site_told : Told (all_names w) w.site d''
  site_told = rw after_site at (told x.site [])

  pub meant : Meant w (three d d' d'')
  meant = record { atoms = after_site; plan = plan_told.rules; faults = faults_told.rules; site = site_told.rules }

  -- question 9 in the words of the format
  pub unshared : (shared_head (three d d' d'') ≡ None) ↔ (Apart (heads w.faults) (names w.plan) × Apart (heads w.site) (names w.plan ++ names w.faults))
  unshared = neither _ _ (untaken faults_told (by_name plan_told)) (untaken site_told (append_by_name (by_name plan_told) (by_name faults_told)))
