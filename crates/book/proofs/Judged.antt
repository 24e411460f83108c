-- What a judgement of the site text says of a plan and a reply.
use Rattle.std.proofs.Common.{◌≡◌, Bool, Decides, ⊎_elim}
use mathlib.Core.HLevel.{⊥_prop}
use mathlib.Core.Logic.{∥∥₁_elim}
use Rattle.std.proofs.lemmas.Bool.Decides.{Decides-like}
use Rattle.std.proofs.lemmas.Bool.{both_ways, cases_Bool}
use Rattle.game.specs.Sets.{Row, union}
use Rattle.game.specs.AnswerSets.{AnswerSet}
use Rattle.game.specs.Game.{Texts, Holds}
use Rattle.solving.specs.Judged.{Judged}

pub holds_decides : (t : Texts) (m r : Row) (b : Bool) → Judged t.site (union m r) b → Decides b (Holds t m r)
holds_decides t m r b judged = (λ e. ∣ judged.has e ∣₁, λ h. ⊎_elim (λ e. e) (λ e. absurd (∥∥₁_elim h ⊥_prop (λ (s, answer). both_ways b e (judged.every s answer)))) (cases_Bool b))
