-- What the supplied finders mean.
use Rattle.std.specs.Prelude.{ℕ, List, length, Decides, refl}
use Rattle.std.proofs.lemmas.Bool.{false≢true}
use Rattle.game.specs.Sets.{Row}
use Rattle.game.specs.Rules.{Rule, is_head}
use Rattle.game.specs.AnswerSets.{AnswerSet}
use Rattle.game.specs.Heads.{Lists}
use Rattle.game.proofs.Decided.{dec_answer}
use Rattle.game.proofs.HeadSets.{answers_kept, kept_answers}
use Rattle.game.proofs.CountedSets.{counted_among_lists}
use Rattle.finders.specs.Meanings.{Meaning}
use Rattle.finders.specs.Orders.{told, answers, branching_order, counting_order}

told_decides : {P : Type 0} (d : Dec P) → Decides (told d) P
told_decides (yes p) = (λ _. p, λ _. refl)
told_decides (no f) = (λ e. absurd (false≢true e), λ p. absurd (f p))

answers_decides : (rules : List Rule) (given i : Row) → Decides (answers rules given i) (AnswerSet rules given i)
answers_decides rules given i = told_decides (dec_answer rules given i)

pub branching_lists : (rules : List Rule) (given : Row) → Lists (branching_order rules given) (AnswerSet rules given)
unfolding branching_order
branching_lists rules given = answers_kept rules given (answers rules given) (λ i _. answers_decides rules given i)

abbrev pub branching : (n : ℕ) → Meaning n
branching n = record { most = 96; order = branching_order; law = λ rules given _. branching_lists rules given }

pub counting_lists : (rules : List Rule) (given : Row) → Lists (counting_order rules given) (AnswerSet rules given)
unfolding counting_order
counting_lists rules given = kept_answers rules given (answers rules given) (λ i _. answers_decides rules given i) (counted_among_lists (length given) (is_head rules))

abbrev pub counting : (n : ℕ) → Meaning n
counting n = record { most = 24; order = counting_order; law = λ rules given _. counting_lists rules given }
