-- What is read is what the format allows.
use Rattle.std.proofs.Common.{ℕ, List, Ok, Err, Result, inl, inr, ⊎_elim}
use Rattle.refusals.specs.declared.fault.Fault.{Fault}
use Rattle.grammar.proofs.Loading.{loaded_is_allowed, allowed_is_loaded}
use Rattle.grammar.proofs.Outcomes.{one_loading}
use Rattle.reading.proofs.Limiting.{err_ok}
use Rattle.loading.specs.declared.games.Game.{Game}
use Rattle.loading.specs.Sided.{side_of}
use Rattle.loading.specs.Read.{three_of}
use Rattle.loading.specs.Loaded.{GameGives, AllowedExactly}

exactly : (n : ℕ) (p f s : List ℕ) (r : Result Game Fault) → GameGives n p f s r → AllowedExactly n p f s r
exactly n p f s (Ok g) h = loaded_is_allowed n p f s (side_of g.side) (three_of g.texts) h
exactly n p f s (Err e) h = ⊎_elim (λ (starved, _). inl starved) (λ refused. inr (λ w a. let l = allowed_is_loaded n p f s w a in err_ok (one_loading.0 n p f s _ _ refused l.2))) h

-- both clauses of a load, from the first
pub both : (n : ℕ) (p f s : List ℕ) (r : Result Game Fault) → GameGives n p f s r → record { gives : GameGives n p f s r; allowed : AllowedExactly n p f s r }
both n p f s r h = record { gives = h; allowed = exactly n p f s r h }
