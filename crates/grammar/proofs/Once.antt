-- Reading from a place on comes to one answer: it is a function, which each reading agrees with.
use Rattle.std.proofs.Common.{◌≡◌, ℕ, zero, suc, ◌+◌, ◌<◌, ◌≤◌, List, length, Some, Ok, Err, Result, refl, arith}
use Rattle.refusals.specs.declared.fault.Text.{Text}
use Rattle.refusals.specs.declared.fault.Fault.{Fault}
use Rattle.refusals.specs.declared.fault.Fault.TheVariants.{NoToken, LongName}
use Rattle.reading.specs.Lexical.{Word, Lexed, end, no_token, long_name, token, lexed}
use Rattle.reading.specs.Tokens.{lexical_fault}
use Rattle.reading.specs.Steps.{State, step, ended, Reads, ends, no_word, refused, goes}
use Rattle.grammar.proofs.Never.{never}
use Rattle.grammar.proofs.Lexing.{next_long, Comes, a_token, the_end, neither, comes, token_next}

module _ (t : Text) (text : List ℕ) where
  -- what follows a step
  abbrev pub after_step : (ℕ → State → Result State Fault) → ℕ → Result State Fault → Result State Fault
  after_step on after (Ok d) = on after d
  after_step on after (Err f) = Err f

  -- what follows what comes next
  abbrev pub after_lexed : (ℕ → State → Result State Fault) → State → Lexed → Result State Fault
  after_lexed on d end = ended t (length text) d
  after_lexed on d (no_token at) = Err (NoToken t at)
  after_lexed on d (long_name at) = Err (LongName t at)
  after_lexed on d (token at after w) = after_step on after (step t at d w)

  -- the reading, of as many tokens as the first argument says
  abbrev pub reading : ℕ → ℕ → State → Result State Fault
  reading zero from d = ended t (length text) d
  reading (suc n) from d = after_lexed (reading n) d (lexed text from)

  refused_reading : (n from : ℕ) (d : State) (f : Fault) (l : Lexed) → lexical_fault t l ≡ Some f → Err f ≡ after_lexed (reading n) d l
  refused_reading n from d f end e = never (cc)
  refused_reading n from d f (no_token at) e = cc
  refused_reading n from d f (long_name at) e = cc
  refused_reading n from d f (token at after w) e = never (cc)

  pub agrees : (n : ℕ) {from : ℕ} {d : State} {r : Result State Fault} → Reads t text from d r → length text ≤ from + n → r ≡ reading (suc n) from d
  agrees n {from} {d} (ends e) h = rw e refl
  agrees n {from} {d} (no_word f e) h = refused_reading n from d f (lexed text from) e
  agrees n {from} {d} (refused at after w f e s) h = rw (e, s) refl
  agrees zero {from} {d} (goes at after w d' e s r) h = let long = next_long text from (token_next text from t e) in absurd (omega arith)
  agrees (suc n) {from} {d} (goes at after w d' e s r) h = let long = next_long text from (token_next text from t e) in rw (e, s) (agrees n r (omega arith))

  abbrev pub SomeReading : ℕ → State → Type 0
  SomeReading from d = (r : Result State Fault) × Reads t text from d r

  -- there is a reading here, if there is one after each token that may come
  reads_on : (from : ℕ) (d : State) → ((after : ℕ) (d' : State) → from < after → after ≤ length text → SomeReading after d') → SomeReading from d
  reads_on from d on = go (comes text from t)
    where
      stepped : (w : Word) (at after : ℕ) → lexed text from ≡ token at after w → (from < after) × (after ≤ length text) → (r : Result State Fault) → step t at d w ≡ r → SomeReading from d
      stepped w at after e long (Ok d') s = let (r, x) = on after d' long.0 long.1 in (r, goes at after w d' e s x)
      stepped w at after e long (Err f) s = (Err f, refused at after w f e s)

      go : Comes text from t → SomeReading from d
      go (a_token {w = w} {at = at} {after = after} e n) = stepped w at after e (next_long text from n) (step t at d w) refl
      go (the_end e l) = (ended t (length text) d, ends e)
      go (neither f e) = (Err f, no_word f e)

  pub reads : (n from : ℕ) (d : State) → length text ≤ from + n → SomeReading from d
  reads zero from d h = reads_on from d (λ after d' low high. absurd (omega arith))
  reads (suc n) from d h = reads_on from d (λ after d' low high. reads n after d' (omega arith))
