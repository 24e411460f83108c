-- How the lines that the parts of a call add make the lines of its answer.
use Rattle.std.proofs.Common.{◌≡◌, ℕ, List, ◌++◌, Result, OnOk, refl, ap, ◌∙◌}
use Rattle.std.proofs.lemmas.Result.{on_ok_weaker}
use Rattle.runs.specs.Book.{Book, Call, Answer, Refusal, refused, refusal_number}
use Rattle.book.specs.Answers.{refusal_model}
use Rattle.book.specs.declared.told.Refusal as code
use Rattle.book.specs.declared.told.Refusal.TheVariants.{NothingLoaded, TooManyHeads, NoneShown, StruckFull, NoEntry}
use Rattle.desk_text.specs.Lines.{refused_line}
use Rattle.desk_book.specs.Loaded.{Bytes}
use Rattle.desk_book.specs.Told.{refusal_line, ToldAs, refused_so}

-- lines of an answer behind what was there
abbrev pub Behind : Book → Bytes → Call → Answer → List ℕ → List ℕ → Type 0
Behind b w c a was is = (lines : List ℕ) × ToldAs b w c a lines × (is ≡ was ++ lines)

refusal_said : (e : code.Refusal) → refused_line (refusal_number (refusal_model e)) ≡ refusal_line (refusal_model e)
refusal_said NothingLoaded = refl
refusal_said TooManyHeads = refl
refusal_said NoneShown = refl
refusal_said StruckFull = refl
refusal_said NoEntry = refl

-- the line of a refusal
pub refused_behind : {T E : Type 0} (r : Result T E) (b : Book) (w : Bytes) (c : Call) (e : code.Refusal) (cause : ℕ) (was is : List ℕ) → cause ≡ refusal_number (refusal_model e) → OnOk r (is ≡ was ++ refused_line cause) → OnOk r (Behind b w c (refused (refusal_model e)) was is)
refused_behind r b w c e cause was is same added =
    on_ok_weaker r (λ line. (refusal_line (refusal_model e), refused_so (refusal_model e), line ∙ ap (λ l. was ++ l) (ap refused_line same ∙ refusal_said e))) added
