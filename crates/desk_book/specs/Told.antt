-- The lines by which the answer of a call is told.
use Rattle.std.specs.Prelude.{◌≡◌, ℕ, ◌+◌, Bool, List, ◌++◌, length, Some, None, Option, Result, OnOk}
use Rattle.closure.specs.declared.row.Row as code
use Rattle.game.specs.Sets.{Row}
use Rattle.refusals.specs.Line.{line}
use Rattle.finders.specs.Meanings.{Meaning}
use Rattle.finders.specs.Supplied as supplied
use Rattle.reading.specs.Loads.{Three}
use Rattle.runs.specs.Book.{Book, Call, load, ask, strike, look, wipe, Answer, refused, done, told, wrote, Refusal, not_loaded, nothing_loaded, too_many_heads, none_shown, struck_full, no_entry, refusal_number, Verdict, Coherence, Goes}
use Rattle.book.specs.Models.{row_shown}
use Rattle.report.specs.Reported.{report_bytes}
use Rattle.deciding.specs.Decided.{ShownBy, says_coherent}
use Rattle.listing_text.specs.declared.words.Order.{Order}
use Rattle.listing_text.specs.declared.words.Order.TheVariants.{Counting, Branching}
use Rattle.desk_text.specs.Lines.{loaded_line, refused_line, sizes_line, struck_line, wiped_line, pair_lines, struck_plan_line}
use Rattle.desk_book.specs.declared.desk.Desk.{Desk}
use Rattle.desk_book.specs.Loaded.{Bytes, Gives}
use Rattle.desk_book.specs.Desks.{desk_book, desk_bytes}

-- what the finder of an order means
abbrev pub finder_of : Order → Meaning 96
finder_of Counting = supplied.counting 96
finder_of Branching = supplied.branching 96

abbrev pub rule_count : Three → ℕ
rule_count t = length t.plan.rules + length t.faults.rules + length t.site.rules

-- the line of a refusal: a load tells its text and its byte
abbrev pub refusal_line : Refusal → List ℕ
refusal_line (not_loaded e) = line e
refusal_line nothing_loaded = refused_line 11
refusal_line too_many_heads = refused_line 12
refusal_line none_shown = refused_line 13
refusal_line struck_full = refused_line 14
refusal_line no_entry = refused_line 15

-- The lines of a call's answer, by the book that it leaves and the bytes of the texts that are loaded then; names are those that these bytes give.
pub data ToldAs (b : Book) (w : Bytes) : Call → Answer → List ℕ → Type 0 where
  refused_so : {c : Call} (e : Refusal) → ToldAs b w c (refused e) (refusal_line e)
  loaded_so : {m : Bool} {i : ℕ} {p f s : List ℕ} (t : Three) → Gives w t → ToldAs b w (load m i p f s) done (loaded_line (rule_count t) (length t.atoms))
  asked_so : {f : Meaning 96} {v : Verdict} {c : Coherence} {pairs struck : ℕ} {row : Row} (t : Three) (shown : Option (code.Row 96)) → Gives w t → ShownBy v row (row_shown shown) → ToldAs b w (ask f) (told v c pairs struck row) (report_bytes (says_coherent c) shown t.atoms ++ sizes_line pairs struck)
  struck_so : ToldAs b w strike done (struck_line (length b.struck))
  wiped_so : ToldAs b w wipe done wiped_line
  pair_so : {n : ℕ} {plan reply : Row} (t : Three) → Gives w t → ToldAs b w (look 1 n) (wrote plan reply) (pair_lines t.atoms plan reply)
  struck_plan_so : {n : ℕ} {plan second : Row} (t : Three) → Gives w t → ToldAs b w (look 2 n) (wrote plan second) (struck_plan_line t.atoms plan)

-- the bytes of the texts that are loaded after a call
abbrev pub bytes_after : Call → Answer → Bytes → Bytes
bytes_after (load m i p f s) done w = record { plan = p; faults = f; site = s }
bytes_after (load m i p f s) (refused e) w = w
bytes_after (load m i p f s) (told v c p' k row) w = w
bytes_after (load m i p f s) (wrote x y) w = w
bytes_after (ask f) a w = w
bytes_after strike a w = w
bytes_after (look k n) a w = w
bytes_after wipe a w = w

-- From one desk to the next the book goes on by the call, and its answer is told behind what was there; want of memory may cut the lines short.
pub record Answered {E : Type 0} (c : Call) (d d' : Desk) (was is : List ℕ) (r : Result (Unit {0}) E) : Type 0 where
  pub answer : Answer
  pub goes : Goes c (desk_book d) answer (desk_book d')
  pub bytes : desk_bytes d' ≡ bytes_after c answer (desk_bytes d)
  pub lines : OnOk r ((lines : List ℕ) × ToldAs (desk_book d') (desk_bytes d') c answer lines × (is ≡ was ++ lines))

-- the same of a load, with or without the memory that it needs
abbrev pub LoadAnswered : {E : Type 0} → ℕ → Bytes → Desk → Desk → List ℕ → List ℕ → Result (Unit {0}) E → Type 0
LoadAnswered side w d d' was is r = (memory : Bool) × Answered (load memory side w.plan w.faults w.site) d d' was is r
