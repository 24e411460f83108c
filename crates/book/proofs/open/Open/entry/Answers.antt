use Rattle.std.proofs.Common.{ℕ, ◌≤◌, Some, None, Option, MatchOption, length, get_or, vec_items, sym, refl, ap, ◌∙◌, subst, arith}
use lib.ListN.{length-map}
use Rattle.std.specs.Borrow.{Bor}
use Rattle.std.specs.Option.{option_copied}
use Rattle.std.specs.Slice.{IsItemAt}
use Rattle.closure.specs.declared.row.Row as code
use Rattle.closure.specs.Bits.{bit_row}
use Rattle.runs.specs.Book.{Goes, look, wrote, refused, no_entry, look_nowhere}
use Rattle.book.specs.Models.{texts_from, pair_of}
use Rattle.book.specs.Opened.{open_book}
use Rattle.book.specs.declared.open.Open.{Open}
use Rattle.book.specs.declared.pair.Pair.{Pair}
use Rattle.book.proofs.Calls.{look_pair, look_struck}
use Rattle.book.proofs.open.Open.entry.Goals as goal

-- what the library finds at a place of the sheet, or of the struck plans
module _ (o : Open) (place : ℕ) where
  no_pair : length (vec_items o.sheet) ≤ place → Goes (look 1 place) (open_book o) (refused no_entry) (open_book o)
  no_pair past = look_nowhere (texts_from o.loaded) refl (λ _. omega (arith, past, length-map (vec_items o.sheet) pair_of)) (λ e. absurd (omega arith))

  no_struck : length (vec_items o.struck) ≤ place → Goes (look 2 place) (open_book o) (refused no_entry) (open_book o)
  no_struck past = look_nowhere (texts_from o.loaded) refl (λ e. absurd (omega arith)) (λ _. omega (arith, past, length-map (vec_items o.struck) (λ (r : code.Row 96). r.marks)))

  looked : (found : Option (Bor Pair)) → IsItemAt (vec_items o.sheet) place found → MatchOption (option_copied found) (Goes (look 1 place) (open_book o) (refused no_entry) (open_book o)) (λ p. Goes (look 1 place) (open_book o) (wrote p.plan.marks (bit_row p.reply.bits)) (open_book o))
  looked None at = no_pair at.3
  looked (Some p) at = look_pair (open_book o) (texts_from o.loaded) refl place (vec_items o.sheet) p.now refl at.3.0 at.1

pub returns-in-Pair : goal.returns-in-Pair
returns-in-Pair c =
    let o = c.args.self.now in
    rw c.in-Pair.is
    (subst (λ r. MatchOption r (Goes (look 1 c.args.place) (open_book o) (refused no_entry) (open_book o)) (λ p. Goes (look 1 c.args.place) (open_book o) (wrote p.plan.marks (bit_row p.reply.bits)) (open_book o))) (sym c.copied.ensures)
    (looked o c.args.place c.get.result (subst (λ xs. IsItemAt xs c.args.place c.get.result) c.as_slice.ensures.value c.get.ensures.lookup)))

pub returns-in_err-plan-in-Struck : goal.returns-in_err-plan-in-Struck
returns-in_err-plan-in-Struck c =
    let o = c.args.self.now in
    let past = c.in_err-plan-in-Struck.ensures.lookup.3 in
    rw (c.in-Struck.is, c.from_residual.ensures) (no_struck o c.args.place (omega (arith, past, ap length c.as_slice-in-Struck.ensures.value)))

pub returns-in_ok-plan-in-Struck : goal.returns-in_ok-plan-in-Struck
returns-in_ok-plan-in-Struck c =
    let o = c.args.self.now in
    let r = c.in_ok-plan-in-Struck.field-0.now in
    let at = c.in_ok-plan-in-Struck.ensures.lookup in
    rw c.in-Struck.is
    (look_struck (open_book o) (texts_from o.loaded) refl c.args.place (vec_items o.struck) r (bit_row c.clear.result.bits) refl c.clear.ensures
    (omega (arith, at.3.0, ap length c.as_slice-in-Struck.ensures.value)) (at.1 ∙ ap (λ xs. get_or xs c.args.place r) c.as_slice-in-Struck.ensures.value))
