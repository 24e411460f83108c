use Rattle.std.proofs.Common.{rules, Decides, subst}
use Rattle.std.proofs.lemmas.Bool.Decides.{not_from_Decides}
use Rattle.std.proofs.lemmas.Iterator.{YieldsList-from_slice, cases_from_any}
use Rattle.game.specs.Game.{Beats}
use Rattle.closure.specs.Bits.{bit_row}
use Rattle.runs.specs.Book as runs
use Rattle.runs.specs.Book.{SheetBeats}
use Rattle.book.specs.Models.{texts_from, pair_of, pairs}
use Rattle.book.proofs.Scanning.{found_decides}
use Rattle.book.proofs.loaded.Loaded.is_beaten.Goals as goal

pub returns : goal.returns
returns c =
    let beats = λ (q : runs.Pair). Beats (texts_from c.args.self.now) (bit_row c.of-given.result.bits) q.reply in
    subst (λ m. Decides c.any.result (SheetBeats (texts_from c.args.self.now) (pairs c.args.sheet.now) m)) c.of-given.ensures
    (found_decides pair_of beats c.any.result c.args.sheet.now
    (cases_from_any _ _ c.any.result (λ p. beats (pair_of p)) (λ p. beats (pair_of p) → ⊥) c.any.ensures.ran (YieldsList-from_slice c.args.sheet.now cc) (λ x q k. search rules) (λ x q k. search (rules, not_from_Decides))))
