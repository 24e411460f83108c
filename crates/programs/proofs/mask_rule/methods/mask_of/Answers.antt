use Rattle.std.proofs.Common.{◌+◌, ◌<◌, false, ◌||◌, eqb, get_or, drop, sym, ap, ◌∙◌, arith}
use Rattle.std.proofs.lemmas.List.{ext_get_or, get_or-replicate, at_drop_more, at_drop_all}
use Rattle.std.proofs.Math.Bool.{or-false}
use Rattle.game.specs.Rules.{among}
use Rattle.closure.specs.Bits.{bit_row, length-bit_row}
use Rattle.closure.proofs.Marks.{marked_more, or_assoc}
use Rattle.programs.specs.Listed.{listed}
use Rattle.programs.proofs.Listing.{length-listed, listed_mark}
use Rattle.programs.proofs.mask_rule.methods.mask_of.Goals as goal

pub loop-atom-init : goal.loop-atom-init
loop-atom-init c k below = ap (λ s. get_or s k false || among k c.args.atoms.now) c.clear-set.ensures ∙ ap (λ b. b || among k c.args.atoms.now) (get_or-replicate 96 k false false below)

pub loop-atom-preserved : goal.loop-atom-preserved
loop-atom-preserved c k below =
    let atoms = c.args.atoms.now in
    let i = c.loop-atom.atom-index in
    let was = bit_row c.loop-atom.set.bits in
    let rest = among k (drop (i + 1) atoms) in
    ap (λ s. get_or s k false || rest) c.with-set.ensures
    ∙ ap (λ b. b || rest) (marked_more was (get_or atoms i 0) k (omega (arith, below, length-bit_row c.loop-atom.set.bits)))
    ∙ or_assoc (get_or was k false) (eqb k (get_or atoms i 0)) rest
    ∙ ap (λ b. get_or was k false || b) (sym (at_drop_more (among k) atoms i 0 c.loop-atom-test.true))
    ∙ c.loop-atom.invariant k below

pub returns : goal.returns
returns c =
    let set = c.loop-atom.set in
    let atoms = c.args.atoms.now in
    ext_get_or false (bit_row set.bits) (listed atoms) (length-bit_row set.bits ∙ sym (length-listed atoms))
    (λ k less.
    let below : k < 96 = omega (arith, less, length-bit_row set.bits) in
    sym (ap (λ b. get_or (bit_row set.bits) k false || b) (at_drop_all (among k) atoms c.loop-atom.atom-index c.loop-atom-test.false) ∙ or-false (get_or (bit_row set.bits) k false))
    ∙ c.loop-atom.invariant k below ∙ sym (listed_mark atoms k below))
