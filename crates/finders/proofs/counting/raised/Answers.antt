use Rattle.std.proofs.Common.{◌≡◌, ◌≤◌, false, length, get_or, sym, ap, ◌∙◌, subst, arith}
use Rattle.game.specs.Sets.{Row, In}
use Rattle.closure.specs.Rows.{minus}
use Rattle.finders.specs.Upward.{Next}
use Rattle.finders.proofs.Raising.{last_from, next_from}
use Rattle.finders.proofs.counting.raised.Goals as goal

pub returns-then-at : goal.returns-then-at
returns-then-at g c =
    let hs = c.args.heads.now.marks in
    let s = c.args.set.now.marks in
    let row = c.loop-place.row.marks in
    let p = c.loop-place.place in
    let wide : length row ≡ length hs = c.loop-place.row.wide ∙ sym c.args.heads.now.wide in
    let free : In p (minus hs s) = sym (ap (λ (m : Row). get_or m p false) c.minus-free.ensures) ∙ sym c.if-at.ensures in
    subst (λ (r : Row). Next hs s r) (sym c.with.ensures) (next_from hs s c.requires row p wide c.loop-place.invariant free)

pub returns : goal.returns
returns g c =
    let hs = c.args.heads.now.marks in
    let heads_wide = c.args.heads.now.wide in
    let past : length hs ≤ c.loop-place.place = omega (arith, heads_wide, c.loop-place-test.false) in
    last_from hs c.args.set.now.marks c.requires c.loop-place.row.marks c.loop-place.place past c.loop-place.invariant
