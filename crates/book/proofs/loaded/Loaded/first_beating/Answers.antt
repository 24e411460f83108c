use Rattle.std.proofs.lemmas.Bool.Decides.{not_from_Decides}
use Rattle.game.proofs.Listing.{lists_differ}
use Rattle.finders.proofs.Resting.{entry_listed}
use Rattle.book.proofs.Firsts.{found_here, not_here, fewer_left, none_left}
use Rattle.std.proofs.Common.{◌≡◌, Bool, Decides, subst}
use Rattle.game.specs.Sets.{Row}
use Rattle.game.specs.Game.{Texts, Holds, Refutes}
use Rattle.book.specs.Models.{texts_from}
use Rattle.book.proofs.loaded.Loaded.first_beating.Goals as goal

-- what is said of the masks is said of the rows
of_rows : (t : Texts) (m m' r r' : Row) (b : Bool) → m' ≡ m → r' ≡ r → Decides b (Refutes t.side (Holds t m' r')) → Decides b (Refutes t.side (Holds t m r))
of_rows t m m' r r' b e k d = subst (λ x. Decides b (Refutes t.side (Holds t x r))) e (subst (λ x. Decides b (Refutes t.side (Holds t m' x))) k d)

pub returns-then-refutes : goal.returns-then-refutes
returns-then-refutes g c =
    let lists = (g.F.Finder.meaning c.args.finder.now).law _ _ c.requires in
    let (ys, rest) = c.in-Some.ensures in
    let reply = lists.only _ (entry_listed _ (lists_differ lists) _ _ ys rest) in
    found_here _ _ (lists_differ lists) _ _ ys rest c.loop-reply.invariant.1 (reply, (of_rows (texts_from c.args.self.now) _ _ _ _ c.refutes.result c.of-mask.ensures c.of.ensures c.refutes.ensures).0 c.if-refutes.true)

pub loop-reply-smaller : goal.loop-reply-smaller
loop-reply-smaller g c =
    let lists = (g.F.Finder.meaning c.args.finder.now).law _ _ c.requires in
    let (ys, rest) = c.in-Some.ensures in
    fewer_left _ _ (lists_differ lists) _ _ ys rest c.loop-reply.invariant.1

pub loop-reply-preserved : goal.loop-reply-preserved
loop-reply-preserved g c =
    let lists = (g.F.Finder.meaning c.args.finder.now).law _ _ c.requires in
    let (ys, rest) = c.in-Some.ensures in
    (entry_listed _ (lists_differ lists) _ _ ys rest, not_here _ _ (lists_differ lists) _ _ ys rest c.loop-reply.invariant.1 (λ (_, refutes). not_from_Decides c.refutes.result (of_rows (texts_from c.args.self.now) _ _ _ _ c.refutes.result c.of-mask.ensures c.of.ensures c.refutes.ensures) c.if-refutes.false refutes))

pub returns : goal.returns
returns g c =
    let lists = (g.F.Finder.meaning c.args.finder.now).law _ _ c.requires in
    none_left _ _ (lists_differ lists) _ c.in_default.ensures c.loop-reply.invariant.1
