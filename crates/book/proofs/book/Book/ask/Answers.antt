use Rattle.std.proofs.Common.{sym, refl, ap, ◌∙◌, subst}
use Rattle.std.proofs.lemmas.Bool.Decides.{not_from_Decides}
use Rattle.programs.specs.Programs.{rules_of}
use Rattle.runs.specs.Book.{Goes, ask, refused, nothing_loaded, too_many_heads, ask_unloaded, ask_too_many, told, new_book}
use Rattle.runs.proofs.Keeping.{some_is}
use Rattle.book.specs.Answers.{verdict_model, coherence_model}
use Rattle.book.specs.Asks.{Over, coherence_by}
use Rattle.book.specs.Models.{texts_from}
use Rattle.book.specs.Opened.{open_book}
use Rattle.book.specs.Showing.{some_winner}
use Rattle.book.specs.Books.{open_or_new}
use Rattle.book.proofs.Calls.{at_open, at_new}
use Rattle.book.proofs.Showings.{readable, told_goes}
use Rattle.book.proofs.book.Book.ask.Goals as goal

pub returns-in_default : goal.returns-in_default
returns-in_default g c =
    let f = g.F.Finder.meaning c.args.finder.now in
    record {
      goes = at_new (λ b. Goes (ask f) b (refused nothing_loaded) (open_or_new c.take.new.self)) c.args.self.now.open (sym c.take.ensures.value ∙ c.in_default.is)
          (at_new (λ b. Goes (ask f) new_book (refused nothing_loaded) b) c.take.new.self c.take.ensures.after (ask_unloaded refl));
      row = refl;
    }

pub returns-then-has_more_heads : goal.returns-then-has_more_heads
returns-then-has_more_heads g c =
    let f = g.F.Finder.meaning c.args.finder.now in
    let o = c.in-Some.open in
    record {
      goes = at_open (λ b. Goes (ask f) b (refused too_many_heads) (open_book o)) c.args.self.now.open o (sym c.take.ensures.value ∙ c.in-Some.is)
          (ask_too_many (texts_from o.loaded) refl (subst (λ n. Over n (rules_of o.loaded.plan) (rules_of o.loaded.faults)) (c.MOST.ensures ∙ sym (g.met.F.Finder.most_is c.args.finder.now)) (c.has_more_heads.ensures.0 c.if-has_more_heads.true)));
      row = refl;
    }

pub asked-open-requires : goal.asked-open-requires
asked-open-requires g c over =
    let o = c.in-Some.open in
    not_from_Decides c.has_more_heads.result c.has_more_heads.ensures c.if-has_more_heads.false (subst (λ n. Over n (rules_of o.loaded.plan) (rules_of o.loaded.faults)) (g.met.F.Finder.most_is c.args.finder.now ∙ sym c.MOST.ensures) over)

pub returns : goal.returns
returns g c =
    let f = g.F.Finder.meaning c.args.finder.now in
    let o = c.in-Some.open in
    let o' = c.asked-open.result in
    let t = texts_from o.loaded in
    let a = c.told-told.result in
    let tells = c.told-told.ensures in
    record {
      goes = at_open (λ b. Goes (ask f) b (told (verdict_model a.verdict) (coherence_model a.coherence) a.pairs a.struck c.row.result.marks) (open_book o')) c.args.self.now.open o (sym c.take.ensures.value ∙ c.in-Some.is)
          (told_goes f t (open_book o) (open_book o') refl (λ over. not_from_Decides c.has_more_heads.result c.has_more_heads.ensures c.if-has_more_heads.false (subst (λ n. Over n (rules_of o.loaded.plan) (rules_of o.loaded.faults)) (g.met.F.Finder.most_is c.args.finder.now ∙ sym c.MOST.ensures) over)) c.asked-open.ensures (readable o.loaded) o.kept _ _ _ _ _ tells.verdict (tells.coherence ∙ ap (λ s. coherence_by s (some_winner (open_book o').shown (open_book o').struck)) (ap (λ x. x.side) (some_is c.asked-open.ensures.texts))) tells.pairs tells.struck c.row.ensures);
      row = tt;
    }
