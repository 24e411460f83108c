use Rattle.std.proofs.Common.{◌≡◌, ℕ, Bool, List, ◌++◌, length, sym, refl, ap, ap₂, ◌∙◌, subst}
use lib.ListN.{length-map}
use Rattle.std.proofs.lemmas.Result.{on_ok_weaker}
use Rattle.loading.specs.Read.{three_of}
use Rattle.reading.specs.Tables.{standing, standings}
use Rattle.refusals.specs.Line.{line}
use Rattle.runs.specs.Book.{Book, Answer, load, done, refused, not_loaded, Goes}
use Rattle.book.specs.Books.{book_of}
use Rattle.desk_text.specs.Lines.{loaded_line}
use Rattle.desk_book.specs.Loaded.{Bytes, bytes_of}
use Rattle.desk_book.specs.Told.{rule_count, refused_so, loaded_so}
use Rattle.desk_book.proofs.Going.{load_leaves, of_bytes, still_loaded}
use Rattle.desk_book.proofs.Readings.{loaded_given}
use Rattle.desk_book.proofs.desk.Desk.load.Goals as goal

pub invariant_of-self : goal.invariant_of-self
invariant_of-self c =
    let w = bytes_of c.args.texts in
    let lent = c.lent.result in
    let b = book_of c.args.self.now.book in
    let b' = book_of c.load.new.self in
    let (plan, faults, site) = c.lent.ensures in
    let (m, goes) = of_bytes c.args.side w lent.plan.now lent.faults.now lent.site.now plan faults site b b' done c.in-Ok.ensures in
    let leaves = load_leaves m c.args.side w.plan w.faults w.site b b' done goes in
    record { kept = ∣ leaves.1 ∣₁ }

pub named-requires : goal.named-requires
named-requires c =
    let w = bytes_of c.args.texts in
    let lent = c.lent.result in
    let b = book_of c.args.self.now.book in
    let b' = book_of c.load.new.self in
    let (plan, faults, site) = c.lent.ensures in
    let (m, goes) = of_bytes c.args.side w lent.plan.now lent.faults.now lent.site.now plan faults site b b' done c.in-Ok.ensures in
    let leaves = load_leaves m c.args.side w.plan w.faults w.site b b' done goes in
    loaded_given b' w leaves.0.0 leaves.0.1 ∣ leaves.1 ∣₁

pub invariant_of-self-in-Err-1 : goal.invariant_of-self-in-Err-1
invariant_of-self-in-Err-1 c =
    let lent = c.lent.result in
    let b = book_of c.args.self.now.book in
    let b' = book_of c.load.new.self in
    let (m, goes) = c.in-Err.ensures in
    let stays = load_leaves m c.args.side lent.plan.now lent.faults.now lent.site.now b b' (refused (not_loaded c.in-Err.fault)) goes in
    record { kept = still_loaded b b' (bytes_of c.args.self.now.texts) stays c.args.self.now.kept }

pub returns-in_ok-texts-in-Ok : goal.returns-in_ok-texts-in-Ok
returns-in_ok-texts-in-Ok c =
    let w = bytes_of c.args.texts in
    let lent = c.lent.result in
    let b = book_of c.args.self.now.book in
    let b' = book_of c.load.new.self in
    let (plan, faults, site) = c.lent.ensures in
    let (m, goes) = of_bytes c.args.side w lent.plan.now lent.faults.now lent.site.now plan faults site b b' done c.in-Ok.ensures in
    let three = three_of c.in_ok-texts-in-Ok.texts in
    let entries = c.entries.result.now in
    let names = ap standings c.entries.ensures ∙ c.atoms.ensures in
    let atoms : length entries ≡ length three.atoms = sym (length-map entries standing) ∙ ap length names in (
      m,
      record {
        answer = done;
        goes = goes;
        bytes = refl;
        lines = on_ok_weaker c.add_loaded.result (λ lines. (loaded_line (rule_count three) (length three.atoms), loaded_so three c.in_ok-texts-in-Ok.ensures, lines ∙ ap₂ (λ r k. c.args.out.now.items ++ loaded_line r k) c.rule_count.ensures atoms)) c.add_loaded.ensures;
      },
    )

pub returns-in-Err : goal.returns-in-Err
returns-in-Err c =
    let lent = c.lent.result in
    let b = book_of c.args.self.now.book in
    let b' = book_of c.load.new.self in
    let (plan, faults, site) = c.lent.ensures in
    let a = refused (not_loaded c.in-Err.fault) in
    let (m, goes) = of_bytes c.args.side (bytes_of c.args.texts) lent.plan.now lent.faults.now lent.site.now plan faults site b b' a c.in-Err.ensures in (
      m,
      record {
        answer = a;
        goes = goes;
        bytes = refl;
        lines = on_ok_weaker c.add_fault.result (λ said. (line c.in-Err.fault, refused_so (not_loaded c.in-Err.fault), said)) c.add_fault.ensures;
      },
    )
