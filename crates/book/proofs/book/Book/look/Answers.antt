use Rattle.std.proofs.Common.{◌≡◌, ◌≢◌, ℕ, Some, Option, sym, refl, subst}
use Rattle.std.proofs.lemmas.Result.{err_from_is_err_and}
use Rattle.runs.specs.Book.{Answer, Goes, look, refused, nothing_loaded, look_unloaded, look_nowhere}
use Rattle.book.specs.Answers.{refusal_model}
use Rattle.book.specs.Models.{texts_from}
use Rattle.book.specs.Opened.{open_book}
use Rattle.book.specs.Books.{open_or_new}
use Rattle.book.specs.declared.open.Open.{Open}
use Rattle.book.specs.declared.told.Refusal.{Refusal}
use Rattle.book.specs.declared.told.Refusal.TheVariants.{NoEntry}
use Rattle.book.proofs.Calls.{at_open, at_new}
use Rattle.book.proofs.book.Book.look.Goals as goal

pub returns-in_default : goal.returns-in_default
returns-in_default c = record { goes = at_new (λ b. Goes (look c.args.kind c.args.place) b (refused nothing_loaded) b) c.args.self.now.open c.in_default.is (look_unloaded refl); first = refl; second = refl }

-- the book is open
module _ (self : Option Open) (o : Open) (is : self ≡ Some o) (place : ℕ) where
  looked : (k n : ℕ) (a : Answer) → n ≡ k → Goes (look k place) (open_book o) a (open_book o) → Goes (look n place) (open_or_new self) a (open_or_new self)
  looked k n a e goes = at_open (λ b. Goes (look n place) b a b) self o is (subst (λ m. Goes (look m place) (open_book o) a (open_book o)) (sym e) goes)

  unnamed : (n : ℕ) (e : Refusal) → (e ≡ NoEntry) × (n ≢ 1) × (n ≢ 2) → Goes (look n place) (open_or_new self) (refused (refusal_model e)) (open_or_new self)
  unnamed n e (named, first, second) =
      at_open (λ b. Goes (look n place) b (refused (refusal_model e)) b) self o is
      (subst (λ r. Goes (look n place) (open_book o) (refused (refusal_model r)) (open_book o)) (sym named) (look_nowhere (texts_from o.loaded) refl (λ k. absurd (first k)) (λ k. absurd (second k))))

pub returns-in_err-kind : goal.returns-in_err-kind
returns-in_err-kind c =
    let p = err_from_is_err_and c.from_residual.result c.from_residual.ensures.1 in
    rw (p.1, p.2)
    record {
      goes = unnamed c.args.self.now.open c.in-Some.open c.in-Some.is c.args.place c.args.kind c.in_err-kind.field-0.0 c.in_err-kind.ensures;
      first = refl;
      second = refl;
    }
