use Rattle.std.proofs.Common.{◌+◌, Some, sym, ap, ◌∙◌, arith, rules}
use Rattle.std.proofs.lemmas.Result.{err_from_is_err_and}
use Rattle.reading.specs.Tokens.{lexical_fault}
use Rattle.reading.proofs.Lexing.{gap_rest, front_end, lexed_at, token_ends}
use Rattle.reading.proofs.lexer.Lexer.next.Goals as goal

pub overflow_add-self : goal.overflow_add-self
overflow_add-self c =
    let past = gap_rest c.args.self.now.bytes.now c.args.self.now.at _ c.args.self.now.inside c.gap.ensures in
    search (rules, past)

pub invariant_of-self : goal.invariant_of-self
invariant_of-self c = record { inside = (gap_rest c.args.self.now.bytes.now c.args.self.now.at _ c.args.self.now.inside c.gap.ensures).1 }

pub returns-then-at-self-clause-tells : goal.returns-then-at-self-clause-tells
returns-then-at-self-clause-tells c =
    let bs = c.args.self.now.bytes.now in
    let past = gap_rest bs c.args.self.now.at _ c.args.self.now.inside c.gap.ensures in
    lexed_at bs c.args.self.now.at _ (ap (λ n. c.args.self.now.at + n) past.0) ∙ front_end bs _ _ (omega (arith, c.if-at-self.true))

pub returns-in_err-token-clause-tells : goal.returns-in_err-token-clause-tells
returns-in_err-token-clause-tells c =
    let p = err_from_is_err_and c.from_residual.result c.from_residual.ensures.1 in
    let bs = c.args.self.now.bytes.now in
    let past = gap_rest bs c.args.self.now.at _ c.args.self.now.inside c.gap.ensures in
    let next = ap (lexical_fault c.args.self.now.text) (lexed_at bs c.args.self.now.at _ (ap (λ n. c.args.self.now.at + n) past.0)) in
    rw p.1 (next ∙ c.in_err-token.ensures ∙ ap Some (sym p.2))

pub invariant_of-self-2 : goal.invariant_of-self-2
invariant_of-self-2 c =
    let past = gap_rest c.args.self.now.bytes.now c.args.self.now.at _ c.args.self.now.inside c.gap.ensures in
    record { inside = token_ends c.args.self.now.bytes.now _ _ _ past.1 c.in_ok-token.ensures }

pub returns-clause-tells : goal.returns-clause-tells
returns-clause-tells c =
    let bs = c.args.self.now.bytes.now in
    let past = gap_rest bs c.args.self.now.at _ c.args.self.now.inside c.gap.ensures in
    lexed_at bs c.args.self.now.at _ (ap (λ n. c.args.self.now.at + n) past.0) ∙ c.in_ok-token.ensures
