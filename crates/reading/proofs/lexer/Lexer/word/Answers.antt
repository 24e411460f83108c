use Rattle.std.proofs.Common.{rules, ◌≡◌, suc, ◌+◌, ◌-◌, false, take, drop, codes, sym, ap, ◌∙◌, arith}
use Rattle.std.specs.Str.{bytes_eq}
use Rattle.reading.specs.Lexical.{run}
use Rattle.reading.proofs.Lexing.{run_rest, word_name}
use Rattle.reading.proofs.lexer.Lexer.word.Goals as goal

pub slice_bounds-word-end : goal.slice_bounds-word-end
slice_bounds-word-end c =
    let lexer = c.args.self.now in
    let ends = run_rest lexer.bytes.now (lexer.at + 1) _ (omega arith) c.run-length.ensures in
    search (rules, ends)

pub returns-then-length-gt-LONGEST_NAME : goal.returns-then-length-gt-LONGEST_NAME
returns-then-length-gt-LONGEST_NAME c =
    let lexer = c.args.self.now in
    let ends = run_rest lexer.bytes.now (lexer.at + 1) _ (omega arith) c.run-length.ensures in
    search (rules, ends)

pub returns-then-eq : goal.returns-then-eq
returns-then-eq c =
    let lexer = c.args.self.now in
    let ends = run_rest lexer.bytes.now (lexer.at + 1) _ (omega arith) c.run-length.ensures in
    search (rules, ends)

pub returns : goal.returns
returns c =
    let lexer = c.args.self.now in
    let ends = run_rest lexer.bytes.now (lexer.at + 1) _ (omega arith) c.run-length.ensures in
    let word = drop lexer.at lexer.bytes.now in
    let n = suc (run (drop (lexer.at + 1) lexer.bytes.now)) in
    let after = lexer.at + (1 + c.run-length.result) in
    let size : after - lexer.at ≡ n = omega (arith, ends.0) in
    let other : bytes_eq (take (after - lexer.at) word) (codes "not") ≡ false = ap (bytes_eq (take (after - lexer.at) word)) (sym c.as_slice.ensures) ∙ sym c.eq.ensures ∙ c.if-eq.false in
    word_name lexer.at n after word (omega (arith, ends.0)) (omega (arith, ends.0, c.if-length-gt-LONGEST_NAME.false)) (ap (λ k. bytes_eq (take k word) (codes "not")) (sym size) ∙ other)
