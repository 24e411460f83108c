use Rattle.std.proofs.Common.{◌≡◌, true, false, cond, Bool, nat_lt, List, ℕ, length, None, Option, IsUtf8, sym, refl, ap, ◌∙◌, subst}
use Rattle.std.specs.Str.{is_utf8}
use Rattle.std.proofs.lemmas.Bool.{le-ltb}
use Rattle.std.proofs.lemmas.Str.{IsUtf8-from_is_utf8, is_utf8-from_IsUtf8}
use Rattle.desk_text.specs.Commands.{Said, ReadOf, text_said, bytes_said}
use Rattle.desk_text.proofs.command.read_line.Goals as goal

-- bytes that are few and UTF-8 say what the text says
as_text : (bytes : List ℕ) → nat_lt 4096 (length bytes) ≡ false → IsUtf8 bytes → bytes_said bytes ≡ text_said bytes
as_text bytes few utf8 = rw (few, is_utf8-from_IsUtf8 bytes utf8) refl

unsaid : (test : Bool) (x : Option Said) → (test ≡ true → ⊥) → cond test x None ≡ None
unsaid true x no' = absurd (no' refl)
unsaid false x no' = refl

pub returns-in-Ok : goal.returns-in-Ok
returns-in-Ok c =
    let text = c.line_text-text.result.now in
    let is = c.in-Ok.ensures.cases in
    let whole = ap bytes_said (sym c.line_text-text.ensures) ∙ as_text text (le-ltb 4096 (length text) c.if-text-gt-LONGEST.false) is.1 ∙ ap text_said (sym is.0) in
    subst (λ s. ReadOf s c.read_text.result) (sym whole) c.read_text.ensures

pub returns-in-Err : goal.returns-in-Err
returns-in-Err c =
    let text = c.line_text-text.result.now in
    let torn = c.in-Err.ensures.cases.0 in
    let few = le-ltb 4096 (length text) c.if-text-gt-LONGEST.false in
    ap bytes_said (sym c.line_text-text.ensures)
    ∙ ap (λ b. cond b None (cond (is_utf8 text) (text_said text) None)) few
    ∙ unsaid (is_utf8 text) (text_said text) (λ e. torn (IsUtf8-from_is_utf8 text e))
