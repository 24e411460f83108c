use Rattle.std.proofs.Common.{◌≡◌, ◌≤◌, length, Some, Ok, Err, vec_items, sym, ap, ◌∙◌, subst, inl, inr, ⊎_elim, arith}
use lib.ListN.{length-map}
use Rattle.std.proofs.lemmas.Result.{err_from_is_err_and}
use Rattle.reading.specs.Lexical.{lexed}
use Rattle.reading.specs.Tokens.{Tells, word_of, lexical_fault}
use Rattle.reading.specs.Tables.{standing, standings_of}
use Rattle.reading.specs.Steps.{ended, Reads, ends, no_word, refused, goes}
use Rattle.reading.specs.States.{state_of}
use Rattle.reading.specs.Within.{Within}
use Rattle.reading.proofs.Limiting.{step_within, fresh_within}
use Rattle.reading.proofs.Running.{read_short, as_fresh, finished}
use Rattle.reading.proofs.text.read_text.Goals as goal

pub loop-draft-init : goal.loop-draft-init
loop-draft-init c =
    let few : length (standings_of c.args.atoms) ≤ 96 = omega (arith, length-map (vec_items c.args.atoms.entries) standing, c.args.atoms.entries.ok.0, c.args.atoms.few) in (
      c.new-lexer.ensures.text,
      c.new-lexer.ensures.bytes,
      subst Within (sym c.new-draft.ensures) (fresh_within _ few),
      λ r h. subst (λ at. Reads c.args.text c.args.bytes.now at (state_of c.new-draft.result) r) c.new-lexer.ensures.at h,
    )

pub returns-in_err-spot : goal.returns-in_err-spot
returns-in_err-spot c =
    let p = err_from_is_err_and c.from_residual.result c.from_residual.ensures.1 in
    let text = c.args.bytes.now in
    let t = c.args.text in
    let lexer = c.loop-draft.lexer in
    let fault : lexical_fault t (lexed text lexer.at) ≡ Some p.0 =
    ap (λ u. lexical_fault u (lexed text lexer.at)) (sym c.loop-draft.invariant.0) ∙ ap (λ bs. lexical_fault lexer.text (lexed bs lexer.at)) (sym c.loop-draft.invariant.1) ∙ c.in_err-spot.ensures.tells ∙ ap Some (sym p.2) in
    let before = standings_of c.args.atoms in
    let whole = as_fresh t text before (state_of c.new-draft.result) (Err p.0) c.new-draft.ensures (c.loop-draft.invariant.3 (Err p.0) (no_word p.0 fault)) in
    rw p.1 (inr (read_short t text before (Err p.0) c.if-bytes-gt-LONGEST_TEXT.false whole))

pub loop-draft-preserved : goal.loop-draft-preserved
loop-draft-preserved c =
    let at = c.loop-draft.lexer.at in
    let d = state_of c.loop-draft.draft in
    let d' = state_of c.take.new.self in
    let w = word_of c.in-Some.spot.token in
    let next = ap (λ bs. lexed bs at) (sym c.loop-draft.invariant.1) ∙ subst (λ o. Tells c.loop-draft.lexer.text (lexed c.loop-draft.lexer.bytes.now at) c.next.new.self.at (Ok o)) c.in-Some.is c.in_ok-spot.ensures.tells in (
      c.next.ensures.text ∙ c.loop-draft.invariant.0,
      ap (λ b. b.now) c.next.ensures.bytes ∙ c.loop-draft.invariant.1,
      step_within _ _ d w d' c.loop-draft.invariant.2 c.in_ok-take.ensures,
      λ r h. c.loop-draft.invariant.3 r (goes c.in-Some.spot.at c.next.new.self.at w d' next c.in_ok-take.ensures h),
    )

pub returns-in_err-take : goal.returns-in_err-take
returns-in_err-take c =
    let p = err_from_is_err_and c.from_residual-in_err-take.result c.from_residual-in_err-take.ensures.1 in
    let text = c.args.bytes.now in
    let t = c.args.text in
    let at = c.loop-draft.lexer.at in
    let w = word_of c.in-Some.spot.token in
    let next = ap (λ bs. lexed bs at) (sym c.loop-draft.invariant.1) ∙ subst (λ o. Tells c.loop-draft.lexer.text (lexed c.loop-draft.lexer.bytes.now at) c.next.new.self.at (Ok o)) c.in-Some.is c.in_ok-spot.ensures.tells in
    rw p.1
    (⊎_elim (λ none. inl (p.2 ∙ none, c.if-bytes-gt-LONGEST_TEXT.false))
    (λ fault.
    let before = standings_of c.args.atoms in
    let whole = as_fresh t text before (state_of c.new-draft.result) (Err p.0) c.new-draft.ensures (c.loop-draft.invariant.3 (Err p.0) (refused c.in-Some.spot.at c.next.new.self.at w p.0 next (fault ∙ ap Err (sym p.2)))) in
    inr (read_short t text before (Err p.0) c.if-bytes-gt-LONGEST_TEXT.false whole))
    c.in_err-take.ensures)

pub returns : goal.returns
returns c =
    let text = c.args.bytes.now in
    let t = c.args.text in
    let at = c.loop-draft.lexer.at in
    let d = state_of c.loop-draft.draft in
    let next = ap (λ bs. lexed bs at) (sym c.loop-draft.invariant.1) ∙ subst (λ o. Tells c.loop-draft.lexer.text (lexed c.loop-draft.lexer.bytes.now at) c.next.new.self.at (Ok o)) c.in_default.is c.in_ok-spot.ensures.tells in
    let before = standings_of c.args.atoms in
    let whole = as_fresh t text before (state_of c.new-draft.result) (ended t (length text) d) c.new-draft.ensures (c.loop-draft.invariant.3 (ended t (length text) d) (ends next)) in
    finished t text before (ended t (length text) d) c.finish.result c.finish.ensures (read_short t text before (ended t (length text) d) c.if-bytes-gt-LONGEST_TEXT.false whole)
