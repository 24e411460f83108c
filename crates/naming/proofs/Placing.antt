-- Every entry of the table of atoms stands where it says.
use Rattle.std.proofs.Common.{◌≡◌, ℕ, ◌+◌, ◌≤◌, List, [], ◌++◌, length, take, drop, Ok, Result, sym, refl, ap, ◌∙◌, subst, arith}
use Rattle.std.specs.List.{AllByRecursion}
use Rattle.std.proofs.lemmas.List.{drop-drop, drop_at, take_at}
use Rattle.refusals.specs.declared.fault.Text.{Text}
use Rattle.refusals.specs.declared.fault.Text.TheVariants.{Plan, Faults, Site}
use Rattle.refusals.specs.declared.fault.Fault.{Fault}
use Rattle.reading.specs.Lexical.{name, lexed, token}
use Rattle.reading.specs.Loads.{Three, ThreeRead, plan_refused, faults_refused, site_refused, all_read}
use Rattle.reading.proofs.Growing.{text_all}
use Rattle.reading.proofs.Limiting.{err_ok, ok_same}
use Rattle.grammar.proofs.Lexing.{token_next, next_long}
use Rattle.naming.specs.Named.{bytes_of, Placed}

-- a name that is cut from a text is the part of it that starts there
module _ (t : Text) (text : List ℕ) (from at after : ℕ) (n : List ℕ) (e : lexed text from ≡ token at after (name n)) where
  part_at : n ≡ take (length n) (drop at text)
  part_at =
      let next = token_next text from t e in
      let here : drop at text ≡ n ++ drop after text = ap (λ k. drop k text) next.starts ∙ sym (drop-drop (length next.blank) from text) ∙ ap (drop (length next.blank)) next.bytes ∙ drop_at next.blank (n ++ drop after text) (length next.blank) refl in
      sym (ap (take (length n)) here ∙ take_at n (drop after text) (length n) refl)

  part_within : at + length n ≤ length text
  part_within = let next = token_next text from t e in omega (arith, next_long text from next)

module _ (p f s : List ℕ) where
  stands : (t : Text) (from at after : ℕ) (n : List ℕ) → lexed (bytes_of t p f s) from ≡ token at after (name n) → Placed p f s (record { text = t; at = at; name = n })
  stands t from at after n e = record { within = part_within t (bytes_of t p f s) from at after n e; part = part_at t (bytes_of t p f s) from at after n e }

  all_placed : {r : Result Three Fault} (t : Three) → ThreeRead p f s r → r ≡ Ok t → AllByRecursion (Placed p f s) t.atoms
  all_placed t (plan_refused h) is = absurd (err_ok is)
  all_placed t (faults_refused d g h) is = absurd (err_ok is)
  all_placed t (site_refused d d' g h k) is = absurd (err_ok is)
  all_placed t (all_read d d' d'' g h k) is =
      let plan = text_all (Placed p f s) Plan p (stands Plan) [] d g tt in
      let faults = text_all (Placed p f s) Faults f (stands Faults) d.atoms d' h plan in
      let site = text_all (Placed p f s) Site s (stands Site) d'.atoms d'' k faults in
      subst (λ (x : Three). AllByRecursion (Placed p f s) x.atoms) (ok_same is) site

  -- the table of texts that are read
  pub placed : (t : Three) → ThreeRead p f s (Ok t) → AllByRecursion (Placed p f s) t.atoms
  placed t h = all_placed t h refl
