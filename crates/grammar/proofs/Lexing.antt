-- What comes next in a text from a place on: which bytes it is spelled by.
use Rattle.std.proofs.Common.{◌≡◌, ℕ, ◌+◌, ◌<◌, ◌≤◌, false, List, [], ◌∷◌, ◌++◌, length, drop, Some, sym, refl, ap, ◌∙◌, subst, append-nil, arith, length-append, length-drop}
use Rattle.std.proofs.lemmas.List.{drop-drop, drop_at}
use Rattle.refusals.specs.declared.fault.Text.{Text}
use Rattle.refusals.specs.declared.fault.Fault.{Fault}
use Rattle.reading.specs.Lexical.{gap, Word, end, token, front, lexed}
use Rattle.reading.specs.Tokens.{lexical_fault}
use Rattle.grammar.specs.Spelling.{Gap, LastGap, spelling, Proper, Ends}
use Rattle.grammar.proofs.Never.{never}
use Rattle.grammar.proofs.Gaps.{gap_over, gap_last, gap_clear, Clear, Begins, clear, last, begins}
use Rattle.grammar.proofs.Fronts.{front_spelled, spelled_clear, spelled_long, Front, spelled, refused, front_of}

module _ (text : List ℕ) (from : ℕ) where
  past : (g rest : List ℕ) → drop from text ≡ g ++ rest → drop (from + length g) text ≡ rest
  past g rest e = sym (drop-drop (length g) from text) ∙ ap (drop (length g)) e ∙ drop_at g rest (length g) refl

  -- the front comes after the gap
  lexed_front : (g rest : List ℕ) → drop from text ≡ g ++ rest → gap false (g ++ rest) ≡ length g → lexed text from ≡ front (from + length g) rest
  unfolding lexed
  lexed_front g rest e n = ap (λ k. front (from + k) (drop (from + k) text)) (ap (gap false) e ∙ n) ∙ ap (front (from + length g)) (past g rest e)

  lexed_clear : {g : List ℕ} (rest : List ℕ) → drop from text ≡ g ++ rest → Gap g → Clear rest → lexed text from ≡ front (from + length g) rest
  lexed_clear {g} rest e h c = let over = gap_over h rest in let none = gap_clear rest c in lexed_front g rest e (omega arith)

  pub lexed_last : LastGap (drop from text) → lexed text from ≡ end
  lexed_last h = lexed_front (drop from text) [] (sym (append-nil (drop from text))) (ap (gap false) (append-nil (drop from text)) ∙ gap_last h)

  -- a token is spelled next
  pub record Next (w : Word) (at after : ℕ) : Type 0 where
    pub blank : List ℕ
    pub skips : Gap blank
    pub proper : Proper w
    pub ends : Ends w (drop after text)
    pub bytes : drop from text ≡ blank ++ (spelling w ++ drop after text)
    pub starts : at ≡ from + length blank
    pub stops : after ≡ at + length (spelling w)

  pub past_word : (g : List ℕ) (w : Word) (rest : List ℕ) → drop from text ≡ g ++ (spelling w ++ rest) → drop (from + length g + length (spelling w)) text ≡ rest
  past_word g w rest e =
      sym (drop-drop (length (spelling w)) (from + length g) text) ∙ ap (drop (length (spelling w))) (past g (spelling w ++ rest) e) ∙ drop_at (spelling w) rest (length (spelling w)) refl

  pub next : {g : List ℕ} {w : Word} (rest : List ℕ) → drop from text ≡ g ++ (spelling w ++ rest) → Gap g → Proper w → Ends w rest → Next w (from + length g) (from + length g + length (spelling w))
  next {g} {w} rest e h p s = let after = past_word g w rest e in record { blank = g; skips = h; proper = p; ends = rw after s; bytes = rw after e; starts = refl; stops = refl }

  pub lexed_next : {w : Word} {at after : ℕ} → Next w at after → lexed text from ≡ token at after w
  lexed_next {w} {at} {after} n =
      lexed_clear (spelling w ++ drop after text) n.bytes n.skips (spelled_clear w (drop after text) n.proper)
      ∙ front_spelled w (drop after text) (from + length n.blank) n.proper n.ends
      ∙ rw (n.stops, n.starts)

  -- reading goes on, and stays in the text
  pub next_long : {w : Word} {at after : ℕ} → Next w at after → (from < after) × (after ≤ length text)
  next_long {w} {at} {after} n =
      let whole : length (drop from text) ≡ length n.blank + (length (spelling w) + length (drop after text)) = ap length n.bytes ∙ simp length-append in
      let left = length-drop from text in
      let some = spelled_long w n.proper in
      omega arith

  -- what comes next: a token that is spelled, the end, or what is refused
  pub data Comes (t : Text) : Type 0 where
    a_token : {w : Word} {at after : ℕ} → lexed text from ≡ token at after w → Next w at after → Comes t
    the_end : lexed text from ≡ end → LastGap (drop from text) → Comes t
    neither : (f : Fault) → lexical_fault t (lexed text from) ≡ Some f → Comes t

  comes_front : (t : Text) {g : List ℕ} (rest : List ℕ) → drop from text ≡ g ++ rest → Gap g → Clear rest → Front rest → Comes t
  comes_front t {g} rest e h c (spelled w more i p s) = let n = next {w = w} more (e ∙ ap (λ l. g ++ l) i) h p s in a_token (lexed_next n) n
  comes_front t {g} rest e h c (refused r) = let f = r t (from + length g) in neither f.0 (ap (lexical_fault t) (lexed_clear rest e h c) ∙ f.1)

  comes_from : (t : Text) {bs : List ℕ} → drop from text ≡ bs → Begins false bs → Comes t
  comes_from t e (clear [] h c) = absurd c
  comes_from t e (clear (b ∷ rest) h c) = comes_front t (b ∷ rest) e h c (front_of b rest)
  comes_from t e (last l) = let l' = subst LastGap (sym e) l in the_end (lexed_last l') l'

  pub comes : (t : Text) → Comes t
  comes t = comes_from t refl (begins false (drop from text))

  -- a token that is read is spelled
  pub token_next : {w : Word} {at after : ℕ} → Text → lexed text from ≡ token at after w → Next w at after
  token_next {w} {at} {after} t e = go (comes t)
    where
      go : Comes t → Next w at after
      go (a_token {w = v} {at = at'} {after = after'} f n) =
          let same_word : v ≡ w = cc in
          let same_start : at' ≡ at = cc in
          let same_stop : after' ≡ after = cc in
          rw (← same_word, ← same_start, ← same_stop) n
      go (the_end f l) = never (cc)
      go (neither f g) = let i : lexical_fault t (token at after w) ≡ Some f = ap (lexical_fault t) (sym e) ∙ g in never (cc)

  -- an end that is read is a last gap
  pub end_last : Text → lexed text from ≡ end → LastGap (drop from text)
  end_last t e = go (comes t)
    where
      go : Comes t → LastGap (drop from text)
      go (a_token f n) = never (cc)
      go (the_end f l) = l
      go (neither f g) = let i : lexical_fault t end ≡ Some f = ap (lexical_fault t) (sym e) ∙ g in never (cc)
