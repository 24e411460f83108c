-- Blanks and comments: how far they go, and that every list of bytes begins with as many as it can.
use Rattle.std.proofs.Common.{◌≡◌, ℕ, ◌+◌, Bool, true, false, eqb, List, [], ◌∷◌, ◌++◌, length, sym, refl, ap, ◌∙◌, subst, append_assoc, append-nil, add-zero, zero-add, arith, length-append}
use Rattle.std.specs.List.{AllByRecursion}
use Rattle.std.proofs.lemmas.Bool.{eqb-true, eqb-false, ne_eqb, cond-true, cond-false}
use Rattle.reading.specs.Classes.{blank}
use Rattle.reading.specs.Lexical.{gap}
use Rattle.grammar.specs.Spelling.{Gap, none, blanks, comment, LastGap, plainly, in_comment}

-- the inside of a comment
abbrev pub NoFeed : List ℕ → Type 0
NoFeed cs = AllByRecursion (λ c. c ≡ 10 → ⊥) cs

gap_comment : (cs rest : List ℕ) → NoFeed cs → gap true (cs ++ rest) ≡ length cs + gap true rest
gap_comment [] rest n = sym (zero-add (gap true rest))
gap_comment (c ∷ cs) rest n = let ih = gap_comment cs rest n.1 in rw (ne_eqb c 10 n.0) (omega arith)

pub gap_over : {g : List ℕ} → Gap g → (rest : List ℕ) → gap false (g ++ rest) ≡ length g + gap false rest
gap_over none rest = sym (zero-add (gap false rest))
gap_over (blanks {b} {bs} e g) rest = cond-true (blank b) _ _ e ∙ (let ih = gap_over g rest in omega arith)
gap_over (comment {bs} cs n g) rest =
    let over = gap_comment cs (10 ∷ (bs ++ rest)) n in
    let ih = gap_over g rest in
    let long = length-append cs (10 ∷ bs) in
    rw (append_assoc cs (10 ∷ bs) rest) (omega arith)

-- a last gap goes to the end
pub gap_last : {bs : List ℕ} → LastGap bs → gap false bs ≡ length bs
gap_last (plainly {bs} g) = ap (gap false) (sym (append-nil bs)) ∙ gap_over g [] ∙ add-zero (length bs)
gap_last (in_comment {bs} cs g n) =
    let before = gap_over g (37 ∷ cs) in
    let open' : gap true cs ≡ length cs = ap (gap true) (sym (append-nil cs)) ∙ gap_comment cs [] n ∙ add-zero (length cs) in
    let long = length-append bs (37 ∷ cs) in
    omega arith

-- no gap begins here, and there is something
abbrev pub Clear : List ℕ → Type 0
Clear [] = ⊥
Clear (b ∷ bs) = (blank b ≡ false) × (eqb b 37 ≡ false)

pub gap_clear : (bs : List ℕ) → Clear bs → gap false bs ≡ 0
gap_clear [] c = absurd c
gap_clear (b ∷ bs) c = cond-false (blank b) _ _ c.0 ∙ cond-false (eqb b 37) _ _ c.1

-- how a list of bytes begins, inside a comment or outside
pub data Begins : Bool → List ℕ → Type 0 where
  clear : {g : List ℕ} (rest : List ℕ) → Gap g → Clear rest → Begins false (g ++ rest)
  last : {bs : List ℕ} → LastGap bs → Begins false bs
  closed : {bs : List ℕ} (cs : List ℕ) → NoFeed cs → Begins false bs → Begins true (cs ++ 10 ∷ bs)
  unclosed : {cs : List ℕ} → NoFeed cs → Begins true cs

blank_first : {b : ℕ} {bs : List ℕ} → blank b ≡ true → Begins false bs → Begins false (b ∷ bs)
blank_first e (clear rest g c) = clear rest (blanks e g) c
blank_first e (last (plainly g)) = last (plainly (blanks e g))
blank_first e (last (in_comment cs g n)) = last (in_comment cs (blanks e g) n)

after_comment : {bs : List ℕ} (cs : List ℕ) → NoFeed cs → Begins false bs → Begins false (37 ∷ (cs ++ 10 ∷ bs))
after_comment cs n (clear {g} rest h c) = subst (λ l. Begins false (37 ∷ l)) (append_assoc cs (10 ∷ g) rest) (clear rest (comment cs n h) c)
after_comment cs n (last (plainly g)) = last (plainly (comment cs n g))
after_comment cs n (last (in_comment {bs} ds g m)) = subst (λ l. Begins false (37 ∷ l)) (append_assoc cs (10 ∷ bs) (37 ∷ ds)) (last (in_comment ds (comment cs n g) m))

percent_first : {bs : List ℕ} → Begins true bs → Begins false (37 ∷ bs)
percent_first (closed cs n b) = after_comment cs n b
percent_first (unclosed {cs} n) = last (in_comment cs none n)

longer : {c : ℕ} {bs : List ℕ} → (c ≡ 10 → ⊥) → Begins true bs → Begins true (c ∷ bs)
longer {c} h (closed cs n b) = closed (c ∷ cs) (h, n) b
longer h (unclosed n) = unclosed (h, n)

outside : (b : ℕ) (bs : List ℕ) (x y : Bool) → blank b ≡ x → eqb b 37 ≡ y → Begins false bs → Begins true bs → Begins false (b ∷ bs)
outside b bs true y e f o i = blank_first e o
outside b bs false true e f o i = subst (λ c. Begins false (c ∷ bs)) (sym (eqb-true b 37 f)) (percent_first i)
outside b bs false false e f o i = clear (b ∷ bs) none (e, f)

inside : (b : ℕ) (bs : List ℕ) (x : Bool) → eqb b 10 ≡ x → Begins false bs → Begins true bs → Begins true (b ∷ bs)
inside b bs true e o i = subst (λ c. Begins true (c ∷ bs)) (sym (eqb-true b 10 e)) (closed [] tt o)
inside b bs false e o i = longer (eqb-false b 10 e) i

pub begins : (in? : Bool) (bs : List ℕ) → Begins in? bs
begins false [] = last (plainly none)
begins true [] = unclosed tt
begins false (b ∷ bs) = outside b bs (blank b) (eqb b 37) refl refl (begins false bs) (begins true bs)
begins true (b ∷ bs) = inside b bs (eqb b 10) refl (begins false bs) (begins true bs)
