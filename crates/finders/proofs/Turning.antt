-- The sets after an entry, by the lowest place where they differ from it.
use Rattle.std.proofs.Common.{◌≡◌, ℕ, suc, ◌<◌, ◌≤◌, true, false, ltb, ◌⊎◌, List, length, get_or, set, sym, ◌∙◌, subst, inl, inr, ⊎_elim, arith}
use Rattle.std.proofs.lemmas.List.{get_or-set_same, get_or-set_other}
use Rattle.std.proofs.lemmas.Bool.{cases_Bool, cases_eq, cases_lt, both_ways, ltb-true, lt-ltb}
use Rattle.std.proofs.lemmas.Bool.Decides.{same_from_decides}
use Rattle.game.specs.Sets.{Row, In, union}
use Rattle.game.specs.Rules.{Rule, is_head}
use Rattle.game.specs.AnswerSets.{AnswerSet}
use Rattle.game.proofs.Rows.{in_row, row_passes, in_width}
use Rattle.closure.specs.Rows.{minus}
use Rattle.closure.proofs.Marks.{in_minus, minus_in, in_union, union_left, union_right}
use Rattle.finders.specs.Orders.{Lexical}
use Rattle.finders.specs.Jobs.{HeadsTaken}
use Rattle.finders.specs.Between.{Between, First, Follows, Turned}
use Rattle.finders.proofs.Closer.{in_both}

-- s and t agree below k, and t has k where s lacks it
abbrev pub Turns : Row → Row → ℕ → Type 0
Turns s t k = ((j : ℕ) → j < k → get_or s j false ≡ get_or t j false) × (get_or s k false ≡ false) × In k t

-- ## The bounds as the code makes them: p has the places below a, k what the entry has there

pub record Made (n : ℕ) (given heads entry p k : Row) (a : ℕ) (low high : Row) : Type 0 where
  pub inside : a < n
  pub entry_wide : length entry ≡ n
  pub heads_wide : length heads ≡ n
  pub union_wide : length (union k given) ≡ n
  pub places : (j : ℕ) → j < n → get_or p j false ≡ ltb j a
  pub k_is : k ≡ minus entry (minus entry p)
  pub low_is : low ≡ set (union k given) a true
  pub high_is : high ≡ union low (minus heads p)

module _ {n : ℕ} {given heads entry p k : Row} {a : ℕ} {low high : Row} (m : Made n given heads entry p k a low high) where
  kept_in : (j : ℕ) → In j (union k given) → In j low
  kept_in j h =
      subst (In j) (sym m.low_is)
      (⊎_elim (λ same. subst (λ i. In i (set (union k given) a true)) (sym same) (get_or-set_same (union k given) a true false (omega (arith, m.inside, m.union_wide)))) (λ differ. get_or-set_other (union k given) a j true false differ ∙ h) (cases_eq j a))

  kept_from : (j : ℕ) → In j k → (j < a) × In j entry
  kept_from j h =
      let (inside, left) = in_minus entry (minus entry p) j (subst (In j) m.k_is h) in
      (⊎_elim (λ marked. ltb-true j a (sym (m.places j (in_width entry m.entry_wide j inside)) ∙ marked)) (λ out. absurd (left (minus_in entry p j inside (both_ways (get_or p j false) out)))) (cases_Bool (get_or p j false)), inside)

  pub turned_from : Turned given heads entry a low high
  turned_from = record {
    around = λ j is-given. kept_in j (union_right k given j is-given);
    entry_in = λ j less inside. kept_in j (union_left k given j (subst (In j) (sym m.k_is) (in_both entry p j inside (m.places j (in_width entry m.entry_wide j inside) ∙ lt-ltb j a less))));
    turn_in = subst (In a) (sym m.low_is) (get_or-set_same (union k given) a true false (omega (arith, m.inside, m.union_wide)));
    low_from = λ j h. ⊎_elim (λ same. inr (inr same)) (λ differ. ⊎_elim (λ kept. inr (inl (kept_from j kept))) inl (in_union k given j (sym (get_or-set_other (union k given) a j true false differ) ∙ subst (In j) m.low_is h))) (cases_eq j a);
    ordered = λ j h. subst (In j) (sym m.high_is) (union_left low (minus heads p) j h);
    heads_in = λ j ge h. subst (In j) (sym m.high_is) (union_right low (minus heads p) j (minus_in heads p j h (λ below. let less = ltb-true j a (sym (m.places j (in_width heads m.heads_wide j h)) ∙ below) in omega arith)));
    high_from = λ j h. ⊎_elim inl (λ rest. inr (let (head, out) = in_minus heads p j rest in (⊎_elim (λ less. absurd (out (m.places j (in_width heads m.heads_wide j head) ∙ lt-ltb j a less))) (λ ge. ge) (cases_lt j a), head))) (in_union low (minus heads p) j (subst (In j) m.high_is h));
  }

-- ## The walk back from the entry

-- no answer set turns from the entry at a place from k on
abbrev pub NoneFrom : List Rule → Row → Row → ℕ → Type 0
NoneFrom rules given entry k = (z : Row) → AnswerSet rules given z → (j : ℕ) → k ≤ j → Turns entry z j → ⊥

module _ (n most : ℕ) (rules : List Rule) (given heads : Row) (known : HeadsTaken n most rules given heads) where
  -- an answer set is made of heads
  pub made_of_heads : (z : Row) → AnswerSet rules given z → (j : ℕ) → In j z → In j heads
  made_of_heads z answer j h = subst (In j) (sym known.are) (in_row n (is_head rules) j (in_width z (answer.width ∙ known.taken.width) j h) (answer.heads j h))

module _ (n most : ℕ) (rules : List Rule) (given heads entry : Row) (known : HeadsTaken n most rules given heads) (listed : AnswerSet rules given entry) where
  -- a member of an answer set that is with the given atoms in another is in the other
  own : (x : Row) (j : ℕ) → is_head rules j ≡ true → In j (union x given) → In j x
  own x j head h = ⊎_elim (λ inside. inside) (λ is-given. absurd (known.taken.apart j is-given head)) (in_union x given j h)

  none_more : (a : ℕ) → NoneFrom rules given entry (suc a) → ((z : Row) → AnswerSet rules given z → Turns entry z a → ⊥) → NoneFrom rules given entry a
  none_more a none here z answer j ge turns = ⊎_elim (λ same. here z answer (subst (Turns entry z) same turns)) (λ differ. none z answer j (omega (arith, differ)) turns) (cases_eq j a)

  -- a place that is no head, or that the entry has
  pub none_shut : (a : ℕ) → NoneFrom rules given entry (suc a) → (In a (minus heads entry) → ⊥) → NoneFrom rules given entry a
  none_shut a none shut = none_more a none (λ z answer (agree, out, inside). shut (minus_in heads entry a (made_of_heads n most rules given heads known z answer a inside) (both_ways (get_or entry a false) out)))

  pub none_after : NoneFrom rules given entry 0 → (z : Row) → Follows rules given entry z → ⊥
  none_after none z f = let (j, agree, out, inside) = f.later in none z f.answer j (omega arith) (agree, out, inside)

  module _ (a : ℕ) (low high : Row) (t : Turned given heads entry a low high) where
    turns_between : (z : Row) → AnswerSet rules given z → Turns entry z a → Between rules given low high z
    turns_between z answer (agree, out, inside) = record {
      answer = answer;
      above = λ j h. ⊎_elim (union_right z given j) (⊎_elim (λ (less, had). union_left z given j (sym (agree j less) ∙ had)) (λ same. union_left z given j (subst (λ i. In i z) (sym same) inside))) (t.low_from j h);
      below = λ j h. ⊎_elim (λ own'. ⊎_elim (λ less. t.ordered j (t.entry_in j less (agree j less ∙ own'))) (λ ge. t.heads_in j ge (made_of_heads n most rules given heads known z answer j own')) (cases_lt j a)) (λ is-given. t.ordered j (t.around j is-given)) (in_union z given j h);
    }

    module _ (turn : In a (minus heads entry)) where
      lacks : get_or entry a false ≡ false
      lacks = ⊎_elim (λ had. absurd ((in_minus heads entry a turn).1 had)) (λ out. out) (cases_Bool (get_or entry a false))

      turn_head : is_head rules a ≡ true
      turn_head = row_passes n (is_head rules) a (subst (In a) known.are (in_minus heads entry a turn).0)

      between_turns : (z : Row) → Between rules given low high z → Turns entry z a
      between_turns z b = (λ j less. same_from_decides (get_or entry j false) (get_or z j false) (λ e. e, λ e. e) (back j less, λ had. own z j (listed.heads j had) (b.above j (t.entry_in j less had))), lacks, own z a turn_head (b.above a t.turn_in))
        where
          back : (j : ℕ) → j < a → In j z → In j entry
          back j less inside =
              ⊎_elim
              (λ lower. ⊎_elim (λ is-given. absurd (known.taken.apart j is-given (b.answer.heads j inside))) (⊎_elim (λ (_, had). had) (λ same. absurd (omega arith))) (t.low_from j lower))
              (λ (ge, _). absurd (omega arith))
              (t.high_from j (b.below j (union_left z given j inside)))

      pub none_turned : NoneFrom rules given entry (suc a) → ((z : Row) → Between rules given low high z → ⊥) → NoneFrom rules given entry a
      none_turned none empty = none_more a none (λ z answer turns. empty z (turns_between z answer turns))

      pub first_turned : NoneFrom rules given entry (suc a) → (x : Row) → First (Between rules given low high) x → First (Follows rules given entry) x
      first_turned none x f = record { is = record { answer = f.is.answer; later = let (agree, out, inside) = between_turns x f.is in (a, agree, out, inside) }; least = λ z g. let (j, agree, out, inside) = g.later in go z g.answer j (agree, out, inside) }
        where
          earlier : (z : Row) (j : ℕ) → j < a → Turns entry z j → Lexical x z
          earlier z j less (agree, out, inside) = let (same, _, _) = between_turns x f.is in (j, λ i before. sym (same i (omega arith)) ∙ agree i before, sym (same j less) ∙ out, inside)

          go : (z : Row) → AnswerSet rules given z → (j : ℕ) → Turns entry z j → (z ≡ x) ⊎ Lexical x z
          go z answer j turns =
              ⊎_elim (λ less. inr (earlier z j less turns))
              (λ ge. ⊎_elim (λ same. f.least z (turns_between z answer (subst (Turns entry z) same turns))) (λ differ. absurd (none z answer j (omega (arith, differ)) turns)) (cases_eq j a))
              (cases_lt j a)
