-- The search upward, from one set of heads to the next, for the first answer set.
use Rattle.std.proofs.Common.{◌≡◌, ℕ, ◌-◌, ◌^◌, ◌<◌, List, length, sym, ap, ◌∙◌, subst, inr, ⊎_elim, arith}
use Rattle.game.specs.Sets.{Row, In}
use Rattle.game.specs.Rules.{Rule, is_head}
use Rattle.game.specs.AnswerSets.{AnswerSet}
use Rattle.game.proofs.Rows.{length-row, in_row, in_width}
use Rattle.finders.specs.Orders.{Lower}
use Rattle.finders.specs.Upward.{HeadsAre, SetOf, UpFrom, Next, Last, NoneFrom}
use Rattle.finders.proofs.Binary.{lower_trans, value, value_below, value_lower}

pub up_lower : (s t u : Row) → UpFrom s t → Lower t u → Lower s u
up_lower s t u up less = ⊎_elim (λ same. subst (λ v. Lower v u) (sym same) less) (λ lower. lower_trans s t u lower less) up

pub lower_up : (s t u : Row) → Lower s t → UpFrom t u → Lower s u
lower_up s t u less up = ⊎_elim (λ same. subst (Lower s) same less) (lower_trans s t u less) up

-- a row of n numbers, of which one comes after the other, rises towards 2 ^ n
pub rises : (n : ℕ) (s t : Row) → length s ≡ n → length t ≡ n → Lower s t → 2 ^ n - value t < 2 ^ n - value s
rises n s t wide wide' less =
    let more : value s < value t = value_lower s t (wide ∙ sym wide') less in
    let most : value t < 2 ^ n = subst (λ w. value t < 2 ^ w) wide' (value_below t) in
    omega arith

-- an answer set is a set of heads
pub answer_set_of : (n : ℕ) (rules : List Rule) (given hs : Row) → length given ≡ n → HeadsAre n rules hs → (z : Row) → AnswerSet rules given z → SetOf hs z
answer_set_of n rules given hs given_wide are z answer =
    let wide : length z ≡ n = answer.width ∙ given_wide in
    record {
      width = wide ∙ sym (ap length are ∙ length-row n (is_head rules));
      within = λ a h. subst (In a) (sym are) (in_row n (is_head rules) a (in_width z wide a h) (answer.heads a h));
    }

-- every answer set from the start on is one from the set on
pub record Upward (rules : List Rule) (given hs start set : Row) : Type 0 where
  pub of : SetOf hs set
  pub up : UpFrom start set
  pub rest : (z : Row) → AnswerSet rules given z → UpFrom start z → UpFrom set z

module _ {rules : List Rule} {given hs start set : Row} (u : Upward rules given hs start set) where
  -- the set is no answer set, so those from it on come after it
  module _ (sets : (z : Row) → AnswerSet rules given z → SetOf hs z) (not_set : AnswerSet rules given set → ⊥) where
    beyond : (z : Row) → AnswerSet rules given z → UpFrom start z → Lower set z
    beyond z answer up = ⊎_elim (λ same. absurd (not_set (subst (AnswerSet rules given) (sym same) answer))) (λ less. less) (u.rest z answer up)

    pub upward_next : (y : Row) → Next hs set y → Upward rules given hs start y
    upward_next y next = record {
      of = next.set;
      up = inr (up_lower start set y u.up next.above);
      rest = λ z answer up. next.least z (sets z answer) (beyond z answer up);
    }

    pub upward_end : Last hs set → NoneFrom rules given start
    upward_end last z answer up = last z (sets z answer) (beyond z answer up)
