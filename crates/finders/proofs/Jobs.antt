-- What the code finds of a job's heads.
use Rattle.std.proofs.Common.{◌≡◌, ℕ, suc, ◌<◌, ◌≤◌, true, false, ◌≢◌, List, [], ◌∷◌, length, get_or, sym, refl, ap, ◌∙◌, subst, arith}
use Rattle.game.specs.Sets.{Row, In}
use Rattle.game.specs.Rules.{Rule, is_head}
use Rattle.game.proofs.Rows.{row, length-row, in_width}
use Rattle.closure.specs.Rows.{marked, minus}
use Rattle.closure.proofs.Marks.{in_minus, marked_length, row_from}
use Rattle.programs.specs.Limits.{fits}
use Rattle.finders.specs.declared.finder.Refusal.TheVariants.{ManyHeads, GivenHead}
use Rattle.finders.specs.Meanings.{heads_below}
use Rattle.finders.specs.Upward.{HeadsAre}
use Rattle.finders.specs.Jobs.{HeadsTaken, Refused, many_heads, given_head}

-- rows that share no member, or one that they share
pub shared : (s t : Row) → length s ≡ length t → (minus s t ≡ s → ⊥) → (a : ℕ) × In a s × In a t
shared [] t e differ = absurd (differ refl)
shared (x ∷ s) [] e differ = absurd (omega arith)
shared (true ∷ s) (true ∷ t) e differ = (0, refl, refl)
shared (true ∷ s) (false ∷ t) e differ = let (a, h, k) = shared s t (omega arith) (λ same. differ (ap (λ r. true ∷ r) same)) in (suc a, h, k)
shared (false ∷ s) (y ∷ t) e differ = let (a, h, k) = shared s t (omega arith) (λ same. differ (ap (λ r. false ∷ r) same)) in (suc a, h, k)

pub unshared : (s t : Row) → minus s t ≡ s → (a : ℕ) → In a s → In a t → ⊥
unshared s t same a h = (in_minus s t a (subst (In a) (sym same) h)).1

-- a job, and hs, its heads as the code has them
pub record Seen (n : ℕ) (rules : List Rule) (given hs : Row) : Type 0 where
  pub kept : fits n rules ≡ true
  pub given_wide : length given ≡ n
  pub wide : length hs ≡ n
  pub each : (a : ℕ) → a < n → get_or hs a false ≡ is_head rules a

module _ {n : ℕ} {rules : List Rule} {given hs : Row} (s : Seen n rules given hs) where
  heads_are : hs ≡ row n (is_head rules)
  heads_are = row_from n (is_head rules) hs s.wide s.each

  counted : marked hs ≡ heads_below n rules
  counted = ap marked heads_are

  pub many_heads_from : (most : ℕ) → most < marked hs → Refused n most rules given ManyHeads
  many_heads_from most many = many_heads (omega (arith, counted))

  pub given_head_from : (most : ℕ) → marked hs ≤ most → (minus given hs ≡ given → ⊥) → Refused n most rules given GivenHead
  given_head_from most few differ =
      let (a, h, k) = shared given hs (s.given_wide ∙ sym s.wide) differ in
      given_head a (omega (arith, counted)) h (sym (s.each a (in_width given s.given_wide a h)) ∙ k)

  pub taken_from : (most : ℕ) → marked hs ≤ most → minus given hs ≡ given → HeadsTaken n most rules given hs
  taken_from most few alone = record {
    taken = record {
      kept = s.kept;
      width = s.given_wide;
      few = omega (arith, counted);
      apart = λ a h head. unshared given hs alone a h (s.each a (in_width given s.given_wide a h) ∙ head);
    };
    are = heads_are;
  }

-- a finder that takes as many heads as there are atoms takes every job of which no given atom is a head
pub all_taken :
    (n : ℕ) (rules : List Rule) (given hs : Row) → fits n rules ≡ true → length given ≡ n → HeadsAre n rules hs
    → ((a : ℕ) → In a given → is_head rules a ≢ true) → HeadsTaken n n rules given hs
all_taken n rules given hs kept wide are apart =
    let few : heads_below n rules ≤ length (row n (is_head rules)) = marked_length (row n (is_head rules)) in
    record {
      taken = record { kept = kept; width = wide; few = omega (arith, few, length-row n (is_head rules)); apart = apart };
      are = are;
    }
