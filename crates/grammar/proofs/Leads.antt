-- Which table and which rules a state comes to with what is ahead of it: a token changes neither.
use Rattle.std.proofs.Common.{◌≡◌, ℕ, List, ◌++◌, sym, refl, ap, ◌∙◌}
use Rattle.game.specs.Rules.{Rule}
use Rattle.reading.specs.Lexical.{Word, name, negation, arrow, comma, dot}
use Rattle.reading.specs.Steps.{Standing}
use Rattle.grammar.specs.Grammar.{Name, with_names}
use Rattle.grammar.specs.Accepted.{table}
use Rattle.grammar.proofs.Names.{index_number, number_final, with_names_append}
use Rattle.grammar.proofs.Places.{Place, Got}
use Rattle.grammar.proofs.Stepping.{word_names, index_of, rule_after, ended_after, after}
use Rattle.grammar.proofs.Ahead.{Ahead, ahead_names, outcome, Moves, moved, number_of, rules_move}

pub record Leads (atoms : List Name) (all : List Rule) {p : Place} (g : Got) (a : Ahead p) : Type 0 where
  pub names : with_names (table g.atoms) (ahead_names a) ≡ atoms
  pub rules : g.rules ++ outcome atoms g.rule a ≡ all

index_final : (w : Word) (ss : List Standing) (ns : List Name) → index_of w ss ≡ number_of (with_names (table ss) (word_names w ++ ns)) w
index_final (name n) ss ns = index_number n ss ∙ sym (number_final n ns (table ss))
index_final negation ss ns = refl
index_final arrow ss ns = refl
index_final comma ss ns = refl
index_final dot ss ns = refl

module _ {p q : Place} {a : Ahead p} {w : Word} {a' : Ahead q} (m : Moves p q a w a') (at : ℕ) (g : Got) (ss : List Standing) (joined : table ss ≡ with_names (table g.atoms) (word_names w)) where
  same_names : with_names (table g.atoms) (ahead_names a) ≡ with_names (table ss) (ahead_names a')
  same_names = rw ((moved m).1, joined) (with_names_append (word_names w) (ahead_names a') (table g.atoms))

  same_rules : (atoms : List Name) → with_names (table g.atoms) (ahead_names a) ≡ atoms → (after at p w g ss).rules ++ outcome atoms (after at p w g ss).rule a' ≡ g.rules ++ outcome atoms g.rule a
  same_rules atoms e =
      let number : index_of w g.atoms ≡ number_of atoms w = index_final w g.atoms (ahead_names a') ∙ ap (λ t. number_of t w) (ap (with_names (table g.atoms)) (sym (moved m).1) ∙ e) in
      ap (λ k. ended_after w g.rule g.rules ++ outcome atoms (rule_after p w k g.rule) a') number ∙ rules_move atoms g.rule g.rules m

  module _ {atoms : List Name} {all : List Rule} where
    pub leads_on : Leads atoms all g a → Leads atoms all (after at p w g ss) a'
    leads_on h = record { names = sym same_names ∙ h.names; rules = same_rules atoms h.names ∙ h.rules }

    pub leads_back : Leads atoms all (after at p w g ss) a' → Leads atoms all g a
    leads_back h = let e = same_names ∙ h.names in record { names = e; rules = sym (same_rules atoms e) ∙ h.rules }
