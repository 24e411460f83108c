-- One text among others: its rules over the table of all their names, and which of its heads stand in earlier texts.
use Rattle.std.proofs.Common.{◌≡◌, ℕ, ◌≤◌, ◌↔◌, List, ◌++◌, map, length, None, Ok, sym, ap, ◌∙◌, arith}
use Rattle.std.specs.List.{AllByRecursion}
use Rattle.std.proofs.lemmas.List.{length-map}
use Rattle.std.proofs.ByRecursion.{All-weaker}
use Rattle.game.specs.Rules.{Rule}
use Rattle.refusals.specs.declared.fault.Text.{Text}
use Rattle.reading.specs.Steps.{State, Standing, TextRead}
use Rattle.reading.specs.Within.{Within}
use Rattle.reading.specs.Loads.{taken_head}
use Rattle.grammar.specs.Grammar.{Name, Written, names, with_names, numbered}
use Rattle.grammar.specs.Accepted.{table, name_of, Spelled, Says}
use Rattle.grammar.specs.Loaded.{heads}
use Rattle.grammar.proofs.Names.{stays, Known, all_known, with_names_append, with_names_longer}
use Rattle.grammar.proofs.Numbers.{same_rules}
use Rattle.grammar.proofs.Apart.{ByName, numbered_by_name, Apart, none_taken}
use Rattle.grammar.proofs.Placed.{text_within}
use Rattle.grammar.proofs.Reading.{read_is_spelled, spelled_is_read}

-- a text that is written so, after atoms within the limit, and is read as d
pub record One (t : Text) (text : List ℕ) (before : List Standing) (ws : List Written) (d : State) : Type 0 where
  pub few : length before ≤ 96
  pub spelled : Spelled text ws
  pub read : TextRead t text before (Ok d)
  pub says : Says before ws d

pub one_read : (t : Text) (text : List ℕ) (before : List Standing) (d : State) → length before ≤ 96 → TextRead t text before (Ok d) → (ws : List Written) × One t text before ws d
one_read t text before d few x = let (ws, spelled, room, says) = read_is_spelled t text before d few x in (ws, record { few = few; spelled = spelled; read = x; says = says })

-- a text that leaves room for what comes after it
pub one_spelled : (t : Text) (text : List ℕ) (before : List Standing) (ws : List Written) (more : List Name) → Spelled text ws → length (with_names (table before) (names ws ++ more)) ≤ 96 → (d : State) × One t text before ws d
one_spelled t text before ws more spelled few =
    let after : List Name = with_names (table before) (names ws) in
    let room : length after ≤ 96 = omega (arith, with_names_longer more after, ap length (with_names_append (names ws) more (table before))) in
    let (d, x, says) = spelled_is_read t text before ws spelled room in
    (d, record { few = omega (arith, with_names_longer (names ws) (table before), length-map before name_of); spelled = spelled; read = x; says = says })

-- the rules of a text over a table in which its names are, with a place for each rule
pub record Told (all : List Name) (ws : List Written) (d : State) : Type 0 where
  pub rules : d.rules ≡ map (numbered all) ws
  pub known : AllByRecursion (Known all) (names ws)
  pub placed : length d.places ≡ length ws

module _ {t : Text} {text : List ℕ} {before : List Standing} {ws : List Written} {d : State} (o : One t text before ws d) where
  pub within : Within d
  within = text_within t text d before o.few o.read

  -- the table goes on growing from the one that the text leaves
  pub grows : (more : List Name) → with_names (table before) (names ws ++ more) ≡ with_names (table d.atoms) more
  grows more = with_names_append (names ws) more (table before) ∙ ap (λ u. with_names u more) (sym o.says.atoms)

  -- a table with more names numbers the rules as they are read
  pub told : (more : List Name) → Told (with_names (table d.atoms) more) ws d
  told more =
      let now : List Name = table d.atoms in
      let known_now : AllByRecursion (Known now) (names ws) = rw o.says.atoms (all_known (names ws) (table before)) in
      record {
        rules = o.says.rules ∙ same_rules now (with_names now more) ws (All-weaker _ _ (λ n k. sym (stays n more now k).1) (names ws) known_now);
        known = All-weaker _ _ (λ n k. (stays n more now k).0) (names ws) known_now;
        placed = within.placed ∙ ap length o.says.rules ∙ length-map ws (numbered now);
      }

module _ {all : List Name} {ws : List Written} {d : State} (k : Told all ws d) where
  pub by_name : ByName all d.rules (names ws)
  by_name = rw k.rules (numbered_by_name all ws)

  pub untaken : {earlier : List Rule} {ms : List Name} → ByName all earlier ms → (taken_head d.rules d.places earlier ≡ None ↔ Apart (heads ws) ms)
  untaken {earlier} {ms} e = rw k.rules (none_taken ms all earlier e ws d.places k.placed k.known)
