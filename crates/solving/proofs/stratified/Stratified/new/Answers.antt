use Rattle.std.proofs.Common.{◌≡◌, true, leb, length}
use Rattle.std.proofs.lemmas.Bool.{and_parts}
use Rattle.programs.specs.Limits.{all_fit}
use Rattle.programs.specs.Programs.{rules_of}
use Rattle.solving.proofs.Leveling.{ranked_leveled, levels_low, level_low}
use Rattle.solving.proofs.Testing.{program_heads}
use Rattle.solving.proofs.stratified.Stratified.new.Goals as goal

pub invariant_of-result : goal.invariant_of-result
invariant_of-result g c =
    let rules = rules_of c.args.program in
    let below = program_heads g.row.N rules c.args.program.kept in
    let all : all_fit g.row.N rules ≡ true = (and_parts (leb (length rules) 256) _ c.args.program.kept).1 in
    let levels = c.rank-levels.result in
    record {
      fit = ranked_leveled g.row.N rules levels.of below c.rank-levels.ensures all c.in_default.ensures;
      low = levels_low g.row.N rules levels.of below c.rank-levels.ensures levels.wide;
      all_used = λ a head. c.used-used.ensures a head (level_low g.row.N rules levels.of below c.rank-levels.ensures a (below a head));
    }
