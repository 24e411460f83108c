use Rattle.std.proofs.Common.{◌≡◌, length, map, take}
use Rattle.programs.specs.Model.{models}
use Rattle.programs.specs.Listed.{in_rows}
use Rattle.programs.specs.MaskRules.{mask_rule}
use Rattle.programs.proofs.masks.Masks.of.Given as goal

-- the masks so far are the rules so far
abbrev pub invariant-loop-place : goal.invariant-loop-place
invariant-loop-place l = (length l.masks ≡ 256) × (map mask_rule (take l.place l.masks) ≡ map in_rows (models (take l.place l.rules)))
