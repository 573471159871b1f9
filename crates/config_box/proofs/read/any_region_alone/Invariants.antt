use Rattle.std.proofs.Common.{◌≡◌, map, drop}
use Rattle.std.specs.List.{list_any}
use Rattle.config_box.specs.BoxJson.{is_region_alone}
use Rattle.config_box.proofs.read.any_region_alone.Given as goal

-- the answer is that for the texts that are left
abbrev pub invariant-loop-text : goal.invariant-loop-text
invariant-loop-text l = list_any (is_region_alone l.rule) (map (λ text. text.now) (drop l.text-index l.texts)) ≡ list_any (is_region_alone l.rule) (map (λ text. text.now) l.texts)
