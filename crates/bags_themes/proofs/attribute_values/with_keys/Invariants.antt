use Rattle.std.proofs.Common.{◌≡◌, take}
use Rattle.indexmap.specs.IndexMap.{hasher_of}
use Rattle.bags_themes.proofs.attribute_values.with_keys.Given as goal

-- the values so far are the same
abbrev pub invariant-values : goal.invariant-values
invariant-values l = record {
  same : l.same.entries ≡ take l.place l.values.entries;
  keyed : hasher_of l.same ≡ l.fn.keys;
}
