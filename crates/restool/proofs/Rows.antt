-- What a parse found, as rows.
use Rattle.clap.proofs.WalkLemmas.{first_value-rows, one_text-rows, raw_values-rows}

pub ruleset rows = (first_value-rows, one_text-rows, raw_values-rows)
