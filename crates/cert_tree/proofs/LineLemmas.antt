-- A certificate's text as a line.
use Rattle.std.proofs.Common.{◌≡◌, ℕ, List, [], ◌∷◌, ◌++◌, Option, Some, None, Ok, ok_or, refl}
use Rattle.serde_json.specs.Data.{Data}
use Rattle.contract_words.specs.Faults.{◌>>=◌}
use Rattle.json_input.specs.Json.{value_of}
use Rattle.json_input.proofs.LineFeed.{line-means}
use Rattle.config_box.specs.config_record.locales.declared.locale_rule.LocaleRule.{LocaleRule}
use Rattle.cert_tree.specs.Certificate.{GoalOf}
use Rattle.cert_tree.specs.declared.cert_fault.CertFault.TheVariants.{Syntax}
use Rattle.cert_tree.specs.CertJson.{goals_in_value, cert_in_by}

-- the line of a certificate's text means the same certificate
pub cert_in-line : (rule : LocaleRule) (text : List ℕ) (goals : List GoalOf) → cert_in_by rule text ≡ Ok goals → cert_in_by rule (text ++ 10 ∷ []) ≡ Ok goals
cert_in-line rule text goals e = where_read (value_of text) refl e
  where
    where_read : (o : Option Data) → value_of text ≡ o → (ok_or o Syntax >>= goals_in_value rule) ≡ Ok goals → cert_in_by rule (text ++ 10 ∷ []) ≡ Ok goals
    where_read (Some value) means e = rw (line-means text value means) e
    where_read None means e = absurd cc
