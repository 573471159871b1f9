use Rattle.std.proofs.Common.{◌≡◌, Bool, true, List, ℕ, ◌++◌, Option, Result, Ok, Err, subst}
use Rattle.std.specs.Prelude.{codes, if◌then◌else◌, OnOk}
use Rattle.std.specs.Io.KnownBytes.{Appends}
use Rattle.std.proofs.KnownBytes.{Appends-trans}
use Rattle.hex.specs.Hex.{encode_lower}
use Rattle.locales.specs.declared.locale.Locale.{Locale}
use Rattle.locales.specs.Locale.{is_spelled, language_text, region_text, plain_text}
use Rattle.locales.proofs.locale.write_plain_locale.Goals as goal

-- a language and a region that were written
both_written : {E : Type 0} (l : Locale) (old between new : Option (List ℕ)) (result : Result (Unit {0}) E) → true ≡ is_spelled l → Appends old between (language_text l.language)
    → OnOk result (Appends between new (region_text l.region)) → OnOk result (Appends old new (plain_text l))
unfolding plain_text
both_written l old between new (Ok done) spelled first second =
    subst (λ (is : Bool). Appends old new (if is then language_text l.language ++ region_text l.region else (codes "x" ++ encode_lower l.language ++ encode_lower l.region))) spelled
    (Appends-trans old between new (language_text l.language) (region_text l.region) first second)
both_written l old between new (Err error) spelled first second = tt

pub returns : goal.returns
returns g c = both_written c.args.locale _ _ _ c.write_region.result c.if-not-is_spelled.ensures c.in_ok-write_language.ensures c.write_region.ensures
