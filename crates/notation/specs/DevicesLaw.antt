-- Which devices a line names.
use Rattle.std.specs.Prelude.{◌≡◌, ◌↔◌, ℕ, ◌<◌, ◌^◌, true, List}
use Rattle.config_record.specs.declared.coord.Coord.{Coord}
use Rattle.config_record.specs.ComparedNumber.{device_number}
use Rattle.config_record.specs.locales.declared.locale_rule.LocaleRule.{LocaleRule}
use Rattle.config_box.specs.box_answers.NumberSet.{SetOf, IsIn}
use Rattle.config_box.specs.box_answers.Members.{set_at, IsMember, IsBox, IsSetAt}
use Rattle.config_box.specs.ByRule.{IsSetBy}
use Rattle.config_box.specs.Marks.{AreMarkedAlike}
use Rattle.notation.specs.Narrower.{is_narrower}
use Rattle.notation.specs.DevicesNotation.{set_text}

-- a device of the whole box that has one of the part's numbers wherever the part is narrower, which is all that a line tells
pub record IsNamed (whole part : List SetOf) (d : List ℕ) : Type 0 where
  pub member : IsMember whole d
  pub narrower : (c : Coord) → is_narrower whole part c ≡ true → IsIn (set_at part c) (device_number d c)

-- A line names exactly the devices of its part, which lies in the whole box.
abbrev pub DevicesAreNamed : Type 0
DevicesAreNamed =
    (whole part : List SetOf) → IsBox part → ((d : List ℕ) → IsMember part d → IsMember whole d)
    → (d : List ℕ) → IsMember part d ↔ IsNamed whole part d

-- what a part has at a coordinate, where the whole has locales of one rule
pub record IsPartAt (rule : LocaleRule) (c : Coord) (whole part : SetOf) : Type 0 where
  pub of_whole : IsSetBy rule c whole
  pub fits : IsSetAt c part
  pub marks : AreMarkedAlike whole part
  pub within : (n : ℕ) → IsIn part n → IsIn whole n
  pub stored : (n : ℕ) → IsIn whole n → n < 2 ^ 64

-- What is written of it beside what the whole has there tells it: also by the names that it lacks, and where it begins or ends
-- as the whole does.
abbrev pub SetsAreTold : Type 0
SetsAreTold =
    (rule : LocaleRule) (c : Coord) (whole one other : SetOf) → IsPartAt rule c whole one → IsPartAt rule c whole other
    → set_text c whole one ≡ set_text c whole other → one ≡ other
