-- What do the conditions of a record say of a box? (Cited by contracts of this crate alone.)
use Rattle.std.specs.Prelude.{◌≡◌, ◌≢◌, ℕ, Bool, true, false, List, IsTrue}
use Rattle.std.specs.List.{list_all}
use Rattle.config_precedence.specs.config_record.declared.coord.Coord.{Coord}
use Rattle.config_precedence.specs.config_record.ComparedNumber.{device_number}
use Rattle.config_precedence.specs.config_match.declared.kind.Kind.{Kind}
use Rattle.config_precedence.specs.config_match.declared.kind.Kind.TheVariants.{Dimensions}
use Rattle.config_precedence.specs.config_match.declared.rule.Rule.{Rule}
use Rattle.config_precedence.specs.config_match.Answer.{is_pass}
use Rattle.config_precedence.specs.config_match.Kind.{kind_answer}
use Rattle.config_precedence.specs.config_match.Table.{answer_of_table}
use Rattle.box_answers.specs.declared.condition.Condition.{Condition}
use Rattle.box_answers.specs.declared.condition.Suiting.{Suiting}
use Rattle.box_answers.specs.declared.condition.Suiting.TheVariants.{Always, Never, Mixed}
use Rattle.box_answers.specs.NumberSet.{SetOf, IsIn}
use Rattle.box_answers.specs.Sameness.{AreNeighbours}

-- ---- one condition, and the numbers of a set

-- whether it passes where this is the device's number
abbrev pub passes_at : Condition → ℕ → Bool
passes_at c n = is_pass (kind_answer c.kind c.stored c.stored (record { first = n; second = 0 }))

-- two numbers of a set, of which the first passes and the second fails
pub record PartsNumbers (set : SetOf) (passes : ℕ → Bool) (x y : ℕ) : Type 0 where
  pub x_in : IsIn set x
  pub y_in : IsIn set y
  pub x_passes : passes x ≡ true
  pub y_fails : passes y ≡ false

-- always: all numbers pass; never: none does; mixed: two numbers, as above
abbrev pub IsExactAt : Suiting → SetOf → (ℕ → Bool) → Type 0
IsExactAt Always set passes = (n : ℕ) → IsIn set n → passes n ≡ true
IsExactAt Never set passes = (n : ℕ) → IsIn set n → passes n ≡ false
IsExactAt (Mixed x y) set passes = PartsNumbers set passes x y × AreNeighbours set x y

-- ---- all of them

abbrev pub reads_one : Kind → Bool
reads_one Dimensions = false
reads_one kind = true

-- each reads its own coordinate alone
abbrev pub AreOfOne : List Rule → Type 0
AreOfOne rules = IsTrue (list_all (λ rule. reads_one rule.kind) rules)

-- whether all of them pass at a device
abbrev pub all_pass : List Rule → (Coord → ℕ) → List ℕ → Bool
all_pass rules r d = is_pass (answer_of_table rules r r (device_number d))

-- one device is another with this number at a coordinate
pub record IsChangedAt (from to : List ℕ) (c : Coord) (n : ℕ) : Type 0 where
  pub same : device_number to c ≡ n
  pub others : (k : Coord) → k ≢ c → device_number to k ≡ device_number from k
