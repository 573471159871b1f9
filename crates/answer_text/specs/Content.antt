-- What a resource says, apart from ids and indexes.
use Rattle.std.specs.Prelude.{ℕ, List}
use Rattle.bags_themes.specs.res_value.declared.value.Value.{Value}
use Rattle.names.specs.Label.{LabelOf}
use Rattle.answer_text.specs.declared.content.BrokenString.{BrokenString}
use Rattle.answer_text.specs.declared.content.Quantity.{Quantity}

-- ---- values

pub data ValueContentOf : Type 0 where
  -- a string, by its text in UTF-8
  StringOf : List ℕ → ValueContentOf
  -- a string that is no text, as it is shown
  GarbledOf : List ℕ → ValueContentOf
  -- a string that cannot be read, with its index
  BrokenOf : BrokenString → ValueContentOf
  -- a resource
  ReferenceOf : LabelOf → ValueContentOf
  -- an attribute, whose value a theme gives
  AttributeOf : LabelOf → ValueContentOf
  -- any other value, by itself
  OtherOf : Value → ValueContentOf

-- ---- rows of bags

-- what tells a row from the others of its bag
pub data RowKeyOf : Type 0 where
  -- its place in an array, from 0 on
  PlaceOf : ℕ → RowKeyOf
  -- the quantity in plurals
  QuantityOf : Quantity → RowKeyOf
  -- its attribute, or what else its id is called
  CalledOf : LabelOf → RowKeyOf

pub record RowContentOf : Type 0 where
  pub key : RowKeyOf
  pub value : ValueContentOf

-- ---- resources

pub data ContentOf : Type 0 where
  -- what a value says
  ValueOf : ValueContentOf → ContentOf
  -- the rows of a bag, those that it inherits among them
  BagOf : List RowContentOf → ContentOf
  -- the id that selects nothing
  AbsentOf : LabelOf → ContentOf
  -- there is a reference too many, behind this id
  TooManyReferencesOf : LabelOf → ContentOf
  -- there is a bag with a parent too many, which this id selects
  TooManyParentsOf : LabelOf → ContentOf
