-- What values and keys say, as text.
use Rattle.std.specs.Prelude.{ℕ, List, ◌++◌, codes}
use Rattle.std.specs.Fmt.{decimal}
use Rattle.bags_themes.specs.res_value.ValueText.{value_text}
use Rattle.names.specs.LabelText.{label_text}
use Rattle.names.specs.Packages.{PackageNameOf}
use Rattle.names.specs.Quoted.{quoted_text}
use Rattle.answer_text.specs.declared.content.BrokenString.{BrokenString}
use Rattle.answer_text.specs.declared.content.BrokenString.TheVariants.{NoSuch, Cut, NotEnded}
use Rattle.answer_text.specs.declared.content.Quantity.{Quantity}
use Rattle.answer_text.specs.declared.content.Quantity.TheVariants.{Other, Zero, One, Two, Few, Many}
use Rattle.answer_text.specs.Content.{ValueContentOf, StringOf, GarbledOf, BrokenOf, ReferenceOf, AttributeOf, OtherOf, RowKeyOf, PlaceOf, QuantityOf, CalledOf}

-- ---- values

-- the fault of a string, and its index
unfoldable pub broken_text : BrokenString → List ℕ
broken_text (NoSuch index) = codes "!NoSuch " ++ decimal index
broken_text (Cut index) = codes "!Cut " ++ decimal index
broken_text (NotEnded index) = codes "!NotEnded " ++ decimal index

-- a string between quotes, an id by its label behind `@` or `?`, and any other value as values are, where these are the packages
unfoldable pub value_content_text : List PackageNameOf → ValueContentOf → List ℕ
value_content_text packages (StringOf text) = quoted_text text
value_content_text packages (GarbledOf text) = text
value_content_text packages (BrokenOf string) = broken_text string
value_content_text packages (ReferenceOf label) = codes "@" ++ label_text packages label
value_content_text packages (AttributeOf label) = codes "?" ++ label_text packages label
value_content_text packages (OtherOf value) = value_text value

-- ---- keys

abbrev pub quantity_text : Quantity → List ℕ
quantity_text Other = codes "other"
quantity_text Zero = codes "zero"
quantity_text One = codes "one"
quantity_text Two = codes "two"
quantity_text Few = codes "few"
quantity_text Many = codes "many"

-- `[PLACE]`, a quantity, or a label
unfoldable pub key_text : List PackageNameOf → RowKeyOf → List ℕ
key_text packages (PlaceOf place) = codes "[" ++ decimal place ++ codes "]"
key_text packages (QuantityOf quantity) = quantity_text quantity
key_text packages (CalledOf label) = label_text packages label
