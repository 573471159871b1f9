-- Where an attribute ends under styles, which are applied with force, one after the other.
use Rattle.std.specs.Prelude.{◌≡◌, ◌⊎◌, ℕ, true, List, ◌∷◌, ◌++◌, Ok, Err}
use Rattle.reference_resolver.specs.res_value.declared.res_id.ResId.{ResId}
use Rattle.reference_resolver.specs.overlay_map.Layer.{LayerOf}
use Rattle.reference_resolver.specs.declared.end.End.{End}
use Rattle.bags_themes.specs.declared.bag_fault.BagFault.{BagFault}
use Rattle.bags_themes.specs.Bag.{bag_of}
use Rattle.bags_themes.specs.Theme.{AttributeValues}
use Rattle.bags_themes.specs.Styles.{values_after_styles}
use Rattle.bags_themes.specs.Attribute.{attribute_of}
use Rattle.bags_themes.specs.AttributeTrace.{style_end}

-- A style is no bag, or has too many parents, and those before it are applied. The attribute ends at this style.
pub record EndsAtStyle (stack : List LayerOf) (values : AttributeValues) (styles : List ResId) (d : List ℕ) (end : End) : Type 0 where
  pub before : List ResId
  pub style : ResId
  pub others : List ResId
  pub fault : BagFault
  pub stands : styles ≡ before ++ style ∷ others
  pub applied : (set : AttributeValues) × (values_after_styles stack true before values d ≡ Ok set)
  pub refused : bag_of stack style.0 d ≡ Err fault
  pub is_end : end ≡ style_end style fault

-- All are applied, and the attribute ends so in the theme that they make.
pub record EndsInTheme (stack : List LayerOf) (attr : ℕ) (values : AttributeValues) (styles : List ResId) (d : List ℕ) (end : End) : Type 0 where
  pub set : AttributeValues
  pub applied : values_after_styles stack true styles values d ≡ Ok set
  pub is_end : end ≡ attribute_of stack set attr d

-- one or the other, where these are the values of attributes before the styles
abbrev pub EndsUnder : List LayerOf → ℕ → AttributeValues → List ResId → List ℕ → End → Type 0
EndsUnder stack attr values styles d end = EndsAtStyle stack values styles d end ⊎ EndsInTheme stack attr values styles d end

-- there is one such end, and it is this
pub record IsTheEndUnder (stack : List LayerOf) (attr : ℕ) (values : AttributeValues) (styles : List ResId) (d : List ℕ) (end : End) : Type 0 where
  pub ends : EndsUnder stack attr values styles d end
  pub only : (other : End) → EndsUnder stack attr values styles d other → other ≡ end
