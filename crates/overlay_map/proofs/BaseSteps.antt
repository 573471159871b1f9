-- How the tables of base layers are listed.
use Rattle.std.proofs.Common.{◌≡◌, Bool, true, false, cond, List, [], ◌∷◌, ◌++◌, map, filter, sym, ap, ◌∙◌, append_assoc}
use Rattle.std.proofs.lemmas.List.{append-nil, map-append}
use Rattle.overlay_map.specs.Table.{TableOf}
use Rattle.overlay_map.specs.Layer.{LayerOf, is_base, base_tables}

-- with those of the layers that are left, all are listed
pub record ListsBut (so_far : List TableOf) (left : List LayerOf) (all : List TableOf) : Type 0 where
  pub others : so_far ++ base_tables left ≡ all

base_tables-next : (layer : LayerOf) (others : List LayerOf) (base : Bool) → is_base layer ≡ base → base_tables (layer ∷ others) ≡ cond base (layer.table ∷ base_tables others) (base_tables others)
base_tables-next layer others true is = ap (λ (b : Bool). map (λ (l : LayerOf). l.table) (cond b (layer ∷ filter is_base others) (filter is_base others))) is
base_tables-next layer others false is = ap (λ (b : Bool). map (λ (l : LayerOf). l.table) (cond b (layer ∷ filter is_base others) (filter is_base others))) is

pub ListsBut-base : {V : Type 0} (seen : V → TableOf) (tables : List V) (table : V) (left others : List LayerOf) (layer : LayerOf) (all : List TableOf)
    → ListsBut (map seen tables) left all → left ≡ layer ∷ others → is_base layer ≡ true → seen table ≡ layer.table → ListsBut (map seen (tables ++ table ∷ [])) others all
ListsBut-base {V} seen tables table left others layer all before split base is = record {
  others =
      ap (λ (so_far : List TableOf). so_far ++ base_tables others) (map-append seen tables (table ∷ []) ∙ ap (λ (t : TableOf). map seen tables ++ t ∷ []) is)
      ∙ append_assoc (map seen tables) (layer.table ∷ []) (base_tables others)
      ∙ ap (λ (tables_left : List TableOf). map seen tables ++ tables_left) (sym (base_tables-next layer others true base) ∙ ap (λ (layers : List LayerOf). base_tables layers) (sym split))
      ∙ before.others;
}

pub ListsBut-past : (so_far : List TableOf) (left others : List LayerOf) (layer : LayerOf) (all : List TableOf)
    → ListsBut so_far left all → left ≡ layer ∷ others → is_base layer ≡ false → ListsBut so_far others all
ListsBut-past so_far left others layer all before split overlay = record {
  others =
      ap (λ (tables_left : List TableOf). so_far ++ tables_left) (sym (base_tables-next layer others false overlay) ∙ ap (λ (layers : List LayerOf). base_tables layers) (sym split))
      ∙ before.others;
}

pub ListsBut-end : (so_far : List TableOf) (left : List LayerOf) (all : List TableOf) → ListsBut so_far left all → left ≡ [] → so_far ≡ all
ListsBut-end so_far left all before nothing = sym (append-nil so_far) ∙ ap (λ (layers : List LayerOf). so_far ++ base_tables layers) (sym nothing) ∙ before.others
