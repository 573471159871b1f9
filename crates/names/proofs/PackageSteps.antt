-- The packages of tables, one table after the other.
use Rattle.std.proofs.Common.{◌≡◌, ℕ, ◌+◌, ◌<◌, List, [], ◌∷◌, ◌++◌, Bor, map, take, length, get_or, sym, ap, ◌∙◌, append_assoc}
use Rattle.std.proofs.lemmas.Grind.{flat_map-append}
use Rattle.std.proofs.lemmas.List.{append-nil, map_more}
use Rattle.overlay_map.specs.Table.{TableOf}
use Rattle.names.specs.Packages.{PackageNameOf, name_of_package, packages_in}

pub packages-none : (before : List PackageNameOf) → before ≡ before ++ packages_in []
unfolding packages_in
packages-none before = sym (append-nil before)

one_more : (tables : List TableOf) (table : TableOf) → packages_in (tables ++ table ∷ []) ≡ packages_in tables ++ map name_of_package table.packages
unfolding packages_in
one_more tables table =
    flat_map-append (λ (t : TableOf). map name_of_package t.packages) tables (table ∷ []) ∙ ap (λ (all : List PackageNameOf). packages_in tables ++ all) (append-nil (map name_of_package table.packages))

pub packages-more : (start so_far more : List PackageNameOf) (tables : List (Bor TableOf)) (place : ℕ) (d : Bor TableOf) → so_far ≡ start ++ packages_in (map (λ table. table.now) (take place tables)) → place < length tables
    → more ≡ so_far ++ map name_of_package (get_or tables place d).now.packages → more ≡ start ++ packages_in (map (λ table. table.now) (take (place + 1) tables))
packages-more start so_far more tables place d before within put =
    let now : Bor TableOf → TableOf = λ table. table.now in
    let here = now (get_or tables place d) in
    put
    ∙ ap (λ (all : List PackageNameOf). all ++ map name_of_package here.packages) before
    ∙ append_assoc start (packages_in (map now (take place tables))) (map name_of_package here.packages)
    ∙ ap (λ (all : List PackageNameOf). start ++ all) (sym (one_more (map now (take place tables)) here) ∙ ap packages_in (sym (map_more now tables place d within)))
