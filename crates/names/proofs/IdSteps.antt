-- How the ids of rows are put into a set.
use Rattle.std.proofs.Common.{◌≡◌, ℕ, ◌+◌, ◌<◌, ◌≤◌, Bool, true, false, cond, List, [], ◌∷◌, ◌++◌, map, filter, length, drop, get_or, Option, refl, sym, ap, ◌∙◌}
use Rattle.std.proofs.lemmas.List.{drop_more, drop_all}
use Rattle.std.proofs.lemmas.List.Sums.{fold-append}
use Rattle.std.specs.BTreeSet.{insert_key}
use Rattle.std.specs.Ordering.{nat_cmp}
use Rattle.overlay_map.specs.Table.{TableOf, rows_of}
use Rattle.overlay_map.specs.type_chunks.Row.{RowOf}
use Rattle.names.specs.IdsOfType.{is_of_type, numbers_in, numbers_of_type, put_each}

pub put_each-none : (keys : List ℕ) → put_each keys [] ≡ keys
unfolding put_each
put_each-none keys = refl

pub put_each-append : (keys more others : List ℕ) → put_each keys (more ++ others) ≡ put_each (put_each keys more) others
unfolding put_each
put_each-append keys more others = fold-append (insert_key nat_cmp) keys more others

pub put_each-next : (keys numbers : List ℕ) (number : ℕ) → put_each keys (number ∷ numbers) ≡ put_each (insert_key nat_cmp keys number) numbers
unfolding put_each
put_each-next keys numbers number = refl

-- ---- the rows of a table

-- with those of the rows that are left, all are put
pub record PutsAllBut (type_name : Option (List ℕ)) (table : TableOf) (keys : List ℕ) (left : List RowOf) (all : List ℕ) : Type 0 where
  pub others : put_each keys (numbers_of_type type_name table left) ≡ all

numbers-next : (type_name : Option (List ℕ)) (table : TableOf) (row : RowOf) (rows : List RowOf) (passes : Bool) → is_of_type type_name table row ≡ passes
    → numbers_of_type type_name table (row ∷ rows) ≡ cond passes (row.id ∷ numbers_of_type type_name table rows) (numbers_of_type type_name table rows)
numbers-next type_name table row rows true is = ap (λ (b : Bool). map (λ (r : RowOf). r.id) (cond b (row ∷ filter (is_of_type type_name table) rows) (filter (is_of_type type_name table) rows))) is
numbers-next type_name table row rows false is = ap (λ (b : Bool). map (λ (r : RowOf). r.id) (cond b (row ∷ filter (is_of_type type_name table) rows) (filter (is_of_type type_name table) rows))) is

pub PutsAllBut-put : (type_name : Option (List ℕ)) (table : TableOf) (old new : List ℕ) (left others : List RowOf) (row : RowOf) (all : List ℕ)
    → PutsAllBut type_name table old left all → left ≡ row ∷ others → is_of_type type_name table row ≡ true → new ≡ insert_key nat_cmp old row.id
    → PutsAllBut type_name table new others all
PutsAllBut-put type_name table old new left others row all before split passes put = record {
  others =
      ap (λ (keys : List ℕ). put_each keys (numbers_of_type type_name table others)) put
      ∙ sym (put_each-next old (numbers_of_type type_name table others) row.id)
      ∙ ap (λ (numbers : List ℕ). put_each old numbers) (sym (numbers-next type_name table row others true passes) ∙ ap (λ (rows : List RowOf). numbers_of_type type_name table rows) (sym split))
      ∙ before.others;
}

pub PutsAllBut-past : (type_name : Option (List ℕ)) (table : TableOf) (keys : List ℕ) (left others : List RowOf) (row : RowOf) (all : List ℕ)
    → PutsAllBut type_name table keys left all → left ≡ row ∷ others → is_of_type type_name table row ≡ false → PutsAllBut type_name table keys others all
PutsAllBut-past type_name table keys left others row all before split fails = record {
  others =
      ap (λ (numbers : List ℕ). put_each keys numbers) (sym (numbers-next type_name table row others false fails) ∙ ap (λ (rows : List RowOf). numbers_of_type type_name table rows) (sym split))
      ∙ before.others;
}

pub PutsAllBut-end : (type_name : Option (List ℕ)) (table : TableOf) (keys : List ℕ) (left : List RowOf) (all : List ℕ)
    → PutsAllBut type_name table keys left all → left ≡ [] → keys ≡ all
PutsAllBut-end type_name table keys left all before nothing =
    sym (put_each-none keys) ∙ ap (λ (rows : List RowOf). put_each keys (numbers_of_type type_name table rows)) (sym nothing) ∙ before.others

-- ---- several tables

-- with those of the tables that are left, all are put
pub record PutsTablesBut (type_name : Option (List ℕ)) (keys : List ℕ) (left : List TableOf) (all : List ℕ) : Type 0 where
  pub others : put_each keys (numbers_in type_name left) ≡ all

pub PutsTablesBut-next : {V : Type 0} (type_name : Option (List ℕ)) (seen : V → TableOf) (old new : List ℕ) (tables : List V) (place : ℕ) (table : V) (all : List ℕ)
    → PutsTablesBut type_name old (map seen (drop place tables)) all → place < length tables → table ≡ get_or tables place table
    → new ≡ put_each old (numbers_of_type type_name (seen table) (rows_of (seen table)))
    → PutsTablesBut type_name new (map seen (drop (place + 1) tables)) all
PutsTablesBut-next {V} type_name seen old new tables place table all before on is put =
    let others = drop (place + 1) tables in
    let behind = numbers_in type_name (map seen others) in
    let here = seen table in
    let split = drop_more tables place table on ∙ ap (λ (first : V). first ∷ others) (sym is) in
    record {
      others =
          ap (λ (keys : List ℕ). put_each keys behind) put
          ∙ sym (put_each-append old (numbers_of_type type_name here (rows_of here)) behind)
          ∙ ap (λ (left : List V). put_each old (numbers_in type_name (map seen left))) (sym split)
          ∙ before.others;
    }

pub PutsTablesBut-end : {V : Type 0} (type_name : Option (List ℕ)) (seen : V → TableOf) (keys : List ℕ) (tables : List V) (place : ℕ) (all : List ℕ)
    → PutsTablesBut type_name keys (map seen (drop place tables)) all → length tables ≤ place → keys ≡ all
PutsTablesBut-end {V} type_name seen keys tables place all before past =
    sym (put_each-none keys) ∙ ap (λ (left : List V). put_each keys (numbers_in type_name (map seen left))) (sym (drop_all place tables past)) ∙ before.others
