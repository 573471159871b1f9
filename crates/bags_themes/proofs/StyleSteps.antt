-- Styles that are applied one after the other are their rows, applied one after the other.
use Rattle.std.proofs.Common.{◌≡◌, ℕ, ◌+◌, ◌<◌, ◌≤◌, Bool, List, [], ◌∷◌, ◌++◌, length, map, drop, get_or, refl, sym, ap, subst, ◌∙◌}
use Rattle.std.proofs.lemmas.List.{drop_more, drop_all}
use Rattle.std.specs.Prelude.{Result, Ok, Err}
use Rattle.std.proofs.Math.Path.{fun_ext}
use Rattle.contract_words.specs.Faults.{◌>>=◌}
use Rattle.contract_words.specs.Sequences.{with_front, joined, joined_each}
use Rattle.contract_words.proofs.SequenceSteps.{with_front_nil, ReadsAllBut, ReadsAllBut-none, ReadsAllBut-next, ReadsAllBut-stops, ReadsAllBut-end}
use Rattle.reference_resolver.specs.res_value.declared.res_id.ResId.{ResId}
use Rattle.reference_resolver.specs.overlay_map.Layer.{LayerOf}
use Rattle.bag_rows.specs.declared.bag_row.BagRow.{BagRow}
use Rattle.bags_themes.specs.declared.bag_fault.BagFault.{BagFault}
use Rattle.bags_themes.specs.Bag.{bag_of}
use Rattle.bags_themes.specs.Theme.{ThemeOf, AttributeValues, value_of, unset, values_after, AppliesRows}
use Rattle.bags_themes.specs.Styles.{rows_of_styles, values_after_styles}
use Rattle.bags_themes.proofs.ThemeSteps.{values_after-none, values_after-append}

-- what attributes have after rows, if there are any
abbrev after_rows : Bool → AttributeValues → Result (List BagRow) BagFault → Result AttributeValues BagFault
after_rows force values rows = rows >>= λ rows. Ok (values_after force rows values)

-- rows, and then those of the styles that are left
first_rows : (force : Bool) (values : AttributeValues) (first : List BagRow) (others : Result (List BagRow) BagFault)
    → after_rows force (values_after force first values) others ≡ after_rows force values (with_front first others)
first_rows force values first (Ok rows) = ap (λ (set : AttributeValues). Ok set) (sym (values_after-append force first rows values))
first_rows force values first (Err fault) = refl

styles-rows : (stack : List LayerOf) (force : Bool) (styles : List ResId) (values : AttributeValues) (d : List ℕ)
    → values_after_styles stack force styles values d ≡ after_rows force values (rows_of_styles stack styles d)
unfolding values_after_styles rows_of_styles joined_each joined
styles-rows stack force [] values d = ap (λ (set : AttributeValues). Ok set) (sym (values_after-none force values))
styles-rows stack force (style ∷ styles) values d = by (bag_of stack style.0 d) (λ values. styles-rows stack force styles values d)
  where
    by : (rows : Result (List BagRow) BagFault)
        → ((values : AttributeValues) → values_after_styles stack force styles values d ≡ after_rows force values (rows_of_styles stack styles d))
        → (rows >>= λ rows. values_after_styles stack force styles (values_after force rows values) d)
        ≡ after_rows force values (joined (rows ∷ map (λ (style : ResId). bag_of stack style.0 d) styles))
    by (Ok rows) others = others (values_after force rows values) ∙ first_rows force values rows (rows_of_styles stack styles d)
    by (Err fault) others = refl

-- the rows of the styles were applied to nothing
pub styles_applied : (stack : List LayerOf) (force : Bool) (styles : List ResId) (d : List ℕ) (rows : List BagRow) (old new : ThemeOf)
    → rows_of_styles stack styles d ≡ Ok rows → old ≡ [] → AppliesRows force rows old new → values_after_styles stack force styles unset d ≡ Ok (value_of new)
styles_applied stack force styles d rows old new read nothing applied =
    let values : values_after force rows (value_of old) ≡ value_of new = sym (fun_ext applied) in
    let empty : unset ≡ value_of old = ap (λ (theme : ThemeOf). value_of theme) (sym nothing) in
    styles-rows stack force styles unset d
    ∙ ap (λ (rows : Result (List BagRow) BagFault). after_rows force unset rows) read
    ∙ ap (λ (set : AttributeValues). Ok (values_after force rows set)) empty
    ∙ ap (λ (set : AttributeValues). Ok set) values

-- one of them is refused
pub styles_refused : (stack : List LayerOf) (force : Bool) (styles : List ResId) (d : List ℕ) (fault : BagFault)
    → rows_of_styles stack styles d ≡ Err fault → values_after_styles stack force styles unset d ≡ Err fault
styles_refused stack force styles d fault read =
    styles-rows stack force styles unset d ∙ ap (λ (rows : Result (List BagRow) BagFault). after_rows force unset rows) read

pub ruleset style_steps = (styles_applied, styles_refused)

-- ---- a loop that reads the rows of one style after the other

-- rows were read, and those of the styles from a place on are still to come
pub record RowsAllBut (stack : List LayerOf) (styles : List ResId) (d : List ℕ) (rows : List BagRow) (place : ℕ) : Type 0 where
  pub read : ReadsAllBut (λ style. bag_of stack style.0 d) rows (drop place styles) (rows_of_styles stack styles d)

pub RowsAllBut-none : (stack : List LayerOf) (styles : List ResId) (d : List ℕ) (rows : List BagRow) → rows ≡ [] → RowsAllBut stack styles d rows 0
unfolding rows_of_styles
RowsAllBut-none stack styles d rows nothing = rw nothing (record {
  read =
      subst (λ (total : Result (List BagRow) BagFault). ReadsAllBut (λ style. bag_of stack style.0 d) [] styles total) (with_front_nil (rows_of_styles stack styles d))
      (ReadsAllBut-none (λ style. bag_of stack style.0 d) [] styles);
})

pub RowsAllBut-next : (stack : List LayerOf) (styles : List ResId) (d : List ℕ) (rows own next : List BagRow) (place : ℕ) (style : ResId)
    → RowsAllBut stack styles d rows place → place < length styles → bag_of stack (get_or styles place style).0 d ≡ Ok own → next ≡ rows ++ own
    → RowsAllBut stack styles d next (place + 1)
RowsAllBut-next stack styles d rows own next place style so_far on given pushed =
    let read : with_front rows (bag_of stack (get_or styles place style).0 d) ≡ Ok next =
    ap (λ (own : Result (List BagRow) BagFault). with_front rows own) given ∙ ap (λ (all : List BagRow). Ok all) (sym pushed) in
    record {
      read =
          ReadsAllBut-next (λ style. bag_of stack style.0 d) rows next (drop place styles) (drop (place + 1) styles) (get_or styles place style) (rows_of_styles stack styles d)
          so_far.read (drop_more styles place style on) read;
    }

pub RowsAllBut-stops : (stack : List LayerOf) (styles : List ResId) (d : List ℕ) (rows : List BagRow) (place : ℕ) (style : ResId) (fault : BagFault)
    → RowsAllBut stack styles d rows place → place < length styles → bag_of stack (get_or styles place style).0 d ≡ Err fault → rows_of_styles stack styles d ≡ Err fault
RowsAllBut-stops stack styles d rows place style fault so_far on given =
    ReadsAllBut-stops (λ style. bag_of stack style.0 d) rows (drop place styles) (drop (place + 1) styles) (get_or styles place style) fault (rows_of_styles stack styles d)
    so_far.read (drop_more styles place style on) (ap (λ (own : Result (List BagRow) BagFault). with_front rows own) given)

pub RowsAllBut-end : (stack : List LayerOf) (styles : List ResId) (d : List ℕ) (rows : List BagRow) (place : ℕ) → RowsAllBut stack styles d rows place → length styles ≤ place
    → rows_of_styles stack styles d ≡ Ok rows
RowsAllBut-end stack styles d rows place so_far past =
    ReadsAllBut-end (λ style. bag_of stack style.0 d) rows (drop place styles) (rows_of_styles stack styles d) so_far.read (drop_all place styles past)
