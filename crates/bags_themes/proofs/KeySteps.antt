-- How the values of a theme are gone through, and go over into another map.
use Rattle.std.proofs.Common.{◌≡◌, ℕ, ◌+◌, ◌==◌, Bool, [], ◌∷◌, ◌++◌, map, take, drop, Some, None, sym, ap, subst, ◌∙◌}
use Rattle.std.proofs.lemmas.Cmp.{nat_eq_equiv}
use Rattle.std.proofs.lemmas.List.{map-append, take_more, drop_more, take-append-drop}
use Rattle.std.proofs.lemmas.Option.{slice_get_within, get_or_from_slice_get}
use Rattle.std.specs.Cmp.{IsEquivalence}
use Rattle.std.specs.List.{slice_get, IsDistinct}
use Rattle.std.specs.Map.{keys_of, lookup}
use Rattle.indexmap.specs.IndexMap.{IndexMap, insert_entry}
use Rattle.indexmap.proofs.CallerLemmas.{insert_entry-new}
use Rattle.indexmap.proofs.MapLemmas.{absent_before}
use Rattle.reference_resolver.specs.overlay_map.declared.content_keys.ContentKeys.{ContentKeys}
use Rattle.reference_resolver.specs.res_value.declared.res_id.ResId.{ResId}
use Rattle.bag_rows.specs.declared.theme_value.ThemeValue.{ThemeValue}
use Rattle.bags_themes.specs.Theme.{ThemeOf}

-- the values up to a place, and the one there
take-one_more : (theme : ThemeOf) (place : ℕ) (set : ResId × ThemeValue) → slice_get theme place ≡ Some set → take (place + 1) theme ≡ take place theme ++ set ∷ []
take-one_more theme place set at =
    take_more theme place set (slice_get_within theme place set at)
    ∙ ap (λ (there : ResId × ThemeValue). take place theme ++ there ∷ []) (get_or_from_slice_get theme place set set at)

-- their attributes
pub attributes-next : (theme : ThemeOf) (place : ℕ) (attr : ResId) (set : ThemeValue) → slice_get theme place ≡ Some (attr, set)
    → map (λ set. set.0.0) (take place theme) ++ attr.0 ∷ [] ≡ map (λ set. set.0.0) (take (place + 1) theme)
attributes-next theme place attr set at =
    sym (map-append (λ (set : ResId × ThemeValue). set.0.0) (take place theme) ((attr, set) ∷ []))
    ∙ ap (λ (sets : ThemeOf). map (λ set. set.0.0) sets) (sym (take-one_more theme place (attr, set) at))

abbrev pub same_id : ResId → ResId → Bool
same_id a b = a.0 == b.0

same_id-equivalence : IsEquivalence same_id
same_id-equivalence = record { refl = λ a. nat_eq_equiv.refl a.0; symm = λ a b. nat_eq_equiv.symm a.0 b.0; congr = λ a b c. nat_eq_equiv.congr a.0 b.0 c.0 }

-- no attribute stands twice, so each goes behind those that went over
pub values-next : (theme : ThemeOf) (place : ℕ) (attr : ResId) (set : ThemeValue) (same : IndexMap ResId ThemeValue ContentKeys)
    → IsDistinct same_id (keys_of theme) → slice_get theme place ≡ Some (attr, set) → same.entries ≡ take place theme
    → insert_entry same_id same.entries attr set ≡ take (place + 1) theme
values-next theme place attr set same distinct at before =
    let behind = drop (place + 1) theme in
    let split : theme ≡ take place theme ++ (attr, set) ∷ behind =
    sym (take-append-drop place theme)
    ∙ ap (λ (left : ThemeOf). take place theme ++ left) (drop_more theme place (attr, set) (slice_get_within theme place (attr, set) at))
    ∙ ap (λ (there : ResId × ThemeValue). take place theme ++ there ∷ behind) (get_or_from_slice_get theme place (attr, set) (attr, set) at) in
    let absent : lookup (same_id attr) (take place theme) ≡ None =
    absent_before same_id-equivalence (take place theme) behind (attr, set) (subst (λ (theme : ThemeOf). IsDistinct same_id (keys_of theme)) split distinct) in
    insert_entry-new same_id same attr set (ap (λ (sets : ThemeOf). lookup (same_id attr) sets) before ∙ absent)
    ∙ ap (λ (sets : ThemeOf). sets ++ (attr, set) ∷ []) before
    ∙ sym (take-one_more theme place (attr, set) at)
