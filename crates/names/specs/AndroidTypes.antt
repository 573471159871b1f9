-- The types of Android's resources (aapt2: `ResourceType`).
use Rattle.std.specs.Prelude.{ℕ, Bool, List, [], ◌∷◌, codes}
use Rattle.std.specs.List.{list_any}
use Rattle.std.specs.Str.{bytes_eq}

unfoldable pub android_types : List (List ℕ)
android_types =
    codes "anim" ∷ codes "animator" ∷ codes "array" ∷ codes "attr" ∷ codes "^attr-private" ∷ codes "bool" ∷ codes "color"
    ∷ codes "configVarying" ∷ codes "dimen" ∷ codes "drawable" ∷ codes "font" ∷ codes "fraction" ∷ codes "id" ∷ codes "integer"
    ∷ codes "interpolator" ∷ codes "layout" ∷ codes "macro" ∷ codes "menu" ∷ codes "mipmap" ∷ codes "navigation" ∷ codes "plurals"
    ∷ codes "raw" ∷ codes "string" ∷ codes "style" ∷ codes "styleable" ∷ codes "transition" ∷ codes "xml" ∷ []

unfoldable pub is_android_type : List ℕ → Bool
is_android_type type_name = list_any (λ other. bytes_eq other type_name) android_types
