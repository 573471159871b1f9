-- Goals as text: an id, or an attribute under styles.
use Rattle.std.specs.Prelude.{ℕ, List, [], ◌∷◌, ◌++◌, codes}
use Rattle.std.specs.List.{flat_map}
use Rattle.bags_themes.specs.overlay_map.Layer.{LayerOf}
use Rattle.bags_themes.specs.res_value.declared.res_id.ResId.{ResId}
use Rattle.bags_themes.specs.res_value.ResId.{id_text}
use Rattle.answer_text.specs.NameText.{its_name}

-- `,STYLE`
unfoldable pub next_style : ResId → List ℕ
next_style style = codes "," ++ id_text style.0

-- `@STYLE,STYLE`, where there are styles
unfoldable pub under_styles : List ResId → List ℕ
under_styles [] = []
under_styles (first ∷ others) = codes "@" ++ id_text first.0 ++ flat_map next_style others

-- `ID`, or `ATTR@STYLE,STYLE`: the word for which the command line takes the goal
unfoldable pub goal_word : ℕ → List ResId → List ℕ
goal_word id styles = id_text id ++ under_styles styles

abbrev pub style_names : List LayerOf → List ResId → List ℕ
style_names stack styles = flat_map (λ style. its_name stack style.0) styles

-- that word, and behind it the names of its ids, in their order
unfoldable pub goal_words : List LayerOf → ℕ → List ResId → List ℕ
goal_words stack id styles = goal_word id styles ++ its_name stack id ++ style_names stack styles
