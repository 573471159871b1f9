-- Goals, and the words of goals of ids: `0x7f010000`, or `0x01010001@0x7f010000,0x7f010001`.
use Rattle.std.specs.Prelude.{ℕ, ◌==◌, nat_lt, Bool, List, [], ◌∷◌, length, map, Result, Ok, is_some, ok_or, if◌then◌else◌}
use Rattle.std.specs.List.{list_all, list_any, before_first, after_first, slice_split}
use Rattle.contract_words.specs.Faults.{◌>>=◌, refuse}
use Rattle.contract_words.specs.Sequences.{joined_each}
use Rattle.res_value.specs.declared.goal.Goal.{Goal}
use Rattle.res_value.specs.declared.goal.Goal.TheVariants as goal
use Rattle.res_value.specs.declared.goal_fault.GoalFault.{GoalFault}
use Rattle.res_value.specs.declared.goal_fault.GoalFault.TheVariants.{Malformed}
use Rattle.res_value.specs.declared.goal_word.GoalWord.{GoalWord}
use Rattle.res_value.specs.declared.goal_word.GoalWord.TheVariants as word
use Rattle.res_value.specs.declared.res_id.ResId.{ResId}
use Rattle.res_value.specs.ResId.{id_of}

-- what is asked of a device: where an id ends, or where an attribute ends under styles, which are
-- applied in their order
pub data GoalSeen : Type 0 where
  IdGoal : ResId → GoalSeen
  AttrGoal : ResId → List ResId → GoalSeen

abbrev pub goal_seen : Goal → GoalSeen
goal_seen (goal.Id id) = IdGoal id
goal_seen (goal.Attr attr styles) = AttrGoal attr styles.items

-- how many styles a goal can have
abbrev pub most_styles : ℕ
most_styles = 64

-- ---- the parts of words

-- '@', before the styles
abbrev pub is_at_sign : ℕ → Bool
is_at_sign b = b == 64

-- ',', between two styles
abbrev pub is_comma : ℕ → Bool
is_comma b = b == 44

-- whether a text is of ids alone, with commas between them
unfoldable pub is_id_list : List ℕ → Bool
is_id_list text = list_all (λ part. is_some (id_of part)) (slice_split is_comma text)

-- a word without `@`, or an attribute and its styles, whatever these are
pub data GoalWordOf : Type 0 where
  PlainWord : List ℕ → GoalWordOf
  UnderStyles : List ℕ → List (List ℕ) → GoalWordOf

abbrev pub goal_word_of : GoalWord → GoalWordOf
goal_word_of (word.Plain text) = PlainWord text.now
goal_word_of (word.UnderStyles attr styles) = UnderStyles attr.now (map (λ style. style.now) styles.items)

-- an attribute and 1 to 64 styles
unfoldable pub under_styles : List ℕ → List (List ℕ) → Result GoalWordOf GoalFault
under_styles attr styles = refuse (nat_lt most_styles (length styles)) Malformed >>= λ _. Ok (UnderStyles attr styles)

-- the first `@` parts the attribute from its styles
unfoldable pub goal_word_in : List ℕ → Result GoalWordOf GoalFault
goal_word_in word =
    if list_any is_at_sign word then under_styles (before_first is_at_sign word) (slice_split is_comma (after_first is_at_sign word))
    else Ok (PlainWord word)

-- ---- goals of ids

unfoldable pub id_in : List ℕ → Result ResId GoalFault
id_in text = ok_or (id_of text) Malformed

-- the same as a list of one
unfoldable pub listed_id : List ℕ → Result (List ResId) GoalFault
listed_id text = id_in text >>= λ id. Ok (id ∷ [])

-- one after the other
unfoldable pub ids_in : List (List ℕ) → Result (List ResId) GoalFault
ids_in texts = joined_each listed_id texts

-- the goal of these parts, where all of them are ids
unfoldable pub goal_of_parts : GoalWordOf → Result GoalSeen GoalFault
goal_of_parts (PlainWord text) = id_in text >>= λ id. Ok (IdGoal id)
goal_of_parts (UnderStyles attr styles) = do
  attr ← id_in attr
  styles ← ids_in styles
  Ok (AttrGoal attr styles)

-- the goal that a word asks for
unfoldable pub goal_in : List ℕ → Result GoalSeen GoalFault
goal_in word = goal_word_in word >>= goal_of_parts
