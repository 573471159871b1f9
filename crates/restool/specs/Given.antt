-- What the arguments of a command have.
use Rattle.std.specs.Prelude.{◌≡◌, ◌≢◌, ◌≤◌, ℕ, Bool, true, false, List, [], codes, Option, Some, None, unwrap_or, Result, Ok, Err, if◌then◌else◌}
use Rattle.std.specs.Str.{bytes_eq}
use Rattle.std.specs.Str.Parse.{IsNumeral, digits_value, without_leading_plus}
use Rattle.resource_tool.specs.command_base.answer_text.config_record.locales.declared.locale_rule.LocaleRule.{LocaleRule}
use Rattle.resource_tool.specs.command_base.answer_text.config_record.locales.declared.locale_rule.LocaleRule.TheVariants.{LanguageAndRegion, Android}
use Rattle.resource_tool.specs.resource_text.declared.line_form.LineForm.{LineForm}
use Rattle.resource_tool.specs.resource_text.declared.line_form.LineForm.TheVariants.{Text, Json}
use Rattle.resource_tool.specs.notation.declared.form.Form.{Form}
use Rattle.resource_tool.specs.notation.declared.form.Form.TheVariants as forms
use Rattle.clap.specs.Walk.{Row, first_of, one_of, all_of}
use Rattle.restool.specs.declared.argument_fault.ArgumentFault.{ArgumentFault}
use Rattle.restool.specs.declared.argument_fault.ArgumentFault.TheVariants as faults
use Rattle.restool.specs.CommandLine.{most_nodes, nodes_if_left_out, greatest_goal}

-- the word of an argument that takes one; it is required, so there is one
abbrev pub word_at : List ℕ → List Row → List ℕ
word_at name rows = unwrap_or (first_of name rows) []

-- the words of an argument that takes several
abbrev pub words_at : List ℕ → List Row → List (List ℕ)
words_at name rows = unwrap_or (all_of name rows) []

-- whether a flag is given
abbrev pub IsGiven : List ℕ → List Row → Bool → Type 0
IsGiven name rows true = one_of name rows ≡ Some (codes "true")
IsGiven name rows false = one_of name rows ≢ Some (codes "true")

-- the raw form, where the words ask for it
abbrev pub IsFormGiven : List Row → Form → Type 0
IsFormGiven rows forms.Raw = IsGiven (codes "raw") rows true
IsFormGiven rows forms.Android = IsGiven (codes "raw") rows false

-- JSON, where the words ask for it, whatever else they ask for
abbrev pub IsLineFormGiven : List Row → LineForm → Type 0
IsLineFormGiven rows Json = IsGiven (codes "json") rows true
IsLineFormGiven rows (Text form) = IsGiven (codes "json") rows false × IsFormGiven rows form

-- JSON, where the words ask for it, whatever else they ask for; else Android's notation, where they ask for that; else the raw form
abbrev pub IsAnswerFormGiven : List Row → LineForm → Type 0
IsAnswerFormGiven rows Json = IsGiven (codes "json") rows true
IsAnswerFormGiven rows (Text forms.Android) = IsGiven (codes "json") rows false × IsGiven (codes "android") rows true
IsAnswerFormGiven rows (Text forms.Raw) = IsGiven (codes "json") rows false × IsGiven (codes "android") rows false

-- The number of nodes that a word spells, or the number for a word that is left out. Nothing is said of a word that
-- spells no number of nodes that may be asked for: such a word is a fault of the command line, and no request is made.
abbrev pub IsNodeLimit : Option (List ℕ) → ℕ → Type 0
IsNodeLimit None limit = limit ≡ nodes_if_left_out
IsNodeLimit (Some word) limit =
    let digits = without_leading_plus word in
    IsNumeral 10 digits → 1 ≤ digits_value 10 digits → digits_value 10 digits ≤ most_nodes → limit ≡ digits_value 10 digits

-- the number of a goal that a word spells, or none for a word that is left out; what spells no such number is a fault as above
abbrev pub IsGoalNumber : Option (List ℕ) → Option ℕ → Type 0
IsGoalNumber None goal = goal ≡ None
IsGoalNumber (Some word) goal =
    let digits = without_leading_plus word in
    IsNumeral 10 digits → digits_value 10 digits ≤ greatest_goal → goal ≡ Some (digits_value 10 digits)

-- the rule of locales that a word names, or that of language and region where it is left out; or the word, if it names none
abbrev pub rule_named : Option (List ℕ) → Result LocaleRule (List ℕ)
rule_named None = Ok LanguageAndRegion
rule_named (Some word) = if bytes_eq word (codes "android") then Ok Android else Err word

-- a call gave the rule that is meant, or named the word that names none
abbrev pub ReadsRule : Result LocaleRule ArgumentFault → Result LocaleRule (List ℕ) → Type 0
ReadsRule (Ok rule) meant = meant ≡ Ok rule
ReadsRule (Err (faults.BadRule word)) meant = meant ≡ Err word.now
ReadsRule (Err fault) meant = ⊥

-- Words were read that are to ask for resources or goals: what was read is right for what they ask, or the first word that
-- asks for nothing is named. Where memory ran out, nothing is said.
abbrev pub ReadsAlong : {S X : Type 0} → Result S (List ℕ) → (S → X → Type 0) → Result X ArgumentFault → Type 0
ReadsAlong {S} meant IsRight (Ok x) = (spelled : S) × (meant ≡ Ok spelled) × IsRight spelled x
ReadsAlong meant IsRight (Err (faults.BadId word)) = meant ≡ Err word.now
ReadsAlong meant IsRight (Err faults.OutOfMemory) = Unit {0}
ReadsAlong meant IsRight (Err fault) = ⊥

-- The same, where a word names the rule of locales, and is read first.
abbrev pub ReadsByRule : {X : Type 0} → Result LocaleRule (List ℕ) → (LocaleRule → Result X ArgumentFault → Type 0) → Result X ArgumentFault → Type 0
ReadsByRule meant Reads (Err (faults.BadRule word)) = meant ≡ Err word.now
ReadsByRule meant Reads result = (rule : LocaleRule) × (meant ≡ Ok rule) × Reads rule result
