-- The requests that the program knows: what each is called and what it takes, what its words ask for, and what it is answered.
use Rattle.std.specs.Prelude.{◌≡◌, ◌||◌, ℕ, Bool, true, false, not, List, [], ◌∷◌, codes, Option, Some, None, option_map, Result, Ok, Err, IsOkAnd, IsSomeAnd, if◌then◌else◌}
use Rattle.std.specs.Str.{bytes_eq}
use Rattle.clap.specs.Kinds.{IsAmong}
use Rattle.clap.specs.Faults.{fault_of}
use Rattle.clap.specs.Simple.{App, Shape, new_shape, subcommand_of}
use Rattle.clap.specs.Values.{kind_of}
use Rattle.clap.specs.Walk.{Row, first_of, one_of}
use Rattle.contract_words.specs.Faults.{◌>>=◌}
use Rattle.json_input.specs.Each.{each}
use Rattle.resource_tool.specs.command_base.answer_text.config_record.locales.declared.locale_rule.LocaleRule.{LocaleRule}
use Rattle.resource_tool.specs.command_base.names.Named.{NamedOf, named_of}
use Rattle.restool.specs.declared.argument_fault.ArgumentFault.{ArgumentFault}
use Rattle.restool.specs.declared.words_fault.WordsFault.{WordsFault}
use Rattle.restool.specs.declared.words_fault.WordsFault.TheVariants as faults
use Rattle.restool.specs.declared.request.Request.{Request}
use Rattle.restool.specs.declared.request.Request.TheVariants as requests
use Rattle.restool.specs.declared.request.Command.{Command}
use Rattle.restool.specs.declared.request.Command.TheVariants.{Rows, Dump, Map, Ids, Survey, Show, Query, Explain, Bag, Attr, Make, Check, Diff, Values, Unused, Device}
use Rattle.restool.specs.WordsFault.{read_of_words}
use Rattle.restool.specs.CommandLine.{android, command, device, flag, goal_number, goals, ids, layers, locales, maybe_one_word, maybe_words, names, nodes, one_word, several_words}
use Rattle.restool.specs.Given.{IsGiven, IsAnswerFormGiven, IsFormGiven, IsLineFormGiven, IsGoalNumber, IsNodeLimit, ReadsAlong, ReadsByRule, rule_named, word_at, words_at}
use Rattle.restool.specs.AskedWords.{asked_word, named_word}
use Rattle.restool.specs.Left.{LayerWordsOf, no_layers, layers as layers_in, both_layers}
use Rattle.resource_tool.specs.command_base.FileWords.{texts_of}
use Rattle.restool.specs.declared.asked_words.Asks.TheVariants.{Resources, Goals}
use Rattle.resource_tool.specs.command_base.declared.status.Status.{Status}
use Rattle.resource_tool.specs.command_base.declared.stop.Stop.{Stop}
use Rattle.resource_tool.specs.command_base.Inputs.{Places}
use Rattle.resource_tool.specs.TableOutput.{ListsIds, PrintsRows, PrintsDump}
use Rattle.resource_tool.specs.MapOutput.{PrintsMap}
use Rattle.resource_tool.specs.QueryOutput.{Queries}
use Rattle.resource_tool.specs.ExplainOutput.{Explains}
use Rattle.resource_tool.specs.BagOutput.{PrintsBag}
use Rattle.resource_tool.specs.AttrOutput.{PrintsAttr}
use Rattle.resource_tool.specs.DeviceOutput.{PrintsDevice}
use Rattle.resource_tool.specs.Make.{Makes}
use Rattle.resource_tool.specs.Check.{Checks}
use Rattle.resource_tool.specs.Survey.{Surveys}
use Rattle.resource_tool.specs.Show.{ShowsTrees}
use Rattle.resource_tool.specs.Diff.{Diffs}
use Rattle.resource_tool.specs.Unused.{TellsUnused}
use Rattle.resource_tool.specs.Values.{TellsValues}
use Rattle.resource_tool.specs.command_base.CarriesOut.{IsKept}

-- ---- no words

-- they ask for the rows of the table at this path
abbrev pub AsksForRows : List ℕ → Request → Type 0
AsksForRows path (requests.Rows rows) = (rows.table.now ≡ path) × (rows.android ≡ false)
AsksForRows path _ = ⊥

-- ---- the command line

-- what each command is called, and what it takes
abbrev pub commands : List Shape
commands =
    command (codes "rows") (android ∷ one_word (codes "TABLE") ∷ [])
    ∷ command (codes "dump") (android ∷ one_word (codes "TABLE") ∷ [])
    ∷ command (codes "map") (flag (codes "json") ∷ one_word (codes "TARGET") ∷ one_word (codes "OVERLAY") ∷ [])
    ∷ command (codes "ids") (layers ∷ [])
    ∷ command (codes "survey") (locales ∷ flag (codes "json") ∷ layers ∷ maybe_one_word (codes "BOX") ∷ [])
    ∷ command (codes "show") (flag (codes "raw") ∷ goal_number (codes "dot") ∷ layers ∷ one_word (codes "CERT") ∷ [])
    ∷ command (codes "query") (locales ∷ names ∷ android ∷ flag (codes "json") ∷ layers ∷ device ∷ ids ∷ [])
    ∷ command (codes "explain") (locales ∷ names ∷ android ∷ flag (codes "all") ∷ flag (codes "json") ∷ layers ∷ device ∷ one_word (codes "ID") ∷ [])
    ∷ command (codes "bag") (locales ∷ names ∷ android ∷ flag (codes "json") ∷ layers ∷ device ∷ one_word (codes "ID") ∷ [])
    ∷ command (codes "attr")
    (locales ∷ flag (codes "keep") ∷ names ∷ android ∷ flag (codes "json") ∷ layers ∷ device ∷ one_word (codes "ATTR") ∷ several_words (codes "STYLE") ∷ [])
    ∷ command (codes "make")
    (locales ∷ nodes (codes "max-nodes") ∷ flag (codes "omit") ∷ names ∷ layers ∷ one_word (codes "BOX") ∷ goals ∷ [])
    ∷ command (codes "check")
    (locales ∷ names ∷ android ∷ flag (codes "json") ∷ flag (codes "all") ∷ layers ∷ one_word (codes "BOX") ∷ one_word (codes "CERT") ∷ goals ∷ [])
    ∷ command (codes "diff")
    (locales ∷ flag (codes "raw") ∷ flag (codes "json") ∷ nodes (codes "max-nodes") ∷ one_word (codes "OLD") ∷ one_word (codes "NEW") ∷ one_word (codes "BOX") ∷ maybe_words (codes "NAME") ∷ [])
    ∷ command (codes "values")
    (locales ∷ flag (codes "raw") ∷ flag (codes "json") ∷ nodes (codes "max-nodes") ∷ layers ∷ one_word (codes "BOX") ∷ maybe_words (codes "NAME") ∷ [])
    ∷ command (codes "unused")
    (locales ∷ flag (codes "json") ∷ nodes (codes "max-nodes") ∷ layers ∷ one_word (codes "BOX") ∷ maybe_words (codes "NAME") ∷ [])
    ∷ command (codes "device") (locales ∷ flag (codes "config") ∷ device ∷ [])
    ∷ []

-- the program by itself, which has a version, and has to be given a command
unfoldable pub program_alone : App
program_alone = record { top = record (new_shape (codes "restool")) { has_version = true; subcommand_required = true }; subs = [] }

-- the program with its commands
unfoldable pub command_line : App
command_line = record {
  top = record (new_shape (codes "restool")) { is_leaf = false; has_version = true; subcommand_required = true };
  subs = commands;
}

-- ---- what a command asks for

-- the command of a name
abbrev pub command_of : List ℕ → Option Command
command_of name =
    if bytes_eq name (codes "rows") then Some Rows
    else if bytes_eq name (codes "dump") then Some Dump
    else if bytes_eq name (codes "map") then Some Map
    else if bytes_eq name (codes "ids") then Some Ids
    else if bytes_eq name (codes "survey") then Some Survey
    else if bytes_eq name (codes "show") then Some Show
    else if bytes_eq name (codes "query") then Some Query
    else if bytes_eq name (codes "explain") then Some Explain
    else if bytes_eq name (codes "bag") then Some Bag
    else if bytes_eq name (codes "attr") then Some Attr
    else if bytes_eq name (codes "make") then Some Make
    else if bytes_eq name (codes "check") then Some Check
    else if bytes_eq name (codes "diff") then Some Diff
    else if bytes_eq name (codes "values") then Some Values
    else if bytes_eq name (codes "unused") then Some Unused
    else if bytes_eq name (codes "device") then Some Device
    else None

-- the rule of locales
abbrev pub locales_at : List Row → Result LocaleRule (List ℕ)
locales_at rows = rule_named (first_of (codes "locales") rows)

-- the words of an argument, each of which asks for some resources, or for some goals

abbrev pub resources_at : List ℕ → List Row → Result (List (List ℕ)) (List ℕ)
resources_at name rows = each (asked_word Resources) (words_at name rows)

abbrev pub goals_at : List ℕ → List Row → Result (List (List ℕ)) (List ℕ)
goals_at name rows = each (asked_word Goals) (words_at name rows)

-- an attribute, and then styles
pub record AttrAsked : Type 0 where
  pub attr : NamedOf
  pub styles : List (List ℕ)

unfoldable pub attr_asked : List Row → Result AttrAsked (List ℕ)
attr_asked rows = do
  attr ← named_word (word_at (codes "ATTR") rows)
  styles ← resources_at (codes "STYLE") rows
  Ok (record { attr = attr; styles = styles })

-- the request of each command, whose arguments have these rows

abbrev pub IsRowsOf : List Row → Request → Type 0
IsRowsOf rows (requests.Rows it) = (it.table.now ≡ word_at (codes "TABLE") rows) × IsGiven (codes "android") rows it.android
IsRowsOf rows _ = ⊥

abbrev pub IsDumpOf : List Row → Request → Type 0
IsDumpOf rows (requests.Dump it) = (it.table.now ≡ word_at (codes "TABLE") rows) × IsGiven (codes "android") rows it.android
IsDumpOf rows _ = ⊥

abbrev pub IsMapOf : List Row → Request → Type 0
IsMapOf rows (requests.Map it) =
    (it.target.now ≡ word_at (codes "TARGET") rows) × (it.overlay.now ≡ word_at (codes "OVERLAY") rows) × IsAnswerFormGiven rows it.form
IsMapOf rows _ = ⊥

abbrev pub IsIdsOf : List Row → Request → Type 0
IsIdsOf rows (requests.Ids it) = it.layers.now ≡ word_at (codes "LAYERS") rows
IsIdsOf rows _ = ⊥

abbrev pub IsSurveyOf : LocaleRule → List Row → Request → Type 0
IsSurveyOf rule rows (requests.Survey it) =
    (it.locales ≡ rule) × (it.layers.now ≡ word_at (codes "LAYERS") rows) × (option_map (λ path. path.now) it.box_path ≡ first_of (codes "BOX") rows)
    × IsAnswerFormGiven rows it.form
IsSurveyOf rule rows _ = ⊥

abbrev pub IsShowOf : List Row → Request → Type 0
IsShowOf rows (requests.Show it) =
    (it.layers.now ≡ word_at (codes "LAYERS") rows) × (it.certificate.now ≡ word_at (codes "CERT") rows)
    × IsFormGiven rows it.form × IsGoalNumber (one_of (codes "dot") rows) it.pictured
IsShowOf rows _ = ⊥

abbrev pub IsQueryOf : LocaleRule → List Row → List (List ℕ) → Request → Type 0
IsQueryOf rule rows asked (requests.Query it) =
    (it.locales ≡ rule) × (it.layers.now ≡ word_at (codes "LAYERS") rows) × (it.device.now ≡ word_at (codes "DEVICE") rows)
    × IsGiven (codes "names") rows it.names × IsAnswerFormGiven rows it.form × (asked ≡ texts_of it.words)
IsQueryOf rule rows asked _ = ⊥

abbrev pub IsExplainOf : LocaleRule → List Row → NamedOf → Request → Type 0
IsExplainOf rule rows asked (requests.Explain it) =
    (it.locales ≡ rule) × (it.layers.now ≡ word_at (codes "LAYERS") rows) × (it.device.now ≡ word_at (codes "DEVICE") rows)
    × IsGiven (codes "names") rows it.names × IsAnswerFormGiven rows it.form × IsGiven (codes "all") rows it.all
    × (asked ≡ named_of it.resource)
IsExplainOf rule rows asked _ = ⊥

abbrev pub IsBagOf : LocaleRule → List Row → NamedOf → Request → Type 0
IsBagOf rule rows asked (requests.Bag it) =
    (it.locales ≡ rule) × (it.layers.now ≡ word_at (codes "LAYERS") rows) × (it.device.now ≡ word_at (codes "DEVICE") rows)
    × IsGiven (codes "names") rows it.names × IsAnswerFormGiven rows it.form × (asked ≡ named_of it.resource)
IsBagOf rule rows asked _ = ⊥

abbrev pub IsAttrOf : LocaleRule → List Row → AttrAsked → Request → Type 0
IsAttrOf rule rows asked (requests.Attr it) =
    (it.locales ≡ rule) × (it.layers.now ≡ word_at (codes "LAYERS") rows) × (it.device.now ≡ word_at (codes "DEVICE") rows)
    × IsGiven (codes "names") rows it.names × IsAnswerFormGiven rows it.form × IsGiven (codes "keep") rows (not it.force)
    × (asked ≡ record { attr = named_of it.attr; styles = texts_of it.styles })
IsAttrOf rule rows asked _ = ⊥

abbrev pub IsMakeOf : LocaleRule → List Row → List (List ℕ) → Request → Type 0
IsMakeOf rule rows asked (requests.Make it) =
    (it.locales ≡ rule) × (it.layers.now ≡ word_at (codes "LAYERS") rows) × (it.box_path.now ≡ word_at (codes "BOX") rows)
    × IsGiven (codes "names") rows it.names × IsNodeLimit (one_of (codes "max-nodes") rows) it.max_nodes
    × IsGiven (codes "omit") rows it.omit × (asked ≡ texts_of it.goals)
IsMakeOf rule rows asked _ = ⊥

abbrev pub IsCheckOf : LocaleRule → List Row → List (List ℕ) → Request → Type 0
IsCheckOf rule rows asked (requests.Check it) =
    (it.locales ≡ rule) × (it.layers.now ≡ word_at (codes "LAYERS") rows) × (it.box_path.now ≡ word_at (codes "BOX") rows)
    × (it.certificate.now ≡ word_at (codes "CERT") rows) × IsGiven (codes "names") rows it.names × IsAnswerFormGiven rows it.form
    × IsGiven (codes "all") rows it.all × (asked ≡ texts_of it.goals)
IsCheckOf rule rows asked _ = ⊥

abbrev pub IsDiffOf : LocaleRule → List Row → List (List ℕ) → Request → Type 0
IsDiffOf rule rows asked (requests.Diff it) =
    (it.locales ≡ rule) × (it.old.now ≡ word_at (codes "OLD") rows) × (it.new.now ≡ word_at (codes "NEW") rows) × (it.box_path.now ≡ word_at (codes "BOX") rows)
    × IsLineFormGiven rows it.form × IsNodeLimit (one_of (codes "max-nodes") rows) it.max_nodes × (asked ≡ texts_of it.words)
IsDiffOf rule rows asked _ = ⊥

abbrev pub IsValuesOf : LocaleRule → List Row → List (List ℕ) → Request → Type 0
IsValuesOf rule rows asked (requests.Values it) =
    (it.locales ≡ rule) × (it.layers.now ≡ word_at (codes "LAYERS") rows) × (it.box_path.now ≡ word_at (codes "BOX") rows)
    × IsLineFormGiven rows it.form × IsNodeLimit (one_of (codes "max-nodes") rows) it.max_nodes × (asked ≡ texts_of it.words)
IsValuesOf rule rows asked _ = ⊥

abbrev pub IsUnusedOf : LocaleRule → List Row → List (List ℕ) → Request → Type 0
IsUnusedOf rule rows asked (requests.Unused it) =
    (it.locales ≡ rule) × (it.layers.now ≡ word_at (codes "LAYERS") rows) × (it.box_path.now ≡ word_at (codes "BOX") rows)
    × IsLineFormGiven rows it.form × IsNodeLimit (one_of (codes "max-nodes") rows) it.max_nodes × (asked ≡ texts_of it.words)
IsUnusedOf rule rows asked _ = ⊥

abbrev pub IsDeviceOf : LocaleRule → List Row → Request → Type 0
IsDeviceOf rule rows (requests.Device it) =
    (it.locales ≡ rule) × (it.device.now ≡ word_at (codes "DEVICE") rows) × IsGiven (codes "config") rows it.config
IsDeviceOf rule rows _ = ⊥

-- a command was read, whose arguments have these rows; what they ask for is read from left to right
abbrev pub ReadsCommand : Command → List Row → Result Request ArgumentFault → Type 0
ReadsCommand Rows rows result = IsOkAnd result (IsRowsOf rows)
ReadsCommand Dump rows result = IsOkAnd result (IsDumpOf rows)
ReadsCommand Map rows result = IsOkAnd result (IsMapOf rows)
ReadsCommand Ids rows result = IsOkAnd result (IsIdsOf rows)
ReadsCommand Survey rows result = ReadsByRule (locales_at rows) (λ rule read. IsOkAnd read (IsSurveyOf rule rows)) result
ReadsCommand Show rows result = IsOkAnd result (IsShowOf rows)
ReadsCommand Query rows result = ReadsByRule (locales_at rows) (λ rule. ReadsAlong (resources_at (codes "ID") rows) (IsQueryOf rule rows)) result
ReadsCommand Explain rows result = ReadsByRule (locales_at rows) (λ rule. ReadsAlong (named_word (word_at (codes "ID") rows)) (IsExplainOf rule rows)) result
ReadsCommand Bag rows result = ReadsByRule (locales_at rows) (λ rule. ReadsAlong (named_word (word_at (codes "ID") rows)) (IsBagOf rule rows)) result
ReadsCommand Attr rows result = ReadsByRule (locales_at rows) (λ rule. ReadsAlong (attr_asked rows) (IsAttrOf rule rows)) result
ReadsCommand Make rows result = ReadsByRule (locales_at rows) (λ rule. ReadsAlong (goals_at (codes "GOAL") rows) (IsMakeOf rule rows)) result
ReadsCommand Check rows result = ReadsByRule (locales_at rows) (λ rule. ReadsAlong (goals_at (codes "GOAL") rows) (IsCheckOf rule rows)) result
ReadsCommand Diff rows result = ReadsByRule (locales_at rows) (λ rule. ReadsAlong (resources_at (codes "NAME") rows) (IsDiffOf rule rows)) result
ReadsCommand Values rows result = ReadsByRule (locales_at rows) (λ rule. ReadsAlong (resources_at (codes "NAME") rows) (IsValuesOf rule rows)) result
ReadsCommand Unused rows result = ReadsByRule (locales_at rows) (λ rule. ReadsAlong (resources_at (codes "NAME") rows) (IsUnusedOf rule rows)) result
ReadsCommand Device rows result = ReadsByRule (locales_at rows) (λ rule read. IsOkAnd read (IsDeviceOf rule rows)) result

-- Words were read, of which the first is the program's name: a fault of the command line comes first, and else it is the
-- command that they name.
abbrev pub ReadsCommandLine : List (List ℕ) → Result Request WordsFault → Type 0
ReadsCommandLine words (Err (faults.CommandLine error)) = IsAmong (kind_of error) (fault_of command_line words)
ReadsCommandLine words (Err faults.OutOfMemory) = Unit {0}
ReadsCommandLine words result =
    (fault_of command_line words ≡ [])
    × ((name : List ℕ) × (rows : List Row) × (read : Result Request ArgumentFault) × (subcommand_of command_line words ≡ Some (name, rows))
    × IsSomeAnd (command_of name) (λ command. ReadsCommand command rows read) × (result ≡ read_of_words read))

-- The same, where there may be no words after the program's name: they ask for the rows of the standard input.
abbrev pub AsksFor : List (List ℕ) → Result Request WordsFault → Type 0
AsksFor (name ∷ word ∷ words) result = ReadsCommandLine (name ∷ word ∷ words) result
AsksFor _ result = IsOkAnd result (AsksForRows (codes "-"))

-- ---- what a request is answered

-- the words that give layers
abbrev pub layer_words : Request → LayerWordsOf
layer_words (requests.Ids it) = layers_in it.layers.now
layer_words (requests.Survey it) = layers_in it.layers.now
layer_words (requests.Show it) = layers_in it.layers.now
layer_words (requests.Query it) = layers_in it.layers.now
layer_words (requests.Explain it) = layers_in it.layers.now
layer_words (requests.Bag it) = layers_in it.layers.now
layer_words (requests.Attr it) = layers_in it.layers.now
layer_words (requests.Make it) = layers_in it.layers.now
layer_words (requests.Check it) = layers_in it.layers.now
layer_words (requests.Diff it) = both_layers it.old.now it.new.now
layer_words (requests.Values it) = layers_in it.layers.now
layer_words (requests.Unused it) = layers_in it.layers.now
layer_words _ = no_layers

-- A request, from what the places have: as the crate of its command says. Only `map`, `make` and `check` themselves have lines for
-- errors.
abbrev pub Answers : {W V : Type 0} → Bool → (W → Option (List ℕ)) → (V → Option (List ℕ)) → W → W → V → V → Places → Request → Result Status Stop → Type 0
Answers is_terminal contents says old new before after places (requests.Rows it) = PrintsRows contents old new places it
Answers is_terminal contents says old new before after places (requests.Dump it) = PrintsDump contents old new places it
Answers is_terminal contents says old new before after places (requests.Map it) = PrintsMap contents says old new before after places it
Answers is_terminal contents says old new before after places (requests.Ids it) = ListsIds contents old new places it
Answers is_terminal contents says old new before after places (requests.Survey it) = Surveys contents old new places it
Answers is_terminal contents says old new before after places (requests.Show it) = ShowsTrees contents old new places it
Answers is_terminal contents says old new before after places (requests.Query it) = Queries contents old new places it
Answers is_terminal contents says old new before after places (requests.Explain it) = Explains contents old new places it
Answers is_terminal contents says old new before after places (requests.Bag it) = PrintsBag contents old new places it
Answers is_terminal contents says old new before after places (requests.Attr it) = PrintsAttr contents old new places it
Answers is_terminal contents says old new before after places (requests.Make it) = Makes is_terminal contents says old new before after places it
Answers is_terminal contents says old new before after places (requests.Check it) = Checks contents says old new before after places it
Answers is_terminal contents says old new before after places (requests.Diff it) = Diffs contents old new places it
Answers is_terminal contents says old new before after places (requests.Values it) = TellsValues contents old new places it
Answers is_terminal contents says old new before after places (requests.Unused it) = TellsUnused contents old new places it
Answers is_terminal contents says old new before after places (requests.Device it) = PrintsDevice contents old new places it

-- What errors get of a command that may say something beside its answer; they were before and are after. Where there is no
-- answer they are as they were, unless a write failed.
abbrev pub ErrorsGetBeside : {V : Type 0} → Bool → V → V → Result Status Stop → Type 0
ErrorsGetBeside may_say before after outcome =
    (may_say ≡ false → after ≡ before) × IsKept before after outcome

-- What errors get of a request. On a terminal `make` shows how far it is.
abbrev pub ErrorsGet : {V : Type 0} → Bool → V → V → Request → Result Status Stop → Type 0
ErrorsGet is_terminal before after (requests.Map it) outcome = ErrorsGetBeside true before after outcome
ErrorsGet is_terminal before after (requests.Make it) outcome = is_terminal ≡ false → ErrorsGetBeside (it.names || it.omit) before after outcome
ErrorsGet is_terminal before after (requests.Check it) outcome = ErrorsGetBeside it.names before after outcome
ErrorsGet is_terminal before after _ outcome = after ≡ before
