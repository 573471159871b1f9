-- The arguments of the command line that is understood.
use Rattle.std.specs.Prelude.{ℕ, true, List, codes, Some, pos}
use Rattle.clap.specs.Lexer.{usize_max}
use Rattle.clap.specs.Walk.{Rule}
use Rattle.clap.specs.Simple.{Shape, new_rule, new_shape}
use Rattle.clap.specs.declared.builder.action.ArgAction.TheVariants.{Set, Append, SetTrue}
use Rattle.clap.specs.declared.builder.value_parser.ValueParser.TheVariants as parsers

-- ---- arguments

-- one word
abbrev pub one_word : List ℕ → Rule
one_word name = record (new_rule name) { action = Some Set; required = true }

-- one word, which may be left out
abbrev pub maybe_one_word : List ℕ → Rule
maybe_one_word name = record (new_rule name) { action = Some Set }

-- one word or more
abbrev pub several_words : List ℕ → Rule
several_words name = record (new_rule name) {
  action = Some Append;
  required = true;
  range = Some (record { start_inclusive = 1; end_inclusive = usize_max });
}

-- one word or more, which may be left out
abbrev pub maybe_words : List ℕ → Rule
maybe_words name = record (new_rule name) {
  action = Some Append;
  range = Some (record { start_inclusive = 1; end_inclusive = usize_max });
}

-- a flag, `--NAME`
abbrev pub flag : List ℕ → Rule
flag name = record (new_rule name) { long = Some name; action = Some SetTrue }

-- how many nodes trees may have at most, and where the words name no number

abbrev pub most_nodes : ℕ
most_nodes = 1000000

abbrev pub nodes_if_left_out : ℕ
nodes_if_left_out = 100000

-- such a number after `--NAME`, which may be left out
abbrev pub nodes : List ℕ → Rule
nodes name = record (new_rule name) {
  long = Some name;
  value_names = 1;
  parser = Some (parsers.Signed (pos 1) (pos most_nodes));
}

-- the greatest number of a goal that the words can name

abbrev pub greatest_goal : ℕ
greatest_goal = 4294967295

-- such a number after `--NAME`, which may be left out
abbrev pub goal_number : List ℕ → Rule
goal_number name = record (new_rule name) {
  long = Some name;
  value_names = 1;
  parser = Some (parsers.Signed (pos 0) (pos greatest_goal));
}

-- a word after `--NAME`, which may be left out
abbrev pub option_word : List ℕ → Rule
option_word name = record (new_rule name) { long = Some name; value_names = 1 }

-- ---- commands

abbrev pub command : List ℕ → List Rule → Shape
command name arguments = record (new_shape name) { rules = arguments }

abbrev pub layers : Rule
layers = one_word (codes "LAYERS")

abbrev pub device : Rule
device = one_word (codes "DEVICE")

abbrev pub ids : Rule
ids = several_words (codes "ID")

abbrev pub goals : Rule
goals = several_words (codes "GOAL")

-- by which rule locales are compared
abbrev pub locales : Rule
locales = option_word (codes "locales")

-- the names of ids are asked for
abbrev pub names : Rule
names = flag (codes "names")

-- Android's notation is asked for
abbrev pub android : Rule
android = flag (codes "android")
