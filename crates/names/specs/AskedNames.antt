-- The names in words, in their order. Contracts within the crate alone speak of this.
use Rattle.std.specs.Prelude.{List, [], ◌∷◌, ◌++◌}
use Rattle.std.specs.List.{flat_map}
use Rattle.names.specs.Names.{WantedOf, wanted_name}
use Rattle.names.specs.Named.{NamedOf, ById, ByName}
use Rattle.names.specs.NamedSet.{NamedSetOf, SetOfOne, SetOfType, SetOfAll}
use Rattle.names.specs.NamedGoal.{NamedGoalOf, GoalOfIds, GoalsOfSet, GoalOfAttr}

abbrev pub names_in : NamedOf → List WantedOf
names_in (ById id) = []
names_in (ByName in_package type_name entry_name) = wanted_name in_package type_name entry_name ∷ []

abbrev pub names_in_set : NamedSetOf → List WantedOf
names_in_set (SetOfOne named) = names_in named
names_in_set (SetOfType in_package type_name) = []
names_in_set SetOfAll = []

abbrev pub names_in_goal : NamedGoalOf → List WantedOf
names_in_goal (GoalOfIds goal) = []
names_in_goal (GoalsOfSet set) = names_in_set set
names_in_goal (GoalOfAttr attr styles) = names_in attr ++ flat_map names_in styles
