-- With what a stack is compared.
use Rattle.std.specs.Prelude.{Bool, true, false, Option, Some}
use Rattle.answer_text.specs.Content.{ContentOf}
use Rattle.stack_diff.specs.declared.compared_with.ComparedWith.{ComparedWith}
use Rattle.stack_diff.specs.declared.compared_with.ComparedWith.TheVariants.{Other, Itself, Nothing}
use Rattle.stack_diff.specs.Difference.{DifferenceOf, FromNothing, difference}

abbrev pub with_itself : ComparedWith → Bool
with_itself Other = false
with_itself Itself = true
with_itself Nothing = false

abbrev pub with_nothing : ComparedWith → Bool
with_nothing Other = false
with_nothing Itself = false
with_nothing Nothing = true

-- the stack before is the one after
abbrev pub with_no_other : ComparedWith → Bool
with_no_other Other = false
with_no_other Itself = true
with_no_other Nothing = true

-- two stacks, which may be one
abbrev pub itself_if : Bool → ComparedWith
itself_if true = Itself
itself_if false = Other

-- what is told of two contents: how they differ, or all that is said after
abbrev pub told_between : ComparedWith → ContentOf → ContentOf → Option DifferenceOf
told_between Other before after = difference before after
told_between Itself before after = difference before after
told_between Nothing before after = Some (FromNothing after)
