-- What a test does to a box of an open path, and to the list of such boxes.
use Rattle.std.specs.Prelude.{◌≡◌, ◌⊎◌, true, false, List, [], ◌∷◌, ◌++◌}
use Rattle.config_box.specs.box_answers.NumberSet.{SetOf}
use Rattle.config_box.specs.box_answers.Members.{IsMember}
use Rattle.config_box.specs.box_answers.MemberAnswers.{AllAnswer}
use Rattle.config_box.specs.Halves.{IsHalf}
use Rattle.config_box.specs.Tests.{TestOf, answers, has_wrong_kind}
use Rattle.box_trace.specs.declared.halving.Halving.{Halving}
use Rattle.box_trace.specs.declared.halving.Halving.TheVariants.{Opened, WrongKind, EmptyHalf}

-- two boxes more, which are the halves
pub record OpensHalves (box : List SetOf) (test : TestOf) (old new : List (List SetOf)) : Type 0 where
  pub yes_half : List SetOf
  pub no_half : List SetOf
  pub opened : new ≡ (old ++ no_half ∷ []) ++ yes_half ∷ []
  pub right_kind : has_wrong_kind box test ≡ false
  pub yes : IsHalf box test true yes_half
  pub no : IsHalf box test false no_half

-- the halves are opened; or the test is of a wrong kind; else one half would have no member
abbrev pub IsHalving : List SetOf → TestOf → List (List SetOf) → List (List SetOf) → Halving → Type 0
IsHalving box test old new Opened = OpensHalves box test old new
IsHalving box test old new WrongKind = has_wrong_kind box test ≡ true
IsHalving box test old new EmptyHalf = (has_wrong_kind box test ≡ false) × (AllAnswer (IsMember box) (answers test) true ⊎ AllAnswer (IsMember box) (answers test) false)
