-- Are two traces the same? It has to be computed where different ones are counted.
use Rattle.std.specs.Prelude.{◌≡◌, ◌↔◌, ◌==◌, ◌&&◌, Bool, true, false, IsTrue, List, [], ◌∷◌}
use Rattle.reference_resolver.specs.declared.step.Step.{Step}
use Rattle.reference_resolver.specs.declared.step.Step.TheVariants.{NoMatch, KeptOut, TookOver}
use Rattle.reference_resolver.specs.declared.end.End.{End}
use Rattle.reference_resolver.specs.declared.end.End.TheVariants.{Value, Bag, Absent, TooLong}
use Rattle.reference_resolver.specs.Trace.{Trace}

abbrev pub same_step : Step → Step → Bool
same_step NoMatch NoMatch = true
same_step KeptOut KeptOut = true
same_step TookOver TookOver = true
same_step step other = false

abbrev pub same_steps : List Step → List Step → Bool
same_steps [] [] = true
same_steps (step ∷ steps) (other ∷ others) = same_step step other && same_steps steps others
same_steps steps others = false

abbrev pub same_end : End → End → Bool
same_end (Value layer value) (Value other_layer other) =
    layer == other_layer && (value.kind == other.kind && value.word == other.word)
same_end (Bag id) (Bag other) = id.0 == other.0
same_end (Absent id) (Absent other) = id.0 == other.0
same_end (TooLong id) (TooLong other) = id.0 == other.0
same_end end other = false

unfoldable pub same_trace : Trace → Trace → Bool
same_trace t u = same_steps t.steps u.steps && same_end t.end u.end

-- it is true of equal traces alone
abbrev pub IsTrueOfEqualTraces : Type 0
IsTrueOfEqualTraces = (t u : Trace) → IsTrue (same_trace t u) ↔ (t ≡ u)
