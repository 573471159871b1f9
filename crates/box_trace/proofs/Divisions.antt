-- Two members that are divided, for predicates that hold of fewer devices.
use Rattle.std.proofs.Common.{inl, inr, ℕ, List}
use Rattle.bags_themes.specs.reference_resolver.declared.step.Step.{Step}
use Rattle.box_trace.specs.Division.{DividesAt, Divides}

divides_at_over : (members fewer : List ℕ → Type 0) (step : List ℕ → Step) (x y : List ℕ) → ((d : List ℕ) → fewer d → members d) → DividesAt members step x y → DividesAt fewer step x y
divides_at_over members fewer step x y into (inl matching) = inl matching
divides_at_over members fewer step x y into (inr taking) = inr ((λ d m. taking.0 d (into d m)), taking.1, taking.2)

pub divides_over : (members fewer : List ℕ → Type 0) (steps : List ℕ → List Step) (x y : List ℕ) → ((d : List ℕ) → fewer d → members d) → Divides members steps x y → Divides fewer steps x y
divides_over members fewer steps x y into parts = record {
  before = parts.before;
  step = parts.step;
  after = parts.after;
  same = λ d m. parts.same d (into d m);
  divides = divides_at_over members fewer parts.step x y into parts.divides;
}
