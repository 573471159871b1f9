-- The stacks that are compared, and a resource of each.
use Rattle.std.specs.Prelude.{ℕ, ◌==◌, Bool, ◌&&◌, List, Option}
use Rattle.cert_maker.specs.cert_checker.overlay_map.Layer.{LayerOf}
use Rattle.cert_maker.specs.cert_checker.reference_resolver.Trace.{Trace}
use Rattle.cert_maker.specs.cert_checker.bags_themes.ContentTrace.{content_trace}
use Rattle.cert_maker.specs.res_value.declared.res_id.ResId.{ResId}
use Rattle.names.specs.Packages.{PackageNameOf}
use Rattle.answer_text.specs.ContentAt.{content_at}
use Rattle.stack_diff.specs.ComparedWith.{with_itself, with_nothing, told_between}
use Rattle.stack_diff.specs.Difference.{DifferenceOf}
use Rattle.stack_diff.specs.declared.compared_with.ComparedWith.{ComparedWith}
use Rattle.stack_diff.specs.declared.compared_with.ComparedWith.TheVariants.{Other, Itself, Nothing}
use Rattle.stack_diff.specs.declared.stacks.Stacks.{Stacks}

-- The stacks before and after, and the packages by which resources are told; and with what the one after is compared. Where
-- that is itself or nothing, both are one.
pub record StacksOf : Type 0 where
  pub old : List LayerOf
  pub new : List LayerOf
  pub packages : List PackageNameOf
  pub compared : ComparedWith

abbrev pub stacks_of : Stacks → StacksOf
stacks_of stacks = record { old = stacks.old.now; new = stacks.new.now; packages = stacks.packages.now; compared = stacks.compared }

abbrev pub one_stack : List LayerOf → List PackageNameOf → StacksOf
one_stack layers packages = record { old = layers; new = layers; packages = packages; compared = Itself }

abbrev pub two_stacks : List LayerOf → List LayerOf → List PackageNameOf → StacksOf
two_stacks old new packages = record { old = old; new = new; packages = packages; compared = Other }

abbrev pub beside_nothing : List LayerOf → List PackageNameOf → StacksOf
beside_nothing layers packages = record { old = layers; new = layers; packages = packages; compared = Nothing }

-- both ids are one resource of one stack
abbrev pub is_itself : StacksOf → ResId → ResId → Bool
is_itself stacks old new = with_itself stacks.compared && old.0 == new.0

-- the same where the stack is compared with nothing
abbrev pub is_alone : StacksOf → ResId → ResId → Bool
is_alone stacks old new = with_nothing stacks.compared && old.0 == new.0

-- ---- at a device, which is the list of its numbers

-- how a resource of the new stack differs from one of the old stack in what it says, or from nothing
abbrev pub differs : StacksOf → ResId → ResId → List ℕ → Option DifferenceOf
differs stacks old new d = told_between stacks.compared (content_at stacks.old old.0 d) (content_at stacks.new new.0 d)

-- the traces of what they say
abbrev pub traces : StacksOf → ResId → ResId → List ℕ → Trace × Trace
traces stacks old new d = (content_trace stacks.old old.0 d, content_trace stacks.new new.0 d)
