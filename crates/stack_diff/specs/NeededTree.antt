-- How many nodes a tree may have that tells two stacks apart.
use Rattle.std.specs.Prelude.{ℕ, Bool, true, false, List, length}
use Rattle.cert_maker.specs.cert_checker.reference_resolver.Trace.{Trace}
use Rattle.cert_maker.specs.box_answers.NumberSet.{SetOf}
use Rattle.cert_maker.specs.cert_tree.Certificate.{NodeOf}
use Rattle.cert_maker.specs.Needed.{IsNeeded}
use Rattle.cert_maker.specs.res_value.declared.res_id.ResId.{ResId}
use Rattle.stack_diff.specs.Stacks.{StacksOf, is_itself, traces}

-- There is a tree, with a number of nodes that this says, each of whose tests parts two devices that have different traces in
-- one of the stacks.
abbrev pub HasNeededTree : (List ℕ → Trace × Trace) → List SetOf → (ℕ → Type 0) → Type 0
HasNeededTree traces sets says = (nodes : List NodeOf) × IsNeeded traces sets nodes × says (length nodes)

abbrev pub HasTreeFor : Bool → (List ℕ → Trace × Trace) → List SetOf → (ℕ → Type 0) → Type 0
HasTreeFor true traces sets says = says 1
HasTreeFor false traces sets says = HasNeededTree traces sets says

-- The same of two resources; for one beside itself it is one leaf.
abbrev pub HasTree : StacksOf → ResId → ResId → List SetOf → (ℕ → Type 0) → Type 0
HasTree stacks old new sets says = HasTreeFor (is_itself stacks old new) (traces stacks old new) sets says
