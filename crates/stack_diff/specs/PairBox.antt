-- The boxes of open paths, where two stacks are asked. (Cited by contracts of this crate alone.)
use Rattle.std.specs.Prelude.{◌≡◌, ℕ, List, [], ◌∷◌, ◌++◌}
use Rattle.std.specs.List.{All}
use Rattle.cert_maker.specs.cert_checker.config_record.DeviceSeen.{device_numbers}
use Rattle.cert_maker.specs.box_answers.NumberSet.{SetOf}
use Rattle.cert_maker.specs.box_answers.Members.{IsMember}
use Rattle.cert_maker.specs.box_answers.Sameness.{Separates}
use Rattle.cert_maker.specs.cert_checker.OpenBoxes.{IsWholeBox}
use Rattle.cert_maker.specs.cert_checker.box_trace.Halving.{OpensHalves}
use Rattle.cert_maker.specs.cert_checker.box_trace.OpenBox.{boxes_of, IsReached}
use Rattle.cert_maker.specs.cert_checker.box_trace.Parting.{answer_of, TraceTells, IsToldApart}
use Rattle.cert_maker.specs.cert_checker.box_trace.declared.common.CommonTrace.{CommonTrace}
use Rattle.cert_maker.specs.cert_checker.box_trace.declared.common.CommonTrace.TheVariants.{One, Mixed}
use Rattle.cert_maker.specs.cert_checker.overlay_map.Layer.{LayerOf}
use Rattle.cert_maker.specs.cert_checker.reference_resolver.Trace.{Trace}
use Rattle.cert_maker.specs.cert_checker.reference_resolver.declared.end.End.{End}
use Rattle.cert_maker.specs.cert_checker.box_trace.declared.open_box.OpenBox.{OpenBox}
use Rattle.cert_maker.specs.cert_checker.box_trace.declared.parting.Parting.{Parting}
use Rattle.cert_maker.specs.config_box.Tests.{TestOf}
use Rattle.stack_diff.specs.declared.pair.Pair.{Pair}
use Rattle.stack_diff.specs.declared.pair.Resource.{Resource}
use Rattle.stack_diff.specs.declared.pair_box.PairBox.{PairBox}
use Rattle.stack_diff.specs.declared.pair_box.PairBoxes.{PairBoxes}
use Rattle.stack_diff.specs.declared.pair_box.PairTrace.{PairTrace}
use Rattle.stack_diff.specs.declared.pair_box.PairTrace.TheVariants as of_pair
use Rattle.stack_diff.specs.Parting.{HaveOneTrace}
use Rattle.stack_diff.specs.Sides.{trace_in, pair_traces}

abbrev pub members_of : PairBox → List SetOf
members_of part = part.before.members

-- the same members have come to where either walk stands
pub record IsOpen (pair : Pair) (part : PairBox) : Type 0 where
  pub same : part.after.members ≡ part.before.members
  pub before_reached : IsReached pair.before.stack.now (trace_in pair.before) part.before
  pub after_reached : IsReached pair.after.stack.now (trace_in pair.after) part.after

-- members part at a question, side by side; and a member's traces tell its answer
pub record PartsBoth (pair : Pair) (sets : List SetOf) (parting : Parting) : Type 0 where
  pub separates : Separates sets (answer_of parting) (device_numbers parting.pair.yes) (device_numbers parting.pair.no) parting.pair.coord
  pub traces_tell : TraceTells (IsMember sets) (pair_traces pair) (answer_of parting)

-- all members have one trace, with this end; or they part, side by side
abbrev pub IsTraceOf : (List ℕ → Trace) → List SetOf → CommonTrace → Type 0
IsTraceOf trace sets (One end) = HaveOneTrace (IsMember sets) trace × ((d : List ℕ) → IsMember sets d → (trace d).end ≡ end)
IsTraceOf trace sets (Mixed parting) = IsToldApart parting sets trace

-- all members come to these ends
pub record EndAt (pair : Pair) (sets : List SetOf) (before after : End) : Type 0 where
  pub before_end : (d : List ℕ) → IsMember sets d → (trace_in pair.before d).end ≡ before
  pub after_end : (d : List ℕ) → IsMember sets d → (trace_in pair.after d).end ≡ after

-- the same in both stacks
abbrev pub IsPairTrace : Pair → List SetOf → PairTrace → Type 0
IsPairTrace pair sets (of_pair.One before after) = HaveOneTrace (IsMember sets) (pair_traces pair) × EndAt pair sets before after
IsPairTrace pair sets (of_pair.Parted parting) = PartsBoth pair sets parting

-- The walk of a resource goes on: to what the traces of all members have in common.
pub record TracesTo (resource : Resource) (old new : OpenBox) (common : CommonTrace) : Type 0 where
  pub members : new.members ≡ old.members
  pub reached : IsReached resource.stack.now (trace_in resource) new
  pub trace : IsTraceOf (trace_in resource) old.members common

-- the same of both
pub record PairTracesTo (pair : Pair) (old new : PairBox) (found : PairTrace) : Type 0 where
  pub members : members_of new ≡ members_of old
  pub is_open : IsOpen pair new
  pub trace : IsPairTrace pair (members_of old) found

-- ---- all open boxes

abbrev pub members_open : PairBoxes → List (List SetOf)
members_open boxes = boxes_of boxes.before

-- they have the same members in either stack, which have come to where the walks stand
pub record AreOpen (pair : Pair) (boxes : PairBoxes) : Type 0 where
  pub same : boxes_of boxes.after ≡ boxes_of boxes.before
  pub before_reached : All (IsReached pair.before.stack.now (trace_in pair.before)) boxes.before
  pub after_reached : All (IsReached pair.after.stack.now (trace_in pair.after)) boxes.after

-- one whole box is open, and nothing is asked yet of either resource
pub record AreWhole (pair : Pair) (sets : List SetOf) (boxes : PairBoxes) : Type 0 where
  pub before : IsWholeBox pair.before.stack.now (trace_in pair.before) sets boxes.before
  pub after : IsWholeBox pair.after.stack.now (trace_in pair.after) sets boxes.after

-- the last one is taken
pub record PopsLast (old new : PairBoxes) (part : PairBox) : Type 0 where
  pub before : old.before ≡ new.before ++ part.before ∷ []
  pub after : old.after ≡ new.after ++ part.after ∷ []

-- of one stack a part of a box is pushed, which goes on as the whole did
pub record PushesNarrowed (whole : OpenBox) (half : List SetOf) (old new : List OpenBox) : Type 0 where
  pub boxes : boxes_of new ≡ boxes_of old ++ half ∷ []
  pub reached : (stack : List LayerOf) (trace : List ℕ → Trace) → IsReached stack trace whole → All (IsReached stack trace) old → All (IsReached stack trace) new

-- where a box goes on, these go on beside the others
abbrev pub GoOnWith : PairBox → PairBoxes → PairBoxes → Type 0
GoOnWith part old new = (pair : Pair) → IsOpen pair part → AreOpen pair old → AreOpen pair new

-- a part of a box is pushed in either stack
pub record PushesPart (part : PairBox) (half : List SetOf) (old new : PairBoxes) : Type 0 where
  pub pushed : members_open new ≡ members_open old ++ half ∷ []
  pub goes_on : GoOnWith part old new

-- its halves are
pub record PushesHalves (part : PairBox) (test : TestOf) (old new : PairBoxes) : Type 0 where
  pub halves : OpensHalves (members_of part) test (members_open old) (members_open new)
  pub goes_on : GoOnWith part old new
