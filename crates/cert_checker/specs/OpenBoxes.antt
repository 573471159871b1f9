-- The boxes of open paths, and what one node does to them. (Cited by contracts of this crate and of the maker alone.)
use Rattle.std.specs.Prelude.{◌≡◌, ◌↔◌, ℕ, ◌<◌, List, [], ◌∷◌, Option, Some, None, reverse, IfNone}
use Rattle.std.specs.List.{All}
use Rattle.box_trace.specs.config_record.declared.coord.Coord.{Coord}
use Rattle.box_trace.specs.reference_resolver.declared.end.End.{End}
use Rattle.box_trace.specs.reference_resolver.declared.end.End.TheVariants as ends
use Rattle.box_trace.specs.reference_resolver.Trace.{Trace}
use Rattle.box_trace.specs.overlay_map.Layer.{LayerOf}
use Rattle.box_trace.specs.declared.open_box.OpenBox.{OpenBox}
use Rattle.box_trace.specs.OpenBox.{boxes_of, IsReached}
use Rattle.cert_tree.specs.box_answers.NumberSet.{SetOf}
use Rattle.cert_tree.specs.box_answers.Members.{set_at, IsMember, IsBox}
use Rattle.cert_tree.specs.config_box.Marks.{AreMarkedAlike}
use Rattle.cert_tree.specs.config_box.Tests.{TestOf}
use Rattle.cert_tree.specs.Certificate.{NodeOf, TestAt}
use Rattle.cert_checker.specs.declared.rule.Rule.{Rule}
use Rattle.cert_checker.specs.declared.rule.Rule.TheVariants.{NoValue, OtherValue}
use Rattle.cert_checker.specs.declared.verdict.Shown.{Shown}
use Rattle.cert_checker.specs.declared.failure.Failure.{Failure}
use Rattle.cert_checker.specs.Rule.{number_of}
use Rattle.cert_checker.specs.Paths.{Path, IsAt, IsAtFirst, after_all}
use Rattle.cert_checker.specs.Fails.{FailsAtLeaf, FailsAt, NoRuleFails, FailsFirst}
use Rattle.cert_checker.specs.Shown.{Shows, ShowsAt}

-- the box has just the members at the end of a path, each coordinate marked as in the whole
pub record IsBoxAt (sets : List SetOf) (path : Path) (part : List SetOf) : Type 0 where
  pub is_box : IsBox part
  pub members : (d : List ℕ) → IsMember part d ↔ IsAt sets path d
  pub marks : (c : Coord) → AreMarkedAlike (set_at sets c) (set_at part c)

-- each open path has its box, in their order
abbrev pub Stand : List SetOf → List (List SetOf) → List Path → Type 0
Stand sets [] [] = Unit {0}
Stand sets [] (path ∷ paths) = ⊥
Stand sets (part ∷ parts) [] = ⊥
Stand sets (part ∷ parts) (path ∷ paths) = IsBoxAt sets path part × Stand sets parts paths

-- of the rules that fail the one of the lowest number, with what shows it; none where none fails
abbrev pub IsLowest : (Rule → Type 0) → (Rule → Shown → Type 0) → Option Failure → Type 0
IsLowest fails shows None = (rule : Rule) → fails rule → ⊥
IsLowest fails shows (Some failure) =
    fails failure.rule
    × ((other : Rule) → number_of other < number_of failure.rule → fails other → ⊥)
    × shows failure.rule failure.shown

-- the rule that fails where all members end here, and the leaf says another end
abbrev pub rule_of_end : End → Rule
rule_of_end (ends.Value layer value) = OtherValue
rule_of_end (ends.Bag id) = OtherValue
rule_of_end (ends.Absent id) = NoValue
rule_of_end (ends.TooLong id) = NoValue

-- ---- one node, where these paths are open before it

-- it fails; or it does not, and these boxes stand for the open paths after it
abbrev pub AfterNode : (List ℕ → Trace) → List SetOf → NodeOf → List Path → List (List SetOf) → Option Failure → Type 0
AfterNode trace sets node paths boxes outcome =
    IsLowest (FailsAt trace sets (Some node) paths) (Shows trace sets (IsAtFirst sets paths)) outcome
    × IfNone outcome (Stand sets boxes (after_all (node ∷ []) paths))

-- whatever the whole box is, and the open paths: the last of the boxes is that of the first path
abbrev pub TakesNode : (List ℕ → Trace) → NodeOf → List (List SetOf) → List (List SetOf) → Option Failure → Type 0
TakesNode trace node before after outcome =
    (sets : List SetOf) (paths : List Path) → Stand sets (reverse before) paths → AfterNode trace sets node paths (reverse after) outcome

-- the same of a test that the members of this box come to, with the boxes of the other open paths
abbrev pub TakesTest : TestOf → List SetOf → List (List SetOf) → List (List SetOf) → Option Failure → Type 0
TakesTest test part before after outcome =
    (trace : List ℕ → Trace) (sets : List SetOf) (path : Path) (paths : List Path) → IsBoxAt sets path part → Stand sets (reverse before) paths
    → AfterNode trace sets (TestAt test) (path ∷ paths) (reverse after) outcome

-- and of a leaf
abbrev pub TakesLeaf : (List ℕ → Trace) → End → List SetOf → Option Failure → Type 0
TakesLeaf trace claimed part outcome =
    (sets : List SetOf) (path : Path) → IsBoxAt sets path part
    → IsLowest (FailsAtLeaf trace (IsAt sets path) claimed) (Shows trace sets (IsAt sets path)) outcome

-- ---- a whole tree

-- nothing is asked yet: one box is open, which is the whole one, and its walk is where it begins
pub record IsWholeBox (stack : List LayerOf) (trace : List ℕ → Trace) (sets : List SetOf) (boxes : List OpenBox) : Type 0 where
  pub is_box : IsBox sets
  pub alone : boxes_of boxes ≡ sets ∷ []
  pub reached : All (IsReached stack trace) boxes

-- no rule fails; or the first node at which one does
abbrev pub IsOutcome : (List ℕ → Trace) → List SetOf → List NodeOf → Option (ℕ × Failure) → Type 0
IsOutcome trace sets nodes None = NoRuleFails trace sets nodes
IsOutcome trace sets nodes (Some found) =
    FailsFirst trace sets nodes found.0 found.1.rule × ShowsAt trace sets nodes found.0 found.1.rule found.1.shown
