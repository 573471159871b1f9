-- What a check says of a certificate.
use Rattle.std.specs.Prelude.{List}
use Rattle.box_trace.specs.overlay_map.Layer.{LayerOf}
use Rattle.cert_tree.specs.box_answers.NumberSet.{SetOf}
use Rattle.cert_tree.specs.Certificate.{GoalOf}
use Rattle.cert_tree.specs.res_value.Goal.{GoalSeen}
use Rattle.cert_checker.specs.declared.verdict.Verdict.{Verdict}
use Rattle.cert_checker.specs.declared.verdict.Verdict.TheVariants.{Accepted, Rejected}
use Rattle.cert_checker.specs.FirstFault.{IsAccepted, IsFirstFault}
use Rattle.cert_checker.specs.Shown.{ShowsIn}

-- accepted where no rule fails; else the first fault, and what shows it
abbrev pub IsVerdict : List LayerOf → List SetOf → List GoalSeen → List GoalOf → Verdict → Type 0
IsVerdict stack sets asked trees Accepted = IsAccepted stack sets asked trees
IsVerdict stack sets asked trees (Rejected g k rule shown) =
    IsFirstFault stack sets asked trees g k rule × ShowsIn stack sets trees g k rule shown
