use Rattle.std.proofs.lemmas.Result.{on_ok_weaker}
use Rattle.std.proofs.KnownBytes.{Appends-trans}
use Rattle.resource_tool.specs.MakeOutput.{counterexample_line, counterexample_text}
use Rattle.resource_tool.proofs.make.write_counterexample.Goals as goal

pub returns : goal.returns
unfolding counterexample_text counterexample_line
returns g c = on_ok_weaker c.device_with_end.result (λ last. Appends-trans _ _ _ _ _ c.in_ok-writeln.ensures.bytes last) c.device_with_end.ensures
