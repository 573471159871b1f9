use Rattle.resource_tool.proofs.make.print_made.Goals as goal
use Rattle.resource_tool.proofs.make.print_made.Goals.{in-Cert+in_ok-text-in-Cert+in_ok-write_line-in-Cert, in-Counter+in_ok-write_counterexample-in-Counter, in-NodeLimit+in_ok-write_all-in-NodeLimit}

pub returns-clause-reads_back : goal.returns-clause-reads_back
returns-clause-reads_back g c =
    elim c.match-made.branch [
      | in-Cert+in_ok-text-in-Cert+in_ok-write_line-in-Cert w ↦ rw w.in-Cert.is w.in_ok-text-in-Cert.ensures.reads_back
      | in-Counter+in_ok-write_counterexample-in-Counter w ↦ rw w.in-Counter.is tt
      | in-NodeLimit+in_ok-write_all-in-NodeLimit w ↦ rw w.in-NodeLimit.is tt
    ]
