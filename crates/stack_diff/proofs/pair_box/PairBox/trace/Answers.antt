use Rattle.std.proofs.Common.{List, subst}
use Rattle.cert_maker.specs.box_answers.NumberSet.{SetOf}
use Rattle.cert_maker.specs.cert_checker.box_trace.declared.common.CommonTrace.{CommonTrace}
use Rattle.stack_diff.specs.Sides.{trace_in}
use Rattle.stack_diff.specs.PairBox.{members_of, IsTraceOf}
use Rattle.stack_diff.proofs.Both.{goes-further, parts-before, parts-after, one-in-both}
use Rattle.stack_diff.proofs.pair_box.PairBox.trace.Goals as goal

pub trace_in-requires : goal.trace_in-requires
trace_in-requires c = c.requires.before_reached

pub trace_in-requires-2 : goal.trace_in-requires-2
trace_in-requires-2 c = c.requires.after_reached

pub returns-in-Mixed : goal.returns-in-Mixed
returns-in-Mixed c =
    let pair = c.args.pair in
    let before = c.in_ok-before.ensures in
    let after = c.in_ok-after.ensures in
    record {
      members = before.members;
      is_open = goes-further pair c.args.self.now _ _ c.requires before.members before.reached after.members after.reached;
      trace = parts-before pair (members_of c.args.self.now) c.in-Mixed.parting (subst (IsTraceOf (trace_in pair.before) (members_of c.args.self.now)) c.in-Mixed.is before.trace);
    }

pub returns-in-Mixed-after : goal.returns-in-Mixed-after
returns-in-Mixed-after c =
    let pair = c.args.pair in
    let before = c.in_ok-before.ensures in
    let after = c.in_ok-after.ensures in
    let told = subst (λ (sets : List SetOf). IsTraceOf (trace_in pair.after) sets c.in_ok-after.after) c.requires.same after.trace in
    record {
      members = before.members;
      is_open = goes-further pair c.args.self.now _ _ c.requires before.members before.reached after.members after.reached;
      trace = parts-after pair (members_of c.args.self.now) c.in-Mixed-after.parting (subst (IsTraceOf (trace_in pair.after) (members_of c.args.self.now)) c.in-Mixed-after.is told);
    }

pub returns-in-One-after : goal.returns-in-One-after
returns-in-One-after c =
    let pair = c.args.pair in
    let before = c.in_ok-before.ensures in
    let after = c.in_ok-after.ensures in
    let told = subst (λ (sets : List SetOf). IsTraceOf (trace_in pair.after) sets c.in_ok-after.after) c.requires.same after.trace in
    record {
      members = before.members;
      is_open = goes-further pair c.args.self.now _ _ c.requires before.members before.reached after.members after.reached;
      trace = one-in-both pair (members_of c.args.self.now) c.in-One.end c.in-One-after.after (subst (λ (common : CommonTrace). IsTraceOf (trace_in pair.before) (members_of c.args.self.now) common) c.in-One.is before.trace)
          (subst (λ (common : CommonTrace). IsTraceOf (trace_in pair.after) (members_of c.args.self.now) common) c.in-One-after.is told);
    }
