use Rattle.std.proofs.Common.{List, refl, subst}
use Rattle.cert_maker.specs.box_answers.NumberSet.{SetOf}
use Rattle.stack_diff.specs.Sides.{trace_in}
use Rattle.stack_diff.specs.PairBox.{members_of, IsTraceOf}
use Rattle.stack_diff.proofs.Both.{goes-further, parts-after, one-alone}
use Rattle.stack_diff.proofs.pair_box.PairBox.trace_alone.Goals as goal

pub trace_in-requires : goal.trace_in-requires
trace_in-requires c = c.requires.open.after_reached

pub returns-in-One : goal.returns-in-One
returns-in-One c =
    let pair = c.args.pair in
    let open_box = c.requires.open in
    let end = c.in_ok-end.ensures in
    let told = subst (λ (sets : List SetOf). IsTraceOf (trace_in pair.after) sets c.in_ok-end.field-0) open_box.same end.trace in
    record {
      members = refl;
      is_open = goes-further pair c.args.self.now c.args.self.now.before _ open_box refl open_box.before_reached end.members end.reached;
      trace = one-alone pair (members_of c.args.self.now) c.in-One.end c.requires.alone (subst (IsTraceOf (trace_in pair.after) (members_of c.args.self.now)) c.in-One.is told);
    }

pub returns-in-Mixed : goal.returns-in-Mixed
returns-in-Mixed c =
    let pair = c.args.pair in
    let open_box = c.requires.open in
    let end = c.in_ok-end.ensures in
    let told = subst (λ (sets : List SetOf). IsTraceOf (trace_in pair.after) sets c.in_ok-end.field-0) open_box.same end.trace in
    record {
      members = refl;
      is_open = goes-further pair c.args.self.now c.args.self.now.before _ open_box refl open_box.before_reached end.members end.reached;
      trace = parts-after pair (members_of c.args.self.now) c.in-Mixed.parting (subst (IsTraceOf (trace_in pair.after) (members_of c.args.self.now)) c.in-Mixed.is told);
    }
