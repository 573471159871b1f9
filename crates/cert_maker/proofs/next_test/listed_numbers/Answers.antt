use Rattle.std.proofs.Common.{ℕ, Bool, filter, sym, ◌∙◌, ap}
use Rattle.std.proofs.lemmas.List.{take_all}
use Rattle.cert_checker.specs.config_record.DeviceSeen.{device_numbers}
use Rattle.cert_checker.specs.box_trace.Parting.{answer_of}
use Rattle.cert_maker.specs.Listed.{answer_with}
use Rattle.cert_maker.proofs.Filtered.{kept, passed-over}
use Rattle.cert_maker.proofs.next_test.listed_numbers.Goals as goal
use Rattle.cert_maker.proofs.next_test.listed_numbers.Goals.{then-answers_yes+in_ok-push, else-answers_yes}

pub loop-number-preserved : goal.loop-number-preserved
loop-number-preserved c =
    let test : ℕ → Bool = answer_with (answer_of c.args.parting.now) (device_numbers c.args.parting.now.pair.yes) c.args.at in
    let same = c.answers_yes.ensures ∙ ap test c.from.ensures in
    elim c.if-answers_yes.branch [
      | then-answers_yes+in_ok-push w ↦
          kept test c.args.numbers.now c.loop-number.listed.items c.if-answers_yes.listed.items c.loop-number.number-index _ c.loop-number-test.true c.loop-number.invariant (sym same ∙ w.if-answers_yes.true)
          (ap (λ v. v.items) w.listed-is ∙ w.in_ok-push.ensures.items)
      | else-answers_yes w ↦
          passed-over test c.args.numbers.now c.loop-number.listed.items c.if-answers_yes.listed.items c.loop-number.number-index _ c.loop-number-test.true c.loop-number.invariant (sym same ∙ w.if-answers_yes.false)
          (ap (λ v. v.items) w.listed-is)
    ]

pub returns : goal.returns
returns c =
    let test : ℕ → Bool = answer_with (answer_of c.args.parting.now) (device_numbers c.args.parting.now.pair.yes) c.args.at in
    c.loop-number.invariant ∙ ap (filter test) (take_all c.loop-number.number-index c.args.numbers.now c.loop-number-test.false)
