use Rattle.std.proofs.Common.{◌≡◌, ◌+◌, List, map, Ok, sym, ap, subst, ◌∙◌}
use Rattle.std.specs.Borrow.{Bor}
use Rattle.contract_words.specs.Faults.{◌>>=◌}
use Rattle.json_input.proofs.EachSteps.{EachAllBut, EachAllBut-next_seen}
use Rattle.box_answers.specs.config_record.declared.coord.Coord.{Coord}
use Rattle.config_box.specs.declared.written.Slot.{Slot}
use Rattle.config_box.specs.declared.written.Written.{Written}
use Rattle.config_box.specs.BoxSeen.{written_seen, pair_seen, read_seen, slot_seen}
use Rattle.config_box.proofs.SlotSteps.{mapped-next}
use Rattle.config_box.proofs.read.written_of_each.Goals as goal

pub loop-slot-preserved : goal.loop-slot-preserved
loop-slot-preserved c =
    let l = c.loop-slot in
    let slots = c.args.slots.now in
    let slot = c.slot-item.result in
    let written = c.in-Some.written in
    let is : slot_seen slot ≡ Ok (slot.coord, written_seen written) = ap (λ w. read_seen w >>= λ w. Ok (slot.coord, w)) c.in-Some.is in
    let first : (Coord × Bor Written) → Coord = λ pair. pair.0 in
    let coord : Slot → Coord = λ slot. slot.coord in
    record {
      read = subst (λ (pairs : List (Coord × Bor Written)). EachAllBut slot_seen (map pair_seen pairs) (l.slot-index + 1) slots) (sym c.in_ok-push.ensures.items)
          (EachAllBut-next_seen slot_seen pair_seen l.pairs.items l.slot-index slots slot _ l.invariant.read c.loop-slot-test.true (ap slot_seen (sym c.slot-item.is) ∙ is));
      coords = ap (map first) c.in_ok-push.ensures.items ∙ mapped-next first coord l.pairs.items _ slots l.slot-index slot l.invariant.coords c.loop-slot-test.true (ap coord c.slot-item.is);
    }
