use Rattle.std.proofs.Common.{Option, subst, sym, ap, ◌∙◌, [], ◌∷◌}
use Rattle.std.proofs.lemmas.Result.{on_ok_weaker}
use Rattle.std.specs.Option.{option_map}
use Rattle.overlay_map.specs.type_chunks.Row.{row_of}
use Rattle.names.specs.Label.{LabelOf, label_of}
use Rattle.names.specs.Noted.{Notes}
use Rattle.names.specs.StackLabels.{named}
use Rattle.names.proofs.NotesSteps.{AreNoted-next, Notes-kept}
use Rattle.names.proofs.stack_labels.pass_row.Goals as goal

pub returns-then-has : goal.returns-then-has
returns-then-has c = (c.requires (row_of c.args.row.now) (sym c.has.ensures ∙ c.if-has.true), c.requires)

pub returns-in_default : goal.returns-in_default
returns-in_default c =
    let row = row_of c.args.row.now in
    let name = sym (ap (option_map label_of) c.in_default.is) ∙ c.in_ok-label.ensures in
    on_ok_weaker c.note_id.result (λ noted. (
      subst (λ (found : Option LabelOf). Notes (c.args.row.now.id.0 ∷ []) (named row found) c.args.noted.now c.note_id.new.self) name noted,
      λ other had. Notes-kept _ _ _ _ _ _ (c.requires other had) noted,
    ))
    c.note_id.ensures

pub returns : goal.returns
returns c =
    let row = row_of c.args.row.now in
    let name = sym (ap (option_map label_of) c.in-Some.is) ∙ c.in_ok-label.ensures in
    let noted = subst (λ (found : Option LabelOf). Notes (row.id ∷ []) (named row found) c.args.noted.now c.note.new.self) name c.in_ok-note.ensures in
    on_ok_weaker c.put.result (λ put. (noted, AreNoted-next c.args.table.now row c.args.passed.now c.put.new.self c.args.noted.now c.note.new.self c.requires put noted))
    c.put.ensures
