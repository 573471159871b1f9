use Rattle.std.proofs.Common.{ℕ, List, Some, Result, subst, sym, ap, ◌∙◌}
use Rattle.std.proofs.lemmas.Result.{on_ok_weaker}
use Rattle.std.specs.Cow.{cow_str_bytes}
use Rattle.std.specs.Option.{option_map}
use Rattle.overlay_map.specs.type_chunks.Row.{row_of}
use Rattle.string_pool.specs.Text.{TextOf}
use Rattle.string_pool.specs.string_bytes.declared.fault.StringFault.{StringFault}
use Rattle.names.specs.declared.sought.Sought.{Sought}
use Rattle.names.specs.NameText.{name_text}
use Rattle.names.specs.Sought.{AreSought}
use Rattle.names.proofs.SoughtPassed.{AreSought-next}
use Rattle.names.proofs.SoughtSteps.{is_noted, is_noted-nowhere}
use Rattle.names.proofs.search.pass_row.Goals as goal

pub returns-then-has : goal.returns-then-has
returns-then-has c = (sym (c.requires.passed (row_of c.args.row.now) (sym c.has.ensures ∙ c.if-has.true)), c.requires.passed)

pub returns-in_default : goal.returns-in_default
returns-in_default c =
    let name = ap (λ (read : Result TextOf StringFault). name_text read) c.key_name.ensures in
    let noted = is_noted-nowhere c.args.table.now (row_of c.args.row.now) c.args.places.now c.args.sought.now
    (sym (c.in_ok-entry_name.ensures ∙ name) ∙ ap (λ found. option_map cow_str_bytes found) c.in_default.is) c.requires.places in
    (noted, c.requires.passed)

pub returns : goal.returns
returns c =
    let name = ap (λ (read : Result TextOf StringFault). name_text read) c.key_name.ensures in
    let noted = is_noted c.args.table.now (row_of c.args.row.now) c.args.places.now c.as_bytes.result.now c.get-at.result.now c.args.sought.now c.note_at.new.sought
    (sym (c.in_ok-entry_name.ensures ∙ name) ∙ ap (λ found. option_map cow_str_bytes found) c.in-Some.is ∙ ap (λ (text : List ℕ). Some text) (sym (c.as_bytes.ensures.value ∙ c.as_str.ensures.value)))
    c.requires.places c.get-at.ensures c.in_ok-note_at.ensures in
    on_ok_weaker c.put.result (λ put. (
      noted,
      subst (λ (sought : List Sought). AreSought c.args.table.now c.put.new.self sought) (sym noted)
          (AreSought-next c.args.table.now (row_of c.args.row.now) c.args.passed.now c.put.new.self c.args.sought.now c.requires.passed put),
    ))
    c.put.ensures
