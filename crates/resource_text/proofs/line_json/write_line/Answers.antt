use Rattle.std.proofs.Common.{ap, ◌∙◌}
use Rattle.std.proofs.KnownBytes.{Appends-trans}
use Rattle.std.proofs.lemmas.Result.{on_ok_weaker}
use Rattle.serde_json.proofs.Views.{view-Object}
use Rattle.serde_json.specs.Written.{compact_text, has_float}
use Rattle.resource_text.proofs.line_json.write_line.Goals as goal

pub returns : goal.returns
returns g c =
    let seen = view-Object c.args.members in
    let text = c.in_ok-line.ensures.text (ap has_float seen ∙ c.requires) ∙ ap compact_text seen in
    let line = rw (c.deref.ensures.value, text) at c.in_ok-write_all.ensures.bytes in
    on_ok_weaker c.write_all-2.result (λ last. Appends-trans _ _ _ _ _ line last) c.write_all-2.ensures.bytes
