use Rattle.std.proofs.Common.{◌≡◌, map, sym, ap, inl, refl, ◌∙◌}
use Rattle.std.proofs.lemmas.Result.{err_from_is_err_and}
use Rattle.command_base.specs.FileWords.{sets_held}
use Rattle.command_base.specs.Stop.{tool}
use Rattle.command_base.specs.names.NamedSet.{named_set_of}
use Rattle.resource_tool.specs.AskedPairs.{asked_of}
use Rattle.resource_tool.specs.Diff.{opened_asked}
use Rattle.resource_tool.specs.BoxFiles.{asked_box_held}
use Rattle.resource_tool.specs.Values.{opened_values, values_inputs_by}
use Rattle.resource_tool.proofs.Asked.{opened-with}
use Rattle.resource_tool.proofs.values.Values.answer_of.Goals as goal

pub returns-in_err-opened : goal.returns-in_err-opened
unfolding opened_asked
returns-in_err-opened g c =
    let p = err_from_is_err_and c.from_residual-in_err-opened.result c.from_residual-in_err-opened.ensures.1 in
    let words = rw c.deref.ensures.value at c.in_ok-sets.ensures in
    rw (p.1, p.2) (λ told. inl (rw (words, c.in_err-opened.ensures (λ same. told (ap tool same))) refl), λ told. refl)

pub returns : goal.returns
returns g c =
    let held = asked_box_held c.args.files.now in
    let opened = opened_values c.in_ok-opened.opened in
    let read = values_inputs_by c.args.self.now.locales held.layers held.box_json in
    let words = rw c.deref.ensures.value at c.in_ok-sets.ensures in
    let meant : opened_asked held.words read ≡ asked_of opened (map named_set_of c.deref-2.result.now) =
    opened-with held.words (sets_held c.in_ok-sets.sets) read opened words c.in_ok-opened.ensures ∙ ap (λ sets. asked_of opened (map named_set_of sets)) (sym c.deref-2.ensures.value) in (
      rw meant c.values_asked.ensures.0,
      c.values_asked.ensures.1,
    )

pub returns-in_err-sets : goal.returns-in_err-sets
unfolding opened_asked
returns-in_err-sets g c =
    let p = err_from_is_err_and c.from_residual.result c.from_residual.ensures.1 in
    rw (p.1, p.2) (
      λ told.
          let stopped = rw c.deref.ensures.value at (c.in_err-sets.ensures told) in inl (rw stopped refl),
      λ told. refl,
    )
