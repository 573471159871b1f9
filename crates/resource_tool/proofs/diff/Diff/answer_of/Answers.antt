use Rattle.std.proofs.Common.{◌≡◌, Ok, map, sym, ap, inl, refl, ◌∙◌}
use Rattle.std.proofs.lemmas.Result.{err_from_is_err_and}
use Rattle.command_base.specs.FileWords.{sets_held}
use Rattle.command_base.specs.Stop.{tool}
use Rattle.command_base.specs.names.NamedSet.{named_set_of}
use Rattle.resource_tool.specs.AskedPairs.{asked_of}
use Rattle.resource_tool.specs.Diff.{diff_held, opened_asked}
use Rattle.resource_tool.specs.DiffInputs.{diff_inputs_by}
use Rattle.resource_tool.specs.OpenedDiffSeen.{named_diff}
use Rattle.resource_tool.proofs.Asked.{opened-with}
use Rattle.resource_tool.proofs.diff.Diff.answer_of.Goals as goal

pub returns-in_err-sets : goal.returns-in_err-sets
unfolding opened_asked
returns-in_err-sets g c =
    let p = err_from_is_err_and c.from_residual.result c.from_residual.ensures.1 in
    rw (p.1, p.2) (
      λ told.
          let stopped = rw c.deref.ensures.value at (c.in_err-sets.ensures told) in inl (rw stopped refl),
      λ told. refl,
    )

pub returns-in_err-opened : goal.returns-in_err-opened
unfolding opened_asked
returns-in_err-opened g c =
    let p = err_from_is_err_and c.from_residual-in_err-opened.result c.from_residual-in_err-opened.ensures.1 in
    let words = rw c.deref.ensures.value at c.in_ok-sets.ensures in
    rw (p.1, p.2) (λ told. inl (rw (words, c.in_err-opened.ensures (λ same. told (ap tool same))) refl), λ told. refl)

pub returns-in_err-named : goal.returns-in_err-named
returns-in_err-named g c =
    let p = err_from_is_err_and c.from_residual-in_err-named.result c.from_residual-in_err-named.ensures.1 in
    rw (p.1, p.2) (λ told. absurd (told refl), λ told. refl)

pub returns : goal.returns
returns g c =
    let held = diff_held c.args.files.now in
    let opened = named_diff c.in_ok-named.named in
    let read = diff_inputs_by c.args.self.now.locales held.old held.new held.box_json in
    let words = rw c.deref.ensures.value at c.in_ok-sets.ensures in
    let is : read ≡ Ok opened = c.in_ok-opened.ensures ∙ ap (λ inputs. Ok inputs) (sym c.in_ok-named.ensures) in
    let meant : opened_asked held.words read ≡ asked_of opened (map named_set_of c.deref-2.result.now) =
    opened-with held.words (sets_held c.in_ok-sets.sets) read opened words is ∙ ap (λ sets. asked_of opened (map named_set_of sets)) (sym c.deref-2.ensures.value) in (
      rw meant c.diff_asked.ensures.0,
      c.diff_asked.ensures.1,
    )
