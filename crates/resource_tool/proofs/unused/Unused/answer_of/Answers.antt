use Rattle.std.proofs.Common.{ap, inl, option_map, refl}
use Rattle.std.proofs.lemmas.Result.{err_from_is_err_and}
use Rattle.command_base.specs.FileWords.{sets_held}
use Rattle.command_base.specs.Stop.{tool}
use Rattle.resource_tool.specs.Unused.{IsUnusedOutput, OpenUnusedOf, unused_opened}
use Rattle.resource_tool.specs.BoxFiles.{asked_box_held}
use Rattle.resource_tool.specs.Values.{opened_values}
use Rattle.resource_tool.proofs.PrintedUnused.{unused-with}
use Rattle.resource_tool.proofs.Answering.{found_stops}
use Rattle.resource_tool.proofs.Stopped.{answered}
use Rattle.resource_tool.proofs.unused.Unused.answer_of.Goals as goal

pub returns-in_err-opened : goal.returns-in_err-opened
unfolding unused_opened
returns-in_err-opened g c =
    let p = err_from_is_err_and c.from_residual-in_err-opened.result c.from_residual-in_err-opened.ensures.1 in
    let words = rw c.deref.ensures.value at c.in_ok-sets.ensures in
    rw (p.1, p.2) (λ told. inl (rw (words, c.in_err-opened.ensures (λ same. told (ap tool same))) refl), λ told. refl)

pub returns-in_err-asked : goal.returns-in_err-asked
unfolding unused_opened
returns-in_err-asked g c =
    let p = err_from_is_err_and c.from_residual-in_err-asked.result c.from_residual-in_err-asked.ensures.1 in
    let words = rw c.deref.ensures.value at c.in_ok-sets.ensures in
    let stopped = found_stops _ c.in_err-asked.field-0.0 (rw c.deref-2.ensures.value at c.in_err-asked.ensures) in
    rw (p.1, p.2) (λ told. inl (rw (words, c.in_ok-opened.ensures, stopped told) refl), λ told. refl)

pub returns-in_err-sets : goal.returns-in_err-sets
unfolding unused_opened
returns-in_err-sets g c =
    let p = err_from_is_err_and c.from_residual.result c.from_residual.ensures.1 in
    rw (p.1, p.2) (
      λ told.
          let stopped = rw c.deref.ensures.value at (c.in_err-sets.ensures told) in inl (rw stopped refl),
      λ told. refl,
    )

pub returns : goal.returns
returns g c =
    let held = asked_box_held c.args.files.now in
    let opened = opened_values c.in_ok-opened.opened in
    let asked = option_map (λ ids. ids.items) c.in_ok-asked.asked in
    let words = rw c.deref.ensures.value at c.in_ok-sets.ensures in
    let found = rw c.deref-2.ensures.value at c.in_ok-asked.ensures in
    let told = rw c.paths.ensures at c.tell.ensures in
    answered (λ (unused : OpenUnusedOf). IsUnusedOutput c.args.self.now.form unused.paths unused.asked c.args.self.now.max_nodes) (λ unused. unused.opened) g.W.Write.contents c.args.out.now c.tell.new.out
    _ (record { opened = opened; paths = held.paths; asked = asked }) c.tell.result c.status_or_stop.result
    (unused-with c.args.self.now.locales held (sets_held c.in_ok-sets.sets) opened asked words c.in_ok-opened.ensures found)
    told c.status_or_stop.ensures
