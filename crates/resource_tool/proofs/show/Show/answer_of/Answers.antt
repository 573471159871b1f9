use Rattle.std.proofs.Common.{refl}
use Rattle.std.proofs.lemmas.Result.{err_from_is_err_and}
use Rattle.resource_tool.proofs.Answering.{answered}
use Rattle.resource_tool.specs.Show.{ShowBytes, show_held, shown_output}
use Rattle.resource_tool.proofs.show.Show.answer_of.Goals as goal

pub returns : goal.returns
returns g c =
    let show = c.args.self.now in
    let printed = rw (c.deref.ensures.value, c.deref-2.ensures.value, c.in_ok-layers.ensures) at c.print.ensures in
    answered (λ (files : ShowBytes). shown_output show.form show.pictured files) g.W.Write.contents c.args.out.now c.print.new.out (show_held c.args.files.now) c.print.result c.status_or_stop.result
    printed c.status_or_stop.ensures

pub returns-in_err-layers : goal.returns-in_err-layers
returns-in_err-layers g c =
    let p = err_from_is_err_and c.from_residual.result c.from_residual.ensures.1 in
    rw (p.1, p.2) (λ told. absurd (told refl), λ told. refl)
