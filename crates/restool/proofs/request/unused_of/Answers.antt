use Rattle.std.proofs.lemmas.Result.{err_from_is_err_and}
use Rattle.restool.proofs.request.unused_of.Goals as goal

pub returns-in_err-locales : goal.returns-in_err-locales
returns-in_err-locales c =
    let p = err_from_is_err_and c.from_residual.result c.from_residual.ensures.1 in
    rw (p.1, p.2) c.in_err-locales.ensures

pub returns : goal.returns
returns c =
    let p = c.in_ok-locales.ensures in (p.0, p.1, (p.2.0, p.2.1, (p.2.2.0, c.given_word.ensures, c.given_word-2.ensures, c.given_line_form.ensures, c.given_nodes.ensures, p.2.2.1)))
