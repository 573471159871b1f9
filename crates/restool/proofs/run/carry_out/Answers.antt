use Rattle.std.proofs.Common.{◌≡◌, ap, ◌∙◌}
use Rattle.std.specs.Io.Buffered.{writer_inner}
use Rattle.restool.specs.Request.{layer_words}
use Rattle.restool.specs.Left.{name_overlays, words_seen}
use Rattle.restool.proofs.Beside.{same-twice, stop-twice, failed-twice, stopped-twice, kept-behind, lines-behind, carried-unread}
use Rattle.restool.proofs.Written.{answers-behind, shows-behind, unwritten-behind}
use Rattle.restool.proofs.run.carry_out.Goals as goal

pub returns-in-Err : goal.returns-in-Err
returns-in-Err g c =
    let unread = c.unanswered.ensures in
    carried-unread c.args.watch.is_terminal g.O.Write.contents g.E.Write.contents (writer_inner c.args.out) c.args.errors.now c.in-Err.stop
    (g.I.Inputs.places c.args.inputs.now) c.args.request.now (words_seen c.layer_words.result) c.unanswered.result.out c.unanswered.result.outcome
    c.layer_words.ensures c.in-Err.ensures unread.outcome unread.out

pub returns : goal.returns
returns g c =
    let known = g.I.Inputs.places c.args.inputs.now in
    let request = c.args.request.now in
    let answer = c.answer-answered in
    let told = c.said_beside-told in
    let written = c.written_out-outcome in
    let same = same-twice answer.result told.result written.result.0 told.ensures.status written.ensures.status in
    let stop = stop-twice answer.result told.result written.result.0 told.ensures.stop written.ensures.stop in
    let failed = failed-twice answer.result told.result written.result.0 told.ensures.write written.ensures.stop written.ensures.write in
    let left = stopped-twice answer.result told.result (λ _. written.result.1 ≡ writer_inner answer.new.out) told.ensures.stop written.ensures.unwritten in (
      answer.new.errors,
      answers-behind c.args.watch.is_terminal g.O.Write.contents g.E.Write.contents c.args.out answer.new.out written.result.1 c.args.errors.now answer.new.errors answer.result written.result.0
          same stop failed left known request c.requires answer.ensures.answers written.ensures.whole,
      shows-behind c.args.watch.is_terminal g.O.Write.contents g.E.Write.contents c.args.out answer.new.out written.result.1 c.args.errors.now answer.new.errors answer.result written.result.0
          same stop failed left request answer.ensures.shows,
      (
        lines-behind g.E.Write.contents known answer.new.errors told.new.errors told.result written.result.0 c.in-Ok.lines.items c.deref.result.now
            (words_seen c.layer_words.result) (layer_words request) written.ensures.status c.in-Ok.ensures.0 c.layer_words.ensures c.deref.ensures.value told.ensures.lines,
        kept-behind answer.new.errors told.new.errors told.result written.result.0 written.ensures.stop written.ensures.write told.ensures.kept,
        λ none. told.ensures.nothing (c.deref.ensures.value ∙ c.in-Ok.ensures.1 (ap name_overlays c.layer_words.ensures ∙ none)),
      ),
      unwritten-behind c.args.watch.is_terminal g.O.Write.contents g.E.Write.contents c.args.out answer.new.out written.result.1 c.args.errors.now answer.new.errors answer.result written.result.0
          same stop failed left answer.ensures.unwritten,
    )
