use Rattle.std.proofs.lemmas.Result.{on_ok_weaker}
use Rattle.names.specs.Label.{label_of}
use Rattle.names.proofs.NotedSteps.{noted_one}
use Rattle.names.proofs.noted.Noted.note.Goals as goal

pub returns : goal.returns
returns c =
    on_ok_weaker c.put_shared.result (λ shared.
    noted_one c.in_ok-first.first c.args.id (label_of c.args.label) c.args.self.now
    (record { labels = c.add_label.new.labels; ids = c.put.new.ids; named = c.put-2.new.ids; shared = c.put_shared.new.shared })
    c.in_ok-first.ensures.added c.in_ok-first.ensures.first c.in_ok-put.ensures c.in_ok-put-2.ensures shared)
    c.put_shared.ensures
