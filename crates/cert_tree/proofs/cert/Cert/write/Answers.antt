use Rattle.std.proofs.Common.{◌≤◌, ◌∙◌, ap}
use Rattle.serde_json.specs.Data.{depth}
use Rattle.serde_json.specs.Read.{max_depth}
use Rattle.serde_json.specs.View.{view}
use Rattle.serde_json.specs.Written.{has_float, compact_text}
use Rattle.json_input.proofs.ValueLemmas.{value_of-read}
use Rattle.cert_tree.specs.Certificate.{goals_of}
use Rattle.cert_tree.proofs.ReadsBackLemmas.{cert_in-back, cert-no_float, cert-shallow}
use Rattle.cert_tree.proofs.cert.Cert.write.Goals as goal

pub returns-clause-text : goal.returns-clause-text
returns-clause-text c =
    c.in_ok-bytes.ensures.text (ap has_float c.in_ok-value.ensures.data ∙ cert-no_float (goals_of c.args.self.now))
    ∙ ap compact_text c.in_ok-value.ensures.data

pub returns-clause-reads_back : goal.returns-clause-reads_back
returns-clause-reads_back c = λ rule fits.
    let nests : depth (view c.in_ok-value.value) ≤ max_depth = rw c.in_ok-value.ensures.data (cert-shallow (goals_of c.args.self.now)) in
    cert_in-back rule _ _ (goals_of c.args.self.now) (value_of-read _ _ c.in_ok-bytes.ensures.utf8 (c.in_ok-bytes.ensures.reads_back nests)) c.in_ok-value.ensures.data
    (c.in_ok-value.ensures.reads_back rule fits)
