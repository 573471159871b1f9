use Rattle.std.proofs.Common.{◌∷◌, ◌++◌, [], ap, ◌∙◌, sym}
use Rattle.resource_text.specs.cert_maker.cert_tree.CertJson.{cert_in_by}
use Rattle.resource_text.proofs.cert_tree.LineLemmas.{cert_in-line}
use Rattle.resource_tool.specs.MakeOutput.{certificate_line}
use Rattle.resource_tool.specs.LineReadsBack.{TreesReadBack}
use Rattle.resource_tool.proofs.make.certificate_text.Goals as goal

pub returns-clause-reads_back : goal.returns-clause-reads_back
unfolding certificate_line TreesReadBack
returns-clause-reads_back c =
    let written = c.in_ok-text.ensures in
    λ rule fits. ap (λ text. cert_in_by rule (text ++ 10 ∷ [])) (sym written.text) ∙ cert_in-line rule _ _ (written.reads_back rule fits)
