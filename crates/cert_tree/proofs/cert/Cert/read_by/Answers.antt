use Rattle.std.proofs.Common.{Err, sym, ap, ◌∙◌}
use Rattle.std.proofs.lemmas.Result.{err_from_is_err_and}
use Rattle.cert_tree.specs.KeptCert.{cert_members_seen}
use Rattle.cert_tree.proofs.KeptSteps.{cert-read, cert-followed, cert-malformed}
use Rattle.cert_tree.proofs.cert.Cert.read_by.Goals as goal

pub returns-in_err-members : goal.returns-in_err-members
returns-in_err-members c =
    let p = err_from_is_err_and c.from_residual-in_err-members.result c.from_residual-in_err-members.ensures.1 in
    rw (p.1, p.2)
    (λ other.
    let none = c.in_err-members.ensures other in
    cert-malformed c.args.rule c.args.json.now c.in_ok-tokens.tokens c.in_ok-tokens.ensures.1 none.1 ∙ ap (λ fault. Err fault) (sym none.0))

pub returns-in_err-end : goal.returns-in_err-end
returns-in_err-end c =
    let p = err_from_is_err_and c.from_residual-in_err-end.result c.from_residual-in_err-end.ensures.1 in
    rw (p.1, p.2)
    (λ other. cert-followed c.args.rule c.args.json.now c.in_ok-tokens.tokens c.read_cert_members.new.tokens (cert_members_seen c.in_ok-members.members) c.in_ok-tokens.ensures.1 c.in_ok-members.ensures c.in_err-end.ensures)

pub returns-in_err-goals : goal.returns-in_err-goals
returns-in_err-goals c =
    let p = err_from_is_err_and c.from_residual-in_err-goals.result c.from_residual-in_err-goals.ensures.1 in
    rw (p.1, p.2)
    (λ other.
    cert-read c.args.rule c.args.json.now c.in_ok-tokens.tokens c.read_cert_members.new.tokens (cert_members_seen c.in_ok-members.members) c.in_ok-tokens.ensures.0 c.in_ok-tokens.ensures.1 c.in_ok-members.ensures c.in_ok-end.ensures
    ∙ sym c.in_err-goals.ensures)

pub returns : goal.returns
returns c =
    cert-read c.args.rule c.args.json.now c.in_ok-tokens.tokens c.read_cert_members.new.tokens (cert_members_seen c.in_ok-members.members) c.in_ok-tokens.ensures.0 c.in_ok-tokens.ensures.1 c.in_ok-members.ensures c.in_ok-end.ensures
    ∙ sym c.in_ok-goals.ensures
