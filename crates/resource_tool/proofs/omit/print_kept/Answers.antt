use Rattle.std.proofs.Common.{◌≡◌, arith, inr, List, [], ◌∷◌, length, map, Result, Ok, ap, sym, refl, ◌∙◌}
use Rattle.std.proofs.KnownBytes.{Appends-nil}
use Rattle.std.proofs.lemmas.Bool.{eqb-false, eqb-true}
use Rattle.std.proofs.lemmas.Result.{err_from_is_err_and}
use Rattle.resource_text.specs.cert_maker.cert_tree.declared.cert.CertGoal.{CertGoal}
use Rattle.resource_text.specs.cert_maker.cert_tree.Certificate.{goal_of}
use Rattle.resource_text.specs.cert_maker.res_value.Goal.{goal_seen}
use Rattle.resource_text.specs.cert_maker.declared.omitted.Omitting.{Omitting}
use Rattle.command_base.specs.declared.status.Status.TheVariants.{Done, Negative}
use Rattle.command_base.specs.Output.{Output}
use Rattle.command_base.specs.declared.fault.ToolFault.{ToolFault}
use Rattle.resource_tool.specs.MapOutput.{MapOutput}
use Rattle.resource_tool.specs.MakeOutput.{certificate_line, made_text}
use Rattle.resource_tool.specs.OmitOutput.{kept_output, lines_of, omit_output}
use Rattle.resource_tool.proofs.omit.print_kept.Goals as goal

none-kept : (trees : List CertGoal) → length trees ≡ 0 → kept_output (map goal_of trees) ≡ record { status = Negative; text = [] }
none-kept [] e = refl
none-kept (tree ∷ trees) e = absurd (omega (arith, e))

some-kept : (trees : List CertGoal) → (length trees ≡ 0 → ⊥) → kept_output (map goal_of trees) ≡ record { status = Done; text = certificate_line (map goal_of trees) }
some-kept [] some = absurd (some refl)
some-kept (tree ∷ trees) some = refl

pub returns-then-is_empty-clause-output : goal.returns-then-is_empty-clause-output
returns-then-is_empty-clause-output g c =
    let trees = c.in-Cert.certificate.goals in
    let zero = eqb-true _ _ (sym c.is_empty.ensures ∙ c.if-is_empty.true) in
    let count : length trees.items ≡ 0 = (let len = trees.ok.0 in omega (arith, zero, len)) in
    let stack = c.args.stack.now in
    let asked = map goal_seen c.args.goals.now in
    let lines = lines_of stack asked c.in-Cert.omitted.items in
    let told = rw (c.in_ok-names-in-Cert.ensures, c.deref.ensures.value) at c.in_ok-write_omitted-in-Cert.ensures in
    let done : MapOutput → Result MapOutput ToolFault = λ m. Ok m in
    let meant = ap (λ (o : Omitting). done (omit_output stack asked o)) c.in-Cert.is ∙ ap (λ (o : Output). done (record { output = o; lines = lines })) (none-kept trees.items count) in
    ([], lines, meant, Appends-nil _, told)

pub returns-then-is_empty-clause-told : goal.returns-then-is_empty-clause-told
returns-then-is_empty-clause-told g c =
    rw (c.in-Cert.is, ← c.deref.ensures.value) (inr (rw c.in_ok-names-in-Cert.ensures at c.in_ok-write_omitted-in-Cert.ensures))

pub returns-then-is_empty-clause-reads_back : goal.returns-then-is_empty-clause-reads_back
returns-then-is_empty-clause-reads_back g c = rw c.in-Cert.is c.in_ok-text-in-Cert.ensures.reads_back

pub returns-in_ok-write_line-in-Cert-clause-output : goal.returns-in_ok-write_line-in-Cert-clause-output
unfolding certificate_line
returns-in_ok-write_line-in-Cert-clause-output g c =
    let trees = c.in-Cert.certificate.goals in
    let some = λ (none : length trees.items ≡ 0). (let len = trees.ok.0 in eqb-false _ _ (sym c.is_empty.ensures ∙ c.if-is_empty.false) (omega (arith, none, len))) in
    let stack = c.args.stack.now in
    let asked = map goal_seen c.args.goals.now in
    let lines = lines_of stack asked c.in-Cert.omitted.items in
    let told = rw (c.in_ok-names-in-Cert.ensures, c.deref.ensures.value) at c.in_ok-write_omitted-in-Cert.ensures in
    let done : MapOutput → Result MapOutput ToolFault = λ m. Ok m in
    let meant = ap (λ (o : Omitting). done (omit_output stack asked o)) c.in-Cert.is ∙ ap (λ (o : Output). done (record { output = o; lines = lines })) (some-kept trees.items some) in
    let put = rw (c.as_slice.ensures.value, c.in_ok-text-in-Cert.ensures.text) at c.in_ok-write_line-in-Cert.ensures in
    (certificate_line (map goal_of trees.items), lines, meant, put, told)

pub returns-in_ok-write_line-in-Cert-clause-told : goal.returns-in_ok-write_line-in-Cert-clause-told
returns-in_ok-write_line-in-Cert-clause-told g c =
    rw (c.in-Cert.is, ← c.deref.ensures.value) (inr (rw c.in_ok-names-in-Cert.ensures at c.in_ok-write_omitted-in-Cert.ensures))

pub returns-in_ok-write_line-in-Cert-clause-reads_back : goal.returns-in_ok-write_line-in-Cert-clause-reads_back
returns-in_ok-write_line-in-Cert-clause-reads_back g c = rw c.in-Cert.is c.in_ok-text-in-Cert.ensures.reads_back

pub returns-in_err-write_line-in-Cert-clause-told : goal.returns-in_err-write_line-in-Cert-clause-told
returns-in_err-write_line-in-Cert-clause-told g c =
    rw (c.in-Cert.is, ← c.deref.ensures.value) (inr (rw c.in_ok-names-in-Cert.ensures at c.in_ok-write_omitted-in-Cert.ensures))

pub returns-in_err-write_line-in-Cert-clause-reads_back : goal.returns-in_err-write_line-in-Cert-clause-reads_back
returns-in_err-write_line-in-Cert-clause-reads_back g c =
    let p = err_from_is_err_and c.from_residual-in_err-write_line-in-Cert.result c.from_residual-in_err-write_line-in-Cert.ensures.1 in
    rw (p.1, p.2, c.in-Cert.is) c.in_ok-text-in-Cert.ensures.reads_back

pub returns-in_ok-write_all-in-NodeLimit-clause-output : goal.returns-in_ok-write_all-in-NodeLimit-clause-output
unfolding made_text
returns-in_ok-write_all-in-NodeLimit-clause-output g c = rw c.in-NodeLimit.is (_, [], refl, c.in_ok-write_all-in-NodeLimit.ensures.bytes, Appends-nil _)

pub returns-in_ok-write_all-in-NodeLimit-clause-told : goal.returns-in_ok-write_all-in-NodeLimit-clause-told
returns-in_ok-write_all-in-NodeLimit-clause-told g c = rw c.in-NodeLimit.is (inr (Appends-nil _))

pub returns-in_err-write_all-in-NodeLimit-clause-told : goal.returns-in_err-write_all-in-NodeLimit-clause-told
returns-in_err-write_all-in-NodeLimit-clause-told g c = rw c.in-NodeLimit.is (inr (Appends-nil _))
