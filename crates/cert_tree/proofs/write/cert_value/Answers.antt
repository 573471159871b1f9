use Rattle.std.proofs.Common.{◌≡◌, List, map, Ok, subst}
use Rattle.std.specs.List.{All}
use Rattle.cert_tree.specs.declared.cert.CertGoal.{CertGoal}
use Rattle.config_box.specs.config_record.locales.declared.locale_rule.LocaleRule.{LocaleRule}
use Rattle.cert_tree.specs.Certificate.{goal_of, goals_of, CertFits}
use Rattle.cert_tree.specs.CertJson.{goals_in_value}
use Rattle.cert_tree.specs.WrittenJson.{cert_data}
use Rattle.cert_tree.specs.ReadsBack.{GoalReadsBack}
use Rattle.cert_tree.proofs.ReadsBackLemmas.{in_any_case, cert-back}
use Rattle.cert_tree.proofs.write.cert_value.Goals as goal

pub returns-clause-reads_back : goal.returns-clause-reads_back
returns-clause-reads_back c =
    let goals = goals_of c.args.cert.now in
    let each : All GoalReadsBack goals = subst (λ (items : List CertGoal). All GoalReadsBack (map goal_of items)) c.as_slice.ensures.value c.in_ok-goal_values.ensures.reads_back in
    let back : (rule : LocaleRule) → CertFits rule goals → goals_in_value rule (cert_data goals) ≡ Ok goals = λ rule. cert-back rule goals each in
    in_any_case _ back
