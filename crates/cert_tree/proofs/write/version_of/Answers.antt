use Rattle.std.proofs.Common.{sym, refl}
use Rattle.std.proofs.lemmas.List.Folds.{list_all-map}
use Rattle.cert_tree.specs.Certificate.{goal_of}
use Rattle.cert_tree.specs.WrittenJson.{is_id_goal}
use Rattle.cert_tree.proofs.write.version_of.Goals as goal

pub returns-then-are_ids : goal.returns-then-are_ids
returns-then-are_ids c = rw (list_all-map is_id_goal goal_of c.args.goals.now, sym c.are_ids.ensures, c.if-are_ids.true) refl

pub returns-else-are_ids : goal.returns-else-are_ids
returns-else-are_ids c = rw (list_all-map is_id_goal goal_of c.args.goals.now, sym c.are_ids.ensures, c.if-are_ids.false) refl
