use Rattle.std.proofs.Common.{◌++◌, List, map, sym, ap, ◌∙◌}
use Rattle.std.proofs.lemmas.List.{drop_more}
use Rattle.std.proofs.lemmas.List.Folds.{flat_map-map}
use Rattle.names.specs.Names.{WantedOf, wanted_of}
use Rattle.names.specs.declared.named.Named.{Named}
use Rattle.names.specs.Named.{named_of}
use Rattle.names.specs.AskedNames.{names_in}
use Rattle.names.proofs.AskedSteps.{JoinsBut-next, JoinsBut-end}
use Rattle.names.proofs.asked_names.push_names.Goals as goal

pub returns : goal.returns
returns c =
    JoinsBut-end (λ (named : Named). names_in (named_of named)) _ c.args.all.now _ _ c.loop-named.invariant c.loop-named-test.false
    ∙ ap (λ (names : List WantedOf). map wanted_of c.args.names.now.items ++ names) (sym (flat_map-map names_in named_of c.args.all.now))

pub loop-named-preserved : goal.loop-named-preserved
loop-named-preserved c =
    JoinsBut-next (λ (named : Named). names_in (named_of named)) _ _ _ _ _ _ c.loop-named.invariant
    (drop_more c.args.all.now c.loop-named.named-index _ c.loop-named-test.true) c.in_ok-push_name.ensures
