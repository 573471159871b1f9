use Rattle.std.proofs.Common.{◌++◌, List, Result, Ok, sym, ap, subst, ◌∙◌}
use Rattle.std.proofs.lemmas.Result.{err_from_is_err_and}
use Rattle.std.specs.Option.{option_map}
use Rattle.res_value.specs.declared.res_id.ResId.{ResId}
use Rattle.names.specs.declared.named_set.NamedSet.{NamedSet}
use Rattle.names.specs.NamedSet.{named_set_of}
use Rattle.names.specs.AskedNames.{names_in_set}
use Rattle.names.specs.Finder.{Tells}
use Rattle.names.specs.NameFault.{NameFaultOf}
use Rattle.names.specs.NamedIds.{ids_in_package, ids_of_set, some_of}
use Rattle.names.specs.PackageWord.{package_word_of}
use Rattle.names.proofs.Pushed.{on-ok}
use Rattle.names.proofs.WordSteps.{GivesNamed-same, one-found, one-missing, of-type, of-all}
use Rattle.names.proofs.finder.Finder.ids.Goals as goal

pub returns-in_err-id-in-One : goal.returns-in_err-id-in-One
returns-in_err-id-in-One c = λ layers names told.
    let of_one = subst (λ (set : NamedSet). Tells layers (names_in_set (named_set_of set) ++ names) c.args.self.now) c.in-One.is told in
    let p = err_from_is_err_and c.from_residual.result c.from_residual.ensures.1 in
    rw (p.1, p.2) (tt, λ other. ap (λ (set : NamedSet). ids_of_set layers (named_set_of set)) c.in-One.is ∙ one-missing layers _ _ ((c.in_err-id-in-One.ensures layers names of_one).1 other))

pub returns-in_ok-ids-in-One : goal.returns-in_ok-ids-in-One
returns-in_ok-ids-in-One c = λ layers names told.
    let of_one = subst (λ (set : NamedSet). Tells layers (names_in_set (named_set_of set) ++ names) c.args.self.now) c.in-One.is told in
    let given = c.in_ok-id-in-One.ensures layers names of_one in
    let wrapped : List ResId → Result (List ResId) NameFaultOf = λ ids. Ok ids in
    (given.0, ap (λ (set : NamedSet). ids_of_set layers (named_set_of set)) c.in-One.is ∙ one-found layers _ _ given.1 ∙ ap wrapped (sym c.in_ok-ids-in-One.ensures))

pub returns-in_ok-ids-in-OfType-2 : goal.returns-in_ok-ids-in-OfType-2
returns-in_ok-ids-in-OfType-2 c = λ layers names told.
    let of_type = subst (λ (set : NamedSet). Tells layers (names_in_set (named_set_of set) ++ names) c.args.self.now) c.in-OfType.is told in
    let walked = c.in_ok-ids-in-OfType.ensures layers names of_type in
    let kept = c.in_ok-ids-in-OfType-2.ensures layers names walked.0
    ∙ ap (ids_in_package layers (option_map package_word_of c.in-OfType.package)) (c.deref-in-OfType.ensures.value ∙ ap (λ ids. ids.items) c.deref.ensures ∙ walked.1) in
    let ids = c.in_ok-ids-in-OfType-2.ids.value.items in (
      on-ok c.some_of.result walked.0,
      GivesNamed-same _ _ _ _
          (ap (λ (set : NamedSet). ids_of_set layers (named_set_of set)) c.in-OfType.is ∙ of-type layers _ _ ids kept ∙ sym (ap (λ (set : NamedSet). some_of (named_set_of set) ids) c.in-OfType.is))
          c.some_of.ensures,
    )

pub returns-in_ok-ids-in-All : goal.returns-in_ok-ids-in-All
returns-in_ok-ids-in-All c = λ layers names told.
    let of_all = subst (λ (set : NamedSet). Tells layers (names_in_set (named_set_of set) ++ names) c.args.self.now) c.in-All.is told in
    let walked = c.in_ok-ids-in-All.ensures layers names of_all in
    let ids = c.in_ok-ids-in-All.ids.value.items in (
      on-ok c.some_of-in-All.result walked.0,
      GivesNamed-same _ _ _ _
          (ap (λ (set : NamedSet). ids_of_set layers (named_set_of set)) c.in-All.is ∙ of-all layers ids walked.1 ∙ sym (ap (λ (set : NamedSet). some_of (named_set_of set) ids) c.in-All.is))
          c.some_of-in-All.ensures,
    )
