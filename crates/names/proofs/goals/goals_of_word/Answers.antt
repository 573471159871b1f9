use Rattle.std.proofs.Common.{◌++◌, List, [], ◌∷◌, map, Result, Ok, sym, ap, subst, ◌∙◌}
use Rattle.std.proofs.lemmas.Result.{err_from_is_err_and}
use Rattle.std.specs.List.{flat_map}
use Rattle.json_input.specs.Each.{each}
use Rattle.res_value.specs.Goal.{GoalSeen, goal_seen}
use Rattle.names.specs.declared.named.Named.{Named}
use Rattle.names.specs.declared.named_goal.NamedGoal.{NamedGoal}
use Rattle.names.specs.NameFault.{NameFaultOf}
use Rattle.names.specs.Named.{named_of}
use Rattle.names.specs.NamedGoal.{named_goal_of}
use Rattle.names.specs.AskedNames.{names_in, names_in_goal}
use Rattle.names.specs.Finder.{Tells}
use Rattle.names.specs.NamedIds.{id_named}
use Rattle.names.specs.NamedGoals.{goals_of_word}
use Rattle.names.proofs.TellsSteps.{Tells-attr}
use Rattle.names.proofs.WordSteps.{ids-found, set-found, set-missing, attr-found, attr-missing, style-missing}
use Rattle.names.proofs.goals.goals_of_word.Goals as goal

pub returns-in_ok-goal-in-Ids : goal.returns-in_ok-goal-in-Ids
returns-in_ok-goal-in-Ids c = λ layers names told.
    let wrapped : GoalSeen → Result (List GoalSeen) NameFaultOf = λ goal. Ok (goal ∷ []) in (
      subst (λ (word : NamedGoal). Tells layers (names_in_goal (named_goal_of word) ++ names) c.args.finder.now) c.in-Ids.is told,
      ap (λ (word : NamedGoal). goals_of_word layers (named_goal_of word)) c.in-Ids.is ∙ ids-found layers (goal_seen c.in-Ids.goal) ∙ ap wrapped (sym c.in_ok-goal-in-Ids.ensures),
    )

pub returns-in_err-ids-in-Resources : goal.returns-in_err-ids-in-Resources
returns-in_err-ids-in-Resources c = λ layers names told.
    let of_set = subst (λ (word : NamedGoal). Tells layers (names_in_goal (named_goal_of word) ++ names) c.args.finder.now) c.in-Resources.is told in
    let p = err_from_is_err_and c.from_residual-in_err-ids-in-Resources.result c.from_residual-in_err-ids-in-Resources.ensures.1 in
    rw (p.1, p.2) (
      tt,
      λ other.
          ap (λ (word : NamedGoal). goals_of_word layers (named_goal_of word)) c.in-Resources.is ∙ set-missing layers _ _ ((c.in_err-ids-in-Resources.ensures layers names of_set).1 other),
    )

pub returns-in_ok-ids-in-Resources : goal.returns-in_ok-ids-in-Resources
returns-in_ok-ids-in-Resources c = λ layers names told.
    let of_set = subst (λ (word : NamedGoal). Tells layers (names_in_goal (named_goal_of word) ++ names) c.args.finder.now) c.in-Resources.is told in
    let given = c.in_ok-ids-in-Resources.ensures layers names of_set in
    (given.0, ap (λ (word : NamedGoal). goals_of_word layers (named_goal_of word)) c.in-Resources.is ∙ set-found layers _ _ given.1)

pub returns-in_err-attr-in-Attr : goal.returns-in_err-attr-in-Attr
returns-in_err-attr-in-Attr c = λ layers names told.
    let of_attr = Tells-attr layers _ c.in-Attr.attr c.in-Attr.styles.items names
    (subst (λ (word : NamedGoal). Tells layers (names_in_goal (named_goal_of word) ++ names) c.args.finder.now) c.in-Attr.is told) in
    let p = err_from_is_err_and c.from_residual-in_err-attr-in-Attr.result c.from_residual-in_err-attr-in-Attr.ensures.1 in
    rw (p.1, p.2) (
      tt,
      λ other.
          ap (λ (word : NamedGoal). goals_of_word layers (named_goal_of word)) c.in-Attr.is ∙ attr-missing layers _ _ _ ((c.in_err-attr-in-Attr.ensures layers _ of_attr).1 other),
    )

pub returns-in_err-styles-in-Attr : goal.returns-in_err-styles-in-Attr
returns-in_err-styles-in-Attr c = λ layers names told.
    let of_attr = Tells-attr layers _ c.in-Attr.attr c.in-Attr.styles.items names
    (subst (λ (word : NamedGoal). Tells layers (names_in_goal (named_goal_of word) ++ names) c.args.finder.now) c.in-Attr.is told) in
    let attr = c.in_ok-attr-in-Attr.ensures layers _ of_attr in
    let of_styles = subst (λ (styles : List Named). Tells layers (flat_map (λ named. names_in (named_of named)) styles ++ names) c.id.new.self) (sym c.deref.ensures.value) attr.0 in
    let p = err_from_is_err_and c.from_residual-in_err-styles-in-Attr.result c.from_residual-in_err-styles-in-Attr.ensures.1 in
    rw (p.1, p.2) (
      tt,
      λ other.
          ap (λ (word : NamedGoal). goals_of_word layers (named_goal_of word)) c.in-Attr.is
          ∙ style-missing layers _ _ _ _ attr.1
          (ap (λ (styles : List Named). each (id_named layers) (map named_of styles)) (sym c.deref.ensures.value) ∙ (c.in_err-styles-in-Attr.ensures layers names of_styles).1 other),
    )

pub returns-in_ok-styles-in-Attr : goal.returns-in_ok-styles-in-Attr
returns-in_ok-styles-in-Attr c = λ layers names told.
    let of_attr = Tells-attr layers _ c.in-Attr.attr c.in-Attr.styles.items names
    (subst (λ (word : NamedGoal). Tells layers (names_in_goal (named_goal_of word) ++ names) c.args.finder.now) c.in-Attr.is told) in
    let attr = c.in_ok-attr-in-Attr.ensures layers _ of_attr in
    let of_styles = subst (λ (styles : List Named). Tells layers (flat_map (λ named. names_in (named_of named)) styles ++ names) c.id.new.self) (sym c.deref.ensures.value) attr.0 in
    let styles = c.in_ok-styles-in-Attr.ensures layers names of_styles in (
      styles.0,
      ap (λ (word : NamedGoal). goals_of_word layers (named_goal_of word)) c.in-Attr.is
          ∙ attr-found layers _ _ _ _ attr.1 (ap (λ (styles : List Named). each (id_named layers) (map named_of styles)) (sym c.deref.ensures.value) ∙ styles.1),
    )
