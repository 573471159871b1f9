use Rattle.std.proofs.Common.{◌++◌, List, refl, map, sym, ap, subst, ◌∙◌}
use Rattle.std.specs.Option.{option_map}
use Rattle.names.specs.Names.{WantedOf}
use Rattle.names.specs.PackageWord.{package_word_of}
use Rattle.names.specs.declared.named.Named.{Named}
use Rattle.names.specs.Named.{named_of}
use Rattle.names.specs.AskedNames.{names_in}
use Rattle.names.specs.Finder.{Tells}
use Rattle.names.specs.NamedIds.{id_named, id_of_found}
use Rattle.names.specs.declared.packages.PackageName.{PackageName}
use Rattle.names.specs.Packages.{package_name_of}
use Rattle.names.proofs.TellsSteps.{told-first}
use Rattle.names.proofs.WordSteps.{by-name, id-itself, GivesNamed-same}
use Rattle.names.proofs.finder.Finder.id.Goals as goal

pub returns-in-Id : goal.returns-in-Id
returns-in-Id c = λ layers names told. (
  subst (λ (named : Named). Tells layers (names_in (named_of named) ++ names) c.args.self.now) c.in-Id.is told,
  ap (λ (named : Named). id_named layers (named_of named)) c.in-Id.is ∙ id-itself layers _,
)

pub returns-in-Name : goal.returns-in-Name
returns-in-Name c = λ layers names told.
    let first = told-first layers _ names c.args.self.now (record c.args.self.now { found = c.next.new.self }) _
    (subst (λ (named : Named). Tells layers (names_in (named_of named) ++ names) c.args.self.now) c.in-Name.is told) refl refl told.known c.next.ensures.cases in (
      first.1,
      GivesNamed-same _ _ _ _
          (ap (λ (named : Named). id_named layers (named_of named)) c.in-Name.is ∙ by-name layers (option_map package_word_of c.in-Name.package) c.in-Name.type_name.now c.in-Name.entry_name.now (map package_name_of c.deref.result.now) c.unwrap_or-found.result (ap (λ (all : List PackageName). map package_name_of all) c.deref.ensures.value ∙ told.packages) (c.unwrap_or-found.ensures ∙ first.0)
          ∙ ap (λ (wanted : WantedOf). id_of_found (map package_name_of c.deref.result.now) wanted c.unwrap_or-found.result) (sym c.of_parts-wanted.ensures))
          c.id_of_found.ensures,
    )
