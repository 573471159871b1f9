use Rattle.std.proofs.Common.{None, ap, Option}
use Rattle.std.proofs.lemmas.List.{get_or-replicate}
use Rattle.std.specs.Option.{option_map}
use Rattle.type_entries.specs.declared.type_spec.TypeSpec.{TypeSpec}
use Rattle.type_entries.specs.TypeSpec.{type_spec_of}
use Rattle.type_chunks.proofs.KnownSteps.{Knows-none}
use Rattle.type_chunks.proofs.known_specs.KnownSpecs.new.Goals as goal

pub returns-clause-known : goal.returns-clause-known
returns-clause-known c = Knows-none _ (λ id below. ap (λ (o : Option TypeSpec). option_map type_spec_of o) (get_or-replicate 256 id None None below))

pub returns-clause-stand : goal.returns-clause-stand
returns-clause-stand c = λ container id below. rw (get_or-replicate {A = Option TypeSpec} 256 id None None below) tt
