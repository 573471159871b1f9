use Rattle.std.proofs.Common.{◌≡◌, Option, Some, None, Ok, refl, sym, ◌∙◌, subst}
use Rattle.std.specs.Option.{option_map, IsSomeAnd}
use Rattle.clap.specs.Words.{found_of, rows_of}
use Rattle.restool.specs.declared.request.Command.{Command}
use Rattle.restool.specs.Request.{ReadsCommand}
use Rattle.restool.proofs.words.read_command.Goals as goal

-- what was found, by its two parts
both_parts : {S A B : Type 0} (f : S → A) (g : S → B) (found : Option S) (a : A) (b : B) → Some a ≡ option_map f found → Some b ≡ option_map {T = A × B} {U = B} (λ p. p.1) (option_map {T = S} {U = A × B} (λ s. (f s, g s)) found) → option_map {T = S} {U = A × B} (λ s. (f s, g s)) found ≡ Some (a, b)
both_parts f g (Some s) a b one two =
    let first : f s ≡ a = cc in
    let second : g s ≡ b = cc in
    λ i. Some (first i, second i)
both_parts f g None a b one two = absurd cc

pub returns : goal.returns
returns c =
    let name = c.in-Some.name.now in
    let rows = rows_of (found_of c.in-Some.given.now) in
    let read = Ok c.in_ok-request_of-in-Some.field-0 in (
      c.in_ok-matches.ensures.kinds,
      (
        name,
        rows,
        read,
        sym c.in_ok-matches.ensures.command ∙ both_parts _ _ _ name rows c.in-Some.ensures.name c.in-Some.ensures.rows,
        subst (λ (command : Option Command). IsSomeAnd command (λ it. ReadsCommand it rows read)) c.of_name.ensures c.in_ok-request_of-in-Some.ensures,
        refl,
      ),
    )
