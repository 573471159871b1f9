use Rattle.std.proofs.Common.{ℕ, List, Option, Some, None, map, option_map, string_bytes, subst, ap, ◌∙◌}
use Rattle.stack_diff.specs.Parting.{IsWithin}
use Rattle.stack_diff.specs.RowUses.{AreUses}
use Rattle.resource_tool.specs.Unused.{numbers_of}
use Rattle.resource_tool.specs.Values.{opened_values}
use Rattle.resource_tool.proofs.PrintedUnused.{numbers-of-slices, printed-unused}
use Rattle.resource_tool.proofs.unused.Unused.tell.Goals as goal

pub returns-in-Some : goal.returns-in-Some
returns-in-Some g c =
    let form = c.args.self.now.form in
    let most = c.args.self.now.max_nodes in
    let paths = map string_bytes c.args.paths.now in
    let stack = c.args.opened.stack in
    let members = c.args.opened.members in
    let uses = map (λ of_layer. of_layer.items) c.deref.result.now in
    let asked = numbers-of-slices (λ ids. ids.now) c.as_deref.result ∙ ap numbers_of c.as_deref.ensures.value in
    let right = subst (λ (ids : Option (List ℕ)). AreUses stack members ids uses) asked (rw (c.in-Some.is, ← c.deref.ensures.value) at c.in_ok-uses.ensures.uses) in
    let within = subst (λ (ids : Option (List ℕ)). IsWithin stack members ids most (Some uses)) asked (rw (c.in-Some.is, ← c.deref.ensures.value) at c.in_ok-uses.ensures.within) in
    printed-unused g.W.Write.contents c.args.out.now c.print_unused.new.out form paths (option_map (λ ids. ids.items) c.args.asked) most (opened_values c.args.opened) (Some uses)
    c.print_unused.result right within c.print_unused.ensures

pub returns : goal.returns
returns g c =
    let form = c.args.self.now.form in
    let most = c.args.self.now.max_nodes in
    let paths = map string_bytes c.args.paths.now in
    let stack = c.args.opened.stack in
    let members = c.args.opened.members in
    let asked = numbers-of-slices (λ ids. ids.now) c.as_deref.result ∙ ap numbers_of c.as_deref.ensures.value in
    let within = subst (λ (ids : Option (List ℕ)). IsWithin stack members ids most None) asked (rw c.in-None.is at c.in_ok-uses.ensures.within) in
    printed-unused g.W.Write.contents c.args.out.now c.print_node_limit.new.out form paths (option_map (λ ids. ids.items) c.args.asked) most (opened_values c.args.opened) None
    c.print_node_limit.result tt within c.print_node_limit.ensures
