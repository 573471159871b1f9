use Rattle.std.proofs.Common.{rules, refl, inl}
use Rattle.resource_tool.proofs.make.OpenMake.make_omitting.Goals as goal

pub returns-in_err-omitting : goal.returns-in_err-omitting
returns-in_err-omitting g c = (c.omit_shown.new.errors, c.omit_shown.ensures.quiet, (search rules, inl refl))

pub returns : goal.returns
returns g c =
    let made = c.in_ok-omitting.ensures.made in (
      c.omit_shown.new.errors,
      c.omit_shown.ensures.quiet,
      (
        (rw c.deref.ensures.value at (c.print_omitting.ensures.prints c.args.max_nodes)) made,
        (rw c.deref.ensures.value at (c.print_omitting.ensures.lines_first c.args.max_nodes)) made,
      ),
    )
