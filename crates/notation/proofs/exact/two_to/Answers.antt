use Rattle.std.proofs.Common.{◌≤◌, ◌^◌, arith}
use Rattle.std.proofs.Math.Pow.{pow_mono}
use Rattle.notation.proofs.exact.two_to.Goals as goal

pub returns-clause-most : goal.returns-clause-most
returns-clause-most c = let within : 2 ^ c.args.radix ≤ 2 ^ 60 = pow_mono c.requires in omega (arith, within)
