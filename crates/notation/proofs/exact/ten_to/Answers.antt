use Rattle.std.proofs.Common.{◌≤◌, ◌^◌, arith}
use Rattle.std.proofs.Math.Nat.{one-le-pow, pow-le-pow_right}
use Rattle.notation.proofs.exact.ten_to.Goals as goal

pub returns-clause-most : goal.returns-clause-most
returns-clause-most c = let within : 10 ^ c.args.places ≤ 10 ^ 18 = pow-le-pow_right (omega arith) c.requires in omega (arith, within)

pub returns-clause-least : goal.returns-clause-least
returns-clause-least c = let some : 1 ≤ 10 ^ c.args.places = one-le-pow c.args.places 10 (omega arith) in omega (arith, some)
