use Rattle.std.proofs.Common.{◌≤◌, ◌^◌, arith}
use Rattle.std.proofs.Math.Pow.{pow_mono}
use Rattle.notation.proofs.float.scale.Goals as goal

pub returns-clause-few : goal.returns-clause-few
returns-clause-few c =
    let shift : c.saturating_sub.result ≤ 34 = omega arith in
    let within : 2 ^ c.saturating_sub.result ≤ 2 ^ 34 = pow_mono shift in
    omega (arith, within)
