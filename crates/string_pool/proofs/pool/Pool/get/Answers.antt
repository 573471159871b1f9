use Rattle.string_pool.proofs.Ranges.{lent_utf8, lent_utf16}
use Rattle.string_pool.proofs.pool.Pool.get.Goals as goal

pub returns-in_ok-utf8_bytes-clause-lent : goal.returns-in_ok-utf8_bytes-clause-lent
returns-in_ok-utf8_bytes-clause-lent c =
    lent_utf8 c.args.self.now.strings.now c.bytes_from-left.result.now c.in_ok-utf8_bytes.field-0.now c.u32_within-offset.result c.bytes_from-left.ensures c.in_ok-utf8_bytes.ensures

pub returns-in_ok-utf16_bytes-clause-lent : goal.returns-in_ok-utf16_bytes-clause-lent
returns-in_ok-utf16_bytes-clause-lent c =
    lent_utf16 c.args.self.now.strings.now c.bytes_from-left.result.now c.in_ok-utf16_bytes.field-0.now c.u32_within-offset.result c.bytes_from-left.ensures c.in_ok-utf16_bytes.ensures
