use Rattle.std.proofs.Common.{rules}
use Rattle.reader.proofs.reader.Reader.operate.Goals as goal

-- adding a kind asks for no table
pub returns-in-Kind : goal.returns-in-Kind
returns-in-Kind c = let e = c.add_kind.ensures c.args.forward.now c.args.backward.now in search rules
