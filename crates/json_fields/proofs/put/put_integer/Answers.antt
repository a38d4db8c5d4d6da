use Rattle.std.proofs.Common.{arith}
use Rattle.json.proofs.Printed.Decimals.{IsNumber-decimal}
use Rattle.json_fields.proofs.put.put_integer.Goals as goal

pub token-requires : goal.token-requires
token-requires g c = rw c.format.ensures.text (IsNumber-decimal c.args.figure (omega arith))
