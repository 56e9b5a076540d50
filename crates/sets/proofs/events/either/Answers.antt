use Rattle.sets.proofs.Bits.{bit-bit_or}
use Rattle.sets.proofs.events.either.Goals as goal

pub returns : goal.returns
returns c = bit-bit_or c.args.a c.args.b
