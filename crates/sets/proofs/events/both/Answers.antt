use Rattle.sets.proofs.Bits.{bit-bit_and}
use Rattle.sets.proofs.events.both.Goals as goal

pub returns : goal.returns
returns c = bit-bit_and c.args.a c.args.b
