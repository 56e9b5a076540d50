use Rattle.sets.proofs.Bits.{bit_put}
use Rattle.sets.proofs.events.bit_alone.Goals as goal

pub returns : goal.returns
returns c k = bit_put c.args.place k c.requires
