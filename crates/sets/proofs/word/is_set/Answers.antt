use Rattle.sets.proofs.Bits.{bit_read}
use Rattle.sets.proofs.word.is_set.Goals as goal

pub returns : goal.returns
returns c = bit_read c.args.word c.args.place
