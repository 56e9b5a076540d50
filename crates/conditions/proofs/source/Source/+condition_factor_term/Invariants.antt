use Rattle.std.proofs.Common.{◌+◌, ◌-◌, ◌*◌, length}
use Rattle.conditions.proofs.source.Source.+condition_factor_term.Given as goal

-- the bytes left, and on which level
abbrev pub decreases-condition : goal.decreases-condition
decreases-condition l = 3 * (length l.self.text.now - l.at) + 2

abbrev pub decreases-term : goal.decreases-term
decreases-term l = 3 * (length l.self.text.now - l.at) + 1

abbrev pub decreases-factor : goal.decreases-factor
decreases-factor l = 3 * (length l.self.text.now - l.at)
