use Rattle.std.proofs.Common.{rules, tests}
use Rattle.sets.specs.Members.{member}
use Rattle.sets.proofs.Found.{found_least}
use Rattle.sets.proofs.events.Events.lowest_below.Goals as goal

pub returns : goal.returns
returns c =
    let found = found_least (member c.args.self) c.args.end _ _ _ c.find.ensures.ran (λ x b q k. search (rules, tests)) in
    record { value = found.0; least = found.1 }
