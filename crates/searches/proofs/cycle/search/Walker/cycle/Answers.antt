use Rattle.std.proofs.Common.{sym}
use Rattle.std.proofs.lemmas.List.{take_rest}
use Rattle.sets.proofs.Membership.{member_inside}
use Rattle.searches.proofs.Walking.{walk_last, walk_next, turn_cycle}
use Rattle.searches.proofs.cycle.search.Walker.cycle.Goals as goal

pub returns-in-Some : goal.returns-in-Some
returns-in-Some c =
    let turn = rw c.deref.ensures.0 at c.in-Some.ensures in
    rw c.backwards.ensures (rw take_rest (rw c.deref-in-Some.ensures.0 (turn_cycle _ _ _ c.loop-from.invariant c.push.ensures.items c.in-Some.from turn.0 turn.1)))

pub before-event-requires : goal.before-event-requires
before-event-requires c = walk_last _ _ _ c.loop-from.invariant c.push.ensures.items

pub loop-from-preserved : goal.loop-from-preserved
loop-from-preserved c =
    walk_next _ _ _ c.loop-from.invariant c.push.ensures.items (member_inside c.args.self.now.around) _
    c.before-event.ensures.inside c.before-event.ensures.step (rw (sym c.deref.ensures.0) c.in_default.ensures)
