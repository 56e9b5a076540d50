use Rattle.std.proofs.Common.{◌≡◌, ℕ, ◌<◌, ◌≤◌, false}
use Rattle.sets.specs.Members.{member}
use Rattle.sets.proofs.events.Events.from_fn_below.Given as goal

-- the events so far are in the set as the test answers, and the others are not
abbrev pub invariant-loop-event : goal.invariant-loop-event
invariant-loop-event g l = goal.F-IsAlwaysCallable g l.test × ((e : ℕ) → e < l.event → e < 32 → goal.F-post g l.test e (member l.found e)) × ((e : ℕ) → l.event ≤ e → member l.found e ≡ false)
