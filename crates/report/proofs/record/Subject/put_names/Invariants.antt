use Rattle.std.proofs.Common.{◌≡◌, ◌++◌, drop}
use Rattle.report.specs.Naming.{spelled}
use Rattle.report.proofs.record.Subject.put_names.Given as goal

-- the names that are left lead to the text
abbrev pub invariant-loop-event : goal.invariant-loop-event
invariant-loop-event g l =
    l.page ++ spelled (g.N.Names.naming l.self.names.now) (drop l.event-index l.events) ≡ l.initial.page ++ spelled (g.N.Names.naming l.self.names.now) l.events
