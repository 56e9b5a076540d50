use Rattle.std.proofs.Common.{ℕ, subst, arith}
use Rattle.std.proofs.lemmas.Result.{err_from_is_err_and}
use Rattle.conditions.specs.Verdicts.{Exceeds}
use Rattle.conditions.proofs.Ends.{ended, not_ended, exceeded}
use Rattle.conditions.proofs.Naming.{names_of}
use Rattle.conditions.proofs.source.Source.whole.Goals as goal

pub returns-then-read-self-clause-judged : goal.returns-then-read-self-clause-judged
returns-then-read-self-clause-judged c = not_ended (names_of c.args.self.variables.now) c.args.self.short c.in_ok-read.ensures.reads c.if-read-self.true

pub returns-in_err-check_limits-clause-judged : goal.returns-in_err-check_limits-clause-judged
returns-in_err-check_limits-clause-judged c =
    let p = err_from_is_err_and c.from_residual-in_err-check_limits.result c.from_residual-in_err-check_limits.ensures.1 in
    rw (p.1, p.2) (exceeded (names_of c.args.self.variables.now) c.args.self.short c.in_ok-read.ensures.reads _ c.if-read-self.false (subst (λ (n : ℕ). Exceeds c.in_ok-read.read.depth n c.in_err-check_limits.field-0.0) c.count.ensures c.in_err-check_limits.ensures))

pub returns-clause-judged : goal.returns-clause-judged
returns-clause-judged c =
    let p = c.in_ok-read.ensures.reads in
    record {
      tree = p.tree;
      spells = ended (names_of c.args.self.variables.now) c.args.self.short p c.if-read-self.false;
      shallow = omega (arith, p.deep, c.in_ok-check_limits.ensures.0);
      fits = omega (arith, p.sized, c.in_ok-check_limits.ensures.1, c.count.ensures);
      sized = p.sized;
      within = p.stored;
      means = p.means;
    }
