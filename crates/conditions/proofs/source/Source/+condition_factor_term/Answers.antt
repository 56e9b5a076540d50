use Rattle.std.proofs.Common.{sym, refl, ◌∙◌, arith, true-eqb, false-eqb}
use Rattle.std.proofs.lemmas.Result.{err_from_is_err_and}
use Rattle.conditions.proofs.Naming.{names_of}
use Rattle.conditions.proofs.Steps.{inside, used, further, shallow, asked_next, faulty, term_one, term_more, condition_one, condition_more, term_none, condition_none, term_stopped, condition_stopped, factor_end, not_none, bracket_none, letter_none, atom_reads, not_more, closed}
use Rattle.conditions.proofs.source.Source.+condition_factor_term.Goals as goal

pub condition-returns-in_err-left-clause-reads : goal.condition-returns-in_err-left-clause-reads
condition-returns-in_err-left-clause-reads t c =
    let p = err_from_is_err_and c.from_residual.result c.from_residual.ensures.1 in
    rw (p.1, p.2) (faulty (condition_none _ _) c.in_err-left.ensures.reads)

pub condition-returns-then-not-follows-clause-reads : goal.condition-returns-then-not-follows-clause-reads
condition-returns-then-not-follows-clause-reads t c = condition_one c.in_ok-left.ensures.reads (λ e. false-eqb _ _ c.if-not-follows.ensures (e ∙ sym c.sign.ensures))

pub condition-condition-requires : goal.condition-condition-requires
condition-condition-requires t c =
    let p = c.in_ok-left.ensures.reads in
    let e = true-eqb _ _ c.if-not-follows.ensures ∙ c.sign.ensures in
    (omega (arith, further p, inside c.args.self.text.now _ 124 e (omega arith), c.decreases), asked_next p 124 (omega arith) e c.requires)

pub condition-returns-in_err-right-clause-reads : goal.condition-returns-in_err-right-clause-reads
condition-returns-in_err-right-clause-reads t c =
    let p = err_from_is_err_and c.from_residual-in_err-right.result c.from_residual-in_err-right.ensures.1 in
    let e = true-eqb _ _ c.if-not-follows.ensures ∙ c.sign.ensures in
    rw (p.1, p.2) (faulty (condition_stopped (names_of c.args.self.variables.now) c.in_ok-left.ensures.reads e) c.in_err-right.ensures.reads)

pub condition-join-requires-clause-room : goal.condition-join-requires-clause-room
condition-join-requires-clause-room t c =
    let p = c.in_ok-left.ensures.reads in
    let q = c.in_ok-right.ensures.reads in
    let i = inside c.args.self.text.now c.in_ok-left.left.next 124 (true-eqb _ _ c.if-not-follows.ensures ∙ c.sign.ensures) (omega arith) in
    omega (arith, used p, used q, p.sized, q.sized, c.requires.room)

pub condition-returns-clause-reads : goal.condition-returns-clause-reads
condition-returns-clause-reads t c =
    condition_more c.in_ok-left.ensures.reads (true-eqb _ _ c.if-not-follows.ensures ∙ c.sign.ensures) c.in_ok-right.ensures.reads c.in_ok-right.ensures.grows c.join.ensures

pub term-returns-in_err-left-clause-reads : goal.term-returns-in_err-left-clause-reads
term-returns-in_err-left-clause-reads t c =
    let p = err_from_is_err_and c.from_residual.result c.from_residual.ensures.1 in
    rw (p.1, p.2) (faulty (term_none _ _) c.in_err-left.ensures.reads)

pub term-returns-then-not-follows-clause-reads : goal.term-returns-then-not-follows-clause-reads
term-returns-then-not-follows-clause-reads t c = term_one c.in_ok-left.ensures.reads (λ e. false-eqb _ _ c.if-not-follows.ensures (e ∙ sym c.sign.ensures))

pub term-term-requires : goal.term-term-requires
term-term-requires t c =
    let p = c.in_ok-left.ensures.reads in
    let e = true-eqb _ _ c.if-not-follows.ensures ∙ c.sign.ensures in
    (omega (arith, further p, inside c.args.self.text.now _ 38 e (omega arith), c.decreases), asked_next p 38 (omega arith) e c.requires)

pub term-returns-in_err-right-clause-reads : goal.term-returns-in_err-right-clause-reads
term-returns-in_err-right-clause-reads t c =
    let p = err_from_is_err_and c.from_residual-in_err-right.result c.from_residual-in_err-right.ensures.1 in
    let e = true-eqb _ _ c.if-not-follows.ensures ∙ c.sign.ensures in
    rw (p.1, p.2) (faulty (term_stopped (names_of c.args.self.variables.now) c.in_ok-left.ensures.reads e) c.in_err-right.ensures.reads)

pub term-join-requires-clause-room : goal.term-join-requires-clause-room
term-join-requires-clause-room t c =
    let p = c.in_ok-left.ensures.reads in
    let q = c.in_ok-right.ensures.reads in
    let i = inside c.args.self.text.now c.in_ok-left.left.next 38 (true-eqb _ _ c.if-not-follows.ensures ∙ c.sign.ensures) (omega arith) in
    omega (arith, used p, used q, p.sized, q.sized, c.requires.room)

pub term-returns-clause-reads : goal.term-returns-clause-reads
term-returns-clause-reads t c =
    term_more c.in_ok-left.ensures.reads (true-eqb _ _ c.if-not-follows.ensures ∙ c.sign.ensures) c.in_ok-right.ensures.reads c.in_ok-right.ensures.grows c.join.ensures

pub factor-returns-then-at-self-clause-reads : goal.factor-returns-then-at-self-clause-reads
factor-returns-then-at-self-clause-reads t c = record { refusal = refl; outside = factor_end _ _ _ c.if-at-self.true }

pub factor-returns-in_err-inner-in-33-clause-reads : goal.factor-returns-in_err-inner-in-33-clause-reads
factor-returns-in_err-inner-in-33-clause-reads t c =
    let p = err_from_is_err_and c.from_residual.result c.from_residual.ensures.1 in
    rw (p.1, p.2) (faulty (not_none _ _ (names_of c.args.self.variables.now) c.if-at-self.false (sym c.from.ensures ∙ c.in-33.is)) c.in_err-inner-in-33.ensures.reads)

pub factor-overflow_add-inner : goal.factor-overflow_add-inner
factor-overflow_add-inner t c = omega (arith, shallow c.in_ok-inner-in-33.ensures.reads, c.args.self.short)

pub factor-keep-requires-clause-room : goal.factor-keep-requires-clause-room
factor-keep-requires-clause-room t c =
    let p = c.in_ok-inner-in-33.ensures.reads in
    omega (arith, used p, p.sized, c.requires.room, c.if-at-self.false)

pub factor-returns-in_err-inner-in-40-clause-reads : goal.factor-returns-in_err-inner-in-40-clause-reads
factor-returns-in_err-inner-in-40-clause-reads t c =
    let p = err_from_is_err_and c.from_residual-in_err-inner-in-40.result c.from_residual-in_err-inner-in-40.ensures.1 in
    rw (p.1, p.2) (faulty (bracket_none _ _ (names_of c.args.self.variables.now) c.if-at-self.false (sym c.from.ensures ∙ c.in-40.is)) c.in_err-inner-in-40.ensures.reads)

pub factor-close-requires-clause-depth : goal.factor-close-requires-clause-depth
factor-close-requires-clause-depth t c = omega (arith, shallow c.in_ok-inner-in-40.ensures.reads, c.args.self.short)

pub factor-returns-in_ok-inner-in-33-clause-reads : goal.factor-returns-in_ok-inner-in-33-clause-reads
factor-returns-in_ok-inner-in-33-clause-reads t c =
    not_more _ _ (names_of c.args.self.variables.now) c.if-at-self.false (sym c.from.ensures ∙ c.in-33.is) c.in_ok-inner-in-33.ensures.reads c.keep.ensures

pub factor-returns-in_ok-inner-in-40-clause-reads : goal.factor-returns-in_ok-inner-in-40-clause-reads
factor-returns-in_ok-inner-in-40-clause-reads t c =
    closed _ _ (names_of c.args.self.variables.now) c.if-at-self.false (sym c.from.ensures ∙ c.in-40.is) c.in_ok-inner-in-40.ensures.reads c.close.result c.close.ensures

pub factor-returns-in-Some-clause-reads : goal.factor-returns-in-Some-clause-reads
factor-returns-in-Some-clause-reads t c = atom_reads _ _ (names_of c.args.self.variables.now) c.if-at-self.false c.in-Some.node c.in-Some.ensures c.keep-in-Some.ensures

pub factor-returns-in-None-clause-reads : goal.factor-returns-in-None-clause-reads
factor-returns-in-None-clause-reads t c = record {
  refusal = refl;
  outside = letter_none _ _ (names_of c.args.self.variables.now) c.if-at-self.false _ refl (omega arith) (omega arith) c.in-None.ensures;
}
