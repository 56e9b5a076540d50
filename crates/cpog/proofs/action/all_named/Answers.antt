use Rattle.std.proofs.Common.{◌≡◌, ℕ, ◌<◌, Bool, true, Decides, rules, tests}
use Rattle.sets.proofs.Everys.{every_value}
use Rattle.sets.proofs.Found.{all_below}
use Rattle.cpog.specs.Actions.{act, named}
use Rattle.cpog.proofs.action.all_named.Goals as goal

pub returns : goal.returns
returns c =
    let test : ℕ → Bool = λ e. named (act c.args.actions.now e) in
    let law : Decides c.all.result ((e : ℕ) → e < c.args.events → test e ≡ true) = all_below test c.args.events _ _ _ c.all.ensures.ran (λ x b q k. search (rules, tests)) in
    record { value = every_value test c.args.events c.all.result law; law = law }
