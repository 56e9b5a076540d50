use Rattle.std.proofs.Common.{◌≡◌, rules}
use Rattle.searches.specs.Clashes.{first_clash}
use Rattle.cpog.specs.Projections.{seen}
use Rattle.sets.proofs.Membership.{member_inside}
use Rattle.searches.proofs.Clashing.{first_clash_is, searched}
use Rattle.searches.proofs.Finding.{first_from_find_map}
use Rattle.searches.proofs.clash.Steps.first_clash.Goals as goal

pub returns : goal.returns
returns c =
    let order = seen c.args.self.now.projection.now in
    let actions = c.args.self.now.actions.now in
    let value : c.find_map.result ≡ first_clash order actions = first_clash_is order actions c.find_map.result (first_from_find_map 32 _ _ (λ k y q e. search rules) c.find_map.result c.find_map.ensures.runs) in
    record { value = value; law = rw value (searched order actions (member_inside c.args.self.now.projection.now.present)) }
