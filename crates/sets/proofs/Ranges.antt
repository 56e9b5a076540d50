-- A run over the numbers below n has each of them at its place. Assumes nothing.
use Rattle.std.proofs.Common.{◌≡◌, ℕ, ◌<◌, Some, sym, ap, ◌∙◌, subst, zero-add}
use Rattle.std.proofs.iter.Yields.{nat_range_steps}
use Rattle.std.proofs.iter.runs.Sources.{range_runs}
use Rattle.std.proofs.lemmas.Iterator.Adapters.{option_map_id}
use Rattle.std.specs.declared.ops.Range.{Range}
use Rattle.std.specs.Iterator.Runs.{Run, ItemsCountUp}

module _ (n : ℕ) (p : Run nat_range_steps) (from : p.from ≡ record { start = 0; end = n }) where
  -- it has n numbers at the most, and all n if it is whole
  pub counts : ItemsCountUp p 0 n
  counts = subst (λ (t : Range ℕ). ItemsCountUp p t.start t.end) from (range_runs p p.seen)

  pub number_at : (k : ℕ) → k < p.len → p.at k ≡ Some k
  number_at k l = sym (option_map_id (p.at k)) ∙ counts.3 k l ∙ ap Some (zero-add k)
