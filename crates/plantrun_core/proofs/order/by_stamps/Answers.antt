use Rattle.std.proofs.Common.{subst, rules}
use Rattle.std.proofs.lemmas.List.Sorted.{IsNonDecreasingBy-from_sort_by_key}
use Rattle.std.specs.List.Sorted.{IsPermutation}
use Rattle.plantrun_core.specs.Logs.{stamp_of}
use Rattle.plantrun_core.proofs.order.by_stamps.Goals as goal

pub returns : goal.returns
returns c = record {
  all = subst (λ xs. IsPermutation xs c.sort_by_key.new.self.items) c.in_ok-steps.ensures
      c.in_ok-sort_by_key.ensures.permutation;
  ascending = IsNonDecreasingBy-from_sort_by_key stamp_of _ c.in_ok-sort_by_key.ensures.sorted
      (λ a r q k. search rules);
}
