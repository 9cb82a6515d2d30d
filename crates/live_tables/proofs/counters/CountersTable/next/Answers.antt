use Rattle.std.proofs.Common.{ℕ, subst, sym, ◌∷◌, ◌++◌, []}
use Rattle.live_tables.specs.counters.Counters.{Keeps, operation_of}
use Rattle.live_tables.proofs.counters.Lawful.{keeps_on}
use Rattle.live_tables.proofs.counters.CountersTable.next.Goals as goal

pub returns : goal.returns
returns c w k t is next =
    subst (λ (n : ℕ). Keeps k t (w.done ++ operation_of w c.args.request.now ∷ []) n)
    (sym c.total_next.ensures) (keeps_on w c.args.request.now k t c.args.total is)
