use Rattle.std.proofs.Common.{subst, sym}
use Rattle.block_store.specs.Configs.{IsInBounds}
use Rattle.array_scripts.proofs.jobs.planned.Goals as goal

pub plan-requires : goal.plan-requires
plan-requires g c = subst IsInBounds (sym c.config_of-config.ensures) c.requires.bounds
