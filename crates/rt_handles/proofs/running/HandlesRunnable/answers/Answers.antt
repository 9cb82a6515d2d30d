use Rattle.std.proofs.Common.{arith}
use Rattle.std.specs.Prelude.{flat_map}
use Rattle.std.proofs.lemmas.List.{length-map}
use Rattle.array_tables.specs.handle_table.Handles.{rows_of, command_at, deeds_of}
use Rattle.array_tables.proofs.Lemmas.{sizes_are}
use Rattle.rt_handles.proofs.running.HandlesRunnable.answers.Goals as goal

pub outcomes-requires : goal.outcomes-requires
outcomes-requires c =
    let ops = c.args.ops.now in
    let t = c.args.thread in
    omega (
      arith,
      c.requires,
      length-map (flat_map rows_of (deeds_of t ops)) command_at,
      sizes_are t 0 (λ h. 0) ops,
    )
