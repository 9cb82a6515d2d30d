use Rattle.std.proofs.Common.{◌≡◌, ◌-◌, length}
use Rattle.heap_system.specs.declared.local.Local.TheInside.{Inside}
use Rattle.heap_system.specs.declared.rows.Row.TheVariants as rows
use Rattle.heap_system.specs.ThreadMemories.{MayRun}
use Rattle.heap_system.proofs.accounting.OwedAndPaid.{view_of}
use Rattle.heap_system.proofs.work.EventsInARow.{Goes}
use Rattle.heap_system.proofs.local.Local.sweeps.Given as goal

abbrev pub invariant-loop : goal.invariant-loop
invariant-loop g l =
    let i : Inside = record l.self-inside { row = rows.Sweep l.owed l.pass.row } in
    (k : Goes g.M.Memory.acts l.shared l.fn.memory l.fn.self l.memory i)
    × MayRun g.M.Memory.may g.M.Memory.acts (l.most - l.counter) l.memory l.shared (view_of i)
    × (l.places ≡ l.self-inside.config)
    × (l.pass ≡ record {
      thread = l.self-inside.pass.thread;
      cycle = l.self-inside.pass.cycle;
      blocks = l.self-inside.config.blocks;
      owed = l.owed;
      row = l.pass.row;
    })
    × (length k.run.words ≡ l.counter)
