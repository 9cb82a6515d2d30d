use Rattle.std.proofs.Common.{[]}
use Rattle.rt_handles.proofs.HandleScripts.{each_stands, named}
use Rattle.rt_handles.proofs.running.HandlesRunnable.trace_of.Goals as goal

pub trace_of-requires : goal.trace_of-requires
trace_of-requires c =
    let h = c.requires.0 in named h.places [] c.args.ops.now (each_stands h [] c.args.ops.now c.requires.1)
