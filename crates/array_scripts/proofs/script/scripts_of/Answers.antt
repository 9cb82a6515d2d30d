use Rattle.std.proofs.Common.{map, arith}
use Rattle.std.proofs.lemmas.List.{length-map}
use Rattle.trace_text.specs.Reading.{tokenized}
use Rattle.array_scripts.proofs.Items.{pushed_items}
use Rattle.array_scripts.proofs.Threads.{read_on}
use Rattle.array_scripts.proofs.script.scripts_of.Goals as goal

pub loop-line-preserved : goal.loop-line-preserved
loop-line-preserved g c =
    let ops = g.K.Scripted.ops in
    let read = c.in_ok-ops.ensures in
    record {
      so_far = read_on g.K.Scripted.kind c.args.header.now (tokenized c.args.input.now)
          (ops c.in_ok-_none._none) (map (λ ops. ops.items) c.loop-line.scripts.items)
          (map (λ ops. ops.items) c.push.new.self.items) c.loop-line.line c.in-Thread.field-0
          c.loop-line.read _ (tokenized c.loop-line.rest.now) (ops c.in_ok-ops.ops)
          c.in_ok-ops.after c.in_ok-ops.number (tokenized c.in_ok-ops.others.now) c.loop-line.invariant.so_far
          c.in-Thread.is
          (omega (arith, c.len.ensures, length-map c.loop-line.scripts.items (λ ops. ops.items)))
          read.turned read.turn
          (pushed_items c.loop-line.scripts.items c.push.new.self.items c.into_ops.result
          (ops c.in_ok-ops.ops) c.in_ok-push.ensures.items (λ ops. ops.items) c.into_ops.ensures);
      within = omega (arith, read.within, c.loop-line.invariant.within);
    }
