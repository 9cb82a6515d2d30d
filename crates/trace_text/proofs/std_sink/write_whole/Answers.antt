use Rattle.std.proofs.Common.{arith, length-drop}
use Rattle.std.proofs.lemmas.List.{take_rest}
use Rattle.trace_text.proofs.AppendedTexts.{written_more, kept_more}
use Rattle.trace_text.proofs.std_sink.write_whole.Goals as goal
use Rattle.trace_text.proofs.std_sink.write_whole.Goals.{in-Ok, in-Err}

pub loop-preserved : goal.loop-preserved
loop-preserved g c =
    let at = c.loop.invariant in
    elim c.match-write.branch [
      | in-Ok w ↦
          rw w.done-is (record {
            within = (let bound = w.in-Ok.ensures.bound in grind (arith, take_rest, length-drop));
            written = written_more _ _ _ c.args.piece.now c.loop.done w.in-Ok.count at.written
                w.in-Ok.ensures.bytes;
          })
      | in-Err w ↦ rw w.done-is
          (record {
            within = at.within;
            written = kept_more _ _ _ _ at.written w.in-Err.ensures.bytes;
          })
    ]
