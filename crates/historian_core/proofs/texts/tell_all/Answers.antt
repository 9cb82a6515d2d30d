use Rattle.std.proofs.Common.{◌++◌, ◌∷◌, [], length-append, refl, Err, Some, arith, rules}
use Rattle.historian_core.specs.declared.stops.Stop.TheVariants.{WriteFault}
use Rattle.historian_core.specs.ReportTexts.{reading_at, due_after}
use Rattle.historian_core.specs.Windows.{told_line}
use Rattle.historian_core.proofs.ReportLaws.{ends_here, goes_on, breaks_off, due_more}
use Rattle.historian_core.proofs.texts.tell_all.Goals as goal

pub loop-count-init : goal.loop-count-init
loop-count-init g c = record {
  told = ([], c.requires, refl, λ new last r by. by);
  room = omega arith;
  counted = (refl, refl);
}

pub returns-in-Err-clause-report : goal.returns-in-Err-clause-report
returns-in-Err-clause-report g c =
    let t = c.loop-count.invariant.told in
    let l = c.args.limits.now in
    let new = g.S.Source.left c.next_reading.new.source in
    let now = g.K.Sink.held c.loop-count.sink in
    t.3 new now c.in-Err.end (ends_here (due_after l t.0) refl (g.S.Source.left c.loop-count.source)
    new now c.in-Err.end (c.in-Err.ensures.next l t.0 t.2))

pub returns-in_default-clause-report : goal.returns-in_default-clause-report
returns-in_default-clause-report g c =
    let t = c.loop-count.invariant.told in
    let l = c.args.limits.now in
    let past = t.0 ++ c.in-Ok.reading ∷ [] in
    let new = g.S.Source.left c.next_reading.new.source in
    let last = g.K.Sink.held c.tell.new.sink in
    t.3 new last (Err WriteFault) (breaks_off reading_at (Some c.in-Ok.reading) (due_after l t.0)
    (due_after l past) (told_line l past)
    (due_more l t.0 c.in-Ok.reading (omega (arith, t.2, c.in-Ok.ensures.room)))
    (g.S.Source.left c.loop-count.source) new (g.K.Sink.held c.loop-count.sink) last (omega arith)
    (c.in-Ok.ensures.next l t.0 t.2) (c.in_default.ensures.prefix t.0 t.1))

pub loop-count-preserved : goal.loop-count-preserved
loop-count-preserved g c =
    let t = c.loop-count.invariant.told in
    let l = c.args.limits.now in
    let past = t.0 ++ c.in-Ok.reading ∷ [] in
    record {
      told = (
        past,
        c.tell.ensures.kept t.0 t.1,
        omega (arith, length-append t.0 (c.in-Ok.reading ∷ []), t.2),
        λ new last r by. t.3 new last r (goes_on reading_at (Some c.in-Ok.reading) (due_after l t.0)
            (due_after l past) (told_line l past)
            (due_more l t.0 c.in-Ok.reading (omega (arith, t.2, c.in-Ok.ensures.room)))
            _ _ _ _ _ _ r (c.in-Ok.ensures.next l t.0 t.2)
            (c.in-Ok-tell.ensures.written t.0 t.1) refl by),
      );
      room = omega (arith, c.in-Ok.ensures.room);
      counted = search rules;
    }
